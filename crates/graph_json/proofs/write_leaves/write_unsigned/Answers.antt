use Rattle.std.proofs.Common.{refl, arith}
use Rattle.std.specs.Prelude.{decimal}
use Rattle.json.specs.Token.{Token}
use Rattle.serde_json.specs.Data.{number, unsigned}
use Rattle.graph_json.proofs.Printing.{token_printed, unsigned_read}
use Rattle.graph_json.proofs.write_leaves.write_unsigned.Goals as goal

pub returns : goal.returns
returns c =
    token_printed (number (unsigned c.args.value)) (Token.number (decimal c.args.value)) refl (unsigned_read c.args.value (omega arith)) c.u64.result c.args.out.now c.u64.new.self c.u64.ensures
