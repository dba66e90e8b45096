use Rattle.std.proofs.Common.{to_z-of_z, subst}
use Rattle.std.specs.Fmt.{signed_decimal}
use Rattle.std.specs.Prelude.{ℤ}
use Rattle.json.specs.Token.{Token}
use Rattle.json.specs.Written.{Writes}
use Rattle.serde_json.specs.Data.{number}
use Rattle.serde_json.specs.Find.{of_integer}
use Rattle.graph_json.proofs.Printing.{integer_read, integer_token, token_printed}
use Rattle.graph_json.proofs.write_leaves.write_integer.Goals as goal

pub returns : goal.returns
returns c =
    let told = subst (λ (z : ℤ). Writes c.i64.result c.args.out.now c.i64.new.self (Token.number (signed_decimal z))) (to_z-of_z c.ranges.value) c.i64.ensures in
    token_printed (number (of_integer c.args.value)) (Token.number (signed_decimal c.args.value)) (integer_token c.args.value) (integer_read c.args.value c.ranges.value)
    c.i64.result c.args.out.now c.i64.new.self told
