use Rattle.std.proofs.Common.{arith}
use Rattle.std.proofs.lemmas.Result.{err_from_is_err_and}
use Rattle.instance_writing.specs.Formats.{view_format}
use Rattle.ice_relay.proofs.Holding.{relayed, unwritten}
use Rattle.ice_relay.proofs.relay.written_anew.Goals as goal

pub returns-in_err-encode_typed : goal.returns-in_err-encode_typed
returns-in_err-encode_typed c =
    let failed = err_from_is_err_and c.from_residual-in_err-encode_typed.result c.from_residual-in_err-encode_typed.ensures.1 in
    rw (failed.1, failed.2) (unwritten c.args.schema.now c.args.kind c.in_ok-root_of.field-0 c.in_ok-root_of.ensures (view_format c.args.format) c.args.input.now c.in_ok-graph.graph c.in_err-encode_typed.field-0.0 (λ i. omega (arith, c.type_inv.input i)) c.in_ok-graph.ensures.reads c.in_err-encode_typed.ensures)

pub returns : goal.returns
returns c = relayed c.args.schema.now c.args.kind c.in_ok-root_of.field-0 c.in_ok-root_of.ensures (view_format c.args.format) c.args.input.now c.in_ok-graph.graph c.in_ok-encode_typed.field-0 (λ i. omega (arith, c.type_inv.input i)) c.in_ok-graph.ensures.reads c.in_ok-encode_typed.ensures
