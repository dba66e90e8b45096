use Rattle.std.proofs.Common.{ℕ, arith}
use Rattle.call_command.specs.Planning.{expected_of}
use Rattle.call_command.proofs.Declared.{asked_shape}
use Rattle.call_command.proofs.Replying.{told_line, told_fault}
use Rattle.call_command.proofs.telling.results_line.Goals as goal

pub returns-in_ok-graph_line-in-Ok : goal.returns-in_ok-graph_line-in-Ok
returns-in_ok-graph_line-in-Ok c =
    let is = asked_shape c.args.expected.schema.now c.args.expected.results.now c.as_slice.result.now c.as_slice-2.result.now c.requires c.as_slice.ensures c.as_slice-2.ensures in
    told_line (expected_of c.args.expected) _ is c.args.body.now (λ (i : ℕ). omega (arith, c.type_inv.body i)) c.in-Ok.graph c.in_ok-graph_line-in-Ok.field-0.items c.in-Ok.ensures.reads c.in-Ok.ensures.typed c.in_ok-graph_line-in-Ok.ensures

pub returns-in-Err : goal.returns-in-Err
returns-in-Err c =
    let is = asked_shape c.args.expected.schema.now c.args.expected.results.now c.as_slice.result.now c.as_slice-2.result.now c.requires c.as_slice.ensures c.as_slice-2.ensures in
    rw c.unread.ensures (told_fault (expected_of c.args.expected) _ is c.args.body.now c.in-Err.fault c.in-Err.ensures.reads)
