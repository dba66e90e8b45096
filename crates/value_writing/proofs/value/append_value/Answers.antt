use Rattle.std.proofs.Common.{ap, sym}
use Rattle.graph_arena.specs.View.{view}
use Rattle.value_writing.specs.Putting.{lists}
use Rattle.value_writing.proofs.Plain.{value-written}
use Rattle.value_writing.proofs.value.append_value.Goals as goal

pub returns-in-Ok-Done-clause-writes : goal.returns-in-Ok-Done-clause-writes
returns-in-Ok-Done-clause-writes g c inside =
    let wrote = value-written g.P.PutPort.put inside (lists c.in_ok-writer.writer) (view c.args.value.now) (c.args.port.now, c.args.out.now.items) (c.go.new.port, c.go.new.out.items) c.in_ok-writer.ensures (rw c.in-Ok-Done.field-0-is at (c.in-Ok-Done.ensures.goes inside)) in
    (sym (ap (λ w. w.1) wrote), sym (ap (λ w. w.0) wrote))
