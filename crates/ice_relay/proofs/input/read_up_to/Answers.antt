use Rattle.std.proofs.Common.{rules}
use Rattle.ice_relay.proofs.Inputs.{on_err, lost_within}
use Rattle.ice_relay.proofs.input.read_up_to.Goals as goal

pub returns-in_err-extend_from_slice-clause-taken : goal.returns-in_err-extend_from_slice-clause-taken
returns-in_err-extend_from_slice-clause-taken g c =
    on_err c.from_residual-in_err-extend_from_slice.result (lost_within (g.S.Source.left c.args.source.now) (g.S.Source.left c.loop-buffer.source) (g.S.Source.left c.read.new.self) c.args.goal c.args.bytes.now.items c.loop-buffer.bytes.items c.loop-buffer.invariant.more c.read.new.into c.in_ok-count.count
    c.loop-buffer.invariant.parts (search rules) (search rules) c.loop-buffer.invariant.consumed c.in_ok-count.ensures.bytes.0)
