use Rattle.instance_reading.proofs.Stages.{next_leads, none_left}
use Rattle.instance_reading.proofs.unfinished.Unfinished.complete.Goals as goal

pub returns-in-Some-clause-completes : goal.returns-in-Some-clause-completes
returns-in-Some-clause-completes c inside sort t s r = rw c.set_stage.ensures (next_leads inside sort t c.args.self.now _ c.push_slice.new.slices c.in_ok-push_slice.ensures.ok c.args.next s r c.in-Some.before c.in-Some.is)

pub returns-in-None-clause-completes : goal.returns-in-None-clause-completes
returns-in-None-clause-completes c inside sort t s r = rw c.set_stage-in-None.ensures (none_left inside sort t c.args.self.now _ c.push_slice.new.slices c.in_ok-push_slice.ensures.ok c.args.next s r c.in-None.is)
