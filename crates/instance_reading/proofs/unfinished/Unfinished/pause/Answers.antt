use Rattle.std.proofs.Common.{◌∙◌}
use Rattle.std.proofs.lemmas.Result.{on_ok_weaker}
use Rattle.value_parts.specs.Shapes.{handed}
use Rattle.instance_reading.proofs.Stages.{others_left}
use Rattle.instance_reading.proofs.unfinished.Unfinished.pause.Goals as goal

pub returns-in-Some-clause-pauses : goal.returns-in-Some-clause-pauses
returns-in-Some-clause-pauses c =
    let sort = c.args.sort in
    let t = c.args.schema.now in
    let u = c.args.self.now in
    let slice = c.args.slice in
    on_ok_weaker c.complete.result (λ completes inside s r. others_left inside sort t u slice.class slice.next (handed c.own_fields-fields.result) c.own_fields-fields.ensures slice.members c.in-Some.members s s r r (rw c.in-Some.is at (c.in_ok-members.ensures.ends inside) s r) ∙ completes inside sort t s r) c.complete.ensures.completes
