use Rattle.std.proofs.Common.{ℕ, List, Result, Ok, sym, subst, ◌∙◌}
use Rattle.value_parts.specs.declared.paused.Step.TheVariants as steps
use Rattle.ice_prims.specs.declared.fault.Fault.{Fault}
use Rattle.ice_prims.specs.Rest.{Rest}
use Rattle.ice_encoding.specs.Graph.{Slice}
use Rattle.ice_encoding.specs.References.{State}
use Rattle.value_parts.specs.Shapes.{handed}
use Rattle.instance_reading.specs.Unfinished.{Advances}
use Rattle.instance_reading.proofs.Places.{fault_along}
use Rattle.instance_reading.proofs.Stages.{members_whole, members_paused, members_fail, left_same}
use Rattle.instance_reading.proofs.unfinished.Unfinished.read_compact.Goals as goal

pub returns-in_ok-complete-in-Ok-Done-clause-advances : goal.returns-in_ok-complete-in-Ok-Done-clause-advances
returns-in_ok-complete-in-Ok-Done-clause-advances c inside =
    let sort = c.args.sort in
    let t = c.args.schema.now in
    let u = c.args.self.now in
    let old = c.into_inner-slice.result in
    subst (λ (read : Result (List Slice × State ℕ × Rest) Fault). Advances inside sort t c.complete.new.self (Ok steps.On) read c.go.new.port c.go.new.cursor)
    (left_same inside sort t u old.class old.next (handed c.own_fields-fields.result) c.own_fields-fields.ensures old.members c.args.slice.value c.args.arena.now c.args.cursor.now c.into_inner-slice.ensures)
    (members_whole inside sort t u old.class old.next (handed c.own_fields-fields.result) c.own_fields-fields.ensures old.members c.in-Ok-Done.members c.args.arena.now c.go.new.port c.args.cursor.now c.go.new.cursor
    (rw c.in-Ok-Done.field-0-is at (c.in-Ok-Done.ensures.goes inside)) c.complete.new.self (Ok steps.On) (c.in_ok-complete-in-Ok-Done.ensures.completes inside sort t c.go.new.port c.go.new.cursor))

pub returns-in_ok-pause-in-Ok-Begins-clause-advances : goal.returns-in_ok-pause-in-Ok-Begins-clause-advances
returns-in_ok-pause-in-Ok-Begins-clause-advances c inside =
    let sort = c.args.sort in
    let t = c.args.schema.now in
    let u = c.args.self.now in
    let old = c.into_inner-slice.result in
    sym (left_same inside sort t u old.class old.next (handed c.own_fields-fields.result) c.own_fields-fields.ensures old.members c.args.slice.value c.args.arena.now c.args.cursor.now c.into_inner-slice.ensures)
    ∙ members_paused inside sort t u old.class old.next (handed c.own_fields-fields.result) c.own_fields-fields.ensures old.members c.go.new.self c.in-Ok-Begins.name c.args.arena.now c.go.new.port c.args.cursor.now c.go.new.cursor
    (rw c.in-Ok-Begins.field-0-is at (c.in-Ok-Begins.ensures.goes inside)) c.pause.new.self c.in_ok-pause-in-Ok-Begins.ensures.pauses

pub returns-in-Err-clause-advances : goal.returns-in-Err-clause-advances
returns-in-Err-clause-advances c inside =
    let sort = c.args.sort in
    let t = c.args.schema.now in
    let u = c.args.self.now in
    let old = c.into_inner-slice.result in
    fault_along c.in-Err.fault _ _ (left_same inside sort t u old.class old.next (handed c.own_fields-fields.result) c.own_fields-fields.ensures old.members c.args.slice.value c.args.arena.now c.args.cursor.now c.into_inner-slice.ensures)
    (members_fail inside sort t u old.class old.next (handed c.own_fields-fields.result) c.own_fields-fields.ensures old.members c.in-Err.fault c.args.arena.now c.args.cursor.now (c.in-Err.ensures.goes inside))
