use Rattle.std.proofs.Common.{ap}
use Rattle.graph_arena.specs.Seen.{view_slices}
use Rattle.class_slices.specs.Seen.{view_user_exception}
use Rattle.locator.proofs.Leading.{raised_lead, none_raised}
use Rattle.locator.proofs.lead.of_raised.Goals as goal

pub returns-in-Ok : goal.returns-in-Ok
returns-in-Ok c =
    raised_lead c.args.schema.now c.args.body.now c.as_slice.result.now c.requires c.as_slice.ensures (view_user_exception c.in-Ok.raised) (view_slices c.as_slice-in-Ok.result.now) c.of_slices.result c.in-Ok.ensures.reads c.of_slices.ensures
    (ap view_slices c.as_slice-in-Ok.ensures)

pub returns-in-Err-Broken : goal.returns-in-Err-Broken
returns-in-Err-Broken c = none_raised c.args.schema.now c.args.body.now c.as_slice.result.now c.requires c.as_slice.ensures c.in-Err-Broken.field-0 c.in-Err-Broken.field-0-0 c.in-Err-Broken.field-0-is c.in-Err-Broken.ensures.reads
