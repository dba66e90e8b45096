use Rattle.std.proofs.Common.{arith}
use Rattle.std.proofs.lemmas.Result.{err_from_is_err_and}
use Rattle.serve_command.specs.ObjectWords.{object_of}
use Rattle.serve_command.specs.Words.{objects_of}
use Rattle.serve_command.specs.Adapters.{LacksInterface}
use Rattle.serve_command.proofs.Loops.{there_at, none_yet, never_more, never, first, of_mapped}
use Rattle.serve_command.proofs.names.name_all.Goals as goal

pub loop-object-init : goal.loop-object-init
loop-object-init c = none_yet (LacksInterface c.args.schema.now) (objects_of c.args.objects.now)

pub loop-object-preserved : goal.loop-object-preserved
loop-object-preserved c = never_more (LacksInterface c.args.schema.now) (objects_of c.args.objects.now) c.loop-object.object-index _
    (there_at object_of c.args.objects.now c.loop-object.object-index _ c.loop-object-test.true) c.in_ok-name.ensures c.loop-object.invariant

pub returns : goal.returns
returns c = never (LacksInterface c.args.schema.now) (objects_of c.args.objects.now) c.loop-object.object-index (of_mapped object_of c.args.objects.now c.loop-object.object-index (omega (arith, c.loop-object-test.false))) c.loop-object.invariant

pub returns-in_err-name : goal.returns-in_err-name
returns-in_err-name c =
    let failed = err_from_is_err_and c.from_residual.result c.from_residual.ensures.1 in
    let h = c.in_err-name.ensures in
    rw (failed.1, failed.2) (
      h.0,
      first (LacksInterface c.args.schema.now) (objects_of c.args.objects.now) c.loop-object.object-index _ h.0
          (there_at object_of c.args.objects.now c.loop-object.object-index _ c.loop-object-test.true) h.1 c.loop-object.invariant,
      h.2,
    )
