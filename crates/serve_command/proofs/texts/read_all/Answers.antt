use Rattle.std.proofs.Common.{arith}
use Rattle.std.proofs.lemmas.Result.{err_from_is_err_and}
use Rattle.serve_command.specs.ObjectWords.{AreShort, object_of}
use Rattle.serve_command.specs.Words.{objects_of}
use Rattle.serve_command.specs.Adapters.{Breaks}
use Rattle.serve_command.proofs.Loops.{there_at, never_more, never, of_mapped}
use Rattle.serve_command.proofs.Walking.{all_at}
use Rattle.serve_command.proofs.Breaking.{read_first}
use Rattle.serve_command.proofs.texts.read_all.Goals as goal

pub read-requires : goal.read-requires
read-requires c = all_at AreShort object_of c.args.objects.now c.loop-object.object-index _ c.loop-object-test.true c.requires

pub returns-in_err-read : goal.returns-in_err-read
returns-in_err-read c =
    let failed = err_from_is_err_and c.from_residual.result c.from_residual.ensures.1 in
    rw (failed.1, failed.2)
    (read_first (objects_of c.args.objects.now) c.loop-object.object-index _ _ (there_at object_of c.args.objects.now c.loop-object.object-index _ c.loop-object-test.true) c.in_err-read.ensures c.loop-object.invariant)

pub loop-object-preserved : goal.loop-object-preserved
loop-object-preserved c = never_more Breaks (objects_of c.args.objects.now) c.loop-object.object-index _
    (there_at object_of c.args.objects.now c.loop-object.object-index _ c.loop-object-test.true) c.in_ok-read.ensures c.loop-object.invariant

pub returns : goal.returns
returns c = never Breaks (objects_of c.args.objects.now) c.loop-object.object-index (of_mapped object_of c.args.objects.now c.loop-object.object-index (omega (arith, c.loop-object-test.false))) c.loop-object.invariant
