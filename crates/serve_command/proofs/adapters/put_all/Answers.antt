use Rattle.std.proofs.Common.{arith}
use Rattle.std.specs.Arc.{arc_value}
use Rattle.object_adapter.specs.Objects.{no_objects}
use Rattle.serve_command.specs.ObjectWords.{AreShort, object_of}
use Rattle.serve_command.specs.Words.{objects_of}
use Rattle.serve_command.specs.Adapters.{Breaks, LacksInterface, Makes}
use Rattle.serve_command.proofs.Walking.{all_at, walk_none, walk_more, gone}
use Rattle.serve_command.proofs.Adding.{new_object, object_room}
use Rattle.serve_command.proofs.Breaking.{never_at}
use Rattle.serve_command.proofs.adapters.put_all.Goals as goal

pub loop-object-init : goal.loop-object-init
loop-object-init c = walk_none (Makes (arc_value c.args.schema.now) (objects_of c.args.objects.now)) object_of c.args.objects.now no_objects c.args.adapter.now c.requires.none

pub put_object-requires-clause-short : goal.put_object-requires-clause-short
put_object-requires-clause-short c = all_at AreShort object_of c.args.objects.now c.loop-object.object-index _ c.loop-object-test.true c.requires.words.short

pub put_object-requires-clause-names : goal.put_object-requires-clause-names
put_object-requires-clause-names c =
    never_at (LacksInterface (arc_value c.args.schema.now)) object_of c.args.objects.now c.loop-object.object-index _ c.loop-object-test.true c.requires.names

pub put_object-requires-clause-reads : goal.put_object-requires-clause-reads
put_object-requires-clause-reads c = never_at Breaks object_of c.args.objects.now c.loop-object.object-index _ c.loop-object-test.true c.requires.words.reads

pub put_object-requires-clause-new : goal.put_object-requires-clause-new
put_object-requires-clause-new c = new_object c.args.objects.now c.loop-object.object-index _ c.loop-object-test.true (arc_value c.args.schema.now) c.loop-object.adapter c.requires.words.apart c.loop-object.invariant

pub put_object-requires-clause-room : goal.put_object-requires-clause-room
put_object-requires-clause-room c =
    object_room c.args.objects.now c.loop-object.object-index c.loop-object-test.true (arc_value c.args.schema.now) c.loop-object.adapter c.requires.words.few c.loop-object.invariant

pub loop-object-preserved : goal.loop-object-preserved
loop-object-preserved c =
    walk_more (Makes (arc_value c.args.schema.now) (objects_of c.args.objects.now)) object_of c.args.objects.now c.loop-object.object-index _ no_objects c.loop-object.adapter c.put_object.new.adapter
    c.loop-object-test.true c.loop-object.invariant c.in_ok-put_object.ensures.ok

pub returns-clause-ok : goal.returns-clause-ok
returns-clause-ok c =
    gone (Makes (arc_value c.args.schema.now) (objects_of c.args.objects.now)) object_of c.args.objects.now c.loop-object.object-index no_objects c.loop-object.adapter (omega (arith, c.loop-object-test.false)) c.loop-object.invariant
