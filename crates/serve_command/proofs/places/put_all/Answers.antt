use Rattle.std.proofs.Common.{arith}
use Rattle.object_adapter.specs.Places.{no_places}
use Rattle.serve_command.specs.ObjectWords.{AreShort, object_of}
use Rattle.serve_command.specs.Adapters.{Breaks, Puts}
use Rattle.serve_command.proofs.Walking.{all_at, walk_none, walk_more, gone}
use Rattle.serve_command.proofs.Adding.{new_place, place_room}
use Rattle.serve_command.proofs.Breaking.{never_at}
use Rattle.serve_command.proofs.places.put_all.Goals as goal

pub loop-object-init : goal.loop-object-init
loop-object-init c = walk_none Puts object_of c.args.objects.now no_places c.args.places.now c.requires.none

pub put_place-requires-clause-short : goal.put_place-requires-clause-short
put_place-requires-clause-short c = all_at AreShort object_of c.args.objects.now c.loop-object.object-index _ c.loop-object-test.true c.requires.words.short

pub put_place-requires-clause-reads : goal.put_place-requires-clause-reads
put_place-requires-clause-reads c = never_at Breaks object_of c.args.objects.now c.loop-object.object-index _ c.loop-object-test.true c.requires.words.reads

pub put_place-requires-clause-new : goal.put_place-requires-clause-new
put_place-requires-clause-new c = new_place c.args.objects.now c.loop-object.object-index _ c.loop-object-test.true c.loop-object.places c.requires.words.apart c.loop-object.invariant

pub put_place-requires-clause-room : goal.put_place-requires-clause-room
put_place-requires-clause-room c = place_room c.args.objects.now c.loop-object.object-index c.loop-object-test.true c.loop-object.places c.requires.words.few c.loop-object.invariant

pub loop-object-preserved : goal.loop-object-preserved
loop-object-preserved c = walk_more Puts object_of c.args.objects.now c.loop-object.object-index _ no_places c.loop-object.places c.put_place.new.places c.loop-object-test.true c.loop-object.invariant c.in_ok-put_place.ensures.ok

pub returns-clause-ok : goal.returns-clause-ok
returns-clause-ok c = gone Puts object_of c.args.objects.now c.loop-object.object-index no_places c.loop-object.places (omega (arith, c.loop-object-test.false)) c.loop-object.invariant
