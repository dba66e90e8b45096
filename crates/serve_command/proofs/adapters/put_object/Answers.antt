use Rattle.std.proofs.Common.{ap}
use Rattle.std.specs.Arc.{arc_value}
use Rattle.serve_command.specs.ObjectWords.{object_of}
use Rattle.serve_command.specs.Words.{objects_of}
use Rattle.serve_command.proofs.Putting.{store_names, store_reads, store_new, store_made, echo_names, echo_reads, echo_new, echo_made, locator_reads, locator_new, locator_made}
use Rattle.serve_command.proofs.adapters.put_object.Goals as goal

pub store_of-requires : goal.store_of-requires
store_of-requires c = store_names (arc_value c.args.schema.now) (objects_of c.args.objects.now) (object_of c.args.object.now) c.in-Store.identity.now c.in-Store.interface.now (ap object_of c.in-Store.is) c.requires.names

pub add_one-requires-clause-reads : goal.add_one-requires-clause-reads
add_one-requires-clause-reads c = store_reads (arc_value c.args.schema.now) (objects_of c.args.objects.now) (object_of c.args.object.now) c.in-Store.identity.now c.in-Store.interface.now (ap object_of c.in-Store.is) c.requires.reads

pub add_one-requires-clause-new : goal.add_one-requires-clause-new
add_one-requires-clause-new c = store_new (arc_value c.args.schema.now) (objects_of c.args.objects.now) (object_of c.args.object.now) c.in-Store.identity.now c.in-Store.interface.now (ap object_of c.in-Store.is) c.args.adapter.now c.requires.new

pub returns-in_ok-servant-in-Store-clause-ok : goal.returns-in_ok-servant-in-Store-clause-ok
returns-in_ok-servant-in-Store-clause-ok c =
    store_made (arc_value c.args.schema.now) (objects_of c.args.objects.now) (object_of c.args.object.now) c.in-Store.identity.now c.in-Store.interface.now (ap object_of c.in-Store.is)
    c.add_one.result c.in_ok-servant-in-Store.servant c.args.adapter.now c.add_one.new.adapter c.in_ok-servant-in-Store.ensures.ok c.add_one.ensures.ok

pub echo_of-requires : goal.echo_of-requires
echo_of-requires c = echo_names (arc_value c.args.schema.now) (objects_of c.args.objects.now) (object_of c.args.object.now) c.in-Echo.identity.now c.in-Echo.interface.now (ap object_of c.in-Echo.is) c.requires.names

pub add_one-requires-in-Echo-clause-reads : goal.add_one-requires-in-Echo-clause-reads
add_one-requires-in-Echo-clause-reads c = echo_reads (arc_value c.args.schema.now) (objects_of c.args.objects.now) (object_of c.args.object.now) c.in-Echo.identity.now c.in-Echo.interface.now (ap object_of c.in-Echo.is) c.requires.reads

pub add_one-requires-in-Echo-clause-new : goal.add_one-requires-in-Echo-clause-new
add_one-requires-in-Echo-clause-new c = echo_new (arc_value c.args.schema.now) (objects_of c.args.objects.now) (object_of c.args.object.now) c.in-Echo.identity.now c.in-Echo.interface.now (ap object_of c.in-Echo.is) c.args.adapter.now c.requires.new

pub returns-in_ok-servant-in-Echo-clause-ok : goal.returns-in_ok-servant-in-Echo-clause-ok
returns-in_ok-servant-in-Echo-clause-ok c =
    echo_made (arc_value c.args.schema.now) (objects_of c.args.objects.now) (object_of c.args.object.now) c.in-Echo.identity.now c.in-Echo.interface.now (ap object_of c.in-Echo.is)
    c.add_one-in-Echo.result c.in_ok-servant-in-Echo.servant c.args.adapter.now c.add_one-in-Echo.new.adapter c.in_ok-servant-in-Echo.ensures.ok c.add_one-in-Echo.ensures.ok

pub add_one-requires-in-Locator-clause-reads : goal.add_one-requires-in-Locator-clause-reads
add_one-requires-in-Locator-clause-reads c = locator_reads (arc_value c.args.schema.now) (objects_of c.args.objects.now) (object_of c.args.object.now) c.in-Locator.identity.now (ap object_of c.in-Locator.is) c.requires.reads

pub add_one-requires-in-Locator-clause-new : goal.add_one-requires-in-Locator-clause-new
add_one-requires-in-Locator-clause-new c = locator_new (arc_value c.args.schema.now) (objects_of c.args.objects.now) (object_of c.args.object.now) c.in-Locator.identity.now (ap object_of c.in-Locator.is) c.args.adapter.now c.requires.new

pub returns-in_ok-servant-in-Locator-clause-ok : goal.returns-in_ok-servant-in-Locator-clause-ok
returns-in_ok-servant-in-Locator-clause-ok c =
    locator_made (arc_value c.args.schema.now) (objects_of c.args.objects.now) (object_of c.args.object.now) c.in-Locator.identity.now (ap object_of c.in-Locator.is)
    c.add_one-in-Locator.result c.in_ok-servant-in-Locator.servant c.args.adapter.now c.add_one-in-Locator.new.adapter c.in_ok-servant-in-Locator.ensures.ok c.add_one-in-Locator.ensures.ok
