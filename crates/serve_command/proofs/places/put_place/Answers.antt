use Rattle.std.proofs.Common.{ap}
use Rattle.std.proofs.lemmas.Result.{err_from_is_err_and}
use Rattle.ice_proxy.specs.IdentityText.{identity_text}
use Rattle.ice_proxy.specs.Grammar.{proxy_text}
use Rattle.serve_command.specs.ObjectWords.{object_of}
use Rattle.serve_command.proofs.Breaking.{only_memory}
use Rattle.serve_command.proofs.PuttingPlaces.{place_first, place_second, place_added, adapter_reads, adapter_added, adapter_put}
use Rattle.serve_command.proofs.places.put_place.Goals as goal

pub returns-in_err-identity-in-Place-clause-err : goal.returns-in_err-identity-in-Place-clause-err
returns-in_err-identity-in-Place-clause-err c =
    let failed = err_from_is_err_and c.from_residual.result c.from_residual.ensures.1 in
    rw (failed.1, failed.2) (only_memory (identity_text c.in-Place.identity.now) _ (place_first (object_of c.args.object.now) c.in-Place.identity.now c.in-Place.proxy.now (ap object_of c.in-Place.is) c.requires.reads) c.in_err-identity-in-Place.ensures)

pub returns-in_err-proxy-in-Place-clause-err : goal.returns-in_err-proxy-in-Place-clause-err
returns-in_err-proxy-in-Place-clause-err c =
    let failed = err_from_is_err_and c.from_residual-in_err-proxy-in-Place.result c.from_residual-in_err-proxy-in-Place.ensures.1 in
    rw (failed.1, failed.2)
    (only_memory (proxy_text c.in-Place.proxy.now) _ (place_second (object_of c.args.object.now) c.in-Place.identity.now c.in-Place.proxy.now (ap object_of c.in-Place.is) c.requires.reads c.in_ok-identity-in-Place.identity c.in_ok-identity-in-Place.ensures) c.in_err-proxy-in-Place.ensures.text)

pub added-requires : goal.added-requires
added-requires c =
    place_added (object_of c.args.object.now) c.in-Place.identity.now c.in-Place.proxy.now (ap object_of c.in-Place.is) c.args.places.now c.add_object.new.self.objects c.in_ok-identity-in-Place.identity c.in_ok-proxy-in-Place.proxy
    c.add_object.result c.requires.new c.requires.room.0 c.in_ok-identity-in-Place.ensures c.add_object.ensures.adds

pub returns-in_err-proxy-in-Adapter-clause-err : goal.returns-in_err-proxy-in-Adapter-clause-err
returns-in_err-proxy-in-Adapter-clause-err c =
    let failed = err_from_is_err_and c.from_residual-in_err-proxy-in-Adapter.result c.from_residual-in_err-proxy-in-Adapter.ensures.1 in
    rw (failed.1, failed.2) (only_memory (proxy_text c.in-Adapter.proxy.now) _ (adapter_reads (object_of c.args.object.now) c.in-Adapter.id.now c.in-Adapter.proxy.now (ap object_of c.in-Adapter.is) c.requires.reads) c.in_err-proxy-in-Adapter.ensures.text)

pub added-requires-in-Adapter : goal.added-requires-in-Adapter
added-requires-in-Adapter c =
    adapter_added (object_of c.args.object.now) c.in-Adapter.id.now c.in-Adapter.proxy.now (ap object_of c.in-Adapter.is) c.args.places.now c.add_adapter.new.self.adapters c.in_ok-id-in-Adapter.id c.in_ok-proxy-in-Adapter.proxy
    c.add_adapter.result c.requires.new c.requires.room.1 c.in_ok-id-in-Adapter.ensures c.add_adapter.ensures.adds

pub returns-in_ok-proxy-in-Adapter-clause-ok : goal.returns-in_ok-proxy-in-Adapter-clause-ok
returns-in_ok-proxy-in-Adapter-clause-ok c =
    adapter_put (object_of c.args.object.now) c.in-Adapter.id.now c.in-Adapter.proxy.now (ap object_of c.in-Adapter.is) c.added-in-Adapter.result c.add_adapter.result c.in_ok-id-in-Adapter.id c.in_ok-proxy-in-Adapter.proxy c.args.places.now c.add_adapter.new.self
    c.in_ok-id-in-Adapter.ensures c.in_ok-proxy-in-Adapter.ensures.text c.add_adapter.ensures.adds c.add_adapter.ensures.same c.added-in-Adapter.ensures.ok
