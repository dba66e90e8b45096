use Rattle.std.proofs.Common.{◌≡◌, ◌<◌, List, Some, length, refl, ap, subst, ◌∙◌}
use Rattle.std.specs.Prelude.{slice_get}
use Rattle.std.proofs.lemmas.Option.{slice_get_read, slice_get_within}
use Rattle.ice_types.specs.declared.identity.Identity.{Identity}
use Rattle.ice_encoding.specs.Proxies.{identity_cmp}
use Rattle.object_adapter.proofs.Ordered.{identities_total}
use Rattle.ice_types.specs.declared.proxy.Proxy.{Proxy}
use Rattle.object_adapter.specs.Places.{Known}
use Rattle.object_adapter.proofs.Known.{found_at, no_such_place}
use Rattle.object_adapter.proofs.places.Places.object.Goals as goal

pub returns-in-Ok : goal.returns-in-Ok
returns-in-Ok c =
    let items = c.self.inside.objects.items in
    let own = ap (λ (k : Known). k.objects) c.self.view_is in
    let place = c.index.result.now in
    let within : c.in-Ok.at < length items = subst (λ (ps : List (Identity × Proxy)). c.in-Ok.at < length ps) c.as_slice.ensures.value (slice_get_within c.as_slice.result.now c.in-Ok.at c.in-Ok.ensures.0 c.in-Ok.ensures.1) in
    let read : slice_get items c.in-Ok.at ≡ Some place = slice_get_read items (length items) c.in-Ok.at place refl within c.index.ensures in
    record {
      found = (
        found_at identity_cmp identities_total c.as_slice.result.now c.args.self.now.objects c.args.identity.now c.args.identity.now c.in-Ok.at place (c.as_slice.ensures.value ∙ own) refl c.in-Ok.ensures
            (subst (λ (ps : List (Identity × Proxy)). slice_get ps c.in-Ok.at ≡ Some place) own read),
        c.self.invariant.objects.sizes c.in-Ok.at place read,
      );
    }

pub returns-in-Err : goal.returns-in-Err
returns-in-Err c = record {
  found = λ p at. no_such_place identity_cmp identities_total c.as_slice.result.now c.args.self.now.objects c.args.identity.now c.args.identity.now c.in-Err.field-0
      (c.as_slice.ensures.value ∙ ap (λ (k : Known). k.objects) c.self.view_is) refl c.in-Err.ensures (p, at);
}
