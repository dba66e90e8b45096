use Rattle.std.proofs.Common.{List, ap, subst}
use Rattle.ice_types.specs.declared.identity.Identity.{Identity}
use Rattle.ice_types.specs.declared.proxy.Proxy.{Proxy}
use Rattle.ice_encoding.specs.Proxies.{identity_cmp}
use Rattle.object_adapter.specs.Rising.{IsSearched}
use Rattle.object_adapter.specs.Places.{Known, AddsPlace}
use Rattle.object_adapter.proofs.Ordered.{identities_total}
use Rattle.object_adapter.proofs.places.Places.add_object.Goals as goal

pub invariant_of-self : goal.invariant_of-self
invariant_of-self c =
    let searched = subst (λ (ps : List (Identity × Proxy)). IsSearched identity_cmp (λ p. p.0) ps c.args.identity c.object_place-searched.result) c.as_slice.ensures.value c.object_place-searched.ensures in
    record { objects = c.add_place.ensures.kept identity_cmp identities_total searched c.requires c.self.invariant.objects; adapters = c.self.invariant.adapters }

pub returns-clause-adds : goal.returns-clause-adds
returns-clause-adds c =
    let searched = subst (λ (ps : List (Identity × Proxy)). IsSearched identity_cmp (λ p. p.0) ps c.args.identity c.object_place-searched.result) c.as_slice.ensures.value c.object_place-searched.ensures in
    subst (λ (ps : List (Identity × Proxy)). AddsPlace identity_cmp ps (c.args.identity, c.args.proxy) c.add_place.result c.add_place.new.places.items) (ap (λ (k : Known). k.objects) c.self.view_is)
    (c.add_place.ensures.adds identity_cmp identities_total searched)
