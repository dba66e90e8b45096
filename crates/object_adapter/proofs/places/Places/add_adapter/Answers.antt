use Rattle.std.proofs.Common.{List, ℕ, ap, subst}
use Rattle.std.specs.Ordering.{nat_cmp}
use Rattle.std.specs.Cmp.Lexicographic.{slice_cmp}
use Rattle.std.proofs.lemmas.Cmp.{nat_list_cmp_total}
use Rattle.ice_types.specs.declared.proxy.Proxy.{Proxy}
use Rattle.object_adapter.specs.Rising.{IsSearched}
use Rattle.object_adapter.specs.Places.{Known, AddsPlace}
use Rattle.object_adapter.proofs.places.Places.add_adapter.Goals as goal

pub invariant_of-self : goal.invariant_of-self
invariant_of-self c =
    let searched = subst (λ (ps : List (List ℕ × Proxy)). IsSearched (slice_cmp nat_cmp) (λ p. p.0) ps c.as_str.result.now c.adapter_place-searched.result) c.as_slice.ensures.value c.adapter_place-searched.ensures in
    let named = subst (λ (k : List ℕ). IsSearched (slice_cmp nat_cmp) (λ p. p.0) c.self.inside.adapters.items k c.adapter_place-searched.result) c.as_str.ensures searched in
    record { objects = c.self.invariant.objects; adapters = c.add_place.ensures.kept (slice_cmp nat_cmp) nat_list_cmp_total named c.requires c.self.invariant.adapters }

pub returns-clause-adds : goal.returns-clause-adds
returns-clause-adds c =
    let searched = subst (λ (ps : List (List ℕ × Proxy)). IsSearched (slice_cmp nat_cmp) (λ p. p.0) ps c.as_str.result.now c.adapter_place-searched.result) c.as_slice.ensures.value c.adapter_place-searched.ensures in
    let named = subst (λ (k : List ℕ). IsSearched (slice_cmp nat_cmp) (λ p. p.0) c.self.inside.adapters.items k c.adapter_place-searched.result) c.as_str.ensures searched in
    subst (λ (ps : List (List ℕ × Proxy)). AddsPlace (slice_cmp nat_cmp) ps (c.args.id, c.args.proxy) c.add_place.result c.add_place.new.places.items) (ap (λ (k : Known). k.adapters) c.self.view_is)
    (c.add_place.ensures.adds (slice_cmp nat_cmp) nat_list_cmp_total named)
