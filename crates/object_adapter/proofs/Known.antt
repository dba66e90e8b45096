-- Places of which one is new.
use Rattle.std.proofs.Common.{ℕ, ◌≡◌, ◌<◌, Bool, true, false, List, length, Some, Ok, sym, subst, ap, ◌∙◌, arith}
use Rattle.std.specs.Prelude.{if◌then◌else◌, slice_get}
use Rattle.std.specs.List.{insert}
use Rattle.std.specs.Cmp.{IsTotalOrder}
use Rattle.std.specs.declared.cmp.Ordering.{Ordering}
use Rattle.std.proofs.lemmas.List.Edits.{length-insert}
use Rattle.ice_types.specs.declared.proxy.Proxy.{Proxy}
use Rattle.ice_encoding.specs.Proxy.{HasProxySizes}
use Rattle.object_adapter.specs.declared.places.TheConstants.{MOST_PLACES}
use Rattle.object_adapter.specs.Rising.{IsGap, IsSearched}
use Rattle.object_adapter.specs.Places.{ArePlacesBy, IsAt, IsKnown}
use Rattle.object_adapter.proofs.Rising.{Below, Itself, Above, inserted, not_there, one_of}

some_same : {A : Type 0} (x y : A) → Some x ≡ Some y → x ≡ y
some_same x y e = cc

module _ {K : Type 0} (cmp : K → K → Ordering) (total : IsTotalOrder cmp) where
  -- whether it was put or not
  pub kept_places : (places new : List (K × Proxy)) (at : ℕ) (place : K × Proxy) (put : Bool) → new ≡ (if put then insert places at place else places) → ArePlacesBy cmp places
      → IsGap cmp (λ p. p.0) places place.0 at → length places < MOST_PLACES → HasProxySizes (Some place.1) → ArePlacesBy cmp new
  kept_places places new at place false is are gap room sized = subst (ArePlacesBy cmp) (sym is) are
  kept_places places new at place true is are gap room sized = subst (ArePlacesBy cmp) (sym is) (record {
    rising = inserted cmp total (λ p. p.0) places at place gap are.rising;
    room = omega (arith, room, length-insert places at place gap.within);
    sizes = λ k other has. elim (one_of places at place k other gap.within has) [
      | Below lt there ↦ are.sizes k other there
      | Itself same own ↦ subst (λ (p : K × Proxy). HasProxySizes (Some p.1)) (sym own) sized
      | Above m same above there ↦ are.sizes m other there
    ];
  })

  -- where a place would stand, none stands
  pub no_such_place : (places all : List (K × Proxy)) (key named : K) (at : ℕ) → places ≡ all → key ≡ named → IsGap cmp (λ p. p.0) places key at → IsKnown all named → ⊥
  no_such_place places all key named at are is gap known =
      not_there cmp total (λ p. p.0) places key at gap known.1.0 (named, known.0) (subst (λ (ps : List (K × Proxy)). slice_get ps known.1.0 ≡ Some (named, known.0)) (sym are) known.1.1) (sym is)

  -- one that is found is there
  pub found_at : (places all : List (K × Proxy)) (key named : K) (at : ℕ) (place : K × Proxy) → places ≡ all → key ≡ named → IsSearched cmp (λ p. p.0) places key (Ok at)
      → slice_get all at ≡ Some place → IsAt all named place.1
  found_at places all key named at place are is (other, there, same) has =
      let both : other ≡ place = some_same other place (sym there ∙ (ap (λ (ps : List (K × Proxy)). slice_get ps at) are ∙ has)) in
      let own : place.0 ≡ named = ap (λ (p : K × Proxy). p.0) (sym both) ∙ (same ∙ is) in
      (at, has ∙ ap (λ (k : K). Some (k, place.1)) own)

  pub found : (places all : List (K × Proxy)) (key named : K) (at : ℕ) → places ≡ all → key ≡ named → IsSearched cmp (λ p. p.0) places key (Ok at) → IsKnown all named
  found places all key named at are is (place, there, same) =
      (place.1, (at, subst (λ (ps : List (K × Proxy)). slice_get ps at ≡ Some place) are there ∙ ap (λ (k : K). Some (k, place.1)) (same ∙ is)))
