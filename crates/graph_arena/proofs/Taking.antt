-- Instances that are taken in the order of a list of names.
use Rattle.std.proofs.Common.{◌≡◌, ℕ, zero, suc, ◌+◌, ◌<◌, ◌≤◌, List, [], ◌∷◌, ◌++◌, length, map, drop, slice_index_or, slice_set, refl, sym, ap, ◌∙◌, subst, inl, inr, append_assoc, arith}
use Rattle.std.proofs.Math.Seq.{drop-cons}
use Rattle.std.proofs.lemmas.Bool.{cases_eq}
use Rattle.std.proofs.lemmas.List.{get_or-map, get_or-set_other, length-map, length-set, map-append, map-set}
use Rattle.ice_encoding.specs.Graph.{Slice}
use Rattle.ice_encoding.specs.Instances.{slices_of}
use Rattle.ice_encoding.specs.References.{entry_in}
use Rattle.ice_encoding.specs.SameGraph.{HasEachOnce}
use Rattle.ice_encoding.specs.Visiting.{place}
use Rattle.graph_arena.specs.Arena.{AreBelow}
use Rattle.graph_arena.proofs.Closed.{place-head, place-tail}

-- the instances of these names are the old ones
abbrev pub AreOld : List (List Slice) → List (List Slice) → List ℕ → Type 0
AreOld now old [] = Unit {0}
AreOld now old (n ∷ ns) = (slices_of now n ≡ slices_of old n) × AreOld now old ns

-- the names whose instances are still to be taken
pub record AreLeft (now old : List (List Slice)) (ns : List ℕ) : Type 0 where
  pub once : HasEachOnce ns
  pub below : AreBelow (length old) ns
  pub size : length now ≡ length old
  pub unknown : AreOld now old ns

-- the table has the places of the names from one place on
pub record HasPlacesFrom (at count : ℕ) (names index : List ℕ) : Type 0 where
  pub size : length index ≡ count
  pub few : at ≤ length names
  pub places : (n : ℕ) → n < count → entry_in index n ≡ at + place (drop at names) n

pub below-at : (limit : ℕ) (ns : List ℕ) (i : ℕ) → AreBelow limit ns → i < length ns → slice_index_or ns i 0 < limit
below-at limit [] i below lt = absurd (omega (arith, lt))
below-at limit (n ∷ ns) zero below lt = below.0
below-at limit (n ∷ ns) (suc i) below lt = below-at limit ns i below.1 (omega (arith, lt))

old-all : (is : List (List Slice)) (ns : List ℕ) → AreOld is is ns
old-all is [] = tt
old-all is (n ∷ ns) = (refl, old-all is ns)

-- another instance in the place of one that is taken
old-set : (now old : List (List Slice)) (n : ℕ) (slices : List Slice) (ns : List ℕ) → place ns n ≡ length ns → AreOld now old ns → AreOld (slice_set now n slices) old ns
old-set now old n slices [] new unknown = tt
old-set now old n slices (m ∷ ns) new unknown = elim (cases_eq m n) [
  | inl same ↦ absurd (omega (arith, new, place-head m ns n same))
  | inr apart ↦ (get_or-set_other now n m slices [] apart ∙ unknown.0, old-set now old n slices ns (omega (arith, new, place-tail m ns n apart)) unknown.1)
]

module _ {A : Type 0} (view : A → List Slice) where
  pub left-first : (items : List A) (ns : List ℕ) → HasEachOnce ns → AreBelow (length items) ns → AreLeft (map view items) (map view items) ns
  left-first items ns once below = record {
    once = once;
    below = subst (λ (n : ℕ). AreBelow n ns) (sym (length-map {A = A} {B = List Slice} items view)) below;
    size = refl;
    unknown = old-all (map view items) ns;
  }

  pub taken-first : (at : ℕ → List Slice) (ns : List ℕ) (taken : List A) → taken ≡ [] → map view taken ++ map at ns ≡ map at ns
  taken-first at ns taken none = ap (λ (l : List A). map view l ++ map at ns) none

  -- the next name
  module _ (items : List A) (old : List (List Slice)) (names : List ℕ) (i : ℕ) (lt : i < length names) (left : AreLeft (map view items) old (drop i names)) where
    next : drop i names ≡ slice_index_or names i 0 ∷ drop (i + 1) names
    next =
        let after : suc i ≡ i + 1 = omega arith in
        drop-cons names i 0 lt ∙ ap (λ (j : ℕ). slice_index_or names i 0 ∷ drop j names) after

    here : AreLeft (map view items) old (slice_index_or names i 0 ∷ drop (i + 1) names)
    here = subst (AreLeft (map view items) old) next left

    pub left-next : (x : A) → AreLeft (map view (slice_set items (slice_index_or names i 0) x)) old (drop (i + 1) names)
    left-next x =
        let n = slice_index_or names i 0 in
        let set_is : map view (slice_set items n x) ≡ slice_set (map view items) n (view x) = map-set view items n x in
        record {
          once = here.once.1;
          below = here.below.1;
          size = ap length set_is ∙ (length-set (map view items) n (view x) ∙ here.size);
          unknown = subst (λ (is : List (List Slice)). AreOld is old (drop (i + 1) names)) (sym set_is) (old-set (map view items) old n (view x) (drop (i + 1) names) here.once.0 here.unknown.1);
        }

    pub taken-next : (f : List Slice → List Slice) (taken now : List A) (x : A) → now ≡ taken ++ x ∷ [] → view x ≡ f (slices_of (map view items) (slice_index_or names i 0))
        → map view taken ++ map (λ n. f (slices_of old n)) (drop i names) ≡ map (λ n. f (slices_of old n)) names
        → map view now ++ map (λ n. f (slices_of old n)) (drop (i + 1) names) ≡ map (λ n. f (slices_of old n)) names
    taken-next f taken now x put is all =
        let at : ℕ → List Slice = λ n. f (slices_of old n) in
        let rest : List (List Slice) = map at (drop (i + 1) names) in
        let seen : map view now ≡ map view taken ++ at (slice_index_or names i 0) ∷ [] = ap (map view) put ∙ (map-append view taken (x ∷ []) ∙ ap (λ (s : List Slice). map view taken ++ s ∷ []) (is ∙ ap f here.unknown.0)) in
        ap (λ (l : List (List Slice)). l ++ rest) seen
        ∙ (append_assoc (map view taken) (at (slice_index_or names i 0) ∷ []) rest
        ∙ (ap (λ (l : List ℕ). map view taken ++ map at l) (sym next) ∙ all))

    pub found : (d : A) → view (slice_index_or items (slice_index_or names i 0) d) ≡ slices_of (map view items) (slice_index_or names i 0)
    found d = sym (get_or-map view items (slice_index_or names i 0) d [] (omega (arith, here.below.0, here.size, length-map {A = A} {B = List Slice} items view)))
