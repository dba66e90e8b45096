-- Lists that rise: what a binary search finds in them, and that an item put where it would stand keeps them rising.
use Rattle.std.proofs.Common.{ℕ, zero, suc, ◌≡◌, ◌<◌, ◌≤◌, ◌+◌, ◌⊎◌, inl, inr, false, List, [], ◌∷◌, length, get_or, Some, Result, Ok, Err, refl, sym, ap, subst, ◌∙◌, arith}
use Rattle.std.specs.Prelude.{slice_get}
use Rattle.std.specs.List.{insert}
use Rattle.std.specs.List.Sorted.{IsSortedBy, IsSearchInRange, IsBinarySearchResult}
use Rattle.std.specs.Ordering.{is_lt, ordering_reverse}
use Rattle.std.specs.Cmp.{IsTotalOrder, tied_itself}
use Rattle.std.specs.declared.cmp.Ordering.{Ordering}
use Rattle.std.specs.declared.cmp.Ordering.TheVariants.{Less, Equal, Greater}
use Rattle.std.proofs.lemmas.List.Sorted.{searchable_from_sorted}
use Rattle.std.proofs.lemmas.Map.Lookups.{CmpEqualImpliesEq}
use Rattle.std.proofs.lemmas.Option.{slice_get_within, slice_get-get_or, get_or_from_slice_get}
use Rattle.object_adapter.specs.Rising.{Rises, IsGap, IsSearched}

-- an item stands below the length
pub there : {X : Type 0} (xs : List X) (at : ℕ) → at < length xs → (x : X) × (slice_get xs at ≡ Some x)
there [] at lt = absurd (omega (arith, lt))
there (x ∷ xs) zero lt = (x, refl)
there (x ∷ xs) (suc at) lt = there xs at (omega (arith, lt))

-- an item of a list with one more: one before it, itself, or one after it
pub data IsOneOf {X : Type 0} (xs : List X) (at : ℕ) (x : X) (k : ℕ) (y : X) : Type 0 where
  Below : k < at → slice_get xs k ≡ Some y → IsOneOf xs at x k y
  Itself : k ≡ at → y ≡ x → IsOneOf xs at x k y
  Above : (m : ℕ) → k ≡ suc m → at ≤ m → slice_get xs m ≡ Some y → IsOneOf xs at x k y

pub one_of : {X : Type 0} (xs : List X) (at : ℕ) (x : X) (k : ℕ) (y : X) → at ≤ length xs → slice_get (insert xs at x) k ≡ Some y → IsOneOf xs at x k y
one_of xs zero x zero y le is = Itself refl (cc)
one_of xs zero x (suc k) y le is = Above k refl (omega arith) is
one_of [] (suc at) x k y le is = absurd (omega (arith, le))
one_of (z ∷ xs) (suc at) x zero y le is = Below (omega arith) is
one_of (z ∷ xs) (suc at) x (suc k) y le is = elim (one_of xs at x k y (omega (arith, le)) is) [
  | Below lt has ↦ Below (omega (arith, lt)) has
  | Itself same own ↦ Itself (ap suc same) own
  | Above m same above has ↦ Above (suc m) (ap suc same) (omega (arith, above)) has
]

pub below_or_not : (k at : ℕ) → (k < at) ⊎ (at ≤ k)
below_or_not k zero = inr (omega arith)
below_or_not zero (suc at) = inl (omega arith)
below_or_not (suc k) (suc at) = elim (below_or_not k at) [
  | inl lt ↦ inl (omega (arith, lt))
  | inr le ↦ inr (omega (arith, le))
]

falls : (a b : Ordering) → a ≡ ordering_reverse b → b ≡ Less → is_lt a ≡ false
falls a b is less = rw (is, less) refl

turned : (a b : Ordering) → a ≡ ordering_reverse b → b ≡ Greater → a ≡ Less
turned a b is greater = rw (is, greater) refl

module _ {K X : Type 0} (cmp : K → K → Ordering) (total : IsTotalOrder cmp) (part : X → K) where
  -- as a binary search wants it
  pub sorted : (xs : List X) → Rises cmp part xs → IsSortedBy (λ a b. is_lt (cmp (part a) (part b))) xs
  sorted xs rises k d low high =
      falls _ (cmp (part (get_or xs k d)) (part (get_or xs (k + 1) d))) (total.antisymm (part (get_or xs (k + 1) d)) (part (get_or xs k d)))
      (rises k (k + 1) _ _ (omega arith) (slice_get-get_or xs k d (omega (arith, high))) (slice_get-get_or xs (k + 1) d high))

  -- what a binary search finds
  pub searched : (xs : List X) (key : K) (r : Result ℕ ℕ) → CmpEqualImpliesEq cmp → Rises cmp part xs → IsSearchInRange r (length xs) → IsBinarySearchResult (λ y. cmp (part y) key) xs r
      → IsSearched cmp part xs key r
  searched xs key (Ok at) exact rises within holds =
      let item = there xs at within in
      (item.0, item.1, exact (part item.0) key (ap (λ (y : X). cmp (part y) key) (sym (get_or_from_slice_get xs at item.0 item.0 item.1)) ∙ holds item.0))
  searched xs key (Err at) exact rises within parted =
      let parts = parted (searchable_from_sorted total part xs key (sorted xs rises)) in record {
        within = within;
        before = λ i x lt has. ap (λ (y : X). cmp (part y) key) (sym (get_or_from_slice_get xs i x x has)) ∙ parts.0 i x (omega arith) lt;
        after = λ i x le has.
            turned (cmp key (part x)) (cmp (part x) key) (total.antisymm key (part x))
            (ap (λ (y : X). cmp (part y) key) (sym (get_or_from_slice_get xs i x x has)) ∙ parts.1 i x le (slice_get_within xs i x has));
      }

  -- where it would stand, it does not stand yet
  pub not_there : (xs : List X) (key : K) (at : ℕ) → IsGap cmp part xs key at → (k : ℕ) (x : X) → slice_get xs k ≡ Some x → part x ≡ key → ⊥
  not_there xs key at gap k x has is = elim (below_or_not k at) [
    | inl lt ↦ let both : Equal ≡ Less = sym (tied_itself total key) ∙ subst (λ (q : K). cmp q key ≡ Less) is (gap.before k x lt has) in cc
    | inr le ↦ let both : Equal ≡ Less = sym (tied_itself total key) ∙ subst (λ (q : K). cmp key q ≡ Less) is (gap.after k x le has) in cc
  ]

  -- put there, it leaves them rising
  pub inserted : (xs : List X) (at : ℕ) (x : X) → IsGap cmp part xs (part x) at → Rises cmp part xs → Rises cmp part (insert xs at x)
  inserted xs at x gap rises i j a b lt first second = elim (one_of xs at x i a gap.within first) [
    | Below below has ↦ elim (one_of xs at x j b gap.within second) [
      | Below other is ↦ rises i j a b lt has is
      | Itself same own ↦ subst (λ (y : X). cmp (part a) (part y) ≡ Less) (sym own) (gap.before i a below has)
      | Above m same above is ↦ rises i m a b (omega (arith, below, above)) has is
    ]
    | Itself here own ↦ elim (one_of xs at x j b gap.within second) [
      | Below other is ↦ absurd (omega (arith, lt, here, other))
      | Itself same other ↦ absurd (omega (arith, lt, here, same))
      | Above m same above is ↦ subst (λ (y : X). cmp (part y) (part b) ≡ Less) (sym own) (gap.after m b above is)
    ]
    | Above m same above has ↦ elim (one_of xs at x j b gap.within second) [
      | Below other is ↦ absurd (omega (arith, lt, same, above, other))
      | Itself here other ↦ absurd (omega (arith, lt, same, above, here))
      | Above n other over is ↦ rises m n a b (omega (arith, lt, same, other)) has is
    ]
  ]
