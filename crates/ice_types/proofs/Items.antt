-- Lists with one item more.
use Rattle.std.proofs.Common.{◌≡◌, ◌≢◌, ◌<◌, ℕ, zero, suc, map, List, [], ◌∷◌, ◌++◌, length, Some, None, refl, ap, arith, inl, inr, ◌⊎◌}
use Rattle.std.specs.Prelude.{slice_get, slice_set, slice_index_or}
use Rattle.ice_types.specs.Tables.{changed}

-- what was there stays at its place
pub slice_get-front : {A : Type 0} (xs ys : List A) (i : ℕ) (x : A) → slice_get xs i ≡ Some x → slice_get (xs ++ ys) i ≡ Some x
slice_get-front [] ys i x e = absurd cc
slice_get-front (y ∷ xs) ys zero x e = e
slice_get-front (y ∷ xs) ys (suc i) x e = slice_get-front xs ys i x e

-- an item is one that was there, or the new one
pub slice_get-push : {A : Type 0} (xs : List A) (y : A) (i : ℕ) (x : A) → slice_get (xs ++ y ∷ []) i ≡ Some x → (slice_get xs i ≡ Some x) ⊎ ((i ≡ length xs) × (y ≡ x))
slice_get-push [] y zero x e = inr (refl, cc)
slice_get-push [] y (suc i) x e = absurd cc
slice_get-push (z ∷ xs) y zero x e = inl e
slice_get-push (z ∷ xs) y (suc i) x e = elim (slice_get-push xs y i x e) [
  | inl there ↦ inl there
  | inr new ↦ inr (ap suc new.0, new.1)
]

pub slice_get-last : {A : Type 0} (xs : List A) (y : A) → slice_get (xs ++ y ∷ []) (length xs) ≡ Some y
slice_get-last [] y = refl
slice_get-last (x ∷ xs) y = slice_get-last xs y

-- lists of one length end at one place
pub both_end : {A B : Type 0} (xs : List A) (ys : List B) → length xs ≡ length ys → (at : ℕ) → slice_get xs at ≡ None → slice_get ys at ≡ None
both_end xs [] e at none = refl
both_end [] (y ∷ ys) e at none = absurd (omega (arith, e))
both_end (x ∷ xs) (y ∷ ys) e zero none = absurd cc
both_end (x ∷ xs) (y ∷ ys) e (suc at) none = both_end xs ys (omega (arith, e)) at none

unfoldable pub AreBoth : {A B : Type 0} → List A → List B → Type 0
AreBoth {A} {B} xs ys = (at : ℕ) → ((x : A) → slice_get xs at ≡ Some x → (y : B) × (slice_get ys at ≡ Some y)) × (slice_get xs at ≡ None → slice_get ys at ≡ None)

pub one_length : {A B : Type 0} (xs : List A) (ys : List B) → AreBoth xs ys → length xs ≡ length ys
unfolding AreBoth
one_length [] [] both = refl
one_length [] (y ∷ ys) both = let e : Some y ≡ None = (both zero).1 refl in absurd cc
one_length (x ∷ xs) [] both = let e : None ≡ Some ((both zero).0 x refl).0 = ((both zero).0 x refl).1 in absurd cc
one_length (x ∷ xs) (y ∷ ys) both = ap suc (one_length xs ys (λ at. both (suc at)))

-- ---- lists with one item changed

pub set_changed : {A : Type 0} (change : A → A) (xs : List A) (at : ℕ) (x : A) → at < length xs → x ≡ slice_index_or xs at x → slice_set xs at (change x) ≡ changed change xs at
set_changed change [] at x lt is = absurd (omega (arith, lt))
set_changed change (y ∷ xs) zero x lt is = ap (λ z. change z ∷ xs) is
set_changed change (y ∷ xs) (suc at) x lt is = ap (λ zs. y ∷ zs) (set_changed change xs at x (omega (arith, lt)) is)

pub set_to : {A : Type 0} (xs : List A) (at : ℕ) (x : A) → slice_set xs at x ≡ changed (λ _. x) xs at
set_to [] at x = refl
set_to (y ∷ xs) zero x = refl
set_to (y ∷ xs) (suc at) x = ap (λ zs. y ∷ zs) (set_to xs at x)

pub length-changed : {A : Type 0} (change : A → A) (xs : List A) (at : ℕ) → length (changed change xs at) ≡ length xs
length-changed change [] at = refl
length-changed change (x ∷ xs) zero = refl
length-changed change (x ∷ xs) (suc at) = ap suc (length-changed change xs at)

pub map-changed : {A B : Type 0} (f : A → B) (change : A → A) (other : B → B) → ((x : A) → f (change x) ≡ other (f x)) → (xs : List A) (at : ℕ) → map f (changed change xs at) ≡ changed other (map f xs) at
map-changed f change other same [] at = refl
map-changed f change other same (x ∷ xs) zero = ap (λ y. y ∷ map f xs) (same x)
map-changed f change other same (x ∷ xs) (suc at) = ap (λ ys. f x ∷ ys) (map-changed f change other same xs at)

pub map-kept : {A B : Type 0} (f : A → B) (change : A → A) → ((x : A) → f (change x) ≡ f x) → (xs : List A) (at : ℕ) → map f (changed change xs at) ≡ map f xs
map-kept f change same [] at = refl
map-kept f change same (x ∷ xs) zero = ap (λ y. y ∷ map f xs) (same x)
map-kept f change same (x ∷ xs) (suc at) = ap (λ ys. f x ∷ ys) (map-kept f change same xs at)

-- each other item is as it was
pub get_other : {A : Type 0} (change : A → A) (xs : List A) (at other : ℕ) → other ≢ at → slice_get (changed change xs at) other ≡ slice_get xs other
get_other change [] at other apart = refl
get_other change (x ∷ xs) zero zero apart = absurd (apart refl)
get_other change (x ∷ xs) zero (suc other) apart = refl
get_other change (x ∷ xs) (suc at) zero apart = refl
get_other change (x ∷ xs) (suc at) (suc other) apart = get_other change xs at other (λ e. apart (ap suc e))

pub get_changed : {A : Type 0} (change : A → A) (xs : List A) (at : ℕ) (x : A) → slice_get xs at ≡ Some x → slice_get (changed change xs at) at ≡ Some (change x)
get_changed change [] at x e = absurd cc
get_changed change (y ∷ xs) zero x e = let same : y ≡ x = cc in ap (λ z. Some (change z)) same
get_changed change (y ∷ xs) (suc at) x e = get_changed change xs at x e

-- an item is one that was there elsewhere, or the one that was changed
abbrev pub Changed : {A : Type 0} → (A → A) → List A → ℕ → ℕ → A → Type 0
Changed {A} change xs at other y = ((other ≢ at) × (slice_get xs other ≡ Some y)) ⊎ ((other ≡ at) × ((x : A) × (slice_get xs at ≡ Some x) × (change x ≡ y)))

pub where_from : {A : Type 0} (change : A → A) (xs : List A) (at other : ℕ) (y : A) → slice_get (changed change xs at) other ≡ Some y → Changed change xs at other y
where_from change [] at other y e = absurd cc
where_from change (x ∷ xs) zero zero y e = inr (refl, (x, refl, cc))
where_from change (x ∷ xs) zero (suc other) y e = inl ((λ h. cc), e)
where_from change (x ∷ xs) (suc at) zero y e = inl ((λ h. cc), e)
where_from change (x ∷ xs) (suc at) (suc other) y e = elim (where_from change xs at other y e) [
  | inl there ↦ inl ((λ h. there.0 (omega (arith, h))), there.1)
  | inr same ↦ inr (ap suc same.0, same.1)
]

-- there is an item where there was one
pub still_there : {A : Type 0} (change : A → A) (xs : List A) (at other : ℕ) (x : A) → slice_get xs other ≡ Some x → (y : A) × (slice_get (changed change xs at) other ≡ Some y)
still_there change [] at other x e = absurd cc
still_there change (z ∷ xs) zero zero x e = (change z, refl)
still_there change (z ∷ xs) zero (suc other) x e = (x, e)
still_there change (z ∷ xs) (suc at) zero x e = (x, e)
still_there change (z ∷ xs) (suc at) (suc other) x e = still_there change xs at other x e
