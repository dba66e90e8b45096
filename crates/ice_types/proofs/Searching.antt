-- What is first found in some lists, one after the other.
use Rattle.std.proofs.Common.{ℕ, zero, suc, ◌+◌, ◌≡◌, Bool, List, [], ◌∷◌, ◌++◌, drop, Option, None, Some, refl, sym, ap, ◌∙◌, arith}
use Rattle.std.specs.Prelude.{slice_get}
use Rattle.std.specs.List.{flat_map, find}
use Rattle.std.specs.Option.{option_or}
use Rattle.std.proofs.lemmas.List.Folds.{find-append}
use Rattle.ice_types.proofs.Levels.{some_is}

-- the list from a place on: its item there and the others, or nothing
drop_at_suc : (xs : List ℕ) (k x : ℕ) → slice_get xs k ≡ Some x → drop k xs ≡ x ∷ drop (suc k) xs
drop_at_suc [] k x e = absurd cc
drop_at_suc (y ∷ ys) zero x e = ap (λ (z : ℕ). z ∷ ys) (some_is (λ z. z ≡ x) x y (sym e) refl)
drop_at_suc (y ∷ ys) (suc k) x e = drop_at_suc ys k x e

drop_at : (xs : List ℕ) (k x : ℕ) → slice_get xs k ≡ Some x → drop k xs ≡ x ∷ drop (k + 1) xs
drop_at xs k x e = let next : k + 1 ≡ suc k = omega arith in rw next (drop_at_suc xs k x e)

drop_none : (xs : List ℕ) (k : ℕ) → slice_get xs k ≡ None → drop k xs ≡ []
drop_none [] zero e = refl
drop_none [] (suc k) e = refl
drop_none (y ∷ ys) zero e = absurd cc
drop_none (y ∷ ys) (suc k) e = drop_none ys k e

module _ {X : Type 0} (test : X → Bool) where
  pub found_first : (xs ys : List X) (x : X) → Some x ≡ find test xs → Some x ≡ find test (xs ++ ys)
  found_first xs ys x e = sym (find-append test xs ys ∙ ap (λ (o : Option X). option_or o (find test ys)) (sym e))

  pub found_later : (xs ys : List X) → None ≡ find test xs → find test ys ≡ find test (xs ++ ys)
  found_later xs ys e = sym (find-append test xs ys ∙ ap (λ (o : Option X). option_or o (find test ys)) (sym e))

  module _ (of : ℕ → List X) (bases : List ℕ) (place : ℕ) where
    pub found_at_base : (base : ℕ) (x : X) → Some base ≡ slice_get bases place → Some x ≡ find test (of base) → Some x ≡ find test (flat_map of (drop place bases))
    found_at_base base x at e = rw (drop_at bases place base (sym at)) (found_first (of base) (flat_map of (drop (place + 1) bases)) x e)

    pub not_at_base : (base : ℕ) → Some base ≡ slice_get bases place → None ≡ find test (of base) → find test (flat_map of (drop (place + 1) bases)) ≡ find test (flat_map of (drop place bases))
    not_at_base base at e = rw (drop_at bases place base (sym at)) (found_later (of base) (flat_map of (drop (place + 1) bases)) e)

    pub no_base_left : slice_get bases place ≡ None → None ≡ find test (flat_map of (drop place bases))
    no_base_left at = rw (drop_none bases place at) refl
