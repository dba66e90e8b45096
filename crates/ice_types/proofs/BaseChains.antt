-- How many bases rows have when other rows come.
use Rattle.std.proofs.Common.{◌≡◌, ◌≢◌, ℕ, zero, suc, ◌<◌, ◌≤◌, List, [], ◌∷◌, ◌++◌, length, Option, Some, None, refl, sym, subst, ◌∙◌, arith}
use Rattle.std.specs.Prelude.{slice_get, unwrap_or, IsTrue, Bool, true, false}
use Rattle.std.specs.Option.{option_map}
use Rattle.ice_types.specs.Tables.{is_defined}
use Rattle.ice_types.specs.declared.rows.Above.{Above}
use Rattle.ice_types.specs.Rules.{defined, bases_by}
use Rattle.ice_types.specs.Kept.{above_of, counted}
use Rattle.ice_types.specs.Bases.{HasBases, HasBasesFrom, Lone, Derived}

pub mapped_front : {A B : Type 0} (g : A → B) (xs ys : List A) (at : ℕ) (x : B) → option_map g (slice_get xs at) ≡ Some x → option_map g (slice_get (xs ++ ys) at) ≡ Some x
mapped_front g [] ys at x e = absurd cc
mapped_front g (y ∷ xs) ys zero x e = e
mapped_front g (y ∷ xs) ys (suc at) x e = mapped_front g xs ys at x e

-- each base that was there is one still
pub bases_grow : (f g : ℕ → Option (Option ℕ)) → ((at : ℕ) (base : Option ℕ) → f at ≡ Some base → g at ≡ Some base) → (at bases : ℕ) → HasBases f at bases → HasBases g at bases
bases_grow f g keeps at bases (Lone _ is) = Lone at (keeps at None is)
bases_grow f g keeps at bases (Derived _ base others is above) = Derived at base others (keeps at (Some base) is) (bases_grow f g keeps base others above)

-- a row with this base next
pub based_on : (f g : ℕ → Option (Option ℕ)) (at bases : ℕ) (base : Option ℕ) → ((over others : ℕ) → base ≡ Some over → HasBases f over others → HasBases g over others) → g at ≡ Some base → HasBasesFrom f base bases → HasBases g at bases
based_on f g at bases None keeps is none = subst (HasBases g at) (sym none) (Lone at is)
based_on f g at bases (Some base) keeps is from = subst (HasBases g at) (sym from.1) (Derived at base from.0 is (keeps base from.0 refl from.2))

-- the row of a base
pub row_of_base : {A B : Type 0} (base : A → B) (row : Option A) (x : B) → option_map base row ≡ Some x → (r : A) × (row ≡ Some r) × (base r ≡ x)
row_of_base base None x e = absurd cc
row_of_base base (Some r) x e = (r, refl, cc)

pub get_within : {A : Type 0} (xs : List A) (at : ℕ) → at < length xs → (x : A) × (slice_get xs at ≡ Some x)
get_within [] at lt = absurd (omega (arith, lt))
get_within (x ∷ xs) zero lt = (x, refl)
get_within (x ∷ xs) (suc at) lt = get_within xs at (omega (arith, lt))

-- where each row has its number beside it, each has bases
pub all_counted : {A B : Type 0} (rows : List A) (beside : List B) (number : B → ℕ) (f : ℕ → Option (Option ℕ)) → length beside ≡ length rows
    → ((at : ℕ) (n : B) → slice_get beside at ≡ Some n → HasBases f at (number n)) → (at : ℕ) → at < length rows → (bases : ℕ) × HasBases f at bases
all_counted rows beside number f same counts at lt = let found = get_within beside at (omega (arith, same, lt)) in (number found.0, counts at found.0 found.1)

-- ---- one row is defined, and no base was the one

-- the row at this place alone has another base, and was no base
pub bases_stay : (f g : ℕ → Option (Option ℕ)) (place : ℕ) → ((at : ℕ) → at ≢ place → f at ≡ g at) → ((at base : ℕ) → f at ≡ Some (Some base) → base ≢ place)
    → (at bases : ℕ) → at ≢ place → HasBases f at bases → HasBases g at bases
bases_stay f g place others apart at bases other (Lone _ is) = Lone at (sym (others at other) ∙ is)
bases_stay f g place others apart at bases other (Derived _ base more is above) =
    Derived at base more (sym (others at other) ∙ is) (bases_stay f g place others apart base more (apart at base is) above)

-- ---- the number beside a row

pub counted_by : (beside : List (Option ℕ)) (at : ℕ) (Is : ℕ → Type 0) → (slice_get beside at ≡ None → Is 0) → ((n : Option ℕ) → slice_get beside at ≡ Some n → Is (unwrap_or n 0)) → Is (counted beside at)
counted_by [] at Is none each = none refl
counted_by (n ∷ beside) zero Is none each = each n refl
counted_by (n ∷ beside) (suc at) Is none each = counted_by beside at Is none each

pub bases_by_row : (beside : List (Option Above)) (at : ℕ) (Is : ℕ → Type 0) → (slice_get beside at ≡ None → Is 0) → ((n : Option Above) → slice_get beside at ≡ Some n → Is (bases_by n)) → Is (above_of beside at).bases
bases_by_row beside at Is none each = by_row (slice_get beside at) refl
  where
    by_row : (row : Option (Option Above)) → slice_get beside at ≡ row → Is (unwrap_or (unwrap_or row None) (record { bases = 0; far = at })).bases
    by_row None e = none e
    by_row (Some None) e = each None e
    by_row (Some (Some above)) e = each (Some above) e

pub defined_within : (flags : List Bool) → defined flags ≤ length flags
defined_within [] = omega arith
defined_within (true ∷ flags) = omega (arith, defined_within flags)
defined_within (false ∷ flags) = omega (arith, defined_within flags)

pub flag_within : (flags : List Bool) (at : ℕ) → IsTrue (is_defined flags at) → at < length flags
flag_within [] at h = absurd cc
flag_within (flag ∷ flags) zero h = omega arith
flag_within (flag ∷ flags) (suc at) h = omega (arith, flag_within flags at h)
