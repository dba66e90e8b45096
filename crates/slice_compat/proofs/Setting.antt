-- What setting one flag of a table changes.
use Rattle.std.proofs.Common.{ℕ, ◌+◌, ◌<◌, ◌≡◌, ◌⊎◌, Bool, true, false, not, cond, List, length, set, get_or, sym, ◌∙◌, ap, subst, inl, inr, arith, Option}
use Rattle.std.specs.Prelude.{unwrap_or, slice_get, ◌≢◌}
use Rattle.std.proofs.lemmas.Bool.{cases_eq, cases_lt}
use Rattle.std.proofs.lemmas.List.{get_or-set_same, get_or-set_other}
use Rattle.std.proofs.lemmas.List.Sums.{sum_by-set}
use Rattle.std.proofs.lemmas.Option.{unwrap_or-slice_get, slice_get_past}
use Rattle.slice_compat.specs.Marks.{is_set, clear}
use Rattle.slice_compat.proofs.Spreading.{either}

module _ (flags : List Bool) (at : ℕ) (e : is_set flags at ≡ false) where
  pub inside : at < length flags
  inside = either (cases_lt at (length flags)) (λ lt. lt)
      (λ past. let is : is_set flags at ≡ true = ap (λ (o : Option Bool). unwrap_or o true) (slice_get_past flags at past) in absurd cc)

  -- by what stands where there is no flag
  module _ (otherwise : Bool) where
    abbrev flag : List Bool → ℕ → Bool
    flag table place = unwrap_or (slice_get table place) otherwise

    pub here : flag (set flags at true) at ≡ true
    here = unwrap_or-slice_get (set flags at true) at otherwise ∙ get_or-set_same flags at true otherwise inside

    elsewhere : (place : ℕ) → place ≢ at → flag (set flags at true) place ≡ flag flags place
    elsewhere place apart = unwrap_or-slice_get (set flags at true) place otherwise ∙ get_or-set_other flags at place true otherwise apart ∙ sym (unwrap_or-slice_get flags place otherwise)

    pub was : (place : ℕ) → flag (set flags at true) place ≡ true → (flag flags place ≡ true) ⊎ (place ≡ at)
    was place set_now = either (cases_eq place at) (λ is. inr is) (λ apart. inl (sym (elsewhere place apart) ∙ set_now))

    pub kept : (place : ℕ) → flag flags place ≡ true → flag (set flags at true) place ≡ true
    kept place was_set = either (cases_eq place at) (λ is. subst (λ (k : ℕ). flag (set flags at true) k ≡ true) (sym is) here) (λ apart. elsewhere place apart ∙ was_set)

  pub fewer : clear (set flags at true) + 1 ≡ clear flags
  fewer =
      let here_clear : get_or flags at true ≡ false = sym (unwrap_or-slice_get flags at true) ∙ e in
      let weight : Bool → ℕ = λ (b : Bool). cond (not b) 1 0 in
      let counted = sum_by-set weight flags at true true inside in
      let one : ◌≡◌ {A = ℕ} (cond (not (get_or flags at true)) 1 0) 1 = ap {B = ℕ} (λ (b : Bool). cond (not b) 1 0) here_clear in
      omega (arith, counted, one)
