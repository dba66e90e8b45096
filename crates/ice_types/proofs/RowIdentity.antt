-- A row has one id, and an id one row.
use Rattle.std.proofs.Common.{ℕ, zero, suc, ◌+◌, ◌<◌, ◌≡◌, ◌⊎◌, inl, inr, List, get_or, length, map, Some, refl, sym, ap, subst, ◌∙◌, arith}
use Rattle.std.specs.Option.{option_map}
use Rattle.std.proofs.lemmas.List.{length-map}
use Rattle.std.proofs.lemmas.Option.{slice_get-map, slice_get_read, slice_get_within}
use Rattle.ice_types.specs.declared.kind.RowRef.{RowRef}
use Rattle.ice_types.specs.declared.kind.RowRef.TheVariants as rows
use Rattle.ice_types.specs.Tables.{Tables, HasId, HasRowId}

pub one_id : (t : Tables) (row : RowRef) (a b : List ℕ) → HasRowId t a row → HasRowId t b row → a ≡ b
one_id t (rows.Seq at) a b g h = let both : Some a ≡ Some b = sym g ∙ h in cc
one_id t (rows.Dict at) a b g h = let both : Some a ≡ Some b = sym g ∙ h in cc
one_id t (rows.Struct at) a b g h = let both : Some a ≡ Some b = sym g ∙ h in cc
one_id t (rows.Enum at) a b g h = let both : Some a ≡ Some b = sym g ∙ h in cc
one_id t (rows.Class at) a b g h = let both : Some a ≡ Some b = sym g ∙ h in cc
one_id t (rows.Exception at) a b g h = let both : Some a ≡ Some b = sym g ∙ h in cc
one_id t (rows.Interface at) a b g h = let both : Some a ≡ Some b = sym g ∙ h in cc

-- ---- the ids of a table, from the first on

pub id_at : {A : Type 0} (id : A → List ℕ) (rows : List A) (at : ℕ) (row : A) → at < length rows → row ≡ get_or rows at row → HasId (map id rows) (id row) at
id_at id rows at row lt is = slice_get-map id rows at ∙ ap (option_map id) (slice_get_read rows (length rows) at row refl lt is)

below_or_at : (k at : ℕ) → k < suc at → (k < at) ⊎ (k ≡ at)
below_or_at zero zero lt = inr refl
below_or_at zero (suc at) lt = inl (omega arith)
below_or_at (suc k) zero lt = absurd (omega (arith, lt))
below_or_at (suc k) (suc at) lt = elim (below_or_at k at (omega (arith, lt))) [
  | inl less ↦ inl (omega (arith, less))
  | inr same ↦ inr (ap suc same)
]

-- what holds at the places before and at the next one
pub one_more : (Is : ℕ → List ℕ → Type 0) (ids : List (List ℕ)) (at : ℕ) (id : List ℕ) → HasId ids id at → Is at id
    → ((k : ℕ) (other : List ℕ) → k < at → HasId ids other k → Is k other) → (k : ℕ) (other : List ℕ) → k < at + 1 → HasId ids other k → Is k other
one_more Is ids at id has holds before k other lt there = elim (below_or_at k at (omega (arith, lt))) [
  | inl less ↦ before k other less there
  | inr same ↦
      let both : Some id ≡ Some other = sym has ∙ subst (λ (x : ℕ). HasId ids other x) same there in
      let is : id ≡ other = cc in
      subst (λ (x : ℕ). Is x other) (sym same) (subst (Is at) is holds)
]

pub within_rows : {A : Type 0} (id : A → List ℕ) (rows : List A) (at : ℕ) (other : List ℕ) → HasId (map id rows) other at → at < length rows
within_rows id rows at other has = omega (arith, slice_get_within (map id rows) at other has, length-map rows id)
