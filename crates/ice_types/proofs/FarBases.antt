-- Far bases: classes are reached over them, and they stay when other classes come.
use Rattle.std.proofs.Common.{◌≡◌, ◌≢◌, ℕ, zero, suc, ◌<◌, ◌≤◌, Bool, true, false, List, [], ◌∷◌, ◌++◌, map, length, Option, Some, None, ◌↔◌, refl, sym, ap, subst, ◌∙◌, arith, inl, inr}
use Rattle.std.specs.Prelude.{slice_get, unwrap_or}
use Rattle.std.specs.Option.{option_and_then, option_map, is_some}
use Rattle.std.proofs.lemmas.Bool.{cases_order}
use Rattle.ice_types.specs.declared.declarations.ClassDecl.{ClassDecl}
use Rattle.ice_types.specs.declared.rows.Above.{Above}
use Rattle.ice_types.specs.Tables.{Tables, changed, is_defined}
use Rattle.ice_types.specs.Bases.{class_base, HasBases, Lone}
use Rattle.ice_types.specs.Rules.{Beside, IsKept}
use Rattle.ice_types.specs.Kept.{above_of}
use Rattle.ice_types.specs.Inherited.{Reaches, Here, Onward, base_in, IsA, IsFarBase, HasFarBases, CountsClassBases}
use Rattle.ice_types.proofs.Items.{get_other, get_changed}
use Rattle.ice_types.proofs.BaseChains.{get_within}
use Rattle.ice_types.proofs.Levels.{some_is}

-- ---- a way up

pub reaches_on : {Step : ℕ → ℕ → Type 0} (at by other : ℕ) → Reaches Step at by → Reaches Step by other → Reaches Step at other
reaches_on at by other (Here _) rest = rest
reaches_on at by other (Onward _ next _ step more) rest = Onward at next other step (reaches_on next by other more rest)

-- from a class with this base, what is above it is that base or above that
pub by_base : (classes : List ClassDecl) (at base next : ℕ) → (at ≡ base → ⊥) → base_in classes at ≡ Some next → IsA classes at base → IsA classes next base
by_base classes at base next other is (Here _) = absurd (other refl)
by_base classes at base next other is (Onward _ found _ step rest) = subst (λ (x : ℕ). IsA classes x base) (some_is (λ x. x ≡ next) next found (sym is ∙ step) refl) rest

module _ (classes : List ClassDecl) (beside : List (Option Above)) (counts : CountsClassBases classes beside) where
  -- what is above has no more bases
  pub no_more : (at other : ℕ) → IsA classes at other → (above_of beside other).bases ≤ (above_of beside at).bases
  no_more at other (Here _) = omega arith
  no_more at other (Onward _ next _ step rest) = omega (arith, counts at next step, no_more next other rest)

  -- of two above one class, the one with no more bases is above the other
  pub above_both : (at far base : ℕ) → IsA classes at far → IsA classes at base → (above_of beside base).bases ≤ (above_of beside far).bases → IsA classes far base
  above_both at far base (Here _) over le = over
  above_both at far base (Onward _ next _ step rest) (Here _) le = absurd (omega (arith, le, no_more next far rest, counts at next step))
  above_both at far base (Onward _ next _ step rest) (Onward _ other _ same over) le =
      above_both next far base rest (by_base classes at base next (λ e. omega (arith, le, no_more next far rest, counts at next step, ap (λ (x : ℕ). (above_of beside x).bases) e)) step (Onward at other base same over)) le

  -- one that has no more bases, and is another, is not above
  pub none_above : (at base : ℕ) → (above_of beside at).bases ≤ (above_of beside base).bases → IsA classes at base → at ≡ base
  none_above at base le (Here _) = refl
  none_above at base le (Onward _ next _ step rest) = absurd (omega (arith, le, counts at next step, no_more next base rest))

  module _ (far_bases : HasFarBases classes beside) where
    pub far_of : (at base : ℕ) → base_in classes at ≡ Some base → IsA classes base (above_of beside at).far
    far_of at base is = subst (λ (over : Option ℕ). IsFarBase classes at over (above_of beside at).far) is (far_bases at)

    -- also over a class without a base
    pub far_is_above : (at : ℕ) → IsA classes at (above_of beside at).far
    far_is_above at = by_case (base_in classes at) refl (far_bases at)
      where
        by_case : (over : Option ℕ) → base_in classes at ≡ over → IsFarBase classes at over (above_of beside at).far → IsA classes at (above_of beside at).far
        by_case None e is = subst (λ (far : ℕ). IsA classes at far) (sym is) (Here at)
        by_case (Some base) e is = Onward at base (above_of beside at).far e is

  -- what is above a class with as many bases as the base that is looked for, or more
  pub record Climbs (base at up : ℕ) : Type 0 where
    pub same : IsA classes up base ↔ IsA classes at base
    pub falls : (above_of beside up).bases < (above_of beside at).bases

  pub over_far : (base at next far : ℕ) → base_in classes at ≡ Some next → IsA classes next far → (above_of beside base).bases < (above_of beside at).bases → (above_of beside base).bases ≤ (above_of beside far).bases → Climbs base at far
  over_far base at next far is over more as_many = record {
    same = (
      λ h. Onward at next base is (reaches_on next far base over h),
      λ h. above_both next far base over (by_base classes at base next (λ e. omega (arith, more, ap (λ (x : ℕ). (above_of beside x).bases) e)) is h) as_many,
    );
    falls = omega (arith, counts at next is, no_more next far over);
  }

  pub over_base : (base at next : ℕ) → base_in classes at ≡ Some next → (above_of beside base).bases < (above_of beside at).bases → Climbs base at next
  over_base base at next is more = record {
    same = (λ h. Onward at next base is h, λ h. by_base classes at base next (λ e. omega (arith, more, ap (λ (x : ℕ). (above_of beside x).bases) e)) is h);
    falls = counts at next is;
  }

-- ---- when other classes come

is_a_stays : (old new : List ClassDecl) → ((at base : ℕ) → base_in old at ≡ Some base → base_in new at ≡ Some base) → (at other : ℕ) → IsA old at other → IsA new at other
is_a_stays old new keeps at other (Here _) = Here at
is_a_stays old new keeps at other (Onward _ next _ step rest) = Onward at next other (keeps at next step) (is_a_stays old new keeps next other rest)

far_stays : (old new : List ClassDecl) → ((at base : ℕ) → base_in old at ≡ Some base → base_in new at ≡ Some base) → (at : ℕ) (base : Option ℕ) (far : ℕ) → IsFarBase old at base far → IsFarBase new at base far
far_stays old new keeps at None far is = is
far_stays old new keeps at (Some base) far is = is_a_stays old new keeps base far is

-- a class whose base and row beside it are as they were
far_same : (old new : List ClassDecl) (was now : List (Option Above)) → ((at base : ℕ) → base_in old at ≡ Some base → base_in new at ≡ Some base) → HasFarBases old was
    → (at : ℕ) → base_in old at ≡ base_in new at → above_of was at ≡ above_of now at → IsFarBase new at (base_in new at) (above_of now at).far
far_same old new was now keeps far_bases at same_base same_above =
    subst (λ (above : Above). IsFarBase new at (base_in new at) above.far) same_above
    (subst (λ (base : Option ℕ). IsFarBase new at base (above_of was at).far) same_base (far_stays old new keeps at (base_in old at) (above_of was at).far (far_bases at)))

-- one more that is only declared
base_front : (classes : List ClassDecl) (new : ClassDecl) → new.base ≡ None → (at : ℕ) → base_in classes at ≡ base_in (classes ++ new ∷ []) at
base_front [] new none zero = sym none
base_front [] new none (suc at) = refl
base_front (c ∷ classes) new none zero = refl
base_front (c ∷ classes) new none (suc at) = base_front classes new none at

row_front : (beside : List (Option Above)) (at : ℕ) → unwrap_or (slice_get beside at) None ≡ unwrap_or (slice_get (beside ++ None ∷ []) at) None
row_front [] zero = refl
row_front [] (suc at) = refl
row_front (row ∷ beside) zero = refl
row_front (row ∷ beside) (suc at) = row_front beside at

pub far_declared : (classes : List ClassDecl) (beside : List (Option Above)) (new : ClassDecl) → new.base ≡ None → HasFarBases classes beside → HasFarBases (classes ++ new ∷ []) (beside ++ None ∷ [])
far_declared classes beside new none far_bases at =
    far_same classes (classes ++ new ∷ []) beside (beside ++ None ∷ []) (λ at base e. sym (base_front classes new none at) ∙ e) far_bases at
    (base_front classes new none at) (ap (λ (row : Option Above). unwrap_or row (record { bases = 0; far = at })) (row_front beside at))

-- a class that is only declared has no base
flag_of : (beside : List (Option Above)) (at : ℕ) (row : Option Above) → slice_get beside at ≡ Some row → is_defined (map is_some beside) at ≡ is_some row
flag_of [] at row e = absurd cc
flag_of (x ∷ beside) zero row e = let same : x ≡ row = cc in ap is_some same
flag_of (x ∷ beside) (suc at) row e = flag_of beside at row e

pub base_undefined : (t : Tables) (beside : Beside) → IsKept t beside → (at : ℕ) → at < length beside.classes → is_defined t.defined_classes at ≡ false → base_in t.classes at ≡ None
base_undefined t beside kept at there not_yet = by_row (get_within beside.classes at there)
  where
    lone : (row : Option ClassDecl) → option_map (λ c. c.base) row ≡ Some None → option_and_then (λ c. c.base) row ≡ None
    lone None e = refl
    lone (Some c) e = let same : Some c.base ≡ Some None = e in cc

    no_base : HasBases (class_base t) at 0 → base_in t.classes at ≡ None
    no_base (Lone _ is) = lone (slice_get t.classes at) is

    by_row : (row : Option Above) × (slice_get beside.classes at ≡ Some row) → base_in t.classes at ≡ None
    by_row (None, e) = no_base (kept.classes at None e).0
    by_row (Some above, e) =
        let clash : false ≡ true = sym not_yet ∙ ap (λ (flags : List Bool). is_defined flags at) kept.class_flags ∙ flag_of beside.classes at (Some above) e in absurd cc

-- one is defined that had no base
module _ (old : List ClassDecl) (beside : List (Option Above)) (fill : ClassDecl → ClassDecl) (place : ℕ) (above : Above) (base : Option ℕ) (filled : (c : ClassDecl) → (fill c).base ≡ base)
    (in_rows : place < length old) (in_beside : place < length beside) (none : base_in old place ≡ None) (far_bases : HasFarBases old beside) (far : IsFarBase old place base above.far) where
  abbrev new : List ClassDecl
  new = changed fill old place

  abbrev now : List (Option Above)
  now = changed (λ _. Some above) beside place

  same_base : (at : ℕ) → at ≢ place → base_in old at ≡ base_in new at
  same_base at apart = sym (ap (λ (row : Option ClassDecl). option_and_then (λ c. c.base) row) (get_other fill old place at apart))

  keeps_base : (at over : ℕ) → base_in old at ≡ Some over → base_in new at ≡ Some over
  keeps_base at over is = sym (same_base at (λ e. let clash : None ≡ Some over = sym none ∙ sym (ap (base_in old) e) ∙ is in cc)) ∙ is

  here : IsFarBase new place (base_in new place) (above_of now place).far
  here =
      let row = get_within old place in_rows in
      let beside_it = get_within beside place in_beside in
      let base_now : base_in new place ≡ base = ap (λ (row : Option ClassDecl). option_and_then (λ c. c.base) row) (get_changed fill old place row.0 row.1) ∙ filled row.0 in
      let above_now : above_of now place ≡ above = ap (λ (row : Option (Option Above)). unwrap_or (unwrap_or row None) (record { bases = 0; far = place })) (get_changed (λ _. Some above) beside place beside_it.0 beside_it.1) in
      subst (λ (above : Above). IsFarBase new place (base_in new place) above.far) (sym above_now)
      (subst (λ (base : Option ℕ). IsFarBase new place base above.far) (sym base_now) (far_stays old new keeps_base place base above.far far))

  there : (at : ℕ) → at ≢ place → IsFarBase new at (base_in new at) (above_of now at).far
  there at apart = far_same old new beside now keeps_base far_bases at (same_base at apart)
      (sym (ap (λ (row : Option (Option Above)). unwrap_or (unwrap_or row None) (record { bases = 0; far = at })) (get_other (λ _. Some above) beside place at apart)))

  pub far_defined : HasFarBases (changed fill old place) (changed (λ _. Some above) beside place)
  far_defined at = elim (cases_order at place) [
    | inl same ↦ subst (λ (at : ℕ). IsFarBase new at (base_in new at) (above_of now at).far) (sym same) here
    | inr (inl lt) ↦ there at (λ e. omega (arith, lt, e))
    | inr (inr gt) ↦ there at (λ e. omega (arith, gt, e))
  ]
