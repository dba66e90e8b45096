-- A class is another or derived from it where bases lead there: the steps to look for suffice, since no two bases are one.
use Rattle.std.proofs.Common.{ℕ, zero, suc, ◌≡◌, ◌≢◌, ◌∙◌, ◌<◌, ◌⊎◌, inl, inr, Bool, true, false, ◌||◌, List, [], ◌∷◌, length, nat_eq, refl, sym, ap, subst, arith, Option, Some, None}
use Rattle.std.specs.Prelude.{IsTrue, ◌↔◌, slice_get, option_and_then}
use Rattle.std.specs.Option.{option_map}
use Rattle.std.specs.List.{IsDistinct, AllByRecursion, list_any}
use Rattle.std.proofs.Math.Dec.{eqb}
use Rattle.std.proofs.lemmas.Bool.{eqb-true, eq-eqb}
use Rattle.std.proofs.lemmas.Bool.Decides.{eqb_tells}
use Rattle.std.proofs.lemmas.Option.{slice_get_within}
use Rattle.std.proofs.lemmas.Map.Steps.{length-le_from_distinct_below}
use Rattle.ice_types.specs.declared.declarations.ClassDecl.{ClassDecl}
use Rattle.ice_types.specs.Tables.{Tables}
use Rattle.ice_types.specs.Rules.{IsSchema}
use Rattle.ice_types.specs.Bases.{class_base, HasBases, Lone, Derived}
use Rattle.ice_types.specs.Inherited.{IsA, Here, Onward}
use Rattle.ice_encoding.specs.Classes.{base_of, holds_of, leads_to, is_a}

-- ---- how many bases a class has

one_number : (f : ℕ → Option (Option ℕ)) (at m n : ℕ) → HasBases f at m → HasBases f at n → m ≡ n
one_number f at _ _ (Lone _ e) (Lone _ g) = refl
one_number f at _ _ (Lone _ e) (Derived _ base bases g h) = let both : Some None ≡ Some (Some base) = sym e ∙ g in absurd cc
one_number f at _ _ (Derived _ base bases e h) (Lone _ g) = let both : Some (Some base) ≡ Some None = sym e ∙ g in absurd cc
one_number f at _ _ (Derived _ base bases e h) (Derived _ other others g k) =
    let same : other ≡ base = let both : Some (Some other) ≡ Some (Some base) = sym g ∙ e in cc in
    ap suc (one_number f base bases others h (subst (λ (x : ℕ). HasBases f x others) same k))

-- a class, its base, the base of that ..
abbrev chain : (f : ℕ → Option (Option ℕ)) (at n : ℕ) → HasBases f at n → List ℕ
chain f at _ (Lone _ e) = at ∷ []
chain f at _ (Derived _ base bases e h) = at ∷ chain f base bases h

chain_length : (f : ℕ → Option (Option ℕ)) (at n : ℕ) (h : HasBases f at n) → length (chain f at n h) ≡ suc n
chain_length f at _ (Lone _ e) = refl
chain_length f at _ (Derived _ base bases e h) = ap suc (chain_length f base bases h)

other_than : (f : ℕ → Option (Option ℕ)) (at m other n : ℕ) → HasBases f at m → HasBases f other n → n < m → eqb at other ≡ false
other_than f at m other n h k less = by_test (eqb_tells at other)
  where
    by_test : ((eqb at other ≡ true) × (at ≡ other)) ⊎ ((eqb at other ≡ false) × (at ≢ other)) → eqb at other ≡ false
    by_test (inl same) = absurd (omega (arith, less, one_number f other m n (subst (λ (x : ℕ). HasBases f x m) same.1 h) k))
    by_test (inr apart) = apart.0

-- one that has more bases is none of them
apart : (f : ℕ → Option (Option ℕ)) (at m other n : ℕ) → HasBases f at m → (h : HasBases f other n) → n < m → AllByRecursion (λ y. eqb at y ≡ false) (chain f other n h)
apart f at m other _ g (Lone _ e) less = (other_than f at m other 0 g (Lone other e) less, tt)
apart f at m other _ g (Derived _ base bases e h) less = (other_than f at m other (suc bases) g (Derived other base bases e h) less, apart f at m base bases g h (omega (arith, less)))

distinct : (f : ℕ → Option (Option ℕ)) (at n : ℕ) (h : HasBases f at n) → IsDistinct eqb (chain f at n h)
unfolding IsDistinct
distinct f at _ (Lone _ e) = (tt, tt)
distinct f at _ (Derived _ base bases e h) = (apart f at (suc bases) base bases (Derived at base bases e h) h (omega arith), distinct f base bases h)

-- each of them is a row
all_within : (classes : ℕ) (f : ℕ → Option (Option ℕ)) → ((at : ℕ) (base : Option ℕ) → f at ≡ Some base → at < classes)
    → (at n : ℕ) (h : HasBases f at n) → (q : ℕ) → list_any (eqb q) (chain f at n h) ≡ true → q < classes
all_within classes f row at _ (Lone _ e) q found = here (eqb q at) refl found
  where
    here : (b : Bool) → eqb q at ≡ b → (b || false) ≡ true → q < classes
    here true is found = subst (λ (x : ℕ). x < classes) (sym (eqb-true q at is)) (row at None e)
    here false is found = absurd cc
all_within classes f row at _ (Derived _ base bases e h) q found = here (all_within classes f row base bases h q) (eqb q at) refl found
  where
    here : (list_any (eqb q) (chain f base bases h) ≡ true → q < classes) → (b : Bool) → eqb q at ≡ b → (b || list_any (eqb q) (chain f base bases h)) ≡ true → q < classes
    here above true is found = subst (λ (x : ℕ). x < classes) (sym (eqb-true q at is)) (row at (Some base) e)
    here above false is found = above found

row_of : (ds : List ClassDecl) (at : ℕ) (base : Option ℕ) → option_map (λ c. c.base) (slice_get ds at) ≡ Some base → at < length ds
row_of ds at base e = by_row (slice_get ds at) refl e
  where
    by_row : (row : Option ClassDecl) → slice_get ds at ≡ row → option_map (λ c. c.base) row ≡ Some base → at < length ds
    by_row None is e = absurd cc
    by_row (Some d) is e = slice_get_within ds at d is

-- no chain of bases is longer than the table
few_bases : (t : Tables) (at n : ℕ) → HasBases (class_base t) at n → n < length t.classes
few_bases t at n h = omega (
  arith,
  chain_length (class_base t) at n h,
  length-le_from_distinct_below (chain (class_base t) at n h) (length t.classes) (distinct (class_base t) at n h) (all_within (length t.classes) (class_base t) (row_of t.classes) at n h),
)

-- ---- steps to a base

test_here : (class base : ℕ) (more : Bool) → class ≡ base → (nat_eq class base || more) ≡ true
test_here class base more same = ap (λ b. b || more) (eq-eqb class base same)

leads_here : (t : Tables) (steps base class : ℕ) → class ≡ base → leads_to t (suc steps) base class ≡ true
leads_here t steps base class same = test_here class base (holds_of (base_of t class) (leads_to t steps base)) same

or_more : (a b : Bool) → b ≡ true → (a || b) ≡ true
or_more true b e = refl
or_more false b e = e

leads_on : (t : Tables) (steps base class next : ℕ) → base_of t class ≡ Some next → leads_to t steps base next ≡ true → leads_to t (suc steps) base class ≡ true
leads_on t steps base class next is on = or_more (nat_eq class base) (holds_of (base_of t class) (leads_to t steps base)) (ap (λ o. holds_of o (leads_to t steps base)) is ∙ on)

pub to_base : (t : Tables) (steps base class : ℕ) → leads_to t steps base class ≡ true → IsA t.classes class base
to_base t zero base class e = absurd cc
to_base t (suc steps) base class e = by_test (λ next. to_base t steps base next) (nat_eq class base) refl e
  where
    on : ((next : ℕ) → leads_to t steps base next ≡ true → IsA t.classes next base) → (o : Option ℕ) → base_of t class ≡ o → holds_of o (leads_to t steps base) ≡ true → IsA t.classes class base
    on above None is e = absurd cc
    on above (Some next) is e = Onward class next base is (above next e)

    by_test : ((next : ℕ) → leads_to t steps base next ≡ true → IsA t.classes next base) → (b : Bool) → nat_eq class base ≡ b → (b || holds_of (base_of t class) (leads_to t steps base)) ≡ true → IsA t.classes class base
    by_test above true is e = subst (IsA t.classes class) (eqb-true class base is) (Here class)
    by_test above false is e = on above (base_of t class) refl e

base_known : (row : Option ClassDecl) (base : ℕ) → option_and_then (λ c. c.base) row ≡ Some base → option_map (λ c. c.base) row ≡ Some (Some base)
base_known None base e = absurd cc
base_known (Some c) base e = ap Some e

-- with so many bases, more steps than these suffice
from_base : (t : Tables) (class base n steps : ℕ) → HasBases (class_base t) class n → n < steps → IsA t.classes class base → leads_to t steps base class ≡ true
from_base t class base n zero has less h = absurd (omega (arith, less))
from_base t class base n (suc steps) has less (Here _) = leads_here t steps base class refl
from_base t class base _ (suc steps) (Lone _ e) less (Onward _ next _ step rest) = let both : Some None ≡ Some (Some next) = sym e ∙ base_known (slice_get t.classes class) next step in absurd cc
from_base t class base _ (suc steps) (Derived _ other bases e has) less (Onward _ next _ step rest) =
    let same : other ≡ next = let both : Some (Some other) ≡ Some (Some next) = sym e ∙ base_known (slice_get t.classes class) next step in cc in
    leads_on t steps base class next step (from_base t next base bases steps (subst (λ (x : ℕ). HasBases (class_base t) x bases) same has) (omega (arith, less)) rest)

from_some : (t : Tables) → IsSchema t → (class base : ℕ) → IsA t.classes class base → leads_to t (suc (length t.classes)) base class ≡ true
from_some t rules class base (Here _) = leads_here t (length t.classes) base class refl
from_some t rules class base (Onward _ next _ step rest) =
    let has = rules.class_bases class (row_of t.classes class (Some next) (base_known (slice_get t.classes class) next step)) in
    from_base t class base has.0 (suc (length t.classes)) has.1 (omega (arith, few_bases t class has.0 has.1)) (Onward class next base step rest)

pub related : (t : Tables) (class base : ℕ) → IsSchema t → IsTrue (is_a t class base) ↔ IsA t.classes class base
related t class base rules = (λ h. to_base t (suc (length t.classes)) base class h, λ h. from_some t rules class base h)
