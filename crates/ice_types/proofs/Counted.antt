-- What a schema keeps beside its rows counts their bases.
use Rattle.std.proofs.Common.{ℕ, suc, ◌<◌, ◌≤◌, ◌≡◌, List, [], ◌∷◌, length, Option, None, Some, refl, sym, ap, ◌∙◌, subst, arith}
use Rattle.std.specs.Prelude.{slice_get}
use Rattle.std.specs.List.{sum_by}
use Rattle.std.specs.Option.{option_and_then, option_map, is_some}
use Rattle.std.proofs.lemmas.List.{length-map}
use Rattle.std.proofs.lemmas.Option.{option_and_then_some, slice_get_within}
use Rattle.std.proofs.lemmas.List.Sums.{sum_by-cons}
use Rattle.ice_types.specs.declared.declarations.ClassDecl.{ClassDecl}
use Rattle.ice_types.specs.declared.declarations.InterfaceDecl.{InterfaceDecl}
use Rattle.ice_types.specs.Tables.{Tables}
use Rattle.ice_types.specs.Measures.{bases_in, paths_in}
use Rattle.ice_types.specs.Bases.{class_base, HasBases, Lone, Derived}
use Rattle.ice_types.specs.Rules.{Beside, IsKept, bases_by}
use Rattle.ice_types.specs.Inherited.{base_in, CountsClassBases, CountsBases}
use Rattle.ice_types.specs.Kept.{above_of, counted}
use Rattle.ice_types.proofs.BaseChains.{bases_by_row, counted_by}
use Rattle.ice_types.proofs.BasePaths.{enough_levels, no_paths, none_in}
use Rattle.ice_types.proofs.Items.{both_end}

-- ---- classes

one_count : (base_of : ℕ → Option (Option ℕ)) (at m n : ℕ) → HasBases base_of at m → HasBases base_of at n → m ≡ n
one_count base_of at _ _ (Lone _ e) (Lone _ f) = refl
one_count base_of at _ _ (Lone _ e) (Derived _ base bases f h) = let both : Some None ≡ Some (Some base) = sym e ∙ f in absurd cc
one_count base_of at _ _ (Derived _ base bases e g) (Lone _ f) = let both : Some (Some base) ≡ Some None = sym e ∙ f in absurd cc
one_count base_of at _ _ (Derived _ base bases e g) (Derived _ other others f h) =
    let same : other ≡ base = let both : Some (Some other) ≡ Some (Some base) = sym f ∙ e in cc in
    ap suc (one_count base_of base bases others g (subst (λ (x : ℕ). HasBases base_of x others) same h))

base_is : (row : Option ClassDecl) (base : ℕ) → option_and_then (λ c. c.base) row ≡ Some base → option_map (λ c. c.base) row ≡ Some (Some base)
base_is None base e = absurd cc
base_is (Some c) base e = ap Some e

-- a row that is kept beside a class
kept_beside : (t : Tables) (beside : Beside) → IsKept t beside → (at bases : ℕ) → HasBases (class_base t) at bases → (above_of beside.classes at).bases ≡ bases
kept_beside t beside kept at bases has = bases_by_row beside.classes at (λ n. n ≡ bases)
    (λ e. absurd (no_class bases (both_end beside.classes t.classes lengths at e) has)) (λ count e. one_count (class_base t) at (bases_by count) bases (kept.classes at count e).0 has)
  where
    lengths : length beside.classes ≡ length t.classes
    lengths = sym (length-map beside.classes (λ b. is_some b)) ∙ ap length (sym kept.class_flags) ∙ kept.rules.class_flags

    no_class : (n : ℕ) → slice_get t.classes at ≡ None → HasBases (class_base t) at n → ⊥
    no_class n e (Lone _ f) = let both : None ≡ Some None = sym (ap (option_map (λ c. c.base)) e) ∙ f in cc
    no_class n e (Derived _ base others f h) = let both : None ≡ Some (Some base) = sym (ap (option_map (λ c. c.base)) e) ∙ f in cc

-- the bases of a class, as its row is kept
class_has : (t : Tables) (beside : Beside) → IsKept t beside → (at base : ℕ) → base_in t.classes at ≡ Some base → (bases : ℕ) × HasBases (class_base t) at (suc bases) × HasBases (class_base t) base bases
class_has t beside kept at base e = of_row (kept.rules.class_bases at within)
  where
    is : class_base t at ≡ Some (Some base)
    is = base_is (slice_get t.classes at) base e

    within : at < length t.classes
    within = option_and_then_some (λ c. c.base) (slice_get t.classes at) base e λ c c_is of_c. slice_get_within t.classes at c c_is

    of_row : (bases : ℕ) × HasBases (class_base t) at bases → (bases : ℕ) × HasBases (class_base t) at (suc bases) × HasBases (class_base t) base bases
    of_row (_, Lone _ f) = let both : Some None ≡ Some (Some base) = sym f ∙ is in absurd cc
    of_row (_, Derived _ other others f h) =
        let same : other ≡ base = let both : Some (Some other) ≡ Some (Some base) = sym f ∙ is in cc in
        let has = subst (λ (x : ℕ). HasBases (class_base t) x others) same h in (others, Derived at base others is has, has)

pub class_counts : (t : Tables) (beside : Beside) → IsKept t beside → CountsClassBases t.classes beside.classes
class_counts t beside kept at base e =
    let has = class_has t beside kept at base e in
    omega (arith, kept_beside t beside kept at (suc has.0) has.1, kept_beside t beside kept base has.0 has.2)

-- ---- interfaces

sum_same : (f g : ℕ → ℕ) (most : ℕ) (xs : List ℕ) → sum_by (λ b. suc (f b)) xs ≤ most → ((b : ℕ) → suc (f b) ≤ most → g b ≡ f b) → sum_by (λ b. suc (g b)) xs ≡ sum_by (λ b. suc (f b)) xs
sum_same f g most [] le same = refl
sum_same f g most (x ∷ xs) le same =
    let total = sum_by-cons (λ b. suc (f b)) x xs in
    let other = sum_by-cons (λ b. suc (g b)) x xs in
    omega (arith, total, other, same x (omega (arith, le, total)), sum_same f g most xs (omega (arith, le, total)) same)

-- a base with its own bases
with_own : (interfaces : List InterfaceDecl) (levels at : ℕ) → sum_by (λ b. suc (paths_in interfaces (suc levels) b)) (bases_in interfaces at) ≤ levels
    → paths_in interfaces (suc levels) at ≡ sum_by (λ b. suc (paths_in interfaces (suc levels) b)) (bases_in interfaces at)
unfolding paths_in
with_own interfaces levels at le =
    sum_same (λ b. paths_in interfaces (suc levels) b) (λ b. paths_in interfaces levels b) levels (bases_in interfaces at) le (λ b within. enough_levels interfaces levels b (omega (arith, within)))

module _ (t : Tables) (beside : Beside) (kept : IsKept t beside) where
  counted_paths : (at : ℕ) → counted beside.interfaces at ≡ paths_in t.interfaces 1001 at
  counted_paths at = counted_by beside.interfaces at (λ n. n ≡ paths_in t.interfaces 1001 at)
      (λ e. no_paths t.interfaces 1001 at (none_in t.interfaces at (both_end beside.interfaces t.interfaces lengths at e))) (kept.interfaces at)
    where
      lengths : length beside.interfaces ≡ length t.interfaces
      lengths = sym (length-map beside.interfaces (λ b. is_some b)) ∙ ap length (sym kept.interface_flags) ∙ kept.rules.interface_flags

  few : (at : ℕ) → sum_by (λ b. suc (paths_in t.interfaces 1001 b)) (bases_in t.interfaces at) ≤ 1000
  few at = by_row (slice_get t.interfaces at) refl
    where
      by_row : (row : Option InterfaceDecl) → slice_get t.interfaces at ≡ row → sum_by (λ b. suc (paths_in t.interfaces 1001 b)) (elim row [ None ↦ [] | Some i ↦ i.bases ]) ≤ 1000
      by_row None e = omega arith
      by_row (Some i) e = (kept.rules.interfaces at i e).0.2

  pub interface_counts : CountsBases t.interfaces beside.interfaces
  interface_counts at =
      let own = with_own t.interfaces 1000 at (few at) in
      let counts : sum_by (λ b. suc (counted beside.interfaces b)) (bases_in t.interfaces at) ≡ sum_by (λ b. suc (paths_in t.interfaces 1001 b)) (bases_in t.interfaces at)
      = sum_same (paths_in t.interfaces 1001) (counted beside.interfaces) 1000 (bases_in t.interfaces at) (few at) (λ b within. counted_paths b) in
      (counted_paths at ∙ own ∙ sym counts, omega (arith, counted_paths at, own, few at))
