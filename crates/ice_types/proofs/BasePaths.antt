-- How many bases interfaces have by paths when other rows come.
use Rattle.std.proofs.Common.{◌≡◌, ◌≢◌, ℕ, zero, suc, ◌<◌, ◌≤◌, List, [], ◌∷◌, ◌++◌, length, Some, None, refl, sym, ap, ◌∙◌, arith}
use Rattle.std.specs.Prelude.{slice_get, slice_index_or, All, sum_by}
use Rattle.std.proofs.lemmas.List.Elements.{All-nil}
use Rattle.ice_types.specs.declared.declarations.InterfaceDecl.{InterfaceDecl}
use Rattle.ice_types.specs.Tables.{changed}
use Rattle.ice_types.specs.Measures.{bases_in, paths_in}
use Rattle.ice_types.proofs.Sums.{same_sums, within_sum}

-- one more that has no bases
pub bases_front : (interfaces : List InterfaceDecl) (new : InterfaceDecl) → new.bases ≡ [] → (at : ℕ) → bases_in interfaces at ≡ bases_in (interfaces ++ new ∷ []) at
bases_front [] new none zero = sym none
bases_front [] new none (suc at) = refl
bases_front (i ∷ interfaces) new none zero = refl
bases_front (i ∷ interfaces) new none (suc at) = bases_front interfaces new none at

pub no_paths : (interfaces : List InterfaceDecl) (levels at : ℕ) → bases_in interfaces at ≡ [] → 0 ≡ paths_in interfaces levels at
unfolding paths_in
no_paths interfaces zero at none = refl
no_paths interfaces (suc levels) at none = sym (ap (sum_by (λ base. suc (paths_in interfaces levels base))) none)

pub none_in : (interfaces : List InterfaceDecl) (at : ℕ) → slice_get interfaces at ≡ None → bases_in interfaces at ≡ []
none_in [] at e = refl
none_in (i ∷ interfaces) zero e = absurd cc
none_in (i ∷ interfaces) (suc at) e = none_in interfaces at e

pub no_bases : (interfaces : List InterfaceDecl) (at : ℕ) → length interfaces ≤ at → bases_in interfaces at ≡ []
no_bases [] at past = refl
no_bases (i ∷ interfaces) zero past = absurd (omega (arith, past))
no_bases (i ∷ interfaces) (suc at) past = no_bases interfaces at (omega (arith, past))

-- one that is changed, and each other
pub bases_other : (change : InterfaceDecl → InterfaceDecl) (interfaces : List InterfaceDecl) (at other : ℕ) → other ≢ at → bases_in interfaces other ≡ bases_in (changed change interfaces at) other
bases_other change [] at other apart = refl
bases_other change (i ∷ interfaces) zero zero apart = absurd (apart refl)
bases_other change (i ∷ interfaces) zero (suc other) apart = refl
bases_other change (i ∷ interfaces) (suc at) zero apart = refl
bases_other change (i ∷ interfaces) (suc at) (suc other) apart = bases_other change interfaces at other (λ e. apart (ap suc e))

pub bases_changed : (change : InterfaceDecl → InterfaceDecl) (bases : List ℕ) → ((i : InterfaceDecl) → (change i).bases ≡ bases) → (interfaces : List InterfaceDecl) (at : ℕ) → at < length interfaces → bases_in (changed change interfaces at) at ≡ bases
bases_changed change bases has [] at lt = absurd (omega (arith, lt))
bases_changed change bases has (i ∷ interfaces) zero lt = has i
bases_changed change bases has (i ∷ interfaces) (suc at) lt = bases_changed change bases has interfaces at (omega (arith, lt))

pub all_bases : (interfaces : List InterfaceDecl) (Is : ℕ → Type 0) → ((at : ℕ) (i : InterfaceDecl) → slice_get interfaces at ≡ Some i → All Is i.bases) → (at : ℕ) → All Is (bases_in interfaces at)
all_bases [] Is each at = All-nil Is
all_bases (i ∷ interfaces) Is each zero = each zero i refl
all_bases (i ∷ interfaces) Is each (suc at) = all_bases interfaces Is (λ at. each (suc at)) at

-- with the same bases
pub same_paths : (before after : List InterfaceDecl) → ((at : ℕ) → bases_in before at ≡ bases_in after at) → (levels at : ℕ) → paths_in before levels at ≡ paths_in after levels at
unfolding paths_in
same_paths before after same zero at = refl
same_paths before after same (suc levels) at =
    same_sums (λ base. suc (paths_in before levels base)) (λ base. suc (paths_in after levels base)) (bases_in before at) (λ k d lt. ap suc (same_paths before after same levels (slice_index_or (bases_in before at) k d)))
    ∙ ap (sum_by (λ base. suc (paths_in after levels base))) (same at)

-- with the same bases at each place but one, which is no base
pub other_paths : (before after : List InterfaceDecl) (place : ℕ) → ((at : ℕ) → at ≢ place → bases_in before at ≡ bases_in after at) → ((at : ℕ) → All (λ base. base ≢ place) (bases_in before at))
    → (levels at : ℕ) → at ≢ place → paths_in before levels at ≡ paths_in after levels at
unfolding paths_in
other_paths before after place same apart zero at other = refl
other_paths before after place same apart (suc levels) at other =
    same_sums (λ base. suc (paths_in before levels base)) (λ base. suc (paths_in after levels base)) (bases_in before at)
    (λ k d lt. ap suc (other_paths before after place same apart levels (slice_index_or (bases_in before at) k d) (apart at k d lt)))
    ∙ ap (sum_by (λ base. suc (paths_in after levels base))) (same at other)

-- more levels find no more, once the levels are more than the bases
pub enough_levels : (interfaces : List InterfaceDecl) (levels at : ℕ) → paths_in interfaces (suc levels) at ≤ levels → paths_in interfaces levels at ≡ paths_in interfaces (suc levels) at
unfolding paths_in
enough_levels interfaces zero at few = omega (arith, few)
enough_levels interfaces (suc levels) at few =
    same_sums (λ base. suc (paths_in interfaces levels base)) (λ base. suc (paths_in interfaces (suc levels) base)) (bases_in interfaces at)
    (λ k d lt. ap suc (enough_levels interfaces levels (slice_index_or (bases_in interfaces at) k d) (omega (arith, few, within_sum (λ base. suc (paths_in interfaces (suc levels) base)) (bases_in interfaces at) k d lt))))

-- the paths of one that now has these bases
pub paths_now : (before after : List InterfaceDecl) (levels at : ℕ) (bases : List ℕ) → bases_in after at ≡ bases → sum_by (λ base. suc (paths_in before (suc levels) base)) bases ≤ levels
    → All (λ base. paths_in before levels base ≡ paths_in after levels base) bases → sum_by (λ base. suc (paths_in before (suc levels) base)) bases ≡ paths_in after (suc levels) at
unfolding paths_in
paths_now before after levels at bases is few same =
    same_sums (λ base. suc (paths_in before (suc levels) base)) (λ base. suc (paths_in after levels base)) bases
    (λ k d lt. ap suc (sym (enough_levels before levels (slice_index_or bases k d) (omega (arith, few, within_sum (λ base. suc (paths_in before (suc levels) base)) bases k d lt))) ∙ same k d lt))
    ∙ sym (ap (sum_by (λ base. suc (paths_in after levels base))) is)
