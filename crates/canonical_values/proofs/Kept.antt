-- What the walk keeps: if what is left of the bytes is what the frames wait for, the whole is canonical.
use Rattle.std.proofs.Common.{◌≡◌, ℕ, ◌≤◌, List, [], ◌∷◌, ◌++◌, length, drop, sym, subst}
use Rattle.ice_types.specs.declared.kind.TypeRef.{TypeRef}
use Rattle.ice_types.specs.Tables.{Tables}
use Rattle.canonical_values.specs.declared.frame.Left.TheVariants.{Items}
use Rattle.canonical_values.specs.declared.frame.Frame.{Frame}
use Rattle.canonical_values.specs.declared.frame.Step.{Step}
use Rattle.canonical_values.specs.declared.frame.Step.TheVariants as steps
use Rattle.canonical_values.specs.Standing.{IsCanonical}
use Rattle.canonical_values.specs.Frames.{Fills, FillAll, Steps}
use Rattle.canonical_values.proofs.Passed.{went_on, went_in, went_out, all_of_it}

module _ (t : Tables) (kind : TypeRef) (input : List ℕ) where
  abbrev pub Kept : List Frame → Frame → ℕ → Type 0
  Kept fs top at = (at ≤ length input) × (FillAll t input (fs ++ top ∷ []) (drop at input) → IsCanonical t kind input)

  pub kept_at_first : (fs : List Frame) (top : Frame) → fs ≡ [] → top ≡ record { levels = 100; left = Items kind 1 } → FillAll t input (fs ++ top ∷ []) input → IsCanonical t kind input
  unfolding IsCanonical
  kept_at_first fs top none is h =
      all_of_it t input 100 kind input (subst (λ (f : Frame). FillAll t input (f ∷ []) input) is (subst (λ (gs : List Frame). FillAll t input (gs ++ top ∷ []) input) none h))

  pub same_place : (fs gs : List Frame) (top other : Frame) (at place : ℕ) → fs ≡ gs → top ≡ other → at ≡ place → Kept gs other place → Kept fs top at
  same_place fs gs top other at place e f g h =
      subst (λ (n : ℕ). Kept fs top n) (sym g) (subst (λ (x : Frame). Kept fs x place) (sym f) (subst (λ (xs : List Frame). Kept xs other place) (sym e) h))

  pub kept_on : (fs : List Frame) (old new : Frame) (at next : ℕ) (s : Step) → s ≡ steps.On next new → Steps t input at old s → Kept fs old at → Kept fs new next
  kept_on fs old new at next s is h k =
      let g : Steps t input at old (steps.On next new) = subst (λ (x : Step). Steps t input at old x) is h in
      (g.1.0, λ all. k.1 (went_on t input fs old new at next g all))

  pub kept_in : (fs gs : List Frame) (old new inside : Frame) (at next : ℕ) (s : Step) → s ≡ steps.Into next new inside → gs ≡ fs ++ new ∷ [] → Steps t input at old s → Kept fs old at → Kept gs inside next
  kept_in fs gs old new inside at next s is e h k =
      let g : Steps t input at old (steps.Into next new inside) = subst (λ (x : Step). Steps t input at old x) is h in
      subst (λ (xs : List Frame). Kept xs inside next) (sym e) (g.1.0, λ all. k.1 (went_in t input fs old new inside at next g all))

  pub kept_out : (fs gs : List Frame) (old top : Frame) (at : ℕ) (s : Step) → s ≡ steps.Done → fs ≡ gs ++ top ∷ [] → Steps t input at old s → Kept fs old at → Kept gs top at
  kept_out fs gs old top at s is e h k =
      let g : Fills t input old [] = subst (λ (x : Step). Steps t input at old x) is h in
      (k.0, λ all. k.1 (went_out t input fs old (drop at input) g (subst (λ (xs : List Frame). FillAll t input xs (drop at input)) (sym e) all)))
