-- Levels that are put on and taken off, as they are seen.
use Rattle.std.proofs.Common.{◌≡◌, List, [], ◌∷◌, ◌++◌, ap, ◌∙◌, map}
use Rattle.std.specs.Prelude.{Option, Some, None, MatchOption}
use Rattle.std.proofs.lemmas.List.{map-append}

module _ {A B : Type 0} (f : A → B) where
  pub pushed : (old new : List A) (x : A) → new ≡ old ++ x ∷ [] → map f new ≡ map f old ++ f x ∷ []
  pushed old new x e = ap (map f) e ∙ map-append f old (x ∷ [])

  pub popped : (r : Option A) (old new : List A) → MatchOption r ((old ≡ []) × (new ≡ [])) (λ x. old ≡ new ++ x ∷ [])
      → MatchOption r ((map f old ≡ []) × (map f new ≡ [])) (λ x. map f old ≡ map f new ++ f x ∷ [])
  popped None old new h = (ap (map f) h.0, ap (map f) h.1)
  popped (Some x) old new h = pushed new old x h
