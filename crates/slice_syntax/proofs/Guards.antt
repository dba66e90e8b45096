-- What stands before the modules, one by one.
use Rattle.std.proofs.Common.{ℕ, ◌≡◌, Bool, true, false, ◌||◌, List, [], ◌∷◌, ◌++◌, refl, ap, ◌∙◌, append_assoc}
use Rattle.slice_syntax.specs.declared.terminal.Terminal.TheVariants as terminals
use Rattle.slice_syntax.specs.Grammar.{many}
use Rattle.slice_syntax.specs.Reading.{starts}
use Rattle.slice_syntax.specs.Terminals.{open_two}
use Rattle.slice_syntax.specs.Rules.{texts, file_metadata}
use Rattle.slice_syntax.specs.Files.{Head, guard, aside, include, directive, is_guarded, includes_in}
use Rattle.slice_syntax.proofs.Fitting.{fits}
use Rattle.slice_syntax.proofs.Nesting.{append_none}

abbrev pub Told : Type 0
Told = Bool × List (List ℕ × ℕ)

-- what heads tell after others
abbrev pub told : Bool → List (List ℕ × ℕ) → List Head → Told
told guarded included hs = (guarded || is_guarded hs, included ++ includes_in hs)

pair : (g d : Bool) (a b : List (List ℕ × ℕ)) → g ≡ d → a ≡ b → ◌≡◌ {A = Told} (g, a) (d, b)
pair g d a b e f = ap (λ (x : Bool). first x) e ∙ ap (λ (y : List (List ℕ × ℕ)). second y) f where
  first : Bool → Told
  first x = (x, a)

  second : List (List ℕ × ℕ) → Told
  second y = (d, y)

or_false : (g : Bool) → (g || false) ≡ g
or_false true = refl
or_false false = refl

or_true : (g : Bool) (b : Bool) → ((g || true) || b) ≡ (g || true)
or_true true b = refl
or_true false b = refl

pub told_more : (g d : Bool) (included after : List (List ℕ × ℕ)) (h : Head) (hs : List Head) → d ≡ (g || is_guarded (h ∷ [])) → after ≡ included ++ includes_in (h ∷ []) → told d after hs ≡ told g included (h ∷ hs)
told_more g d included after guard hs e f = pair (d || is_guarded hs) (g || true) (after ++ includes_in hs) (included ++ includes_in hs) (ap (λ (x : Bool). x || is_guarded hs) e ∙ or_true g (is_guarded hs)) (ap (λ (z : List (List ℕ × ℕ)). z ++ includes_in hs) (f ∙ append_none included))
told_more g d included after aside hs e f = pair (d || is_guarded hs) (g || is_guarded hs) (after ++ includes_in hs) (included ++ includes_in hs) (ap (λ (x : Bool). x || is_guarded hs) (e ∙ or_false g)) (ap (λ (z : List (List ℕ × ℕ)). z ++ includes_in hs) (f ∙ append_none included))
told_more g d included after (include n) hs e f =
    pair (d || is_guarded hs) (g || is_guarded hs) (after ++ includes_in hs) (included ++ n ∷ includes_in hs) (ap (λ (x : Bool). x || is_guarded hs) (e ∙ or_false g)) (ap (λ (z : List (List ℕ × ℕ)). z ++ includes_in hs) f ∙ append_assoc included (n ∷ []) (includes_in hs))

pub told_none : (g : Bool) (included : List (List ℕ × ℕ)) → told g included [] ≡ (g, included)
told_none g included = pair (g || false) g (included ++ []) included (or_false g) (append_none included)

pub still : (g b : Bool) → g ≡ true → g ≡ (g || b)
still true b e = refl
still false b e = absurd cc

pub now_so : (g b d : Bool) → g ≡ false → d ≡ b → d ≡ (g || b)
now_so true b d e f = absurd cc
now_so false b d e f = f

pub fits_heads : fits (many directive) ≡ true
unfolding texts file_metadata directive
fits_heads = refl

pub starts_directive : starts directive ≡ terminals.Include ∷ terminals.Guard ∷ terminals.Aside ∷ open_two ∷ []
unfolding texts file_metadata directive
starts_directive = refl
