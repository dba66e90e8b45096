-- What the insertion of a name that is new tells of a set.
use Rattle.std.proofs.Common.{◌≡◌, ◌↔◌, ℕ, ◌+◌, Bool, true, false, not, cond, IsTrue, List, [], ◌∷◌, length, Contains, bytes_eq, refl, sym, ap, ◌∙◌, subst, inl, inr, arith, ◌⊎◌}
use Rattle.std.proofs.lemmas.List.Elements.{Contains-append_left, Contains-append_right, Contains-append_cases, Contains-push, Contains-push_cases}
use Rattle.std.proofs.lemmas.Bool.{false≢true}
use Rattle.std.proofs.lemmas.Slice.Eq.{bytes_eq-Decides}
use Rattle.slice_meaning.specs.Names.{Name}

-- a name of several is the first or one of the others
pub first_or_other : (name other : Name) (names : List Name) → Contains (name ∷ names) other → (name ≡ other) ⊎ Contains names other
first_or_other name other names h = one (Contains-append_cases (name ∷ []) names other h)
  where
    alone : Contains [] other ⊎ (name ≡ other) → (name ≡ other) ⊎ Contains names other
    alone (inl none) = absurd (omega (arith, none.1))
    alone (inr e) = inl e

    one : Contains (name ∷ []) other ⊎ Contains names other → (name ≡ other) ⊎ Contains names other
    one (inl first) = alone (Contains-push_cases [] name other first)
    one (inr behind) = inr behind

-- the first name is one of them
pub first_among : (name : Name) (names : List Name) → Contains (name ∷ names) name
first_among name names = Contains-append_left (name ∷ []) names name (Contains-push [] name)

-- the set of names with one more
pub held_more : (key name : Name) (names : List Name) (was now : Name → Bool) → key ≡ name → ((q : Name) → now q ≡ cond (bytes_eq key q) true (was q)) → ((q : Name) → IsTrue (was q) ↔ Contains names q) → (q : Name)
    → IsTrue (now q) ↔ Contains (name ∷ names) q
held_more key name names was now is updates those q = (there, found)
  where
    there_by : (b : Bool) → bytes_eq key q ≡ b → cond b true (was q) ≡ true → Contains (name ∷ names) q
    there_by true e h = subst (Contains (name ∷ names)) (sym is ∙ (bytes_eq-Decides key q).0 e) (first_among name names)
    there_by false e h = Contains-append_right (name ∷ []) names q ((those q).0 h)

    there : IsTrue (now q) → Contains (name ∷ names) q
    there h = there_by (bytes_eq key q) refl (sym (updates q) ∙ h)

    found_by : (b : Bool) → bytes_eq key q ≡ b → (name ≡ q) ⊎ Contains names q → cond b true (was q) ≡ true
    found_by true e h = refl
    found_by false e (inl same) = absurd (false≢true (sym e ∙ (bytes_eq-Decides key q).1 (is ∙ same)))
    found_by false e (inr other) = (those q).1 other

    found : Contains (name ∷ names) q → IsTrue (now q)
    found h = updates q ∙ found_by (bytes_eq key q) refl (first_or_other name q names h)

-- how many there are with one more
pub one_more : (key name : Name) (names : List Name) (was : Name → Bool) (added : Bool) (before after : ℕ) → key ≡ name → ((q : Name) → IsTrue (was q) ↔ Contains names q) → (Contains names name → ⊥) → added ≡ not (was key)
    → after ≡ before + cond added 1 0 → before ≡ length names → after ≡ length (name ∷ names)
one_more key name names was added before after is those fresh how grown count = by (was key) refl
  where
    by : (b : Bool) → was key ≡ b → after ≡ length (name ∷ names)
    by true e = absurd (fresh ((those name).0 (sym (ap was is) ∙ e)))
    by false e = grown ∙ (ap (λ (b : Bool). before + cond b 1 0) (how ∙ ap not e) ∙ omega (arith, count))
