-- Names of one scope, without regard to case, as a set of them in lower case tells.
use Rattle.std.proofs.Common.{◌≡◌, ◌≢◌, ◌↔◌, ◌<◌, ◌+◌, ℕ, Bool, true, false, cond, not, List, [], ◌∷◌, length, drop, get_or, refl, sym, ap, subst, ◌∙◌, inl, inr, ◌⊎◌}
use Rattle.std.specs.Str.{bytes_eq, str_to_ascii_lowercase}
use Rattle.std.proofs.lemmas.List.Elements.{All-nil, All-cons, All-head, All-tail}
use Rattle.std.proofs.lemmas.Slice.Eq.{bytes_eq-Decides}
use Rattle.std.proofs.lemmas.List.{drop_more}
use Rattle.ice_types.specs.declared.declarations.Member.{Member}
use Rattle.ice_types.specs.Fits.{names_of}
use Rattle.ice_types.specs.Names.{IsFree, AreNew, has}

clash : {C : Type 0} (b : Bool) → b ≡ true → b ≡ false → C
clash b p q = absurd cc

abbrev Other : (List ℕ) → (List ℕ) → Type 0
Other name other = str_to_ascii_lowercase other ≢ str_to_ascii_lowercase name

cond_false : (test rest : Bool) → cond test true rest ≡ false → (test ≡ false) × (rest ≡ false)
cond_false true rest h = absurd cc
cond_false false rest h = (refl, h)

cond_true : (test rest : Bool) → cond test true rest ≡ true → (test ≡ true) ⊎ (rest ≡ true)
cond_true true rest h = inl refl
cond_true false rest h = inr h

free : (names : List (List ℕ)) (name : (List ℕ)) → has names (str_to_ascii_lowercase name) ≡ false → IsFree names name
free [] name h = All-nil (Other name)
free (other ∷ names) name h =
    let parts = cond_false (bytes_eq (str_to_ascii_lowercase other) (str_to_ascii_lowercase name)) (has names (str_to_ascii_lowercase name)) h in
    All-cons (Other name) other names
    (λ same. clash _ ((bytes_eq-Decides (str_to_ascii_lowercase other) (str_to_ascii_lowercase name)).1 same) parts.0)
    (free names name parts.1)

taken : (names : List (List ℕ)) (name : (List ℕ)) → has names (str_to_ascii_lowercase name) ≡ true → IsFree names name → ⊥
taken [] name h all = cc
taken (other ∷ names) name h all =
    elim (cond_true (bytes_eq (str_to_ascii_lowercase other) (str_to_ascii_lowercase name)) (has names (str_to_ascii_lowercase name)) h) [
      | inl same ↦ All-head (Other name) other names all ((bytes_eq-Decides (str_to_ascii_lowercase other) (str_to_ascii_lowercase name)).0 same)
      | inr old ↦ taken names name old (All-tail (Other name) other names all)
    ]

-- what the insertion of a name tells, where the set was that of these names
pub was_new : (names : List (List ℕ)) (name lowered : (List ℕ)) (added known : Bool) → lowered ≡ str_to_ascii_lowercase name → added ≡ not known → known ≡ has names lowered → added ≡ true → IsFree names name
was_new names name lowered added true is e same fresh = absurd cc
was_new names name lowered added false is e same fresh = free names name (ap (has names) (sym is) ∙ sym same)

pub was_old : (names : List (List ℕ)) (name lowered : (List ℕ)) (added known : Bool) → lowered ≡ str_to_ascii_lowercase name → added ≡ not known → known ≡ has names lowered → added ≡ false → IsFree names name → ⊥
was_old names name lowered added true is e same old = taken names name (ap (has names) (sym is) ∙ sym same)
was_old names name lowered added false is e same old = absurd cc

pub has_more : (names : List (List ℕ)) (name key lowered : (List ℕ)) (now was : Bool) → key ≡ str_to_ascii_lowercase name → now ≡ cond (bytes_eq key lowered) true was → was ≡ has names lowered
    → now ≡ has (name ∷ names) lowered
has_more names name key lowered now was is e same = e ∙ ap (λ (k : (List ℕ)). cond (bytes_eq k lowered) true was) is ∙ ap (cond (bytes_eq (str_to_ascii_lowercase name) lowered) true) same

-- ---- names one after the other

-- a name more, and what is left of the names, as it was before
pub new_more : (whole : Type 0) (before rest after : List (List ℕ)) (name : List ℕ) → rest ≡ name ∷ after → (whole ↔ AreNew before rest) → IsFree before name → whole ↔ AreNew (name ∷ before) after
new_more whole before rest after name is h free = let g : whole ↔ AreNew before (name ∷ after) = subst (λ (l : List (List ℕ)). whole ↔ AreNew before l) is h in ((λ w. (g.0 w).1), (λ more. g.1 (free, more)))

pub not_new : (whole : Type 0) (before rest after : List (List ℕ)) (name : List ℕ) → rest ≡ name ∷ after → (whole ↔ AreNew before rest) → (IsFree before name → ⊥) → whole → ⊥
not_new whole before rest after name is h taken w = let g : whole ↔ AreNew before (name ∷ after) = subst (λ (l : List (List ℕ)). whole ↔ AreNew before l) is h in taken ((g.0 w).0)

pub name_left : (ms : List Member) (i : ℕ) (m : Member) → i < length ms → m ≡ get_or ms i m → names_of (drop i ms) ≡ m.name ∷ names_of (drop (i + 1) ms)
name_left ms i m lt is = ap names_of (drop_more ms i m lt ∙ ap (λ (x : Member). x ∷ drop (i + 1) ms) (sym is))
