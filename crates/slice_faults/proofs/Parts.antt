-- Type ids, part by part.
use Rattle.std.proofs.Common.{◌≡◌, ℕ, List, [], ◌∷◌, ◌++◌, take, map, refl, sym, ap, ◌∙◌, append_assoc}
use Rattle.std.specs.Prelude.{codes}
use Rattle.std.specs.Borrow.{Bor}
use Rattle.std.proofs.lemmas.List.{map-append}
use Rattle.slice_meaning.specs.Names.{Name, Scope, type_id}

-- the part of a name
abbrev pub part : Name → List ℕ
part name = codes "::" ++ name

-- the parts of a scope
abbrev pub parts : Scope → List ℕ
parts [] = []
parts (name ∷ scope) = parts scope ++ part name

pub of_parts : (scope : Scope) (name : Name) → type_id scope name ≡ parts scope ++ part name
of_parts [] name = refl
of_parts (inner ∷ outer) name = ap (λ (l : List ℕ). l ++ part name) (of_parts outer inner)

-- a name is taken off the end
pub taken : (names rest : List (Bor (List ℕ))) (last : Bor (List ℕ)) (written all : Scope) → names ≡ rest ++ last ∷ [] → map (λ name. name.now) names ++ written ≡ all
    → map (λ name. name.now) rest ++ (last.now ∷ written) ≡ all
taken names rest last written all is so =
    sym (append_assoc (map (λ name. name.now) rest) (last.now ∷ []) written)
    ∙ (ap (λ (l : Scope). l ++ written) (sym (map-append (λ (name : Bor (List ℕ)). name.now) rest (last ∷ [])) ∙ ap (map (λ (name : Bor (List ℕ)). name.now)) (sym is)) ∙ so)

-- a name is put last
pub put : (names more : List (Bor (List ℕ))) (name : Bor (List ℕ)) (scope outer all : Scope) → more ≡ names ++ name ∷ [] → scope ≡ name.now ∷ outer → map (λ name. name.now) names ++ scope ≡ all
    → map (λ name. name.now) more ++ outer ≡ all
put names more name scope outer all is inner so =
    ap (λ (l : List (Bor (List ℕ))). map (λ name. name.now) l ++ outer) is
    ∙ (ap (λ (l : Scope). l ++ outer) (map-append (λ (name : Bor (List ℕ)). name.now) names (name ∷ []))
    ∙ (append_assoc (map (λ name. name.now) names) (name.now ∷ []) outer ∙ (sym (ap (λ (l : Scope). map (λ name. name.now) names ++ l) inner) ∙ so)))

pub begins : (id : List ℕ) (scope : Scope) (name : Name) → id ≡ type_id scope name → take 2 id ≡ codes "::"
begins id scope name is = ap (take 2) (is ∙ of_parts scope name) ∙ starts scope name
  where
    joined : (xs ys : List ℕ) → take 2 xs ≡ codes "::" → take 2 (xs ++ ys) ≡ codes "::"
    joined [] ys h = absurd cc
    joined (x ∷ []) ys h = absurd cc
    joined (x ∷ y ∷ xs) ys h = h

    starts : (s : Scope) (n : Name) → take 2 (parts s ++ part n) ≡ codes "::"
    starts [] n = refl
    starts (inner ∷ outer) n = joined (parts outer ++ part inner) (part n) (starts outer inner)
