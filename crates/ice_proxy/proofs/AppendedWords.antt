-- What was appended for the letters at the front of a word.
use Rattle.std.proofs.Common.{ℕ, ◌≡◌, false, List, [], ◌∷◌, ◌++◌, ◌-◌, ◌≤◌, suc, length, get_or, take, drop, Option, None, Some, refl, sym, ap, subst, ◌∙◌, append_assoc, arith}
use Rattle.std.specs.List.{list_any}
use Rattle.std.proofs.lemmas.Bool.{ne_eqb, or_from}
use Rattle.std.proofs.lemmas.List.{append-nil, map-append, take_all}
use Rattle.std.proofs.lemmas.List.Folds.{list_any-append}
use Rattle.ice_prims.proofs.Texts.{from_here}
use Rattle.ice_proxy.specs.Escapes.{Letter, plain, escaped, escape, with_front, letters, bytes_of}
use Rattle.ice_proxy.specs.Taking.{is_stop, Appends}
use Rattle.ice_proxy.proofs.Letters.{letters_plain, letters_escape, front_none, front_then}

-- nothing yet
pub none_appended : (mark : ℕ) (bytes old : List ℕ) → Appends mark bytes old old (Some bytes)
none_appended mark bytes old = ([], record { reads = front_none (letters bytes); goes_on = refl }, sym (append-nil old))

-- a byte as it stands
pub byte_appended : (mark first : ℕ) (others old new : List ℕ) → is_stop mark (plain first) ≡ false → (first ≡ 92 → ⊥) → new ≡ old ++ first ∷ [] → Appends mark (first ∷ others) old new (Some others)
byte_appended mark first others old new goes_on ne e =
    (plain first ∷ [], record { reads = letters_plain first others (ne_eqb first 92 ne); goes_on = or_from (is_stop mark (plain first)) false goes_on refl }, e)

-- what an escape stands for
escaped_goes_on : (mark : ℕ) (bytes : List ℕ) → list_any (is_stop mark) (escaped bytes) ≡ false
escaped_goes_on mark [] = refl
escaped_goes_on mark (b ∷ bs) = escaped_goes_on mark bs

escaped_bytes : (bytes : List ℕ) → bytes_of (escaped bytes) ≡ bytes
escaped_bytes [] = refl
escaped_bytes (b ∷ bs) = ap (λ (l : List ℕ). b ∷ l) (escaped_bytes bs)

pub escape_appended : (mark count : ℕ) (others old new made : List ℕ) → escape others ≡ Some (made, drop count others) → new ≡ old ++ made → Appends mark (92 ∷ others) old new (Some (drop count others))
escape_appended mark count others old new made is e =
    (escaped made, record { reads = letters_escape others (made, drop count others) is; goes_on = escaped_goes_on mark made }, e ∙ ap (λ (l : List ℕ). old ++ l) (sym (escaped_bytes made)))

-- more letters behind those
pub more_appended : (mark : ℕ) (bytes rest old mid new : List ℕ) (found : Option (List ℕ)) → Appends mark bytes old mid (Some rest) → Appends mark rest mid new found → Appends mark bytes old new found
more_appended mark bytes rest old mid new None a b = a.1.reads ∙ ap (with_front a.0) b
more_appended mark bytes rest old mid new (Some left) a b = (
  a.0 ++ b.0,
  record {
    reads = a.1.reads ∙ ap (with_front a.0) b.1.reads ∙ front_then a.0 b.0 (letters left);
    goes_on = list_any-append (is_stop mark) a.0 b.0 ∙ or_from (list_any (is_stop mark) a.0) (list_any (is_stop mark) b.0) a.1.goes_on b.1.goes_on;
  },
  b.2 ∙ ap (λ (l : List ℕ). l ++ bytes_of b.0) a.2 ∙ append_assoc old (bytes_of a.0) (bytes_of b.0) ∙ ap (λ (l : List ℕ). old ++ l) (sym (map-append (λ (l : Letter). l.byte) a.0 b.0)),
)

-- ---- a step of the loop over a word

first_is : (rest : List ℕ) → 1 ≤ length rest → rest ≡ get_or rest 0 0 ∷ take (length rest - 1) (drop 1 rest)
first_is [] le = absurd (omega arith)
first_is (c ∷ cs) le = ap (λ (l : List ℕ). c ∷ l) (sym (take_all (suc (length cs) - 1) cs (omega arith)))

module _ (mark : ℕ) (bytes rest others old mid new : List ℕ) (le : 1 ≤ length rest) (is : others ≡ take (length rest - 1) (drop 1 rest)) (before : Appends mark bytes old mid (Some rest)) where
  at_first : Appends mark bytes old mid (Some (get_or rest 0 0 ∷ others))
  at_first = subst (λ (l : List ℕ). Appends mark bytes old mid (Some l)) (first_is rest le ∙ ap (λ (l : List ℕ). get_or rest 0 0 ∷ l) (sym is)) before

  pub step_broken : Appends mark (get_or rest 0 0 ∷ others) mid new None → letters bytes ≡ None
  step_broken h = more_appended mark bytes (get_or rest 0 0 ∷ others) old mid new None at_first h

  pub step_on : (count : ℕ) → Appends mark (get_or rest 0 0 ∷ others) mid new (Some (drop count others)) → Appends mark bytes old new (Some (take (length others - count) (drop count others)))
  step_on count h = rw (from_here others count) (more_appended mark bytes (get_or rest 0 0 ∷ others) old mid new (Some (drop count others)) at_first h)
