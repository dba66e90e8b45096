-- What an escape takes, and the letters of bytes, one at a time.
use Rattle.std.proofs.Common.{ℕ, zero, suc, ◌+◌, ◌*◌, ◌<◌, ◌≤◌, ◌≡◌, Bool, true, false, cond, eqb, ltb, ◌&&◌, List, [], ◌∷◌, ◌++◌, length, Option, None, Some, refl, sym, ap, subst, append_assoc, inl, inr, arith}
use Rattle.std.specs.Option.{option_and_then}
use Rattle.std.specs.Char.{digit_value, encode_utf8}
use lib.Utf8.{scalar}
use Rattle.std.proofs.lemmas.Str.{length-encode, len_utf8_bounds}
use Rattle.ice_prims.proofs.Parts.{chosen}
use Rattle.ice_proxy.specs.Escapes.{Letter, with_front, plain, escaped, short_escapes, found_in, Escape, octal, digits, character, escape, letters_within, letters}

pub some_is : {A : Type 0} (x y : A) → Some x ≡ Some y → x ≡ y
some_is x y e = cc

pub then_some : {A B C : Type 0} (o : Option A) (f : A → Option B) (y : B) → option_and_then f o ≡ Some y → ((x : A) → o ≡ Some x → f x ≡ Some y → C) → C
then_some (Some x) f y e go = go x refl e
then_some None f y e go = absurd cc

-- ---- an escape takes a byte at least, and stands for one at least

abbrev pub Takes : List ℕ → List ℕ × List ℕ → Type 0
Takes bytes x = (length x.1 ≤ length bytes) × (0 < length x.0)

digits_shorter : (n value : ℕ) (bytes : List ℕ) (d : ℕ × List ℕ) → digits n value bytes ≡ Some d → length d.1 ≤ length bytes
digits_shorter zero value bytes d e = subst (λ (x : ℕ × List ℕ). length x.1 ≤ length bytes) (some_is (value, bytes) d e) (omega arith)
digits_shorter (suc n) value [] d e = absurd cc
digits_shorter (suc n) value (c ∷ cs) d e = elim (chosen (ltb (digit_value c) 16) (digits n (value * 16 + digit_value c) cs) None (Some d) e) [
  | inl h ↦ let k = digits_shorter n (value * 16 + digit_value c) cs d h.1 in omega arith
  | inr h ↦ absurd (let k = h.1 in cc)
]

character_takes : (n : ℕ) (bytes : List ℕ) (x : List ℕ × List ℕ) → character n bytes ≡ Some x → Takes bytes x
character_takes n bytes x e = then_some (digits n 0 bytes) (λ d. cond (scalar d.0) (Some (encode_utf8 d.0, d.1)) None) x e
    (λ d is e. elim (chosen (scalar d.0) (Some (encode_utf8 d.0, d.1)) None (Some x) e) [
      | inl h ↦
          let some = (len_utf8_bounds d.0).0 in
          let filled : 0 < length (encode_utf8 d.0) = omega (arith, length-encode d.0) in
          subst (Takes bytes) (some_is (encode_utf8 d.0, d.1) x h.1) (digits_shorter n 0 bytes d is, filled)
      | inr h ↦ absurd (let k = h.1 in cc)
    ])

octal_takes : (bytes : List ℕ) (x : List ℕ × List ℕ) → octal bytes ≡ Some x → Takes bytes x
octal_takes [] x e = absurd cc
octal_takes (a ∷ []) x e = absurd cc
octal_takes (a ∷ b ∷ []) x e = absurd cc
octal_takes (a ∷ b ∷ c ∷ rest) x e =
    let made : List ℕ × List ℕ = ((digit_value a * 64 + (digit_value b * 8 + digit_value c)) ∷ [], rest) in
    elim (chosen (ltb (digit_value a) 4 && (ltb (digit_value b) 8 && ltb (digit_value c) 8)) (Some made) None (Some x) e) [
      | inl h ↦ subst (Takes (a ∷ b ∷ c ∷ rest)) (some_is made x h.1) (omega arith, omega arith)
      | inr h ↦ absurd (let k = h.1 in cc)
    ]

longer : (c : ℕ) (cs : List ℕ) (x : List ℕ × List ℕ) → Takes cs x → Takes (c ∷ cs) x
longer c cs x h = (omega (arith, h.0), h.1)

pub escape_takes : (bytes : List ℕ) (x : List ℕ × List ℕ) → escape bytes ≡ Some x → Takes bytes x
escape_takes [] x e = absurd cc
escape_takes (c ∷ cs) x e = by_short (found_in c short_escapes) e
  where
    by_short : (o : Option ℕ) → elim o as (λ s. Escape) [ Some b ↦ Some (b ∷ [], cs) | None ↦ cond (eqb c 117) (character 4 cs) (cond (eqb c 85) (character 8 cs) (octal (c ∷ cs))) ] ≡ Some x → Takes (c ∷ cs) x
    by_short (Some b) e = subst (Takes (c ∷ cs)) (some_is (b ∷ [], cs) x e) (omega arith, omega arith)
    by_short None e = elim (chosen (eqb c 117) (character 4 cs) (cond (eqb c 85) (character 8 cs) (octal (c ∷ cs))) (Some x) e) [
      | inl h ↦ longer c cs x (character_takes 4 cs x h.1)
      | inr h ↦ elim (chosen (eqb c 85) (character 8 cs) (octal (c ∷ cs)) (Some x) h.1) [
        | inl k ↦ longer c cs x (character_takes 8 cs x k.1)
        | inr k ↦ octal_takes (c ∷ cs) x k.1
      ]
    ]

-- ---- as many steps as bytes are enough

pub front_none : (found : Option (List Letter)) → found ≡ with_front [] found
front_none None = refl
front_none (Some ls) = refl

pub front_then : (a b : List Letter) (found : Option (List Letter)) → with_front a (with_front b found) ≡ with_front (a ++ b) found
front_then a b None = refl
front_then a b (Some ls) = ap (λ (l : List Letter). Some l) (sym (append_assoc a b ls))

module _ (m n : ℕ) (c : ℕ) (cs : List ℕ) (again : (bytes : List ℕ) → length bytes ≤ length cs → letters_within m bytes ≡ letters_within n bytes) where
  by_escape : (e : Escape) → escape cs ≡ e → option_and_then (λ x. with_front (escaped x.0) (letters_within m x.1)) e ≡ option_and_then (λ x. with_front (escaped x.0) (letters_within n x.1)) e
  by_escape None is = refl
  by_escape (Some x) is = ap (with_front (escaped x.0)) (again x.1 (escape_takes cs x is).0)

  by_first : (b : Bool) → cond b (option_and_then (λ x. with_front (escaped x.0) (letters_within m x.1)) (escape cs)) (with_front (plain c ∷ []) (letters_within m cs))
      ≡ cond b (option_and_then (λ x. with_front (escaped x.0) (letters_within n x.1)) (escape cs)) (with_front (plain c ∷ []) (letters_within n cs))
  by_first true = by_escape (escape cs) refl
  by_first false = ap (with_front (plain c ∷ [])) (again cs (omega arith))

pub steps_suffice : (m n : ℕ) (bytes : List ℕ) → length bytes ≤ m → length bytes ≤ n → letters_within m bytes ≡ letters_within n bytes
steps_suffice m n [] p q = refl
steps_suffice zero n (c ∷ cs) p q = absurd (omega arith)
steps_suffice (suc m) zero (c ∷ cs) p q = absurd (omega arith)
steps_suffice (suc m) (suc n) (c ∷ cs) p q = by_first m n c cs (λ bytes h. steps_suffice m n bytes (omega arith) (omega arith)) (eqb c 92)

-- ---- one letter, or those of one escape

pub letters_plain : (c : ℕ) (cs : List ℕ) → eqb c 92 ≡ false → letters (c ∷ cs) ≡ with_front (plain c ∷ []) (letters cs)
letters_plain c cs e = rw e refl

pub letters_escape : (cs : List ℕ) (x : List ℕ × List ℕ) → escape cs ≡ Some x → letters (92 ∷ cs) ≡ with_front (escaped x.0) (letters x.1)
letters_escape cs x e =
    let shorter = (escape_takes cs x e).0 in
    rw e (ap (with_front (escaped x.0)) (steps_suffice (length cs) (length x.1) x.1 (omega arith) (omega arith)))

pub letters_broken : (cs : List ℕ) → escape cs ≡ None → letters (92 ∷ cs) ≡ None
letters_broken cs e = rw e refl
