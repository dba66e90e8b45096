-- Characters as they are printed, one after the other.
use Rattle.std.proofs.Common.{ℕ, ◌+◌, ◌/◌, ◌%◌, ◌≤◌, ◌≡◌, Bool, true, false, cond, ltb, List, [], ◌∷◌, ◌++◌, refl, sym, ap, ◌∙◌, append_assoc, inl, inr, arith, Result, Ok, Err, OnErr}
use Rattle.std.specs.Char.{encode_utf8, is_ascii_control}
use Rattle.std.specs.List.{flat_map}
use Rattle.std.specs.Str.{encode_utf8_all}
use Rattle.std.proofs.lemmas.Bool.{cases_lt, ne_eqb, le-ltb}
use Rattle.std.proofs.lemmas.Bool.Decides.{nat_tests}
use Rattle.std.proofs.lemmas.List.Concat.{flat_map-append}
use Rattle.std.proofs.lemmas.List.{append-nil}
use Rattle.std.proofs.lemmas.Str.{encode_ascii, encodes-append}
use Rattle.ice_prims.specs.Bytes.{Grows}
use Rattle.ice_proxy.specs.PrintedWords.{escape_of, escape_in_identity, escapes}

-- ---- a byte of a character that is no ASCII

pub high_escape : (c : ℕ) → 128 ≤ c → escape_of c ≡ c ∷ []
high_escape c le = grind (arith, nat_tests)

abbrev AreHigh : List ℕ → Type 0
AreHigh [] = Unit {0}
AreHigh (b ∷ bs) = (128 ≤ b) × AreHigh bs

high_escapes : (f : ℕ → List ℕ) → ((c : ℕ) → 128 ≤ c → f c ≡ c ∷ []) → (bytes : List ℕ) → AreHigh bytes → flat_map f bytes ≡ bytes
high_escapes f each [] h = refl
high_escapes f each (b ∷ bs) h = let here = each b h.0 in let others = high_escapes f each bs h.1 in rw (here, others) refl

high_bytes : (c : ℕ) → 128 ≤ c → AreHigh (encode_utf8 c)
unfolding encode_utf8
high_bytes c le = rw (le-ltb c 128 le) (by_size (ltb c 2048) (ltb c 65536))
  where
    by_size : (a b : Bool) → AreHigh (cond a ((192 + c / 64) ∷ (128 + c % 64) ∷ []) (cond b ((224 + c / 4096) ∷ (128 + c / 64 % 64) ∷ (128 + c % 64) ∷ []) ((240 + c / 262144) ∷ (128 + c / 4096 % 64) ∷ (128 + c / 64 % 64) ∷ (128 + c % 64) ∷ [])))
    by_size true b = (omega arith, (omega arith, tt))
    by_size false true = (omega arith, (omega arith, (omega arith, tt)))
    by_size false false = (omega arith, (omega arith, (omega arith, (omega arith, tt))))

-- a character that is printed as it is
pub kept : (c : ℕ) → (c ≡ 92 → ⊥) → (c ≡ 34 → ⊥) → (c ≡ 39 → ⊥) → (c ≡ 10 → ⊥) → (c ≡ 13 → ⊥) → (c ≡ 9 → ⊥) → is_ascii_control c ≡ false → escapes (encode_utf8 c) ≡ encode_utf8 c
kept c a b d e f g h = elim (cases_lt c 128) [
  | inl lt ↦ rw (encode_ascii c lt) (low_kept c a b d e f g h)
  | inr le ↦ high_escapes escape_of high_escape (encode_utf8 c) (high_bytes c le)
]
  where
    low_kept : (c : ℕ) → (c ≡ 92 → ⊥) → (c ≡ 34 → ⊥) → (c ≡ 39 → ⊥) → (c ≡ 10 → ⊥) → (c ≡ 13 → ⊥) → (c ≡ 9 → ⊥) → is_ascii_control c ≡ false → escapes (c ∷ []) ≡ c ∷ []
    low_kept c a b d e f g h = grind (arith, nat_tests)

-- in a category or a name, each but `/` as in a text
high_in_identity : (c : ℕ) → 128 ≤ c → escape_in_identity c ≡ c ∷ []
high_in_identity c le = rw (ne_eqb c 47 (λ e. omega arith)) (high_escape c le)

pub as_in_text : (c : ℕ) → (c ≡ 47 → ⊥) → escapes (encode_utf8 c) ≡ flat_map escape_in_identity (encode_utf8 c)
as_in_text c ne = elim (cases_lt c 128) [
  | inl lt ↦ rw (encode_ascii c lt, ne_eqb c 47 ne) refl
  | inr le ↦ high_escapes escape_of high_escape (encode_utf8 c) (high_bytes c le) ∙ sym (high_escapes escape_in_identity high_in_identity (encode_utf8 c) (high_bytes c le))
]

-- ---- characters, one after the other

pub flat_more : (f : ℕ → List ℕ) (old new : List ℕ) (cs : List ℕ) (c : ℕ) (mid : List ℕ) → mid ≡ old ++ flat_map f (encode_utf8_all cs) → new ≡ mid ++ flat_map f (encode_utf8 c) → new ≡ old ++ flat_map f (encode_utf8_all (cs ++ c ∷ []))
flat_more f old new cs c mid e h =
    let last : encode_utf8_all (cs ++ c ∷ []) ≡ encode_utf8_all cs ++ encode_utf8 c = encodes-append cs (c ∷ []) ∙ ap (λ (l : List ℕ). encode_utf8_all cs ++ l) (append-nil (encode_utf8 c)) in
    let parts : flat_map f (encode_utf8_all (cs ++ c ∷ [])) ≡ flat_map f (encode_utf8_all cs) ++ flat_map f (encode_utf8 c) = ap (flat_map f) last ∙ flat_map-append f (encode_utf8_all cs) (encode_utf8 c) in
    h ∙ ap (λ (l : List ℕ). l ++ flat_map f (encode_utf8 c)) e ∙ append_assoc old (flat_map f (encode_utf8_all cs)) (flat_map f (encode_utf8 c)) ∙ ap (λ (l : List ℕ). old ++ l) (sym parts)

-- what grew, and grew again
pub grows_more : (old mid new front : List ℕ) → mid ≡ old ++ front → Grows mid new → Grows old new
grows_more old mid new front e h = (front ++ h.0, h.1 ∙ ap (λ (l : List ℕ). l ++ h.0) e ∙ append_assoc old front h.0)

pub on_err : {T E P : Type 0} (r : Result T E) → P → OnErr r P
on_err (Ok x) p = tt
on_err (Err e) p = p
