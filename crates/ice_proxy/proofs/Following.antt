-- The token that stands next, where what stands there is known.
use Rattle.std.proofs.Common.{ℕ, suc, ◌+◌, ◌≡◌, true, false, eqb, ◌||◌, List, [], ◌∷◌, ◌++◌, length, refl, sym, ap, ◌∙◌, add-zero, one-add}
use Rattle.std.specs.List.{list_all}
use Rattle.std.proofs.lemmas.Bool.{and_parts, or_parts}
use Rattle.std.proofs.lemmas.List.{take_at, drop_at, append-nil}
use Rattle.ice_prims.specs.Rest.{Rest}
use Rattle.ice_proxy.specs.Words.{is_blank, blanks, word, end, token_from, next}
use Rattle.ice_proxy.specs.Laws.{EndsWord, Begins, IsWord}
use Rattle.ice_proxy.proofs.StandingWords.{begins_more}

-- no blank at the front
abbrev pub NoBlank : List ℕ → Type 0
NoBlank [] = Unit {0}
NoBlank (c ∷ cs) = is_blank c ≡ false

end_no_blank : (bytes : List ℕ) → Begins bytes → NoBlank bytes
end_no_blank [] h = tt
end_no_blank (c ∷ cs) h = (or_parts (is_blank c) (eqb c 58 || eqb c 64) h).0

no_blanks : (bytes : List ℕ) → NoBlank bytes → blanks bytes ≡ 0
no_blanks [] h = refl
no_blanks (c ∷ cs) h = rw h refl

gap_blanks : (gap bytes : List ℕ) → list_all is_blank gap ≡ true → NoBlank bytes → blanks (gap ++ bytes) ≡ length gap
gap_blanks [] bytes e h = no_blanks bytes h
gap_blanks (c ∷ gap) bytes e h = let tests = and_parts (is_blank c) (list_all is_blank gap) e in rw (tests.0, one-add) (ap suc (gap_blanks gap bytes tests.1 h))

abbrev standing : ℕ → List ℕ → Rest
standing place bytes = record { place = place; bytes = bytes }

-- Blanks are no token.
pub next_behind : (place : ℕ) (gap bytes : List ℕ) → list_all is_blank gap ≡ true → NoBlank bytes → next (standing place (gap ++ bytes)) ≡ token_from (standing (place + length gap) bytes)
next_behind place gap bytes e h = rw (gap_blanks gap bytes e h, drop_at gap bytes (length gap) refl) refl

-- the same where none stand there
pub next_here : (place : ℕ) (bytes : List ℕ) → NoBlank bytes → next (standing place bytes) ≡ token_from (standing place bytes)
next_here place bytes h = rw (no_blanks bytes h, add-zero) refl

word_from : (place : ℕ) (bytes rest : List ℕ) → IsWord bytes → EndsWord rest → token_from (standing place (bytes ++ rest)) ≡ record { token = word bytes; place = place; rest = standing (place + length bytes) rest }
word_from place [] rest is ends = absurd is.begins
word_from place (c ∷ cs) rest is ends =
    let tests = or_parts (eqb c 58) (eqb c 64) (or_parts (is_blank c) (eqb c 58 || eqb c 64) is.begins).1 in
    rw (tests.0, tests.1, is.whole rest ends, take_at cs rest (length cs) refl, drop_at cs rest (length cs) refl) refl

-- a word that stands where nothing else does before what ends it
pub word_next : (place : ℕ) (bytes rest : List ℕ) → IsWord bytes → EndsWord rest
    → next (standing place (bytes ++ rest)) ≡ record { token = word bytes; place = place; rest = standing (place + length bytes) rest }
word_next place bytes rest is ends = next_here place (bytes ++ rest) (end_no_blank (bytes ++ rest) (begins_more bytes rest is.begins)) ∙ word_from place bytes rest is ends

-- the same behind blanks
pub word_behind : (place : ℕ) (gap bytes rest : List ℕ) → list_all is_blank gap ≡ true → IsWord bytes → EndsWord rest
    → next (standing place (gap ++ (bytes ++ rest))) ≡ record { token = word bytes; place = place + length gap; rest = standing ((place + length gap) + length bytes) rest }
word_behind place gap bytes rest e is ends =
    next_behind place gap (bytes ++ rest) e (end_no_blank (bytes ++ rest) (begins_more bytes rest is.begins)) ∙ word_from (place + length gap) bytes rest is ends

-- nothing but blanks
pub end_behind : (place : ℕ) (gap : List ℕ) → list_all is_blank gap ≡ true → next (standing place gap) ≡ record { token = end; place = place + length gap; rest = standing (place + length gap) [] }
end_behind place gap e =
    let whole : next (standing place gap) ≡ next (standing place (gap ++ [])) = ap (λ (l : List ℕ). next (standing place l)) (sym (append-nil gap)) in
    whole ∙ next_behind place gap [] e tt ∙ rw add-zero refl
