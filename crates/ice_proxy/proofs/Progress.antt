-- A word that is taken leaves fewer bytes.
use Rattle.std.proofs.Common.{◌≡◌, ℕ, ◌<◌, Bool, true, false, List, [], ◌∷◌, length, drop, Option, None, Some, Ok, refl, sym, ap, subst, arith, eqb, one-add}
use Rattle.std.proofs.lemmas.List.{length-drop}
use Rattle.ice_prims.specs.Rest.{Rest}
use Rattle.ice_proxy.specs.declared.words.Stand.{Stand}
use Rattle.ice_proxy.specs.declared.words.Stand.TheVariants.{Bare, BareEscape, Quoted}
use Rattle.ice_proxy.specs.Words.{is_blank, bare, behind, word_length, blanks, Token, word, colon, at, end, Next, first_token, next}
use Rattle.ice_proxy.specs.Looking.{Parsed, ◌>>=◌, place_at, word_from, word_ahead, or_refused, word_as, colon_from, colon_at}

abbrev pub answer : {A : Type 0} → A → Parsed A
answer x = Ok x

pub ok_is : {A : Type 0} (x y : A) → answer x ≡ answer y → x ≡ y
ok_is x y e = cc

abbrev word_answer : {A : Type 0} → A → Rest → Parsed (A × Rest)
word_answer x r = Ok (x, r)

abbrev there : {A : Type 0} → A → Option A
there x = Some x

some_is : {A : Type 0} (x y : A) → there x ≡ there y → x ≡ y
some_is x y e = cc

-- no blank at the front
abbrev NoBlank : List ℕ → Type 0
NoBlank [] = Unit {0}
NoBlank (c ∷ cs) = is_blank c ≡ false

none_left : (bytes : List ℕ) → NoBlank (drop (blanks bytes) bytes)
none_left [] = tt
none_left (c ∷ cs) = by (is_blank c) refl (none_left cs)
  where
    by : (b : Bool) → is_blank c ≡ b → NoBlank (drop (blanks cs) cs) → NoBlank (drop (blanks (c ∷ cs)) (c ∷ cs))
    by true e others = rw (e, one-add) others
    by false e others = rw e e

behind_long : (c : ℕ) (cs : List ℕ) (s : Stand) → behind bare c ≡ Some s → 0 < word_length bare (c ∷ cs)
behind_long c cs s e = rw (e, word_length) (omega arith)

some_word : (c : ℕ) (cs : List ℕ) → is_blank c ≡ false → eqb c 58 ≡ false → eqb c 64 ≡ false → 0 < word_length bare (c ∷ cs)
some_word c cs blank no_colon no_at = by (eqb c 92) (eqb c 34) refl refl
  where
    by : (b d : Bool) → eqb c 92 ≡ b → eqb c 34 ≡ d → 0 < word_length bare (c ∷ cs)
    by true d p q = behind_long c cs BareEscape (rw (blank, no_colon, no_at, p) refl)
    by false true p q = behind_long c cs Quoted (rw (blank, no_colon, no_at, p, q) refl)
    by false false p q = behind_long c cs Bare (rw (blank, no_colon, no_at, p, q) refl)

-- a token that has a byte
abbrev pub HasByte : Token → Type 0
HasByte (word bytes) = Unit {0}
HasByte colon = Unit {0}
HasByte at = Unit {0}
HasByte end = ⊥

-- what begins a text that is not blank there has a byte
first_long : (bytes : List ℕ) → NoBlank bytes → HasByte (first_token bytes).0 → length (drop (first_token bytes).1 bytes) < length bytes
first_long [] blank h = absurd h
first_long (c ∷ cs) blank h = by (eqb c 58) (eqb c 64) refl refl
  where
    by : (b d : Bool) → eqb c 58 ≡ b → eqb c 64 ≡ d → length (drop (first_token (c ∷ cs)).1 (c ∷ cs)) < length (c ∷ cs)
    by true d p q = rw p (omega arith)
    by false true p q = rw (p, q) (omega arith)
    by false false p q = rw (p, q) (let long = some_word c cs blank p q in omega (arith, long, length-drop (word_length bare (c ∷ cs)) (c ∷ cs)))

pub next_fewer : (r : Rest) → HasByte (next r).token → length (next r).rest.bytes < length r.bytes
next_fewer r h =
    let bytes = drop (blanks r.bytes) r.bytes in
    let long : length (drop (first_token bytes).1 bytes) < length bytes = first_long bytes (none_left r.bytes) h in
    omega (arith, long, length-drop (blanks r.bytes) r.bytes)

token_fewer : (r s : Rest) (t : Token) (place : ℕ) → HasByte t → next r ≡ record { token = t; place = place; rest = s } → length s.bytes < length r.bytes
token_fewer r s t place has e =
    let fewer = next_fewer r (subst (λ (n : Next). HasByte n.token) (sym e) has) in
    subst (λ (n : Next). length n.rest.bytes < length r.bytes) e fewer

-- the same of what is looked for
pub ahead_fewer : (r s : Rest) (bytes : List ℕ) (place : ℕ) → word_ahead r ≡ Some (bytes, place, s) → length s.bytes < length r.bytes
unfolding word_ahead
ahead_fewer r s bytes place e = by (next r).token (next r).rest (next r).place refl e
  where
    by : (t : Token) (rest : Rest) (at_place : ℕ) → next r ≡ record { token = t; place = at_place; rest = rest } → word_from t at_place rest ≡ Some (bytes, place, s) → length s.bytes < length r.bytes
    by (word found) rest at_place is e = let same : rest ≡ s = ap (λ (w : List ℕ × ℕ × Rest). w.2) (some_is _ _ e) in rw (← same) (token_fewer r rest (word found) at_place tt is)
    by colon rest at_place is e = absurd cc
    by at rest at_place is e = absurd cc
    by end rest at_place is e = absurd cc

module _ {A : Type 0} (meaning : List ℕ → Option A) where
  pub meant_fewer : (r s : Rest) (x : A) → word_as meaning r ≡ Ok (x, s) → length s.bytes < length r.bytes
  meant_fewer r s x e = by (word_ahead r) refl e
    where
      by_meaning : (o : Option A) (place : ℕ) (rest : Rest) → (or_refused place o >>= λ y. word_answer y rest) ≡ Ok (x, s) → rest ≡ s
      by_meaning None place rest e = absurd cc
      by_meaning (Some y) place rest e = ap (λ (w : A × Rest). w.1) (ok_is _ _ e)

      by : (w : Option (List ℕ × ℕ × Rest)) → word_ahead r ≡ w → (or_refused (place_at r) w >>= λ w. or_refused w.1 (meaning w.0) >>= λ y. word_answer y w.2) ≡ Ok (x, s) → length s.bytes < length r.bytes
      by (Some w) is e = rw (← by_meaning (meaning w.0) w.1 w.2 e) (ahead_fewer r w.2 w.0 w.1 is)
      by None is e = absurd cc

pub colon_fewer : (r s : Rest) → colon_at r ≡ Ok (Some s) → length s.bytes < length r.bytes
unfolding colon_at
colon_fewer r s e = by (next r).token (next r).rest (next r).place refl e
  where
    by : (t : Token) (rest : Rest) (at_place : ℕ) → next r ≡ record { token = t; place = at_place; rest = rest } → colon_from t at_place rest ≡ Ok (Some s) → length s.bytes < length r.bytes
    by (word found) rest at_place is e = absurd cc
    by colon rest at_place is e = let same : rest ≡ s = some_is _ _ (ok_is _ _ e) in rw (← same) (token_fewer r rest colon at_place tt is)
    by at rest at_place is e = absurd cc
    by end rest at_place is e = absurd cc
