-- The pieces of a text, and that a text is read as its pieces are.
use Rattle.std.proofs.Common.{ℕ, zero, suc, ◌+◌, ◌<◌, ◌≤◌, ◌≡◌, ◌≢◌, Bool, true, false, eqb, cond, List, [], ◌∷◌, length, Option, None, Some, Ok, Err, refl, sym, ap, subst, ◌∙◌, arith}
use Rattle.std.specs.List.{prefix_len}
use Rattle.std.proofs.lemmas.List.{length-drop, length-take}
use Rattle.std.specs.Prelude.{take}
use Rattle.ice_prims.specs.Rest.{Rest, after}
use Rattle.ice_proxy.specs.declared.words.Stand.{Stand}
use Rattle.ice_proxy.specs.Words.{Token, word, colon, at, end, next, is_blank, blanks, bare, behind, word_length, first_token}
use Rattle.ice_proxy.specs.Looking as looking
use Rattle.ice_proxy.specs.Looking.{Parsed, ◌>>=◌}
use Rattle.ice_proxy.specs.Pieces.{Piece, Pieces, HasPieces, first_place}
use Rattle.ice_proxy.proofs.Progress.{HasByte, next_fewer}
use Rattle.ice_proxy.proofs.PieceLaws.{Stop, Reading, ◌>>>◌, one_at, viewed}

-- ---- each text has pieces, and no others

abbrev standing : Token → ℕ → Piece
standing t place = record { token = t; place = place }

has_byte : (t : Token) → (t ≢ end) → HasByte t
has_byte (word bytes) h = tt
has_byte colon h = tt
has_byte at h = tt
has_byte end h = absurd (h refl)

pieces_within : (n : ℕ) (r : Rest) → length r.bytes < n → (ps : Pieces) × HasPieces r ps
pieces_within zero r lt = absurd (omega arith)
pieces_within (suc n) r lt = by (next r).token refl (λ some. let fewer = next_fewer r some in pieces_within n (next r).rest (omega (arith, fewer, lt)))
  where
    more : (t : Token) → (next r).token ≡ t → (t ≢ end) → ((ps : Pieces) × HasPieces (next r).rest ps) → (ps : Pieces) × HasPieces r ps
    more t e some others = (standing t (next r).place ∷ others.0, (e, refl, some, others.1))

    by : (t : Token) → (next r).token ≡ t → (HasByte (next r).token → (ps : Pieces) × HasPieces (next r).rest ps) → (ps : Pieces) × HasPieces r ps
    by (word bytes) e others = more (word bytes) e (λ f. cc) (others (subst HasByte (sym e) tt))
    by colon e others = more colon e (λ f. cc) (others (subst HasByte (sym e) tt))
    by at e others = more at e (λ f. cc) (others (subst HasByte (sym e) tt))
    by end e others = ([], e)

pub pieces : (r : Rest) → (ps : Pieces) × HasPieces r ps
pieces r = pieces_within (suc (length r.bytes)) r (omega arith)

pub pieces_short : (ps : Pieces) (r : Rest) → HasPieces r ps → length ps ≤ length r.bytes
pieces_short [] r h = omega arith
pieces_short (p ∷ ps) r h =
    let others = pieces_short ps (next r).rest h.3 in
    let some : HasByte (next r).token = subst HasByte (sym h.0) (has_byte p.token h.2) in
    let fewer = next_fewer r some in
    omega (arith, others, fewer)

-- ---- the text's length

blanks_short : (bytes : List ℕ) → blanks bytes ≤ length bytes
blanks_short bytes = let e = length-take (prefix_len is_blank bytes) bytes in omega (arith, e)

word_short : (s : Stand) (bytes : List ℕ) → word_length s bytes ≤ length bytes
word_short s [] = omega arith
word_short s (c ∷ cs) = by (behind s c) (λ t. word_short t cs)
  where
    by : (o : Option Stand) → ((t : Stand) → word_length t cs ≤ length cs) → elim o as (λ t. ℕ) [ None ↦ 0 | Some t ↦ suc (word_length t cs) ] ≤ suc (length cs)
    by None h = omega arith
    by (Some t) h = let k = h t in omega (arith, k)

token_short : (bytes : List ℕ) → (first_token bytes).1 ≤ length bytes
token_short [] = omega arith
token_short (c ∷ cs) = by (eqb c 58) (eqb c 64)
  where
    by : (a b : Bool) → (cond {A = Token × ℕ} a (colon, 1) (cond b (at, 1) (word (take (word_length bare (c ∷ cs)) (c ∷ cs)), word_length bare (c ∷ cs)))).1 ≤ suc (length cs)
    by true b = omega arith
    by false true = omega arith
    by false false = word_short bare (c ∷ cs)

-- behind so many bytes of them, the text is as long
abbrev pub reach : Rest → ℕ
reach r = r.place + length r.bytes

after_same : (r : Rest) (n : ℕ) → n ≤ length r.bytes → reach (after r n) ≡ reach r
after_same r n le = let d = length-drop n r.bytes in omega (arith, le, d)

pub next_same : (r : Rest) → reach (next r).rest ≡ reach r
next_same r =
    let s = after r (blanks r.bytes) in
    after_same s (first_token s.bytes).1 (token_short s.bytes) ∙ after_same r (blanks r.bytes) (blanks_short r.bytes)

end_empty : (bytes : List ℕ) → (first_token bytes).0 ≡ end → bytes ≡ []
end_empty [] e = refl
end_empty (c ∷ cs) e = absurd (by (eqb c 58) (eqb c 64) e)
  where
    by : (a b : Bool) → (cond {A = Token × ℕ} a (colon, 1) (cond b (at, 1) (word (take (word_length bare (c ∷ cs)) (c ∷ cs)), word_length bare (c ∷ cs)))).0 ≡ end → ⊥
    by true b e = cc
    by false true e = cc
    by false false e = cc

-- at the end the place is the text's length
pub end_place : (r : Rest) → (next r).token ≡ end → (next r).place ≡ reach r
end_place r e =
    let s = after r (blanks r.bytes) in
    let none = ap length (end_empty s.bytes e) in
    let same = after_same r (blanks r.bytes) (blanks_short r.bytes) in
    omega (arith, none, same)

-- ---- readings that are alike

-- these pieces stand in the rest of a text of this length
pub record Stands (size : ℕ) (r : Rest) (ps : Pieces) : Type 0 where
  pub has : HasPieces r ps
  pub ends : reach r ≡ size

pub behind_next : (size : ℕ) (r : Rest) (p : Piece) (ps : Pieces) → Stands size r (p ∷ ps) → Stands size (next r).rest ps
behind_next size r p ps h = let k = h.has in record { has = k.3; ends = next_same r ∙ h.ends }

abbrev pub told_by : ℕ → Option Piece → Pieces → ℕ
told_by size None behind = first_place size behind
told_by size (Some k) behind = k.place

-- the place that is told of a refusal
abbrev pub told : ℕ → Stop → ℕ
told size stop = told_by size stop.blamed stop.behind

abbrev pub Alike : {A B : Type 0} → ℕ → (A → B → Type 0) → Parsed (A × Rest) → Reading B → Type 0
Alike size R (Ok x) (Ok y) = R x.0 y.0 × Stands size x.1 y.1
Alike size R (Err place) (Err stop) = place ≡ told size stop
Alike size R (Ok x) (Err stop) = ⊥
Alike size R (Err place) (Ok y) = ⊥

-- the same of a whole text
abbrev pub Agree : {A : Type 0} → ℕ → Parsed A → Reading A → Type 0
Agree size (Ok x) (Ok y) = (x ≡ y.0) × (y.1 ≡ [])
Agree size (Err place) (Err stop) = place ≡ told size stop
Agree size (Ok x) (Err stop) = ⊥
Agree size (Err place) (Ok y) = ⊥

abbrev pub Same : {A : Type 0} → A → A → Type 0
Same x y = x ≡ y

pub alike_then : {A B C D : Type 0} (size : ℕ) (R : A → B → Type 0) (S : C → D → Type 0) (m : Parsed (A × Rest)) (n : Reading B) (f : A × Rest → Parsed (C × Rest)) (g : B × Pieces → Reading D)
    → Alike size R m n → ((x : A) (r : Rest) (y : B) (ps : Pieces) → n ≡ Ok (y, ps) → R x y → Stands size r ps → Alike size S (f (x, r)) (g (y, ps))) → Alike size S (m >>= f) (n >>> g)
alike_then size R S (Ok x) (Ok y) f g h k = k x.0 x.1 y.0 y.1 refl h.0 h.1
alike_then size R S (Err place) (Err stop) f g h k = h
alike_then size R S (Ok x) (Err stop) f g h k = absurd h
alike_then size R S (Err place) (Ok y) f g h k = absurd h

pub agree_then : {A B C : Type 0} (size : ℕ) (R : A → B → Type 0) (m : Parsed (A × Rest)) (n : Reading B) (f : A × Rest → Parsed C) (g : B × Pieces → Reading C)
    → Alike size R m n → ((x : A) (r : Rest) (y : B) (ps : Pieces) → n ≡ Ok (y, ps) → R x y → Stands size r ps → Agree size (f (x, r)) (g (y, ps))) → Agree size (m >>= f) (n >>> g)
agree_then size R (Ok x) (Ok y) f g h k = k x.0 x.1 y.0 y.1 refl h.0 h.1
agree_then size R (Err place) (Err stop) f g h k = h
agree_then size R (Ok x) (Err stop) f g h k = absurd h
agree_then size R (Err place) (Ok y) f g h k = absurd h

pub agree_made : {A B : Type 0} (size : ℕ) (make : A → B) (m : Parsed A) (n : Reading A) → Agree size m n → Agree size (m >>= λ x. Ok (make x)) (n >>> λ y. Ok (make y.0, y.1))
agree_made size make (Ok x) (Ok y) h = (ap make h.0, h.1)
agree_made size make (Err place) (Err stop) h = h
agree_made size make (Ok x) (Err stop) h = absurd h
agree_made size make (Err place) (Ok y) h = absurd h

-- ---- one word

-- what a word is read as, by what stands next
abbrev of_next : {A C : Type 0} → (List ℕ → Option A) → (A × Rest → Parsed C) → Token → ℕ → Rest → Parsed C
of_next meaning f t place rest = looking.or_refused place (looking.word_from t place rest) >>= λ w. looking.or_refused w.1 (meaning w.0) >>= λ x. f (x, w.2)

abbrev giving : {A : Type 0} → A × Rest → Parsed (A × Rest)
giving x = Ok x

by_next : {A : Type 0} (meaning : List ℕ → Option A) (r : Rest) → looking.word_as meaning r ≡ of_next meaning giving (next r).token (next r).place (next r).rest
unfolding looking.word_ahead looking.place_at
by_next meaning r = refl

-- what follows a word that is read
then_next : {A C : Type 0} (meaning : List ℕ → Option A) (r : Rest) (f : A × Rest → Parsed C) → (looking.word_as meaning r >>= f) ≡ of_next meaning f (next r).token (next r).place (next r).rest
then_next {A = A} {C = C} meaning r f = ap (λ (m : Parsed (A × Rest)). m >>= f) (by_next meaning r) ∙ by (next r).token (next r).place (next r).rest
  where
    inner : (o : Option A) (place : ℕ) (rest : Rest) → ((looking.or_refused place o >>= λ x. giving (x, rest)) >>= f) ≡ (looking.or_refused place o >>= λ x. f (x, rest))
    inner None place rest = refl
    inner (Some x) place rest = refl

    by : (t : Token) (place : ℕ) (rest : Rest) → (of_next meaning giving t place rest >>= f) ≡ of_next meaning f t place rest
    by (word bytes) place rest = inner (meaning bytes) place rest
    by colon place rest = refl
    by at place rest = refl
    by end place rest = refl

-- A word, and what goes on behind it, by what the word means here and there.
module _ {A B C D : Type 0} (size : ℕ) (meaning : List ℕ → Option A) (view : Piece → Option B) (blame : Pieces → Option Piece) (f : A × Rest → Parsed C) (g : B × Pieces → Reading D)
    (Fits : Parsed C → Reading D → Type 0) (failed : (place : ℕ) (stop : Stop) → place ≡ told size stop → Fits (Err place) (Err stop)) where
  pub word_by : (r : Rest) (ps : Pieces) → Stands size r ps → blame [] ≡ None
      → ((p : Piece) (rest : Pieces) → ((bytes : List ℕ) → p.token ≡ word bytes → ⊥) → (view p ≡ None) × (blame (p ∷ rest) ≡ None))
      → ((bytes : List ℕ) (p : Piece) (rest : Pieces) → p.token ≡ word bytes → ps ≡ p ∷ rest → Stands size (next r).rest rest
      → Fits (looking.or_refused p.place (meaning bytes) >>= λ x. f (x, (next r).rest)) (viewed view blame (view p) (p ∷ rest) rest >>> g))
      → Fits (looking.word_as meaning r >>= f) (one_at view blame ps >>> g)
  word_by r [] h none other each =
      let e : (next r).token ≡ end = h.has in
      subst (λ (m : Parsed C). Fits m (one_at view blame [] >>> g)) (sym (then_next meaning r f))
      (subst (λ (t : Token). Fits (of_next meaning f t (next r).place (next r).rest) (one_at view blame [] >>> g)) (sym e)
      (failed (next r).place (record { behind = []; blamed = blame [] }) (end_place r e ∙ (h.ends ∙ sym (ap (λ (o : Option Piece). told_by size o []) none)))))
  word_by r (p ∷ ps) h none other each =
      let k = h.has in
      subst (λ (m : Parsed C). Fits m (one_at view blame (p ∷ ps) >>> g)) (sym (then_next meaning r f))
      (subst (λ (n : ℕ). Fits (of_next meaning f (next r).token n (next r).rest) (one_at view blame (p ∷ ps) >>> g)) (sym k.1)
      (subst (λ (t : Token). Fits (of_next meaning f t p.place (next r).rest) (one_at view blame (p ∷ ps) >>> g)) (sym k.0)
      (by p.token refl)))
    where
      refuse : ((bytes : List ℕ) → p.token ≡ word bytes → ⊥) → Fits (Err p.place) (one_at view blame (p ∷ ps) >>> g)
      refuse never =
          let o = other p ps never in
          subst (λ (m : Reading D). Fits (Err p.place) m) (sym (ap (λ (v : Option B). viewed view blame v (p ∷ ps) ps >>> g) o.0))
          (failed p.place (record { behind = p ∷ ps; blamed = blame (p ∷ ps) }) (sym (ap (λ (v : Option Piece). told_by size v (p ∷ ps)) o.1)))

      by : (t : Token) → p.token ≡ t → Fits (of_next meaning f t p.place (next r).rest) (one_at view blame (p ∷ ps) >>> g)
      by (word bytes) e = each bytes p ps e refl (behind_next size r p ps h)
      by colon e = refuse (λ bytes f. cc)
      by at e = refuse (λ bytes f. cc)
      by end e = refuse (λ bytes f. cc)
