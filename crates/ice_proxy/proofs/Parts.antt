-- A printed part of the options is read as what it was printed of, whatever follows it.
use Rattle.std.proofs.Common.{◌≡◌, ℕ, zero, suc, ◌+◌, ◌<◌, Bool, true, false, List, [], ◌∷◌, ◌++◌, length, Option, None, Some, Ok, refl, sym, ◌∙◌, ap, subst, arith, append_assoc, length-append, add-zero}
use Rattle.std.specs.List.{list_all}
use Rattle.ice_prims.specs.Rest.{Rest, Took}
use Rattle.ice_prims.proofs.Parts.{Took-none-is}
use Rattle.ice_proxy.specs.Words.{is_blank, Token, word, colon, at, end, Next, next}
use Rattle.ice_proxy.specs.Laws.{EndsWord, IsWord}
use Rattle.ice_proxy.proofs.Following.{word_behind}
use Rattle.ice_proxy.specs.Looking.{Parsed, ◌>>=◌, place_at, word_from, word_ahead, or_refused, word_as, at_from, at_ahead, colon_from, colon_at, end_from, end_at}
use Rattle.ice_proxy.specs.Options.{listed, option_of, option_from, options_within}

-- ---- what stands next

abbrev standing : ℕ → List ℕ → Rest
standing place bytes = record { place = place; bytes = bytes }

abbrev pub made_next : Token → ℕ → Rest → Next
made_next t place rest = record { token = t; place = place; rest = rest }

rest_is : (r : Rest) (bytes : List ℕ) → r.bytes ≡ bytes → r ≡ standing r.place bytes
rest_is r bytes e = ap (standing r.place) e

abbrev found : {A : Type 0} → A → Rest → Parsed (A × Rest)
found x r = Ok (x, r)

-- what is looked for, where the token is known
module _ (r s : Rest) (t : Token) (place : ℕ) (is : next r ≡ made_next t place s) where
  ahead_is : word_ahead r ≡ word_from t place s
  unfolding word_ahead
  ahead_is = ap (λ (n : Next). word_from n.token n.place n.rest) is

  at_is : at_ahead r ≡ at_from t s
  unfolding at_ahead
  at_is = ap (λ (n : Next). at_from n.token n.rest) is

  colon_is : colon_at r ≡ colon_from t place s
  unfolding colon_at
  colon_is = ap (λ (n : Next). colon_from n.token n.place n.rest) is

  end_is : end_at r ≡ end_from t place
  unfolding end_at
  end_is = ap (λ (n : Next). end_from n.token n.place) is

-- a word behind blanks
next_word : (gap bytes : List ℕ) (r s : Rest) → list_all is_blank gap ≡ true → IsWord bytes → Took r (gap ++ bytes) s → EndsWord s.bytes → next r ≡ made_next (word bytes) (r.place + length gap) s
next_word gap bytes r s blank is took ends =
    let start : r ≡ standing r.place (gap ++ (bytes ++ s.bytes)) = rest_is r (gap ++ (bytes ++ s.bytes)) (took.parts ∙ append_assoc gap bytes s.bytes) in
    let moved : r.place + length gap + length bytes ≡ s.place = omega (arith, took.moved, length-append gap bytes) in
    let next_is = word_behind r.place gap bytes s.bytes blank is ends in
    ap next start ∙ next_is ∙ ap (λ (place : ℕ). made_next (word bytes) (r.place + length gap) (standing place s.bytes)) moved

pub word_stands : (gap bytes : List ℕ) (r s : Rest) → list_all is_blank gap ≡ true → IsWord bytes → Took r (gap ++ bytes) s → EndsWord s.bytes → word_ahead r ≡ Some (bytes, r.place + length gap, s)
word_stands gap bytes r s blank is took ends = ahead_is r s (word bytes) (r.place + length gap) (next_word gap bytes r s blank is took ends)

-- a word of this meaning
pub read_as : {A : Type 0} (meaning : List ℕ → Option A) (gap bytes : List ℕ) (x : A) (r s : Rest) → meaning bytes ≡ Some x → list_all is_blank gap ≡ true → IsWord bytes → Took r (gap ++ bytes) s → EndsWord s.bytes → word_as meaning r ≡ Ok (x, s)
read_as meaning gap bytes x r s means blank is took ends =
    ap (λ w. or_refused (place_at r) w >>= λ w. or_refused w.1 (meaning w.0) >>= λ y. found y w.2) (word_stands gap bytes r s blank is took ends)
    ∙ ap (λ o. or_refused (r.place + length gap) o >>= λ y. found y s) means

-- what is no word
next_colon : (r s : Rest) → Took r (58 ∷ []) s → next r ≡ made_next colon r.place s
next_colon r s took =
    let moved : r.place + 1 ≡ s.place = omega (arith, took.moved) in
    ap next (rest_is r (58 ∷ s.bytes) took.parts) ∙ one r.place s.bytes ∙ ap (λ (place : ℕ). made_next colon r.place (standing place s.bytes)) moved
  where
    one : (place : ℕ) (bytes : List ℕ) → next (standing place (58 ∷ bytes)) ≡ made_next colon place (standing (place + 1) bytes)
    one place bytes = rw add-zero refl

next_at : (r s : Rest) → Took r (32 ∷ 64 ∷ []) s → next r ≡ made_next at (r.place + 1) s
next_at r s took =
    let moved : r.place + 1 + 1 ≡ s.place = omega (arith, took.moved) in
    ap next (rest_is r (32 ∷ 64 ∷ s.bytes) took.parts) ∙ ap (λ (place : ℕ). made_next at (r.place + 1) (standing place s.bytes)) moved

next_end : (r : Rest) → r.bytes ≡ [] → next r ≡ made_next end r.place r
next_end r none = ap next (rest_is r [] none) ∙ one r.place ∙ ap (made_next end r.place) (sym (rest_is r [] none))
  where
    one : (place : ℕ) → next (standing place []) ≡ made_next end place (standing place [])
    one place = simp add-zero

-- what is told by a `:` at the front, by a blank and an `@`, and by the end
pub record Colon (r s : Rest) : Type 0 where
  pub no_word : word_ahead r ≡ None
  pub no_at : at_ahead r ≡ None
  pub colon : colon_at r ≡ Ok (Some s)

pub colon_stands : (r s : Rest) → Took r (58 ∷ []) s → Colon r s
colon_stands r s took = let is = next_colon r s took in record { no_word = ahead_is r s colon r.place is; no_at = at_is r s colon r.place is; colon = colon_is r s colon r.place is }

pub record At (r s : Rest) : Type 0 where
  pub no_word : word_ahead r ≡ None
  pub at : at_ahead r ≡ Some s

pub at_stands : (r s : Rest) → Took r (32 ∷ 64 ∷ []) s → At r s
at_stands r s took = let is = next_at r s took in record { no_word = ahead_is r s at (r.place + 1) is; at = at_is r s at (r.place + 1) is }

pub record End (r : Rest) : Type 0 where
  pub no_word : word_ahead r ≡ None
  pub no_at : at_ahead r ≡ None
  pub no_colon : colon_at r ≡ Ok None
  pub end : end_at r ≡ Ok tt

pub end_stands : (r : Rest) → r.bytes ≡ [] → End r
end_stands r none = let is = next_end r none in record { no_word = ahead_is r r end r.place is; no_at = at_is r r end r.place is; no_colon = colon_is r r end r.place is; end = end_is r r end r.place is }

pub shorter : (r s : Rest) (bytes : List ℕ) → 0 < length bytes → Took r bytes s → length s.bytes < length r.bytes
shorter r s bytes some took = omega (arith, ap length took.parts, length-append bytes s.bytes)

-- where reading stands between two parts
abbrev pub between : Rest → List ℕ → List ℕ → Rest → Rest
between r a b s = standing (r.place + length a) (b ++ s.bytes)

pub took_first : (r s : Rest) (a b : List ℕ) → Took r (a ++ b) s → Took r a (between r a b s)
took_first r s a b took = record { parts = took.parts ∙ append_assoc a b s.bytes; moved = refl }

pub took_last : (r s : Rest) (a b : List ℕ) → Took r (a ++ b) s → Took (between r a b s) b s
took_last r s a b took = record { parts = refl; moved = omega (arith, length-append a b, took.moved) }

-- ---- options

module _ {O F : Type 0} (rows : List (List ℕ × F)) (given : F → O → Bool) (taken : F → O → Rest → Parsed (O × Rest)) where
  -- What is read of options from here on, once these are there, is this, in as many steps as there may be.
  pub record Comes (o : O) (r : Rest) (result : Parsed (O × Rest)) : Type 0 where
    pub comes : (steps : ℕ) → length r.bytes < steps → options_within rows given taken steps o r ≡ result

  -- These bytes are an option, or some, or none, which is then there.
  pub record Part (bytes : List ℕ) (o last : O) : Type 0 where
    pub front : (rest : List ℕ) → EndsWord rest → EndsWord (bytes ++ rest)
    pub part : (r s : Rest) (result : Parsed (O × Rest)) → Took r bytes s → EndsWord s.bytes → Comes last s result → Comes o r result

  pub no_part : (o : O) → Part [] o o
  no_part o = record { front = λ rest ends. ends; part = λ r s result took ends c. subst (λ (x : Rest). Comes o x result) (sym (Took-none-is r s took)) c }

  pub both_parts : (a b : List ℕ) (o m last : O) → Part a o m → Part b m last → Part (a ++ b) o last
  both_parts a b o m last p q = record {
    front = λ rest ends. subst EndsWord (sym (append_assoc a b rest)) (p.front (b ++ rest) (q.front rest ends));
    part = λ r s result took ends c. p.part r (between r a b s) result (took_first r s a b took) (q.front s.bytes ends) (q.part (between r a b s) s result (took_last r s a b took) ends c);
  }

  -- where the options end
  pub stops : (o : O) (r : Rest) → word_ahead r ≡ None → Comes o r (Ok (o, r))
  stops o r none = record { comes = all }
    where
      all : (steps : ℕ) → length r.bytes < steps → options_within rows given taken steps o r ≡ Ok (o, r)
      all zero lt = absurd (omega arith)
      all (suc steps) lt = ap (option_from rows given taken (options_within rows given taken steps) o r) none

  -- one option
  pub goes_on : (o last : O) (r s t : Rest) (known : List ℕ) (flag : F) (place : ℕ) (result : Parsed (O × Rest)) → word_ahead r ≡ Some (known, place, s) → listed rows known ≡ Some flag → given flag o ≡ false
      → taken flag o s ≡ Ok (last, t) → length t.bytes < length r.bytes → Comes last t result → Comes o r result
  goes_on o last r s t known flag place result ahead row new took fewer c = record { comes = all }
    where
      all : (steps : ℕ) → length r.bytes < steps → options_within rows given taken steps o r ≡ result
      all zero lt = absurd (omega arith)
      all (suc steps) lt =
          ap (option_from rows given taken (options_within rows given taken steps) o r) ahead
          ∙ ap (λ f. option_of rows given taken f place o s >>= λ x. options_within rows given taken steps x.0 x.1) row
          ∙ rw (new, took) (c.comes steps (omega arith))

  -- an option without a word of its own
  pub lone_part : (o last : O) (known : List ℕ) (flag : F) → IsWord known → listed rows known ≡ Some flag → given flag o ≡ false → ((s : Rest) → taken flag o s ≡ Ok (last, s)) → Part (32 ∷ known) o last
  lone_part o last known flag is row new take = record {
    front = λ rest ends. refl;
    part = λ r s result took ends c. goes_on o last r s s known flag _ result (word_stands (32 ∷ []) known r s refl is took ends) row new (take s) (shorter r s (32 ∷ known) (omega arith) took) c;
  }

  -- an option with a word
  pub word_part : {A : Type 0} (meaning : List ℕ → Option A) (known bytes : List ℕ) (x : A) (o : O) (with : A → O) (flag : F) → IsWord known → listed rows known ≡ Some flag → given flag o ≡ false
      → ((s : Rest) → taken flag o s ≡ (word_as meaning s >>= λ y. Ok (with y.0, y.1))) → meaning bytes ≡ Some x → IsWord bytes → Part ((32 ∷ known) ++ 32 ∷ bytes) o (with x)
  word_part meaning known bytes x o with flag is_known row new take means is = record {
    front = λ rest ends. refl;
    part = λ r s result took ends c.
        let mid = between r (32 ∷ known) (32 ∷ bytes) s in
        let read : word_as meaning mid ≡ Ok (x, s) = read_as meaning (32 ∷ []) bytes x mid s means refl is (took_last r s (32 ∷ known) (32 ∷ bytes) took) ends in
        goes_on o (with x) r mid s known flag _ result (word_stands (32 ∷ []) known r mid refl is_known (took_first r s (32 ∷ known) (32 ∷ bytes) took) refl) row new (take mid ∙ ap (λ p. p >>= λ y. Ok (with y.0, y.1)) read)
        (shorter r s ((32 ∷ known) ++ 32 ∷ bytes) (omega arith) took) c;
  }
