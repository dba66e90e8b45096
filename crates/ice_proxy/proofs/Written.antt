-- What the escapes of a text are read as: its bytes, none of them a quote.
use Rattle.std.proofs.Common.{ℕ, zero, suc, ◌+◌, ◌*◌, ◌/◌, ◌%◌, ◌<◌, ◌≡◌, Bool, true, false, cond, eqb, List, [], ◌∷◌, ◌++◌, Some, refl, ap, ◌∙◌, append_assoc, arith}
use Rattle.std.specs.List.{flat_map, list_any}
use Rattle.std.specs.Char.{digit_value}
use Rattle.std.proofs.lemmas.Bool.{eqb-true, or_from, lt-ltb}
use Rattle.std.proofs.lemmas.Str.{digit_value_digit}
use Rattle.ice_proxy.specs.Escapes.{Letter, with_front, plain, escape, letters, is_quote, bytes_of}
use Rattle.ice_proxy.specs.Taking.{is_stop}
use Rattle.ice_proxy.specs.PrintedWords.{short, octal_escape, escape_of, escape_in_identity}
use Rattle.ice_proxy.proofs.EscapeCases.{escape_cases}
use Rattle.ice_proxy.proofs.Letters.{letters_plain, letters_escape, front_none, front_then}

abbrev marked : ℕ → Letter
marked b = record { byte = b; is_escaped = true }

-- These bytes are read as this byte, which is none of those that are barred.
pub record IsLetter (bar : Letter → Bool) (bytes : List ℕ) (c : ℕ) : Type 0 where
  pub letter : Letter
  pub reads : (rest : List ℕ) → letters (bytes ++ rest) ≡ with_front (letter ∷ []) (letters rest)
  pub is_byte : letter.byte ≡ c
  pub unbarred : bar letter ≡ false

-- the same of a text
pub record AreLetters (bar : Letter → Bool) (bytes text : List ℕ) : Type 0 where
  pub front : List Letter
  pub reads : (rest : List ℕ) → letters (bytes ++ rest) ≡ with_front front (letters rest)
  pub are_bytes : bytes_of front ≡ text
  pub unbarred : list_any bar front ≡ false

-- ---- one byte

escape_is : (bar : Letter → Bool) → ((b : ℕ) → bar (marked b) ≡ false) → (x : List ℕ) (b : ℕ) → ((rest : List ℕ) → escape (x ++ rest) ≡ Some (b ∷ [], rest)) → IsLetter bar (92 ∷ x) b
escape_is bar free x b is = record {
  letter = marked b;
  reads = λ rest. letters_escape (x ++ rest) (b ∷ [], rest) (is rest);
  is_byte = refl;
  unbarred = free b;
}

octal_digit : (d : ℕ) → d < 8 → digit_value (48 + d) ≡ d
octal_digit d lt = let e = digit_value_digit (48 + d) (omega arith, omega arith) in omega arith

octal_is : (a b c : ℕ) (rest : List ℕ) → a < 4 → b < 8 → c < 8 → escape ((48 + a) ∷ (48 + b) ∷ (48 + c) ∷ rest) ≡ Some ((a * 64 + (b * 8 + c)) ∷ [], rest)
octal_is zero b c rest p q r = let d = octal_digit b q in let e = octal_digit c r in rw (d, e, lt-ltb b 8 q, lt-ltb c 8 r) refl
octal_is (suc zero) b c rest p q r = let d = octal_digit b q in let e = octal_digit c r in rw (d, e, lt-ltb b 8 q, lt-ltb c 8 r) refl
octal_is (suc (suc zero)) b c rest p q r = let d = octal_digit b q in let e = octal_digit c r in rw (d, e, lt-ltb b 8 q, lt-ltb c 8 r) refl
octal_is (suc (suc (suc zero))) b c rest p q r = let d = octal_digit b q in let e = octal_digit c r in rw (d, e, lt-ltb b 8 q, lt-ltb c 8 r) refl
octal_is (suc (suc (suc (suc a)))) b c rest p q r = absurd (omega arith)

octal_of : (c : ℕ) (rest : List ℕ) → c < 256 → escape ((48 + c / 64) ∷ (48 + c / 8 % 8) ∷ (48 + c % 8) ∷ rest) ≡ Some (c ∷ [], rest)
octal_of c rest lt =
    let is : c / 64 * 64 + (c / 8 % 8 * 8 + c % 8) ≡ c = omega arith in
    octal_is (c / 64) (c / 8 % 8) (c % 8) rest (omega arith) (omega arith) (omega arith) ∙ ap (λ (n : ℕ). Some (n ∷ [], rest)) is

module _ (bar : Letter → Bool) (free : (b : ℕ) → bar (marked b) ≡ false) where
  named_is : (c x : ℕ) → ((rest : List ℕ) → escape (x ∷ rest) ≡ Some (c ∷ [], rest)) → IsLetter bar (short x) c
  named_is c x is = escape_is bar free (x ∷ []) c is

  octal_is_letter : (c : ℕ) → c < 128 → IsLetter bar (octal_escape c) c
  octal_is_letter c lt = escape_is bar free ((48 + c / 64) ∷ (48 + c / 8 % 8) ∷ (48 + c % 8) ∷ []) c (λ rest. octal_of c rest (omega arith))

  pub escape_of_is : (c : ℕ) → (eqb c 34 ≡ false → bar (plain c) ≡ false) → IsLetter bar (escape_of c) c
  escape_of_is c unbarred = escape_cases (λ bytes. IsLetter bar bytes c) c (record {
    backslash = λ e. rw e (named_is 92 92 (λ rest. refl));
    quote = λ e. rw e (named_is 34 34 (λ rest. refl));
    apostrophe = λ e. rw e (named_is 39 39 (λ rest. refl));
    newline = λ e. rw e (named_is 10 110 (λ rest. refl));
    carriage_return = λ e. rw e (named_is 13 114 (λ rest. refl));
    tab = λ e. rw e (named_is 9 116 (λ rest. refl));
    octal = octal_is_letter c;
    same = λ no_backslash no_quote. record { letter = plain c; reads = λ rest. letters_plain c rest no_backslash; is_byte = refl; unbarred = unbarred no_quote };
  })

-- ---- a text

pub all_letters : (bar : Letter → Bool) (f : ℕ → List ℕ) → ((c : ℕ) → IsLetter bar (f c) c) → (text : List ℕ) → AreLetters bar (flat_map f text) text
all_letters bar f each [] = record { front = []; reads = λ rest. front_none (letters rest); are_bytes = refl; unbarred = refl }
all_letters bar f each (c ∷ cs) =
    let here = each c in
    let others = all_letters bar f each cs in
    record {
      front = here.letter ∷ others.front;
      reads = λ rest. ap letters (append_assoc (f c) (flat_map f cs) rest) ∙ here.reads (flat_map f cs ++ rest) ∙ ap (with_front (here.letter ∷ [])) (others.reads rest) ∙ front_then (here.letter ∷ []) others.front (letters rest);
      are_bytes = let h = here.is_byte in let k = others.are_bytes in cc;
      unbarred = or_from (bar here.letter) (list_any bar others.front) here.unbarred others.unbarred;
    }

-- ---- texts, and categories and names

pub text_letter : (c : ℕ) → IsLetter is_quote (escape_of c) c
text_letter c = escape_of_is is_quote (λ b. refl) c (λ e. e)

pub name_letter : (c : ℕ) → IsLetter (is_stop 47) (escape_in_identity c) c
name_letter c = by_slash (eqb c 47) refl
  where
    by_slash : (b : Bool) → eqb c 47 ≡ b → IsLetter (is_stop 47) (cond b (short 47) (escape_of c)) c
    by_slash true e = rw (eqb-true c 47 e) (named_is (is_stop 47) (λ b. refl) 47 47 (λ rest. refl))
    by_slash false e = escape_of_is (is_stop 47) (λ b. refl) c (λ q. or_from (eqb c 34) (eqb c 47) q e)
