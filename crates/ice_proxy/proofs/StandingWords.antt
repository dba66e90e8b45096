-- What is printed of a text or an identity stands as one word.
use Rattle.std.proofs.Common.{ℕ, ◌+◌, ◌/◌, ◌%◌, ◌<◌, ◌≡◌, Bool, true, false, cond, eqb, ◌||◌, List, [], ◌∷◌, ◌++◌, length, None, Some, refl, sym, ap, ◌∙◌, append_assoc, length-append, arith}
use Rattle.std.specs.List.{flat_map, list_any}
use Rattle.std.proofs.lemmas.Bool.{or_from, or_parts, ne_eqb}
use Rattle.std.proofs.lemmas.Bool.Decides.{nat_tests}
use Rattle.std.proofs.lemmas.List.Folds.{list_any-append}
use Rattle.ice_types.specs.declared.identity.Identity.{Identity}
use Rattle.ice_proxy.specs.declared.words.Stand.{Stand}
use Rattle.ice_proxy.specs.declared.words.Stand.TheVariants.{Bare, BareEscape, Quoted, QuotedEscape}
use Rattle.ice_proxy.specs.Words.{is_blank, is_end, behind, word_length}
use Rattle.ice_proxy.specs.PrintedWords.{short, octal_escape, escape_of, escape_in_identity, escapes, in_quotes, quoted_text, is_special, wants_quotes, printed_as, printed_text, printed_identity}
use Rattle.ice_proxy.proofs.EscapeCases.{escape_cases}
use Rattle.ice_proxy.specs.Laws.{EndsWord, Begins, IsWord}

-- From one stand these bytes lead to another, and all are of the word.
record Leads (from : Stand) (bytes : List ℕ) (to : Stand) : Type 0 where
  pub all : (rest : List ℕ) → word_length from (bytes ++ rest) ≡ length bytes + word_length to rest

none : (s : Stand) → Leads s [] s
none s = record { all = λ rest. omega arith }

one : (s t : Stand) (c : ℕ) → behind s c ≡ Some t → Leads s (c ∷ []) t
one s t c e = record { all = λ rest. rw (e, word_length) (omega arith) }

both : (s t u : Stand) (a b : List ℕ) → Leads s a t → Leads t b u → Leads s (a ++ b) u
both s t u a b p q = record { all = λ rest. let e : word_length s ((a ++ b) ++ rest) ≡ word_length s (a ++ (b ++ rest)) = ap (word_length s) (append_assoc a b rest) in omega (arith, e, p.all (b ++ rest), q.all rest, length-append a b) }

all_lead : (s : Stand) (f : ℕ → List ℕ) (bar : ℕ → Bool) → ((c : ℕ) → bar c ≡ false → Leads s (f c) s) → (text : List ℕ) → list_any bar text ≡ false → Leads s (flat_map f text) s
all_lead s f bar each [] e = none s
all_lead s f bar each (c ∷ cs) e = let tests = or_parts (bar c) (list_any bar cs) e in both s s s (f c) (flat_map f cs) (each c tests.0) (all_lead s f bar each cs tests.1)

-- a `\` with what follows it, in quotes
quoted_pair : (c : ℕ) → Leads Quoted (short c) Quoted
quoted_pair c = both Quoted QuotedEscape Quoted (92 ∷ []) (c ∷ []) (one Quoted QuotedEscape 92 refl) (one QuotedEscape Quoted c refl)

-- and outside, where it is none that ends a word
bare_pair : (c : ℕ) → is_end c ≡ false → Leads Bare (short c) Bare
bare_pair c e = both Bare BareEscape Bare (92 ∷ []) (c ∷ []) (one Bare BareEscape 92 refl) (one BareEscape Bare c (rw e refl))

special_end : (c : ℕ) → is_special c ≡ false → is_end c ≡ false
special_end c e =
    let tests = or_parts (is_blank c) (eqb c 58 || (eqb c 64 || eqb c 34)) e in
    let others = or_parts (eqb c 58) (eqb c 64 || eqb c 34) tests.1 in
    or_from (is_blank c) (eqb c 58 || eqb c 64) tests.0 (or_from (eqb c 58) (eqb c 64) others.0 (or_parts (eqb c 64) (eqb c 34) others.1).0)

-- ---- in quotes

-- in a text in quotes, a byte that is neither `\` nor `"`
quoted_byte : (c : ℕ) → eqb c 92 ≡ false → eqb c 34 ≡ false → Leads Quoted (c ∷ []) Quoted
quoted_byte c e f = one Quoted Quoted c (rw (e, f) refl)

digit_byte : (d : ℕ) → d < 8 → Leads Quoted ((48 + d) ∷ []) Quoted
digit_byte d lt = quoted_byte (48 + d) (ne_eqb (48 + d) 92 (λ e. omega arith)) (ne_eqb (48 + d) 34 (λ e. omega arith))

quoted_octal : (c : ℕ) → Leads Quoted (octal_escape c) Quoted
quoted_octal c =
    let two : Leads Quoted ((48 + c / 8 % 8) ∷ (48 + c % 8) ∷ []) Quoted = both Quoted Quoted Quoted ((48 + c / 8 % 8) ∷ []) ((48 + c % 8) ∷ []) (digit_byte (c / 8 % 8) (omega arith)) (digit_byte (c % 8) (omega arith)) in
    both Quoted Quoted Quoted (92 ∷ (48 + c / 64) ∷ []) ((48 + c / 8 % 8) ∷ (48 + c % 8) ∷ []) (quoted_pair (48 + c / 64)) two

quoted_escape_of : (c : ℕ) → Leads Quoted (escape_of c) Quoted
quoted_escape_of c = escape_cases (λ bytes. Leads Quoted bytes Quoted) c (record {
  backslash = λ e. quoted_pair 92;
  quote = λ e. quoted_pair 34;
  apostrophe = λ e. quoted_pair 39;
  newline = λ e. quoted_pair 110;
  carriage_return = λ e. quoted_pair 114;
  tab = λ e. quoted_pair 116;
  octal = λ lt. quoted_octal c;
  same = quoted_byte c;
})

-- ---- outside quotes

bare_byte : (c : ℕ) → is_special c ≡ false → eqb c 92 ≡ false → eqb c 34 ≡ false → Leads Bare (c ∷ []) Bare
bare_byte c no_special no_backslash no_quote = one Bare Bare c (rw (special_end c no_special, no_backslash, no_quote) refl)

digit_end : (d : ℕ) → d < 8 → is_end (48 + d) ≡ false
digit_end d lt = grind (arith, nat_tests)

bare_digit : (d : ℕ) → d < 8 → Leads Bare ((48 + d) ∷ []) Bare
bare_digit d lt = one Bare Bare (48 + d) (rw (digit_end d lt, ne_eqb (48 + d) 92 (λ e. omega arith), ne_eqb (48 + d) 34 (λ e. omega arith)) refl)

bare_octal : (c : ℕ) → c < 128 → Leads Bare (octal_escape c) Bare
bare_octal c lt =
    let two : Leads Bare ((48 + c / 8 % 8) ∷ (48 + c % 8) ∷ []) Bare = both Bare Bare Bare ((48 + c / 8 % 8) ∷ []) ((48 + c % 8) ∷ []) (bare_digit (c / 8 % 8) (omega arith)) (bare_digit (c % 8) (omega arith)) in
    both Bare Bare Bare (92 ∷ (48 + c / 64) ∷ []) ((48 + c / 8 % 8) ∷ (48 + c % 8) ∷ []) (bare_pair (48 + c / 64) (digit_end (c / 64) (omega arith))) two

bare_escape_of : (c : ℕ) → is_special c ≡ false → Leads Bare (escape_of c) Bare
bare_escape_of c no_special = escape_cases (λ bytes. Leads Bare bytes Bare) c (record {
  backslash = λ e. bare_pair 92 refl;
  quote = λ e. bare_pair 34 refl;
  apostrophe = λ e. bare_pair 39 refl;
  newline = λ e. bare_pair 110 refl;
  carriage_return = λ e. bare_pair 114 refl;
  tab = λ e. bare_pair 116 refl;
  octal = bare_octal c;
  same = bare_byte c no_special;
})

-- ---- the same of a byte of a category or a name

in_identity : (s : Stand) (c : ℕ) → Leads s (short 47) s → Leads s (escape_of c) s → Leads s (escape_in_identity c) s
in_identity s c slash other = by_slash (eqb c 47)
  where
    by_slash : (b : Bool) → Leads s (cond b (short 47) (escape_of c)) s
    by_slash true = slash
    by_slash false = other

quoted_in_identity : (c : ℕ) → Leads Quoted (escape_in_identity c) Quoted
quoted_in_identity c = in_identity Quoted c (quoted_pair 47) (quoted_escape_of c)

bare_in_identity : (c : ℕ) → is_special c ≡ false → Leads Bare (escape_in_identity c) Bare
bare_in_identity c e = in_identity Bare c (bare_pair 47 refl) (bare_escape_of c e)

-- ---- words

end_of_word : (rest : List ℕ) → EndsWord rest → word_length Bare rest ≡ 0
end_of_word [] h = refl
end_of_word (c ∷ cs) h = let e : behind Bare c ≡ None = rw h refl in rw (e, word_length) refl

word_alone : (bytes : List ℕ) → Begins bytes → Leads Bare bytes Bare → IsWord bytes
word_alone bytes begins leads = record { begins = begins; whole = λ rest ends. omega (arith, leads.all rest, end_of_word rest ends) }

in_quotes_is : (bytes : List ℕ) → Leads Quoted bytes Quoted → IsWord (in_quotes bytes)
in_quotes_is bytes leads = word_alone (in_quotes bytes) refl (both Bare Quoted Bare (34 ∷ []) (bytes ++ 34 ∷ []) (one Bare Quoted 34 refl) (both Quoted Quoted Bare bytes (34 ∷ []) leads (one Quoted Bare 34 refl)))

pub begins_more : (a b : List ℕ) → Begins a → Begins (a ++ b)
begins_more [] b h = absurd h
begins_more (c ∷ a) b h = h

begins_escape : (c : ℕ) → is_special c ≡ false → Begins (escape_of c)
begins_escape c e = escape_cases Begins c (record {
  backslash = λ e. refl;
  quote = λ e. refl;
  apostrophe = λ e. refl;
  newline = λ e. refl;
  carriage_return = λ e. refl;
  tab = λ e. refl;
  octal = λ lt. refl;
  same = λ no_backslash no_quote. special_end c e;
})

begins_in_identity : (c : ℕ) → is_special c ≡ false → Begins (escape_in_identity c)
begins_in_identity c e = by_slash (eqb c 47)
  where
    by_slash : (b : Bool) → Begins (cond b (short 47) (escape_of c))
    by_slash true = refl
    by_slash false = begins_escape c e

no_bar : (text : List ℕ) → list_any (λ c. false) text ≡ false
no_bar [] = refl
no_bar (c ∷ cs) = no_bar cs

-- Bytes that lead from quotes to quotes, and where the text wants none from outside to outside.
printed_stands : (text bytes : List ℕ) → Leads Quoted bytes Quoted → (wants_quotes text ≡ false → Begins bytes × Leads Bare bytes Bare) → IsWord (printed_as text bytes)
printed_stands text bytes inside outside = by_wish (wants_quotes text) refl
  where
    by_wish : (b : Bool) → wants_quotes text ≡ b → IsWord (cond b (in_quotes bytes) bytes)
    by_wish true e = in_quotes_is bytes inside
    by_wish false e = let h = outside e in word_alone bytes h.0 h.1

-- of a way to print bytes one at a time
record StandsEach (f : ℕ → List ℕ) : Type 0 where
  pub inside : (c : ℕ) → Leads Quoted (f c) Quoted
  pub outside : (c : ℕ) → is_special c ≡ false → Leads Bare (f c) Bare
  pub begins : (c : ℕ) → is_special c ≡ false → Begins (f c)

module _ (f : ℕ → List ℕ) (each : StandsEach f) where
  inside_all : (text : List ℕ) → Leads Quoted (flat_map f text) Quoted
  inside_all text = all_lead Quoted f (λ c. false) (λ c e. each.inside c) text (no_bar text)

  outside_all : (text : List ℕ) → list_any is_special text ≡ false → Leads Bare (flat_map f text) Bare
  outside_all text e = all_lead Bare f is_special each.outside text e

  begins_all : (c : ℕ) (cs : List ℕ) → list_any is_special (c ∷ cs) ≡ false → Begins (flat_map f (c ∷ cs))
  begins_all c cs e = begins_more (f c) (flat_map f cs) (each.begins c (or_parts (is_special c) (list_any is_special cs) e).0)

  all_stand : (text : List ℕ) → IsWord (printed_as text (flat_map f text))
  all_stand [] = printed_stands [] [] (none Quoted) (λ e. absurd cc)
  all_stand (c ∷ cs) = printed_stands (c ∷ cs) (flat_map f (c ∷ cs)) (inside_all (c ∷ cs))
      (λ e. let tests = or_parts (eqb c 45) (list_any is_special (c ∷ cs)) e in (begins_all c cs tests.1, outside_all (c ∷ cs) tests.1))

  -- a category that is not empty, a `/` and a name
  both_stand : (c : ℕ) (cs name : List ℕ) → IsWord (printed_as ((c ∷ cs) ++ 47 ∷ name) (flat_map f (c ∷ cs) ++ 47 ∷ flat_map f name))
  both_stand c cs name =
      let front = flat_map f (c ∷ cs) in
      let back = flat_map f name in
      printed_stands ((c ∷ cs) ++ 47 ∷ name) (front ++ 47 ∷ back)
      (both Quoted Quoted Quoted front (47 ∷ back) (inside_all (c ∷ cs)) (both Quoted Quoted Quoted (47 ∷ []) back (one Quoted Quoted 47 refl) (inside_all name)))
      (λ e.
      let test : list_any is_special ((c ∷ cs) ++ 47 ∷ name) ≡ false = (or_parts (eqb c 45) (list_any is_special ((c ∷ cs) ++ 47 ∷ name)) e).1 in
      let parts = or_parts (list_any is_special (c ∷ cs)) (list_any is_special (47 ∷ name)) (sym (list_any-append is_special (c ∷ cs) (47 ∷ name)) ∙ test) in
      (begins_more front (47 ∷ back) (begins_all c cs parts.0), both Bare Bare Bare front (47 ∷ back) (outside_all (c ∷ cs) parts.0) (both Bare Bare Bare (47 ∷ []) back (one Bare Bare 47 refl) (outside_all name parts.1))))

-- ---- the laws

pub texts_stand : (text : List ℕ) → IsWord (printed_text text)
texts_stand text = all_stand escape_of (record { inside = quoted_escape_of; outside = bare_escape_of; begins = begins_escape }) text

pub quotes_stand : (text : List ℕ) → IsWord (quoted_text text)
quotes_stand text = in_quotes_is (escapes text) (inside_all escape_of (record { inside = quoted_escape_of; outside = bare_escape_of; begins = begins_escape }) text)

in_names : StandsEach escape_in_identity
in_names = record { inside = quoted_in_identity; outside = bare_in_identity; begins = begins_in_identity }

parts_stand : (name category : List ℕ) → IsWord (printed_identity (record { name = name; category = category }))
parts_stand name [] = all_stand escape_in_identity in_names name
parts_stand name (c ∷ cs) = both_stand escape_in_identity in_names c cs name

pub identities_stand : (i : Identity) → IsWord (printed_identity i)
identities_stand i = parts_stand i.name i.category
