-- What is printed of a text or an identity is read as that again.
use Rattle.std.proofs.Common.{ℕ, ◌<◌, ◌≡◌, Bool, true, false, cond, ◌||◌, List, [], ◌∷◌, ◌++◌, length, Option, None, Some, refl, sym, ap, ◌∙◌, append_assoc, arith}
use Rattle.std.proofs.lemmas.List.{append-nil}
use Rattle.std.specs.Option.{option_and_then}
use Rattle.std.specs.List.{flat_map, list_any}
use Rattle.std.specs.Str.{IsUtf8, is_utf8}
use Rattle.std.proofs.lemmas.Bool.{false_from_ne_true, or_from, or_parts}
use Rattle.std.proofs.lemmas.Str.{IsUtf8-from_is_utf8, is_utf8-from_IsUtf8, IsUtf8-nil}
use Rattle.std.proofs.lemmas.List.Folds.{list_any-append}
use Rattle.ice_types.specs.declared.identity.Identity.{Identity}
use Rattle.ice_proxy.specs.Escapes.{Letter, with_front, plain, letters, is_plain, is_quote, until_quote, unquoted, bytes_of, utf8, utf8_of, text_of, parted, with_name, joined, named, identity_of}
use Rattle.ice_proxy.specs.Taking.{is_stop}
use Rattle.ice_proxy.specs.PrintedWords.{escape_of, escape_in_identity, escapes, in_quotes, quoted_text, wants_quotes, printed_as, printed_text, whole_name, identity_escapes, printed_identity}
use Rattle.ice_proxy.proofs.Letters.{letters_plain, front_then}
use Rattle.ice_proxy.proofs.Written.{all_letters, text_letter, name_letter}

-- ---- quotes

pub unquoted_bare : (ls : List Letter) → list_any is_quote ls ≡ false → unquoted ls ≡ Some ls
unquoted_bare [] e = refl
unquoted_bare (l ∷ ls) e = let tests = or_parts (is_quote l) (list_any is_quote ls) e in rw (tests.0, tests.1) refl

pub until_quote_is : (ls : List Letter) → list_any is_quote ls ≡ false → until_quote (ls ++ plain 34 ∷ []) ≡ Some ls
until_quote_is [] e = refl
until_quote_is (l ∷ []) e = let tests = or_parts (is_quote l) false e in rw tests.0 refl
until_quote_is (l ∷ m ∷ ls) e =
    let tests = or_parts (is_quote l) (list_any is_quote (m ∷ ls)) e in
    let others = until_quote_is (m ∷ ls) tests.1 in
    rw (tests.0, others) refl

-- the letters within the quotes of a word, or of a word that has none
abbrev pub letters_inside : List ℕ → Option (List Letter)
letters_inside bytes = option_and_then unquoted (letters bytes)

module _ (bytes : List ℕ) (front : List Letter) (reads : (rest : List ℕ) → letters (bytes ++ rest) ≡ with_front front (letters rest)) (none : list_any is_quote front ≡ false) where
  inside_bare : letters_inside bytes ≡ Some front
  inside_bare =
      let e : letters bytes ≡ Some front = ap letters (sym (append-nil bytes)) ∙ reads [] ∙ ap (λ (l : List Letter). Some l) (append-nil front) in
      rw e (unquoted_bare front none)

  inside_quotes : letters_inside (in_quotes bytes) ≡ Some front
  inside_quotes =
      let e : letters (in_quotes bytes) ≡ Some (plain 34 ∷ (front ++ plain 34 ∷ [])) = letters_plain 34 (bytes ++ 34 ∷ []) refl ∙ ap (with_front (plain 34 ∷ [])) (reads (34 ∷ [])) in
      rw e (until_quote_is front none)

  pub inside_printed : (text : List ℕ) → letters_inside (printed_as text bytes) ≡ Some front
  inside_printed text = by_wish (wants_quotes text)
    where
      by_wish : (b : Bool) → letters_inside (cond b (in_quotes bytes) bytes) ≡ Some front
      by_wish true = inside_quotes
      by_wish false = inside_bare

-- ---- UTF-8

pub utf8_some : (bytes text : List ℕ) → text ≡ bytes → IsUtf8 bytes → Some text ≡ utf8 bytes
utf8_some bytes text e is = rw (is_utf8-from_IsUtf8 bytes is) (ap (λ (l : List ℕ). Some l) e)

pub utf8_none : (bytes : List ℕ) → (IsUtf8 bytes → ⊥) → None ≡ utf8 bytes
utf8_none bytes not = rw (false_from_ne_true (is_utf8 bytes) (λ e. not (IsUtf8-from_is_utf8 bytes e))) refl

-- ---- texts

utf8_is : (ls : List Letter) (text : List ℕ) → bytes_of ls ≡ text → IsUtf8 text → utf8_of ls ≡ Some text
utf8_is ls text e is = rw (e, is_utf8-from_IsUtf8 text is) refl

text_inside : (word text : List ℕ) (ls : List Letter) → letters_inside word ≡ Some ls → bytes_of ls ≡ text → IsUtf8 text → text_of word ≡ Some text
text_inside word text ls e is utf8 = ap (option_and_then utf8_of) e ∙ utf8_is ls text is utf8

pub texts_read : (text : List ℕ) → IsUtf8 text → text_of (printed_text text) ≡ Some text
texts_read text utf8 =
    let all = all_letters is_quote escape_of text_letter text in
    text_inside (printed_text text) text all.front (inside_printed (escapes text) all.front all.reads all.unbarred text) all.are_bytes utf8

pub quotes_read : (text : List ℕ) → IsUtf8 text → text_of (quoted_text text) ≡ Some text
quotes_read text utf8 =
    let all = all_letters is_quote escape_of text_letter text in
    text_inside (quoted_text text) text all.front (inside_quotes (escapes text) all.front all.reads all.unbarred) all.are_bytes utf8

-- ---- identities

-- Of letters among which is no quote and no mark none is a quote, and none the mark.
pub no_stop : (mark : ℕ) (ls : List Letter) → list_any (is_stop mark) ls ≡ false → (list_any is_quote ls ≡ false) × (list_any (is_plain mark) ls ≡ false)
no_stop mark [] e = (refl, refl)
no_stop mark (l ∷ ls) e =
    let tests = or_parts (is_quote l || is_plain mark l) (list_any (is_stop mark) ls) e in
    let here = or_parts (is_quote l) (is_plain mark l) tests.0 in
    let others = no_stop mark ls tests.1 in
    (or_from (is_quote l) (list_any is_quote ls) here.0 others.0, or_from (is_plain mark l) (list_any (is_plain mark) ls) here.1 others.1)

pub parted_none : (ls : List Letter) → list_any (is_plain 47) ls ≡ false → parted ls ≡ (ls, None)
parted_none [] e = refl
parted_none (l ∷ ls) e =
    let tests = or_parts (is_plain 47 l) (list_any (is_plain 47) ls) e in
    rw (tests.0, parted_none ls tests.1) refl

pub parted_at : (front back : List Letter) → list_any (is_plain 47) front ≡ false → parted (front ++ plain 47 ∷ back) ≡ (front, Some back)
parted_at [] back e = refl
parted_at (l ∷ ls) back e =
    let tests = or_parts (is_plain 47 l) (list_any (is_plain 47) ls) e in
    rw (tests.0, parted_at ls back tests.1) refl

name_is : (category name : List ℕ) → 0 < length name → with_name category name ≡ Some (record { name = name; category = category })
name_is category [] lt = absurd (omega arith)
name_is category (c ∷ cs) lt = refl

joined_is : (name category : List ℕ) → 0 < length name → IsUtf8 name → IsUtf8 category → joined category name ≡ Some (record { name = name; category = category })
joined_is name category filled name_utf8 category_utf8 = rw (is_utf8-from_IsUtf8 name name_utf8, is_utf8-from_IsUtf8 category category_utf8) (name_is category name filled)

abbrev it : List ℕ → List ℕ → Identity
it name category = record { name = name; category = category }

alone : (name : List ℕ) (ls : List Letter) → 0 < length name → IsUtf8 name → bytes_of ls ≡ name → list_any (is_stop 47) ls ≡ false → named (parted ls) ≡ Some (it name [])
alone name ls filled name_utf8 e none = rw (parted_none ls (no_stop 47 ls none).1, e) (joined_is name [] filled name_utf8 IsUtf8-nil)

module _ (name category : List ℕ) (filled : 0 < length name) (name_utf8 : IsUtf8 name) (category_utf8 : IsUtf8 category) where
  both : (front back : List Letter) → bytes_of front ≡ category → bytes_of back ≡ name → list_any (is_stop 47) front ≡ false → list_any (is_stop 47) back ≡ false → named (parted (front ++ plain 47 ∷ back)) ≡ Some (it name category)
  both front back e f none free = rw (parted_at front back (no_stop 47 front none).1, (no_stop 47 back free).1, e, f) (joined_is name category filled name_utf8 category_utf8)

-- the letters of a category, a `/` and those of a name
joined_reads : (a b : List ℕ) (front back : List Letter) → ((rest : List ℕ) → letters (a ++ rest) ≡ with_front front (letters rest)) → ((rest : List ℕ) → letters (b ++ rest) ≡ with_front back (letters rest))
    → (rest : List ℕ) → letters ((a ++ 47 ∷ b) ++ rest) ≡ with_front (front ++ plain 47 ∷ back) (letters rest)
joined_reads a b front back p q rest =
    ap letters (append_assoc a (47 ∷ b) rest) ∙ p (47 ∷ (b ++ rest)) ∙ ap (with_front front) (letters_plain 47 (b ++ rest) refl ∙ ap (with_front (plain 47 ∷ [])) (q rest) ∙ front_then (plain 47 ∷ []) back (letters rest))
    ∙ front_then front (plain 47 ∷ back) (letters rest)

identity_inside : (word : List ℕ) (ls : List Letter) (i : Identity) → letters_inside word ≡ Some ls → named (parted ls) ≡ Some i → identity_of word ≡ Some i
identity_inside word ls i e is = ap (option_and_then (λ ls. named (parted ls))) e ∙ is

parts_read : (name category : List ℕ) → 0 < length name → IsUtf8 name → IsUtf8 category → identity_of (printed_identity (it name category)) ≡ Some (it name category)
parts_read name [] filled name_utf8 category_utf8 =
    let all = all_letters (is_stop 47) escape_in_identity name_letter name in
    identity_inside (printed_identity (it name [])) all.front (it name [])
    (inside_printed (flat_map escape_in_identity name) all.front all.reads (no_stop 47 all.front all.unbarred).0 name)
    (alone name all.front filled name_utf8 all.are_bytes all.unbarred)
parts_read name (c ∷ cs) filled name_utf8 category_utf8 =
    let a = all_letters (is_stop 47) escape_in_identity name_letter (c ∷ cs) in
    let b = all_letters (is_stop 47) escape_in_identity name_letter name in
    let none : list_any is_quote (a.front ++ plain 47 ∷ b.front) ≡ false = list_any-append is_quote a.front (plain 47 ∷ b.front) ∙ or_from (list_any is_quote a.front) (list_any is_quote b.front) (no_stop 47 a.front a.unbarred).0 (no_stop 47 b.front b.unbarred).0 in
    identity_inside (printed_identity (it name (c ∷ cs))) (a.front ++ plain 47 ∷ b.front) (it name (c ∷ cs))
    (inside_printed (identity_escapes (it name (c ∷ cs))) (a.front ++ plain 47 ∷ b.front)
    (joined_reads (flat_map escape_in_identity (c ∷ cs)) (flat_map escape_in_identity name) a.front b.front a.reads b.reads) none (whole_name (it name (c ∷ cs))))
    (both name (c ∷ cs) filled name_utf8 category_utf8 a.front b.front a.are_bytes b.are_bytes a.unbarred b.unbarred)

pub identities_read : (i : Identity) → 0 < length i.name → IsUtf8 i.name → IsUtf8 i.category → identity_of (printed_identity i) ≡ Some i
identities_read i filled name_utf8 category_utf8 = parts_read i.name i.category filled name_utf8 category_utf8
