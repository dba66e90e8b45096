-- What a word stands for is no longer than the word.
use Rattle.std.proofs.Common.{ℕ, zero, suc, ◌+◌, ◌*◌, ◌≤◌, ◌≡◌, Bool, true, false, cond, eqb, ltb, ◌&&◌, List, [], ◌∷◌, ◌++◌, length, Option, None, Some, Result, Ok, Err, refl, sym, ap, subst, inl, inr, arith}
use Rattle.std.specs.Prelude.{◌/◌, ◌%◌}
use Rattle.std.specs.Option.{option_and_then}
use Rattle.std.specs.Char.{digit_value, encode_utf8}
use Rattle.std.specs.List.{list_any}
use Rattle.std.specs.Str.{is_utf8, bytes_eq}
use lib.Utf8.{scalar}
use Rattle.std.proofs.lemmas.List.{length-append}
use Rattle.hex.specs.Hex.{decode_of}
use Rattle.hex.specs.declared.error.FromHexError.{FromHexError}
use Rattle.hex.proofs.HexLemmas.{decode_of-ok}
use Rattle.ice_prims.proofs.Parts.{chosen}
use Rattle.ice_types.specs.declared.identity.Identity.{Identity}
use Rattle.ice_proxy.specs.Escapes.{Letter, with_front, plain, escaped, short_escapes, found_in, Escape, octal, digits, character, escape, letters_within, letters, is_plain, is_quote, until_quote, unquoted, bytes_of, utf8, utf8_of, text_of, parted, with_name, joined, named, identity_of}
use Rattle.ice_proxy.proofs.Letters.{some_is, then_some}
use Rattle.ice_proxy.specs.Numbers.{known, hexadecimal}

-- a test that passed
passed : {A : Type 0} (b : Bool) (x y : A) → cond b (Some x) None ≡ Some y → x ≡ y
passed true x y e = some_is x y e
passed false x y e = absurd cc

-- ---- escapes

utf8_short : (c : ℕ) → length (encode_utf8 c) ≤ 4
unfolding encode_utf8
utf8_short c = by_size (ltb c 128) (ltb c 2048) (ltb c 65536)
  where
    by_size : (a b d : Bool) → length (cond a (c ∷ []) (cond b ((192 + c / 64) ∷ (128 + c % 64) ∷ []) (cond d ((224 + c / 4096) ∷ (128 + c / 64 % 64) ∷ (128 + c % 64) ∷ []) ((240 + c / 262144) ∷ (128 + c / 4096 % 64) ∷ (128 + c / 64 % 64) ∷ (128 + c % 64) ∷ [])))) ≤ 4
    by_size true b d = omega arith
    by_size false true d = omega arith
    by_size false false true = omega arith
    by_size false false false = omega arith

digits_short : (n value : ℕ) (bytes : List ℕ) (d : ℕ × List ℕ) → digits n value bytes ≡ Some d → length d.1 + n ≤ length bytes
digits_short zero value bytes d e = subst (λ (x : ℕ × List ℕ). length x.1 + 0 ≤ length bytes) (some_is (value, bytes) d e) (omega arith)
digits_short (suc n) value [] d e = absurd cc
digits_short (suc n) value (c ∷ cs) d e = elim (chosen (ltb (digit_value c) 16) (digits n (value * 16 + digit_value c) cs) None (Some d) e) [
  | inl h ↦ let k = digits_short n (value * 16 + digit_value c) cs d h.1 in omega (arith, k)
  | inr h ↦ absurd (let k = h.1 in cc)
]

-- what an escape stands for and what follows it
abbrev both : List ℕ × List ℕ → ℕ
both x = length x.0 + length x.1

character_short : (n : ℕ) (bytes : List ℕ) (x : List ℕ × List ℕ) → 4 ≤ n → character n bytes ≡ Some x → both x ≤ length bytes
character_short n bytes x long e = then_some (digits n 0 bytes) (λ d. cond (scalar d.0) (Some (encode_utf8 d.0, d.1)) None) x e
    (λ d is last.
    let few = digits_short n 0 bytes d is in
    let short = utf8_short d.0 in
    subst (λ (y : List ℕ × List ℕ). both y ≤ length bytes) (passed (scalar d.0) (encode_utf8 d.0, d.1) x last) (omega (arith, few, short, long)))

octal_short : (bytes : List ℕ) (x : List ℕ × List ℕ) → octal bytes ≡ Some x → both x ≤ length bytes
octal_short [] x e = absurd cc
octal_short (a ∷ []) x e = absurd cc
octal_short (a ∷ b ∷ []) x e = absurd cc
octal_short (a ∷ b ∷ c ∷ rest) x e =
    let made : List ℕ × List ℕ = ((digit_value a * 64 + (digit_value b * 8 + digit_value c)) ∷ [], rest) in
    subst (λ (y : List ℕ × List ℕ). both y ≤ suc (suc (suc (length rest)))) (passed (ltb (digit_value a) 4 && (ltb (digit_value b) 8 && ltb (digit_value c) 8)) made x e) (omega arith)

escape_short : (bytes : List ℕ) (x : List ℕ × List ℕ) → escape bytes ≡ Some x → both x ≤ length bytes
escape_short [] x e = absurd cc
escape_short (c ∷ cs) x e = by_short (found_in c short_escapes) e
  where
    by_short : (o : Option ℕ) → elim o as (λ s. Escape) [ Some b ↦ Some (b ∷ [], cs) | None ↦ cond (eqb c 117) (character 4 cs) (cond (eqb c 85) (character 8 cs) (octal (c ∷ cs))) ] ≡ Some x → both x ≤ suc (length cs)
    by_short (Some b) e = subst (λ (y : List ℕ × List ℕ). both y ≤ suc (length cs)) (some_is (b ∷ [], cs) x e) (omega arith)
    by_short None e = elim (chosen (eqb c 117) (character 4 cs) (cond (eqb c 85) (character 8 cs) (octal (c ∷ cs))) (Some x) e) [
      | inl h ↦ let k = character_short 4 cs x (omega arith) h.1 in omega (arith, k)
      | inr h ↦ elim (chosen (eqb c 85) (character 8 cs) (octal (c ∷ cs)) (Some x) h.1) [
        | inl k ↦ let m = character_short 8 cs x (omega arith) k.1 in omega (arith, m)
        | inr k ↦ octal_short (c ∷ cs) x k.1
      ]
    ]

-- ---- letters

front_length : {C : Type 0} (front : List Letter) (found : Option (List Letter)) (ls : List Letter) → with_front front found ≡ Some ls → ((others : List Letter) → found ≡ Some others → length ls ≡ length front + length others → C) → C
front_length front found ls e go = then_some found (λ others. Some (front ++ others)) ls e
    (λ others is last. go others is (subst (λ (x : List Letter). length x ≡ length front + length others) (some_is (front ++ others) ls last) (length-append front others)))

escaped_length : (bytes : List ℕ) → length (escaped bytes) ≡ length bytes
escaped_length [] = refl
escaped_length (c ∷ cs) = ap suc (escaped_length cs)

letters_short : (steps : ℕ) (bytes : List ℕ) (ls : List Letter) → letters_within steps bytes ≡ Some ls → length ls ≤ length bytes
letters_short zero [] ls e = subst (λ (x : List Letter). length x ≤ 0) (some_is [] ls e) (omega arith)
letters_short (suc n) [] ls e = subst (λ (x : List Letter). length x ≤ 0) (some_is [] ls e) (omega arith)
letters_short zero (c ∷ cs) ls e = absurd cc
letters_short (suc n) (c ∷ cs) ls e = by (eqb c 92) e (letters_short n)
  where
    by : (b : Bool) → cond b (option_and_then (λ x. with_front (escaped x.0) (letters_within n x.1)) (escape cs)) (with_front (plain c ∷ []) (letters_within n cs)) ≡ Some ls
        → ((bytes : List ℕ) (ls : List Letter) → letters_within n bytes ≡ Some ls → length ls ≤ length bytes) → length ls ≤ suc (length cs)
    by true e more = then_some (escape cs) (λ x. with_front (escaped x.0) (letters_within n x.1)) ls e
        (λ x is last. front_length (escaped x.0) (letters_within n x.1) ls last
        (λ others others_are len.
        let a = escape_short cs x is in
        let b = more x.1 others others_are in
        let d = escaped_length x.0 in
        omega (arith, a, b, d, len)))
    by false e more = front_length (plain c ∷ []) (letters_within n cs) ls e
        (λ others others_are len. let b = more cs others others_are in omega (arith, b, len))

until_short : (ls ms : List Letter) → until_quote ls ≡ Some ms → length ms ≤ length ls
until_short [] ms e = absurd cc
until_short (l ∷ []) ms e = subst (λ (x : List Letter). length x ≤ 1) (passed (is_quote l) [] ms e) (omega arith)
until_short (l ∷ m ∷ ls) ms e = by (is_quote l) e (until_short (m ∷ ls))
  where
    by : (b : Bool) → cond b None (with_front (l ∷ []) (until_quote (m ∷ ls))) ≡ Some ms → ((ns : List Letter) → until_quote (m ∷ ls) ≡ Some ns → length ns ≤ suc (length ls)) → length ms ≤ suc (suc (length ls))
    by true e more = absurd cc
    by false e more = front_length (l ∷ []) (until_quote (m ∷ ls)) ms e (λ others is len. let b = more others is in omega (arith, b, len))

unquoted_short : (ls ms : List Letter) → unquoted ls ≡ Some ms → length ms ≤ length ls
unquoted_short [] ms e = subst (λ (x : List Letter). length x ≤ 0) (some_is [] ms e) (omega arith)
unquoted_short (l ∷ ls) ms e = by (is_quote l) (list_any is_quote ls) e
  where
    by : (b d : Bool) → cond b (until_quote ls) (cond d None (Some (l ∷ ls))) ≡ Some ms → length ms ≤ suc (length ls)
    by true d e = let k = until_short ls ms e in omega (arith, k)
    by false true e = absurd cc
    by false false e = subst (λ (x : List Letter). length x ≤ suc (length ls)) (some_is (l ∷ ls) ms e) (omega arith)

-- the letters of a word without its quotes
inside_short : (bytes : List ℕ) (ls : List Letter) → option_and_then unquoted (letters bytes) ≡ Some ls → length ls ≤ length bytes
inside_short bytes ls e = then_some (letters bytes) unquoted ls e
    (λ all is last. let a = letters_short (length bytes) bytes all is in let b = unquoted_short all ls last in omega (arith, a, b))

bytes_length : (ls : List Letter) → length (bytes_of ls) ≡ length ls
bytes_length [] = refl
bytes_length (l ∷ ls) = ap suc (bytes_length ls)

-- ---- texts

utf8_same : (bytes text : List ℕ) → utf8 bytes ≡ Some text → length text ≡ length bytes
utf8_same bytes text e = ap length (sym (passed (is_utf8 bytes) bytes text e))

pub text_shorter : (bytes text : List ℕ) → text_of bytes ≡ Some text → length text ≤ length bytes
text_shorter bytes text e = then_some (option_and_then unquoted (letters bytes)) utf8_of text e
    (λ ls is last. let a = inside_short bytes ls is in let b = utf8_same (bytes_of ls) text last in omega (arith, a, b, bytes_length ls))

-- ---- identities

-- how many bytes an identity has
abbrev pub identity_length : Identity → ℕ
identity_length i = length i.name + length i.category

with_name_short : (category name : List ℕ) (i : Identity) → with_name category name ≡ Some i → identity_length i ≤ length name + length category
with_name_short category [] i e = absurd cc
with_name_short category (b ∷ bs) i e = subst (λ (j : Identity). identity_length j ≤ suc (length bs) + length category) (some_is (record { name = b ∷ bs; category = category }) i e) (omega arith)

joined_short : (category name : List ℕ) (i : Identity) → joined category name ≡ Some i → identity_length i ≤ length name + length category
joined_short category name i e = then_some (utf8 category) (λ c. option_and_then (with_name c) (utf8 name)) i e
    (λ c c_is rest. then_some (utf8 name) (with_name c) i rest
    (λ n n_is last.
    let a = with_name_short c n i last in
    let b = utf8_same category c c_is in
    let d = utf8_same name n n_is in
    omega (arith, a, b, d)))

-- the letters behind a `/`
abbrev behind : Option (List Letter) → ℕ
behind None = 0
behind (Some ls) = length ls

parted_short : (ls : List Letter) → length (parted ls).0 + behind (parted ls).1 ≤ length ls
parted_short [] = omega arith
parted_short (l ∷ ls) = by (is_plain 47 l) (parted_short ls)
  where
    parts : Bool → List Letter × Option (List Letter)
    parts b = cond b ([], Some ls) (l ∷ (parted ls).0, (parted ls).1)

    by : (b : Bool) → length (parted ls).0 + behind (parted ls).1 ≤ length ls → length (parts b).0 + behind (parts b).1 ≤ suc (length ls)
    by true h = omega arith
    by false h = omega (arith, h)

named_short : (p : List Letter × Option (List Letter)) (i : Identity) → named p ≡ Some i → identity_length i ≤ length p.0 + behind p.1
named_short (name, None) i e = let a = joined_short [] (bytes_of name) i e in omega (arith, a, bytes_length name)
named_short (category, Some name) i e = by (list_any (is_plain 47) name) e
  where
    by : (b : Bool) → cond b None (joined (bytes_of category) (bytes_of name)) ≡ Some i → identity_length i ≤ length category + length name
    by true e = absurd cc
    by false e = let a = joined_short (bytes_of category) (bytes_of name) i e in omega (arith, a, bytes_length name, bytes_length category)

pub identity_shorter : (bytes : List ℕ) (i : Identity) → identity_of bytes ≡ Some i → identity_length i ≤ length bytes
identity_shorter bytes i e = then_some (option_and_then unquoted (letters bytes)) (λ ls. named (parted ls)) i e
    (λ ls is last.
    let a = inside_short bytes ls is in
    let b = named_short (parted ls) i last in
    omega (arith, a, b, parted_short ls))

-- ---- bytes

known_ok : (r : Result (List ℕ) FromHexError) (bytes : List ℕ) → known r ≡ Some bytes → r ≡ Ok bytes
known_ok (Ok x) bytes e = ap Ok (some_is _ _ e)
known_ok (Err d) bytes e = absurd cc

pub content_shorter : (word bytes : List ℕ) → hexadecimal word ≡ Some bytes → length bytes ≤ length word
content_shorter word bytes e = by (bytes_eq word (34 ∷ 34 ∷ [])) e
  where
    by : (b : Bool) → cond b (Some []) (known (decode_of word)) ≡ Some bytes → length bytes ≤ length word
    by true e = subst (λ (x : List ℕ). length x ≤ length word) (some_is [] bytes e) (omega arith)
    by false e = let twice = (decode_of-ok word bytes (known_ok (decode_of word) bytes e)).2 in omega (arith, twice)
