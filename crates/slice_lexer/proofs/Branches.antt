-- Which token stands there by the first byte, and how long tokens there may be.
use Rattle.std.proofs.Common.{ℕ, zero, suc, ◌≡◌, ◌+◌, ◌≤◌, Bool, true, false, not, ◌&&◌, ◌==◌, nat_le, List, [], ◌∷◌, ◌++◌, length, take, drop, codes, slice_get, Some, Ok, refl, sym, ap, ap₂, subst, ◌∙◌, inl, inr, arith, append_assoc, length-append}
use Rattle.std.specs.Char.{is_ascii_digit, is_digit}
use Rattle.std.specs.List.{list_all}
use Rattle.std.proofs.lemmas.Bool.Decides.{nat_tests}
use Rattle.case_tables.specs.Tables.{keyword_names, symbol_names}
use Rattle.slice_lexer.specs.declared.token.TokenKind.{TokenKind}
use Rattle.slice_lexer.specs.declared.token.TokenKind.TheVariants as kinds
use Rattle.slice_lexer.specs.declared.piece.Piece.TheVariants as pieces
use Rattle.slice_lexer.specs.Bytes.{newline, quote, hash, slash, backslash, first, is_blank, is_letter, is_word_byte, begins_with, line, word, digits, string_length, is_line_blank}
use Rattle.slice_lexer.specs.Pieces.{token, word_kind, word_at, escaped_at, comment_at, base_of, prefix_of, number_length, number_value, is_number, number_at, string_at, directive_at, symbol_code, symbol_at, front}
use Rattle.slice_lexer.specs.Tokens.{AreDigits, IsIdentifier, IsInteger, Characters}
use Rattle.slice_lexer.proofs.Sizes.{choose, letter_goes_on}
use Rattle.slice_lexer.proofs.Stretches.{both, unequal, run_bound, string_reach}

letter_no_blank : (byte : ℕ) → is_letter byte ≡ true → is_blank byte ≡ false
letter_no_blank byte h = grind (arith, nat_tests)

digit_no_blank : (byte : ℕ) → is_ascii_digit byte ≡ true → is_blank byte ≡ false
digit_no_blank byte h = grind (arith, nat_tests)

digit_no_letter : (byte : ℕ) → is_ascii_digit byte ≡ true → is_letter byte ≡ false
digit_no_letter byte h = grind (arith, nat_tests)

pub front_blank : (place : ℕ) (before : List ℕ) (byte : ℕ) (bytes : List ℕ) → is_blank byte ≡ true → front place before (byte ∷ bytes) ≡ Ok (pieces.Gap 1)
unfolding front
front_blank place before byte bytes h = rw h refl

pub front_word : (place : ℕ) (before : List ℕ) (byte : ℕ) (bytes : List ℕ) → is_letter byte ≡ true → front place before (byte ∷ bytes) ≡ word_at (byte ∷ bytes)
unfolding front
front_word place before byte bytes h = rw (letter_no_blank byte h, h) refl

pub front_number : (place : ℕ) (before : List ℕ) (byte : ℕ) (bytes : List ℕ) → is_ascii_digit byte ≡ true → front place before (byte ∷ bytes) ≡ number_at place (byte ∷ bytes)
unfolding front
front_number place before byte bytes h = rw (digit_no_blank byte h, digit_no_letter byte h, h) refl

pub front_slash : (place : ℕ) (before bytes : List ℕ) → front place before (slash ∷ bytes) ≡ comment_at place (slash ∷ bytes)
unfolding front
front_slash place before bytes = refl

pub front_quote : (place : ℕ) (before bytes : List ℕ) → front place before (quote ∷ bytes) ≡ string_at place (quote ∷ bytes)
unfolding front
front_quote place before bytes = refl

pub front_backslash : (place : ℕ) (before bytes : List ℕ) → front place before (backslash ∷ bytes) ≡ escaped_at place (backslash ∷ bytes)
unfolding front
front_backslash place before bytes = refl

pub front_hash : (place : ℕ) (before bytes : List ℕ) → front place before (hash ∷ bytes) ≡ directive_at place before (hash ∷ bytes)
unfolding front
front_hash place before bytes = refl

-- a byte with which no other piece begins
abbrev pub is_other : ℕ → Bool
is_other byte = not (is_blank byte) && (not (is_letter byte) && (not (is_ascii_digit byte) && (not (byte == slash) && (not (byte == quote) && (not (byte == backslash) && not (byte == hash))))))

denied : (b : Bool) → not b ≡ true → b ≡ false
denied true h = absurd cc
denied false h = refl

pub front_symbol : (place : ℕ) (before : List ℕ) (byte : ℕ) (bytes : List ℕ) → is_other byte ≡ true → front place before (byte ∷ bytes) ≡ symbol_at place (byte ∷ bytes)
unfolding front
front_symbol place before byte bytes h =
    let a = both (not (is_blank byte)) _ h in
    let b = both (not (is_letter byte)) _ a.1 in
    let c = both (not (is_ascii_digit byte)) _ b.1 in
    let d = both (not (byte == slash)) _ c.1 in
    let e = both (not (byte == quote)) _ d.1 in
    let f = both (not (byte == backslash)) (not (byte == hash)) e.1 in
    rw (denied (is_blank byte) a.0, denied (is_letter byte) b.0, denied (is_ascii_digit byte) c.0, denied (byte == slash) d.0, denied (byte == quote) e.0, denied (byte == backslash) f.0, denied (byte == hash) f.1) refl

-- what a test says of each name of a list
pub each_name : (p : List ℕ → Bool) (names : List (List ℕ)) → list_all p names ≡ true → (code : ℕ) (name : List ℕ) → slice_get names code ≡ Some name → p name ≡ true
each_name p [] h code name e = absurd cc
each_name p (first ∷ names) h zero name e = let same : first ≡ name = cc in subst (λ (n : List ℕ). p n ≡ true) same (both (p first) (list_all p names) h).0
each_name p (first ∷ names) h (suc code) name e = each_name p names (both (p first) (list_all p names) h).1 code name e

abbrev is_identifier : List ℕ → Bool
is_identifier [] = false
is_identifier (byte ∷ bytes) = is_letter byte && list_all is_word_byte bytes

identifier : (bytes : List ℕ) → is_identifier bytes ≡ true → IsIdentifier bytes
identifier [] h = absurd cc
identifier (byte ∷ bytes) h = both (is_letter byte) (list_all is_word_byte bytes) h

pub keyword_identifier : (code : ℕ) (name : List ℕ) → slice_get keyword_names code ≡ Some name → IsIdentifier name
keyword_identifier code name e = identifier name (each_name is_identifier keyword_names refl code name e)

abbrev pub is_symbol_start : List ℕ → Bool
is_symbol_start [] = false
is_symbol_start (byte ∷ bytes) = is_other byte && nat_le (length bytes) 1

pub symbol_start : (code : ℕ) (name : List ℕ) → slice_get symbol_names code ≡ Some name → is_symbol_start name ≡ true
symbol_start code name e = each_name is_symbol_start symbol_names refl code name e

-- what an identifier is, byte by byte
pub word_bytes : (byte : ℕ) (bytes : List ℕ) → IsIdentifier (byte ∷ bytes) → list_all is_word_byte (byte ∷ bytes) ≡ true
word_bytes byte bytes h = rw (letter_goes_on byte h.0, h.1) refl

pub same_size : (kind other : TokenKind) (n m : ℕ) → token kind n ≡ Ok (pieces.Token other m) → n ≡ m
same_size kind other n m e = cc

pub same_kind : (kind other : TokenKind) (n m : ℕ) → token kind n ≡ Ok (pieces.Token other m) → (kind ≡ other) × (n ≡ m)
same_kind kind other n m e = (cc, cc)

pub word_bound : (place : ℕ) (before longer rest : List ℕ) → IsIdentifier longer → (kind : TokenKind) (n : ℕ) → front place before (longer ++ rest) ≡ Ok (pieces.Token kind n) → length longer ≤ n
word_bound place before [] rest h kind n e = absurd h
word_bound place before (byte ∷ bytes) rest h kind n e =
    let is = same_size (word_kind (word (byte ∷ bytes ++ rest))) kind (length (word (byte ∷ bytes ++ rest))) n (sym (front_word place before byte (bytes ++ rest) h.0) ∙ e) in
    let more = run_bound is_word_byte (byte ∷ bytes) rest (word_bytes byte bytes h) in
    omega arith

pub escaped_size : (place : ℕ) (bytes : List ℕ) (kind : TokenKind) (n : ℕ) → escaped_at place (backslash ∷ bytes) ≡ Ok (pieces.Token kind n)
    → (is_letter (first bytes) ≡ true) × (kinds.Word ≡ kind) × (length (word bytes) + 1 ≡ n)
unfolding escaped_at
escaped_size place bytes kind n =
    choose ((is_letter (first bytes) ≡ true) × (kinds.Word ≡ kind) × (length (word bytes) + 1 ≡ n)) (is_letter (first bytes)) _ _ (Ok (pieces.Token kind n))
    (λ h e. let same = same_kind kinds.Word kind (length (word bytes) + 1) n e in (h, same.0, same.1))
    (λ h e. absurd cc)

pub escaped_bound : (place : ℕ) (before longer rest : List ℕ) → IsIdentifier longer → (kind : TokenKind) (n : ℕ) → front place before (backslash ∷ longer ++ rest) ≡ Ok (pieces.Token kind n) → suc (length longer) ≤ n
escaped_bound place before [] rest h kind n e = absurd h
escaped_bound place before (byte ∷ bytes) rest h kind n e =
    let is = escaped_size place (byte ∷ bytes ++ rest) kind n (sym (front_backslash place before (byte ∷ bytes ++ rest)) ∙ e) in
    let size = is.2 in
    let more = run_bound is_word_byte (byte ∷ bytes) rest (word_bytes byte bytes h) in
    omega arith

pub number_size : (place : ℕ) (bytes : List ℕ) (kind : TokenKind) (n : ℕ) → number_at place bytes ≡ Ok (pieces.Token kind n)
    → (is_number bytes ≡ true) × (kinds.Number (number_value bytes) ≡ kind) × (number_length bytes ≡ n)
unfolding number_at
number_size place bytes kind n =
    choose ((is_number bytes ≡ true) × (kinds.Number (number_value bytes) ≡ kind) × (number_length bytes ≡ n)) (is_number bytes) _ _ (Ok (pieces.Token kind n))
    (λ h e. let same = same_kind (kinds.Number (number_value bytes)) kind (number_length bytes) n e in (h, same.0, same.1))
    (λ h e. absurd cc)

pub no_zero_x : (byte : ℕ) (bytes : List ℕ) → (byte ≡ 48 → ⊥) → begins_with (codes "0x") (byte ∷ bytes) ≡ false
no_zero_x byte bytes h = rw (unequal 48 byte (λ e. h (sym e))) refl

pub no_zero : (byte : ℕ) (bytes : List ℕ) → (byte ≡ 48 → ⊥) → begins_with (codes "0") (byte ∷ bytes) ≡ false
no_zero byte bytes h = rw (unequal 48 byte (λ e. h (sym e))) refl

octal_no_x : (byte : ℕ) → is_digit byte 8 ≡ true → (120 == byte) ≡ false
octal_no_x byte h = grind (arith, nat_tests)

pub zero_octal : (byte : ℕ) (bytes : List ℕ) → is_digit byte 8 ≡ true → begins_with (codes "0x") (48 ∷ byte ∷ bytes) ≡ false
zero_octal byte bytes h = rw (octal_no_x byte h) refl

pub length_by : (bytes : List ℕ) (base prefix : ℕ) → base_of bytes ≡ base → prefix_of bytes ≡ prefix → number_length bytes ≡ prefix + length (digits base (drop prefix bytes))
length_by bytes base prefix b p = ap₂ (λ (n m : ℕ). m + length (digits n (drop m bytes))) b p

pub decimal_base : (byte : ℕ) (bytes : List ℕ) → (byte ≡ 48 → ⊥) → (base_of (byte ∷ bytes) ≡ 10) × (prefix_of (byte ∷ bytes) ≡ 0)
decimal_base byte bytes h = (rw (no_zero_x byte bytes h, no_zero byte bytes h) refl, rw (no_zero_x byte bytes h) refl)

octal_bound : (bytes rest : List ℕ) → AreDigits 8 (48 ∷ bytes) → (b : Bool) → begins_with (codes "0x") (48 ∷ bytes ++ rest) ≡ b → suc (length bytes) ≤ number_length (48 ∷ bytes ++ rest)
octal_bound [] rest h true e =
    let is : number_length (48 ∷ rest) ≡ 2 + length (digits 16 (drop 2 (48 ∷ rest))) = rw e refl in
    omega arith
octal_bound (byte ∷ bytes) rest h true e =
    let octal = (both (is_digit byte 8) (list_all (λ b. is_digit b 8) bytes) h).0 in
    let no = zero_octal byte (bytes ++ rest) octal in absurd cc
octal_bound bytes rest h false e =
    let is : number_length (48 ∷ bytes ++ rest) ≡ 0 + length (digits 8 (48 ∷ bytes ++ rest)) = rw e refl in
    let more = run_bound (λ b. is_digit b 8) (48 ∷ bytes) rest h in
    omega arith

integer_bound : (longer rest : List ℕ) (value : ℕ) → IsInteger longer value → length longer ≤ number_length (longer ++ rest)
integer_bound [] rest value h = omega arith
integer_bound (byte ∷ bytes) rest value (inl h) =
    let is : number_length (byte ∷ bytes ++ rest) ≡ 0 + length (digits 10 (byte ∷ bytes ++ rest)) = length_by (byte ∷ bytes ++ rest) 10 0 (decimal_base byte (bytes ++ rest) h.0).0 (decimal_base byte (bytes ++ rest) h.0).1 in
    let more = run_bound (λ b. is_digit b 10) (byte ∷ bytes) rest h.1 in
    omega arith
integer_bound (byte ∷ bytes) rest value (inr (inl h)) =
    let is : byte ≡ 48 = h.0 in
    let all : AreDigits 8 (48 ∷ bytes) = subst (λ (b : ℕ). AreDigits 8 (b ∷ bytes)) is h.1 in
    subst (λ (b : ℕ). suc (length bytes) ≤ number_length (b ∷ bytes ++ rest)) (sym is) (octal_bound bytes rest all (begins_with (codes "0x") (48 ∷ bytes ++ rest)) refl)
integer_bound (byte ∷ bytes) rest value (inr (inr h)) =
    subst (λ (bs : List ℕ). length bs ≤ number_length (bs ++ rest)) (sym h.1) (hexadecimal h.0 h.3) where
      hexadecimal : (ds : List ℕ) → AreDigits 16 ds → length (codes "0x" ++ ds) ≤ number_length (codes "0x" ++ ds ++ rest)
      hexadecimal ds all =
          let is : number_length (codes "0x" ++ ds ++ rest) ≡ 2 + length (digits 16 (ds ++ rest)) = refl in
          let more = run_bound (λ b. is_digit b 16) ds rest all in
          let size : length (codes "0x" ++ ds) ≡ 2 + length ds = omega arith in
          omega arith

ten_ascii : (byte : ℕ) → is_digit byte 10 ≡ true → is_ascii_digit byte ≡ true
ten_ascii byte h = grind (arith, nat_tests)

-- an integer begins with a digit
pub integer_first : (bytes : List ℕ) (value : ℕ) → IsInteger bytes value → is_ascii_digit (first bytes) ≡ true
integer_first [] value (inl h) = absurd h
integer_first [] value (inr (inl h)) = absurd h
integer_first [] value (inr (inr h)) = let e = h.1 in absurd cc
integer_first (byte ∷ bytes) value (inl h) = ten_ascii byte (both (is_digit byte 10) (list_all (λ b. is_digit b 10) bytes) h.1).0
integer_first (byte ∷ bytes) value (inr (inl h)) = rw (h.0) refl
integer_first (byte ∷ bytes) value (inr (inr h)) = ap (λ (bs : List ℕ). is_ascii_digit (first bs)) h.1

pub number_bound : (place : ℕ) (before longer rest : List ℕ) (value : ℕ) → IsInteger longer value → (kind : TokenKind) (n : ℕ) → front place before (longer ++ rest) ≡ Ok (pieces.Token kind n) → length longer ≤ n
number_bound place before [] rest value h kind n e = omega arith
number_bound place before (byte ∷ bytes) rest value h kind n e =
    let is = number_size place (byte ∷ bytes ++ rest) kind n (sym (front_number place before byte (bytes ++ rest) (integer_first (byte ∷ bytes) value h)) ∙ e) in
    let size = is.2 in
    let more = integer_bound (byte ∷ bytes) rest value h in
    omega arith

pub string_bytes_more : (inside rest : List ℕ) → (quote ∷ inside ++ quote ∷ []) ++ rest ≡ quote ∷ inside ++ quote ∷ rest
string_bytes_more inside rest = ap (λ (bs : List ℕ). quote ∷ bs) (append_assoc inside (quote ∷ []) rest)

pub string_size : (place : ℕ) (bytes : List ℕ) (kind : TokenKind) (n : ℕ) → string_at place (quote ∷ bytes) ≡ Ok (pieces.Token kind n)
    → ((first (drop (string_length false bytes + 1) (quote ∷ bytes)) == quote) ≡ true) × (kinds.Text ≡ kind) × (string_length false bytes + 2 ≡ n)
unfolding string_at
string_size place bytes kind n =
    choose (((first (drop (string_length false bytes + 1) (quote ∷ bytes)) == quote) ≡ true) × (kinds.Text ≡ kind) × (string_length false bytes + 2 ≡ n))
    (first (drop (string_length false bytes + 1) (quote ∷ bytes)) == quote) _ _ (Ok (pieces.Token kind n))
    (λ h e. let same = same_kind kinds.Text kind (string_length false bytes + 2) n e in (h, same.0, same.1))
    (λ h e. absurd cc)

pub string_bound : (place : ℕ) (before inside rest : List ℕ) → Characters inside → (kind : TokenKind) (n : ℕ) → front place before ((quote ∷ inside ++ quote ∷ []) ++ rest) ≡ Ok (pieces.Token kind n)
    → length (quote ∷ inside ++ quote ∷ []) ≤ n
string_bound place before inside rest h kind n e =
    let there : front place before (quote ∷ inside ++ quote ∷ rest) ≡ Ok (pieces.Token kind n) = subst (λ (bs : List ℕ). front place before bs ≡ Ok (pieces.Token kind n)) (string_bytes_more inside rest) e in
    let is = string_size place (inside ++ quote ∷ rest) kind n (sym (front_quote place before (inside ++ quote ∷ rest)) ∙ there) in
    let size = is.2 in
    let reach = string_reach h rest in
    omega (arith, length-append inside (quote ∷ []))

-- the symbol that is tried first
pub symbol_size : (place : ℕ) (bytes : List ℕ) (code : ℕ) → symbol_code (take 2 bytes) ≡ Some code → symbol_at place bytes ≡ token (kinds.Symbol code) (length (take 2 bytes))
unfolding symbol_at
symbol_size place bytes code e = rw e refl

pub directive_size : (place : ℕ) (before bytes : List ℕ) (kind : TokenKind) (n : ℕ) → directive_at place before bytes ≡ Ok (pieces.Token kind n)
    → (is_line_blank before ≡ true) × (kinds.Directive ≡ kind) × (length (line bytes) ≡ n)
unfolding directive_at
directive_size place before bytes kind n =
    choose ((is_line_blank before ≡ true) × (kinds.Directive ≡ kind) × (length (line bytes) ≡ n)) _ _ _ (Ok (pieces.Token kind n))
    (λ h e. let same = same_kind kinds.Directive kind (length (line bytes)) n e in (h, same.0, same.1))
    (λ h e. absurd cc)

pub directive_bound : (place : ℕ) (before bytes rest : List ℕ) → list_all (λ byte. not (byte == newline)) bytes ≡ true → (kind : TokenKind) (n : ℕ) → front place before (hash ∷ bytes ++ rest) ≡ Ok (pieces.Token kind n) → suc (length bytes) ≤ n
directive_bound place before bytes rest h kind n e =
    let is = directive_size place before (hash ∷ bytes ++ rest) kind n (sym (front_hash place before (bytes ++ rest)) ∙ e) in
    let size = is.2 in
    let more = run_bound (λ byte. not (byte == newline)) (hash ∷ bytes) rest h in
    omega arith
