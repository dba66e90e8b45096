-- What is read at a place is what stands there.
use Rattle.std.proofs.Common.{ℕ, suc, ◌≡◌, ◌+◌, ◌<◌, Bool, true, false, not, ◌==◌, if◌then◌else◌, nat_lt, List, [], ◌∷◌, ◌++◌, length, take, drop, codes, Option, Some, None, Ok, Err, refl, sym, ap, ap₂, subst, ◌∙◌, inl, inr, arith, append_assoc, length-append, take-append-drop, zero-add}
use Rattle.std.specs.Char.{is_ascii_digit, is_digit}
use Rattle.std.specs.List.{list_all, prefix_len, take_while, position}
use Rattle.std.specs.Str.{bytes_eq}
use Rattle.std.specs.Str.Parse.{digits_value}
use borrow.Author.Tests.{ltb-true, leb-true}
use Rattle.std.proofs.lemmas.Bool.Decides.{nat_tests}
use Rattle.std.proofs.lemmas.List.Folds.{length-prefix_len}
use Rattle.std.proofs.lemmas.List.Sums.{take_while-cons}
use Rattle.case_tables.specs.Tables.{keyword_names, symbol_names}
use Rattle.case_tables.proofs.Places.{row_found, no_row}
use Rattle.slice_lexer.specs.declared.fault.LexFault.TheVariants as faults
use Rattle.slice_lexer.specs.declared.token.TokenKind.{TokenKind}
use Rattle.slice_lexer.specs.declared.token.TokenKind.TheVariants as kinds
use Rattle.slice_lexer.specs.declared.piece.Piece.{Piece}
use Rattle.slice_lexer.specs.declared.piece.Piece.TheVariants as pieces
use Rattle.slice_lexer.specs.Bytes.{newline, quote, hash, slash, backslash, first, is_blank, is_letter, is_word_byte, spoils_number, begins_with, line, word, digits, is_line_blank, before_close, string_length}
use Rattle.slice_lexer.specs.Pieces.{Front, gap, kind_of, comment_at, word_kind, word_at, escaped_at, base_of, prefix_of, number_digits, number_length, number_value, is_number, number_at, string_at, directive_at, symbol_code, symbol_or, symbol_at, front}
use Rattle.slice_lexer.specs.Tokens.{AreDigits, IsIdentifier, IsInteger, NumberEnds, IsToken, MayStand, Begins}
use Rattle.slice_lexer.proofs.Sizes.{choose, front_end, letter_goes_on}
use Rattle.slice_lexer.proofs.Stretches.{both, equal, run_all, run_parts, run_stops, line_stops, string_found, close_found}
use Rattle.slice_lexer.proofs.Branches.{same_kind, escaped_size, number_size, length_by, string_bytes_more, string_size, directive_size}
use Rattle.slice_lexer.proofs.Longest.{stands}

pub after_own : (xs ys : List ℕ) → drop (length xs) (xs ++ ys) ≡ ys
after_own [] ys = refl
after_own (x ∷ xs) ys = after_own xs ys

-- Words.

pub first_word : (byte : ℕ) (bytes : List ℕ) → is_letter byte ≡ true → IsIdentifier (word (byte ∷ bytes))
first_word byte bytes h =
    let is : word (byte ∷ bytes) ≡ byte ∷ word bytes = take_while-cons is_word_byte byte bytes ∙ rw (letter_goes_on byte h) refl in
    subst IsIdentifier (sym is) (h, run_all is_word_byte bytes)

word_token : (before after own : List ℕ) → IsIdentifier own → (o : Option ℕ) → position (bytes_eq own) keyword_names ≡ o → IsToken (kind_of o) own × MayStand before (kind_of o) after
word_token before after own h None e = (inl (h, no_row keyword_names own e), tt)
word_token before after own h (Some code) e = ((row_found keyword_names own code e).1, tt)

pub word_is : (before after own : List ℕ) → IsIdentifier own → IsToken (word_kind own) own × MayStand before (word_kind own) after
unfolding word_kind
word_is before after own h = word_token before after own h (position (bytes_eq own) keyword_names) refl

read_word : (place : ℕ) (before : List ℕ) (byte : ℕ) (bytes : List ℕ) (piece : Piece) → is_letter byte ≡ true → front place before (byte ∷ bytes) ≡ Ok piece → word_at (byte ∷ bytes) ≡ Ok piece → Begins before (byte ∷ bytes) piece
read_word place before byte bytes (pieces.Gap n) h full e = absurd cc
read_word place before byte bytes (pieces.Token kind n) h full e =
    let own : List ℕ = word (byte ∷ bytes) in
    let after : List ℕ = drop (prefix_len is_word_byte (byte ∷ bytes)) (byte ∷ bytes) in
    let same = same_kind (word_kind own) kind (length own) n e in
    let is = subst (λ (k : TokenKind). IsToken k own × MayStand before k after) same.0 (word_is before after own (first_word byte bytes h)) in
    stands place before (byte ∷ bytes) kind n own after full (run_parts is_word_byte (byte ∷ bytes)) same.1 is.0 is.1

escaped_no_gap : (place : ℕ) (bytes : List ℕ) (n : ℕ) → escaped_at place (backslash ∷ bytes) ≡ Ok (pieces.Gap n) → ⊥
unfolding escaped_at
escaped_no_gap place bytes n = choose ⊥ (is_letter (first bytes)) _ _ (Ok (pieces.Gap n)) (λ h e. absurd cc) (λ h e. absurd cc)

read_escaped : (place : ℕ) (before bytes : List ℕ) (piece : Piece) → front place before (backslash ∷ bytes) ≡ Ok piece → escaped_at place (backslash ∷ bytes) ≡ Ok piece → Begins before (backslash ∷ bytes) piece
read_escaped place before bytes (pieces.Gap n) full e = absurd (escaped_no_gap place bytes n e)
read_escaped place before [] (pieces.Token kind n) full e = let size = (escaped_size place [] kind n e).0 in absurd cc
read_escaped place before (byte ∷ bytes) (pieces.Token kind n) full e =
    let size = escaped_size place (byte ∷ bytes) kind n e in
    let own : List ℕ = backslash ∷ word (byte ∷ bytes) in
    let after : List ℕ = drop (prefix_len is_word_byte (byte ∷ bytes)) (byte ∷ bytes) in
    let long = size.2 in
    let is = subst (λ (k : TokenKind). IsToken k own × MayStand before k after) size.1 (inr (refl, first_word byte bytes size.0), tt) in
    stands place before (backslash ∷ byte ∷ bytes) kind n own after full (ap (λ (bs : List ℕ). backslash ∷ bs) (run_parts is_word_byte (byte ∷ bytes))) (omega arith) is.0 is.1

-- Numbers.

number_no_gap : (place : ℕ) (bytes : List ℕ) (n : ℕ) → number_at place bytes ≡ Ok (pieces.Gap n) → ⊥
unfolding number_at
number_no_gap place bytes n = choose ⊥ (is_number bytes) _ _ (Ok (pieces.Gap n)) (λ h e. absurd cc) (λ h e. absurd cc)

-- the digits of a number are an integer literal, before bytes that do not go on with it
abbrev IsRead : List ℕ → Type 0
IsRead bytes = (own after : List ℕ) × (bytes ≡ own ++ after) × (length own ≡ number_length bytes) × IsInteger own (number_value bytes) × (after ≡ drop (number_length bytes) bytes)

ascii_ten : (byte : ℕ) → is_ascii_digit byte ≡ true → is_digit byte 10 ≡ true
ascii_ten byte h = grind (arith, nat_tests)

zero_marks : (byte : ℕ) (bytes : List ℕ) → begins_with (codes "0") (byte ∷ bytes) ≡ true → byte ≡ 48
zero_marks byte bytes h = grind (arith, nat_tests)

x_marks : (byte : ℕ) (bytes : List ℕ) → begins_with (codes "0x") (byte ∷ bytes) ≡ true → (rest : List ℕ) × (byte ∷ bytes ≡ codes "0x" ++ rest)
x_marks byte [] h = absurd grind (arith, nat_tests)
x_marks byte (next ∷ bytes) h =
    let one : byte ≡ 48 = grind (arith, nat_tests) in
    let two : next ≡ 120 = grind (arith, nat_tests) in
    (bytes, rw (one, two) refl)

pub run_cons : (p : ℕ → Bool) (byte : ℕ) (bytes : List ℕ) → p byte ≡ true → take_while p (byte ∷ bytes) ≡ byte ∷ take_while p bytes
run_cons p byte bytes h = take_while-cons p byte bytes ∙ rw h refl

-- digits from the first byte on
digits_read : (base byte : ℕ) (bytes : List ℕ) → is_digit byte base ≡ true → base_of (byte ∷ bytes) ≡ base → prefix_of (byte ∷ bytes) ≡ 0
    → (AreDigits base (byte ∷ digits base bytes) → IsInteger (byte ∷ digits base bytes) (digits_value base (byte ∷ digits base bytes))) → IsRead (byte ∷ bytes)
digits_read base byte bytes h b p integer =
    let test : ℕ → Bool = λ c. is_digit c base in
    let own : List ℕ = byte ∷ digits base bytes in
    let run : digits base (byte ∷ bytes) ≡ own = run_cons test byte bytes h in
    let size : number_length (byte ∷ bytes) ≡ 0 + length (digits base (byte ∷ bytes)) = length_by (byte ∷ bytes) base 0 b p in
    let same : length own ≡ number_length (byte ∷ bytes) = ap (λ (bs : List ℕ). length bs) (sym run) ∙ sym (zero-add (length (digits base (byte ∷ bytes)))) ∙ sym size in
    let value : digits_value base own ≡ number_value (byte ∷ bytes) = ap (digits_value base) (sym run) ∙ sym (ap₂ (λ (n m : ℕ). digits_value n (digits n (drop m (byte ∷ bytes)))) b p) in
    let all : AreDigits base own = subst (λ (bs : List ℕ). list_all test bs ≡ true) run (run_all test (byte ∷ bytes)) in
    let parts : byte ∷ bytes ≡ own ++ drop (prefix_len test (byte ∷ bytes)) (byte ∷ bytes) = run_parts test (byte ∷ bytes) ∙ ap (λ (bs : List ℕ). bs ++ drop (prefix_len test (byte ∷ bytes)) (byte ∷ bytes)) run in
    let count : prefix_len test (byte ∷ bytes) ≡ number_length (byte ∷ bytes) = sym (length-prefix_len test (byte ∷ bytes)) ∙ sym (zero-add (length (digits base (byte ∷ bytes)))) ∙ sym size in
    (own, drop (prefix_len test (byte ∷ bytes)) (byte ∷ bytes), parts, same, subst (λ (n : ℕ). IsInteger own n) value (integer all), ap (λ (n : ℕ). drop n (byte ∷ bytes)) count)

hexadecimal_read : (rest : List ℕ) → 0 < length (digits 16 rest) → IsRead (codes "0x" ++ rest)
hexadecimal_read rest some =
    let test : ℕ → Bool = λ c. is_digit c 16 in
    let size : number_length (codes "0x" ++ rest) ≡ suc (suc (length (digits 16 rest))) = omega arith in
    let count : suc (suc (prefix_len test rest)) ≡ number_length (codes "0x" ++ rest) = ap (λ n. suc (suc n)) (sym (length-prefix_len test rest)) ∙ sym size in (
      codes "0x" ++ digits 16 rest,
      drop (prefix_len test rest) rest,
      ap (λ (bs : List ℕ). codes "0x" ++ bs) (run_parts test rest),
      sym size,
      inr (inr (digits 16 rest, refl, some, run_all test rest, refl)),
      ap (λ (n : ℕ). drop n (codes "0x" ++ rest)) count,
    )

integer_read : (byte : ℕ) (bytes : List ℕ) → is_ascii_digit byte ≡ true → 0 < length (number_digits (byte ∷ bytes)) → (b c : Bool) → begins_with (codes "0x") (byte ∷ bytes) ≡ b → begins_with (codes "0") (byte ∷ bytes) ≡ c
    → IsRead (byte ∷ bytes)
integer_read byte bytes h some true c e f =
    let marks = x_marks byte bytes e in
    let more : 0 < length (number_digits (codes "0x" ++ marks.0)) = subst (λ (bs : List ℕ). 0 < length (number_digits bs)) marks.1 some in
    subst IsRead (sym marks.1) (hexadecimal_read marks.0 more)
integer_read byte bytes h some false true e f =
    let is : byte ≡ 48 = zero_marks byte bytes f in
    let octal : is_digit byte 8 ≡ true = rw is refl in
    digits_read 8 byte bytes octal (rw (e, f) refl) (rw e refl) (λ all. inr (inl (is, all, refl)))
integer_read byte bytes h some false false e f =
    let no : byte ≡ 48 → ⊥ = λ is. let yes : begins_with (codes "0") (byte ∷ bytes) ≡ true = rw is refl in absurd cc in
    digits_read 10 byte bytes (ascii_ten byte h) (rw (e, f) refl) (rw e refl) (λ all. inl (no, all, refl))

ends_by : (after : List ℕ) → spoils_number (first after) ≡ false → NumberEnds after
ends_by [] h = tt
ends_by (byte ∷ after) h = h

pub spoils_by : (after : List ℕ) → NumberEnds after → spoils_number (first after) ≡ false
spoils_by [] h = refl
spoils_by (byte ∷ after) h = h

pub denied : (b : Bool) → not b ≡ true → b ≡ false
denied true h = absurd cc
denied false h = refl

read_number : (place : ℕ) (before : List ℕ) (byte : ℕ) (bytes : List ℕ) (piece : Piece) → is_ascii_digit byte ≡ true → front place before (byte ∷ bytes) ≡ Ok piece → number_at place (byte ∷ bytes) ≡ Ok piece → Begins before (byte ∷ bytes) piece
read_number place before byte bytes (pieces.Gap n) h full e = absurd (number_no_gap place (byte ∷ bytes) n e)
read_number place before byte bytes (pieces.Token kind n) h full e =
    let size = number_size place (byte ∷ bytes) kind n e in
    let tests = both _ _ size.0 in
    let inner = both _ _ tests.0 in
    let some : 0 < length (number_digits (byte ∷ bytes)) = ltb-true _ _ inner.0 in
    let r = integer_read byte bytes h some (begins_with (codes "0x") (byte ∷ bytes)) (begins_with (codes "0") (byte ∷ bytes)) refl refl in
    let ends : NumberEnds r.1 = ends_by r.1 (subst (λ (bs : List ℕ). spoils_number (first bs) ≡ false) (sym r.5) (denied _ inner.1)) in
    let is = subst (λ (k : TokenKind). IsToken k r.0 × MayStand before k r.1) size.1 ((r.4, leb-true _ _ tests.1), ends) in
    stands place before (byte ∷ bytes) kind n r.0 r.1 full r.2 (r.3 ∙ size.2) is.0 is.1

-- Strings.

string_no_gap : (place : ℕ) (bytes : List ℕ) (n : ℕ) → string_at place (quote ∷ bytes) ≡ Ok (pieces.Gap n) → ⊥
unfolding string_at
string_no_gap place bytes n = choose ⊥ (first (drop (string_length false bytes + 1) (quote ∷ bytes)) == quote) _ _ (Ok (pieces.Gap n)) (λ h e. absurd cc) (λ h e. absurd cc)

read_string : (place : ℕ) (before bytes : List ℕ) (piece : Piece) → front place before (quote ∷ bytes) ≡ Ok piece → string_at place (quote ∷ bytes) ≡ Ok piece → Begins before (quote ∷ bytes) piece
read_string place before bytes (pieces.Gap n) full e = absurd (string_no_gap place bytes n e)
read_string place before bytes (pieces.Token kind n) full e =
    let size = string_size place bytes kind n e in
    let one : string_length false bytes + 1 ≡ suc (string_length false bytes) = omega arith in
    let closed = subst (λ (k : ℕ). (first (drop k (quote ∷ bytes)) == quote) ≡ true) one size.0 in
    let r = string_found bytes false closed in
    let own : List ℕ = quote ∷ r.0 ++ quote ∷ [] in
    let parts : quote ∷ bytes ≡ own ++ r.1 = ap (λ (bs : List ℕ). quote ∷ bs) r.2 ∙ sym (string_bytes_more r.0 r.1) in
    let long = size.2 in
    let short = r.3 in
    let is = subst (λ (k : TokenKind). IsToken k own × MayStand before k r.1) size.1 ((r.0, refl, r.4), tt) in
    stands place before (quote ∷ bytes) kind n own r.1 full parts (omega (arith, length-append r.0 (quote ∷ []))) is.0 is.1

-- Directives.

directive_no_gap : (place : ℕ) (before bytes : List ℕ) (n : ℕ) → directive_at place before bytes ≡ Ok (pieces.Gap n) → ⊥
unfolding directive_at
directive_no_gap place before bytes n = choose ⊥ (is_line_blank before) _ _ (Ok (pieces.Gap n)) (λ h e. absurd cc) (λ h e. absurd cc)

abbrev pub in_line : ℕ → Bool
in_line byte = not (byte == newline)

read_directive : (place : ℕ) (before bytes : List ℕ) (piece : Piece) → front place before (hash ∷ bytes) ≡ Ok piece → directive_at place before (hash ∷ bytes) ≡ Ok piece → Begins before (hash ∷ bytes) piece
read_directive place before bytes (pieces.Gap n) full e = absurd (directive_no_gap place before (hash ∷ bytes) n e)
read_directive place before bytes (pieces.Token kind n) full e =
    let size = directive_size place before (hash ∷ bytes) kind n e in
    let run : line (hash ∷ bytes) ≡ hash ∷ line bytes = run_cons in_line hash bytes refl in
    let own : List ℕ = hash ∷ line bytes in
    let after : List ℕ = drop (prefix_len in_line bytes) bytes in
    let is = subst (λ (k : TokenKind). IsToken k own × MayStand before k after) size.1 ((refl, run_all in_line bytes), size.0) in
    stands place before (hash ∷ bytes) kind n own after full (ap (λ (bs : List ℕ). hash ∷ bs) (run_parts in_line bytes)) (ap (λ (bs : List ℕ). length bs) (sym run) ∙ size.2) is.0 is.1

-- Symbols.

symbol_by : (place : ℕ) (before : List ℕ) (byte : ℕ) (bytes : List ℕ) (piece : Piece) → front place before (byte ∷ bytes) ≡ Ok piece → (o p : Option ℕ) → symbol_code (take 2 (byte ∷ bytes)) ≡ o → symbol_code (byte ∷ []) ≡ p
    → symbol_or o (length (take 2 (byte ∷ bytes))) (symbol_or p 1 (Err (faults.BadByte place))) ≡ Ok piece → Begins before (byte ∷ bytes) piece
symbol_by place before byte bytes (pieces.Gap n) full (Some code) p e f h = absurd cc
symbol_by place before byte bytes (pieces.Gap n) full None (Some code) e f h = absurd cc
symbol_by place before byte bytes (pieces.Gap n) full None None e f h = absurd cc
symbol_by place before byte bytes (pieces.Token kind n) full (Some code) p e f h =
    let own : List ℕ = take 2 (byte ∷ bytes) in
    let same = same_kind (kinds.Symbol code) kind (length own) n h in
    let is = subst (λ (k : TokenKind). IsToken k own × MayStand before k (drop 2 (byte ∷ bytes))) same.0 ((row_found symbol_names own code e).1, tt) in
    stands place before (byte ∷ bytes) kind n own (drop 2 (byte ∷ bytes)) full (sym (take-append-drop 2 (byte ∷ bytes))) same.1 is.0 is.1
symbol_by place before byte bytes (pieces.Token kind n) full None (Some code) e f h =
    let same = same_kind (kinds.Symbol code) kind 1 n h in
    let is = subst (λ (k : TokenKind). IsToken k (byte ∷ []) × MayStand before k bytes) same.0 ((row_found symbol_names (byte ∷ []) code f).1, tt) in
    stands place before (byte ∷ bytes) kind n (byte ∷ []) bytes full refl same.1 is.0 is.1
symbol_by place before byte bytes (pieces.Token kind n) full None None e f h = absurd cc

read_symbol : (place : ℕ) (before : List ℕ) (byte : ℕ) (bytes : List ℕ) (piece : Piece) → front place before (byte ∷ bytes) ≡ Ok piece → symbol_at place (byte ∷ bytes) ≡ Ok piece → Begins before (byte ∷ bytes) piece
unfolding symbol_at
read_symbol place before byte bytes piece full e = symbol_by place before byte bytes piece full (symbol_code (take 2 (byte ∷ bytes))) (symbol_code (byte ∷ [])) refl refl e

-- Blanks and comments.

read_blank : (before : List ℕ) (byte : ℕ) (bytes : List ℕ) (piece : Piece) → is_blank byte ≡ true → gap 1 ≡ Ok piece → Begins before (byte ∷ bytes) piece
read_blank before byte bytes (pieces.Gap n) h e = let same : 1 ≡ n = cc in (byte ∷ [], bytes, refl, same, inl (byte, refl, h))
read_blank before byte bytes (pieces.Token kind n) h e = absurd cc

pub line_slashes : (rest : List ℕ) → line (codes "//" ++ rest) ≡ codes "//" ++ line rest
line_slashes rest = run_cons in_line 47 (47 ∷ rest) refl ∙ ap (λ (bs : List ℕ). 47 ∷ bs) (run_cons in_line 47 rest refl)

read_line : (before rest : List ℕ) (piece : Piece) → gap (length (line (codes "//" ++ rest))) ≡ Ok piece → Begins before (codes "//" ++ rest) piece
read_line before rest (pieces.Token kind n) e = absurd cc
read_line before rest (pieces.Gap n) e =
    let same : length (line (codes "//" ++ rest)) ≡ n = cc in (
      codes "//" ++ line rest,
      drop (prefix_len in_line rest) rest,
      ap (λ (bs : List ℕ). codes "//" ++ bs) (run_parts in_line rest),
      ap (λ (bs : List ℕ). length bs) (sym (line_slashes rest)) ∙ same,
      inr (inl ((line rest, refl, run_all in_line rest), line_stops (drop (prefix_len in_line rest) rest) (run_stops in_line rest))),
    )

read_block : (before rest : List ℕ) (piece : Piece) → before_close rest < length rest → gap (before_close rest + 4) ≡ Ok piece → Begins before (codes "/*" ++ rest) piece
read_block before rest (pieces.Token kind n) h e = absurd cc
read_block before rest (pieces.Gap n) h e =
    let same : before_close rest + 4 ≡ n = cc in
    let r = close_found rest h in
    let size = r.3 in
    let parts : codes "/*" ++ rest ≡ (codes "/*" ++ (r.0 ++ codes "*/")) ++ r.1 = ap (λ (bs : List ℕ). codes "/*" ++ bs) (r.2 ∙ sym (append_assoc r.0 (codes "*/") r.1)) in
    (codes "/*" ++ (r.0 ++ codes "*/"), r.1, parts, omega (arith, length-append r.0 (codes "*/")), inr (inr (r.0, refl, r.4)))

slash_marks : (byte mark : ℕ) (bytes : List ℕ) → begins_with (slash ∷ mark ∷ []) (byte ∷ bytes) ≡ true → (rest : List ℕ) × (byte ∷ bytes ≡ slash ∷ mark ∷ rest)
slash_marks byte mark [] h = absurd grind (arith, nat_tests)
slash_marks byte mark (next ∷ bytes) h =
    let one : byte ≡ slash = grind (arith, nat_tests) in
    let two : next ≡ mark = grind (arith, nat_tests) in
    (bytes, rw (one, two) refl)

pub admitted : (b : Bool) → not b ≡ false → b ≡ true
admitted true h = refl
admitted false h = absurd cc

read_comment : (place : ℕ) (before : List ℕ) (byte : ℕ) (bytes : List ℕ) (piece : Piece) → comment_at place (byte ∷ bytes) ≡ Ok piece → Begins before (byte ∷ bytes) piece
unfolding comment_at
read_comment place before byte bytes piece =
    let C : Type 0 = Begins before (byte ∷ bytes) piece in
    let rest : List ℕ = drop 1 bytes in
    let block : Front = if nat_lt (before_close rest) (length rest) then gap (before_close rest + 4) else Err (faults.OpenComment place) in
    choose C (begins_with (codes "//") (byte ∷ bytes)) (gap (length (line (byte ∷ bytes)))) (if not (begins_with (codes "/*") (byte ∷ bytes)) then Err (faults.BadByte place) else block) (Ok piece)
    (λ h e. let marks = slash_marks byte slash bytes h in
    let there = subst (λ (bs : List ℕ). gap (length (line bs)) ≡ Ok piece) marks.1 e in
    subst (λ (bs : List ℕ). Begins before bs piece) (sym marks.1) (read_line before marks.0 piece there))
    (λ _. choose C (not (begins_with (codes "/*") (byte ∷ bytes))) (Err (faults.BadByte place)) block (Ok piece)
    (λ h e. absurd cc)
    (λ h. choose C (nat_lt (before_close rest) (length rest)) (gap (before_close rest + 4)) (Err (faults.OpenComment place)) (Ok piece)
    (λ closed e. let marks = slash_marks byte 42 bytes (admitted _ h) in
    let same : rest ≡ marks.0 = ap (λ (bs : List ℕ). drop 2 bs) marks.1 in
    let short = subst (λ (bs : List ℕ). before_close bs < length bs) same (ltb-true _ _ closed) in
    let there = subst (λ (bs : List ℕ). gap (before_close bs + 4) ≡ Ok piece) same e in
    subst (λ (bs : List ℕ). Begins before bs piece) (sym marks.1) (read_block before marks.0 piece short there))
    (λ _ e. absurd cc)))

by_byte : (place : ℕ) (before : List ℕ) (mark byte : ℕ) (bytes : List ℕ) (piece : Piece) (X : List ℕ → Front) → (byte == mark) ≡ true
    → ((bs : List ℕ) → front place before (mark ∷ bs) ≡ Ok piece → X (mark ∷ bs) ≡ Ok piece → Begins before (mark ∷ bs) piece)
    → front place before (byte ∷ bytes) ≡ Ok piece → X (byte ∷ bytes) ≡ Ok piece → Begins before (byte ∷ bytes) piece
by_byte place before mark byte bytes piece X h read full e =
    let same = equal byte mark h in
    subst (λ (b : ℕ). Begins before (b ∷ bytes) piece) (sym same)
    (read bytes (subst (λ (b : ℕ). front place before (b ∷ bytes) ≡ Ok piece) same full) (subst (λ (b : ℕ). X (b ∷ bytes) ≡ Ok piece) same e))

read_byte : (place : ℕ) (before : List ℕ) (byte : ℕ) (bytes : List ℕ) (piece : Piece) → front place before (byte ∷ bytes) ≡ Ok piece → front place before (byte ∷ bytes) ≡ Ok piece → Begins before (byte ∷ bytes) piece
unfolding front
read_byte place before byte bytes piece full =
    let C : Type 0 = Begins before (byte ∷ bytes) piece in
    choose C (is_blank byte) _ _ (Ok piece) (read_blank before byte bytes piece)
    (λ _. choose C (is_letter byte) _ _ (Ok piece) (λ h. read_word place before byte bytes piece h full)
    (λ _. choose C (is_ascii_digit byte) _ _ (Ok piece) (λ h. read_number place before byte bytes piece h full)
    (λ _. choose C (byte == slash) _ _ (Ok piece) (λ _. read_comment place before byte bytes piece)
    (λ _. choose C (byte == quote) _ _ (Ok piece) (λ h. by_byte place before quote byte bytes piece (string_at place) h (λ bs. read_string place before bs piece) full)
    (λ _. choose C (byte == backslash) _ _ (Ok piece) (λ h. by_byte place before backslash byte bytes piece (escaped_at place) h (λ bs. read_escaped place before bs piece) full)
    (λ _. choose C (byte == hash) _ _ (Ok piece) (λ h. by_byte place before hash byte bytes piece (directive_at place before) h (λ bs. read_directive place before bs piece) full)
    (λ _. read_symbol place before byte bytes piece full)))))))

-- what is read stands there
pub read_stands : (place : ℕ) (before bytes : List ℕ) (piece : Piece) → front place before bytes ≡ Ok piece → Begins before bytes piece
read_stands place before [] piece e = let none = front_end place before in absurd cc
read_stands place before (byte ∷ bytes) piece e = read_byte place before byte bytes piece e e
