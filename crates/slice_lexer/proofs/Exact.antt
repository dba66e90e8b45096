-- What stands at a place is what is read there.
use Rattle.std.proofs.Common.{ℕ, suc, ◌≡◌, ◌+◌, ◌<◌, ◌≤◌, Bool, true, false, not, ◌&&◌, ◌==◌, if◌then◌else◌, nat_lt, nat_le, List, [], ◌∷◌, ◌++◌, length, take, drop, codes, Contains, slice_get, Option, Some, None, Ok, Err, refl, sym, ap, ap₂, subst, ◌∙◌, inl, inr, arith, append_assoc, length-append, zero-add}
use Rattle.std.specs.Char.{is_digit}
use Rattle.std.specs.List.{list_all, position}
use Rattle.std.specs.Str.{bytes_eq}
use Rattle.std.specs.Str.Parse.{digits_value}
use borrow.Author.Tests.{lt-ltb, le-leb}
use Rattle.std.proofs.lemmas.Bool.Decides.{nat_tests}
use Rattle.case_tables.specs.Tables.{keyword_names, symbol_names}
use Rattle.case_tables.proofs.Places.{row_found}
use Rattle.slice_lexer.specs.declared.fault.LexFault.TheVariants as faults
use Rattle.slice_lexer.specs.declared.token.TokenKind.{TokenKind}
use Rattle.slice_lexer.specs.declared.token.TokenKind.TheVariants as kinds
use Rattle.slice_lexer.specs.declared.piece.Piece.{Piece}
use Rattle.slice_lexer.specs.declared.piece.Piece.TheVariants as pieces
use Rattle.slice_lexer.specs.Bytes.{quote, hash, backslash, first, is_letter, is_word_byte, spoils_number, begins_with, line, word, digits, is_line_blank, before_close, string_length}
use Rattle.slice_lexer.specs.Pieces.{gap, token, kind_of, comment_at, word_kind, escaped_at, base_of, prefix_of, number_digits, number_length, number_value, is_number, number_at, string_at, directive_at, symbol_code, symbol_at, front}
use Rattle.slice_lexer.specs.Tokens.{AreDigits, IsIdentifier, IsInteger, IsOnOneLine, Characters, IsGap, LineEnds, NumberEnds, HasNoClose, IsToken, IsLongest, MayStand, Begins}
use Rattle.slice_lexer.proofs.Stretches.{both, run_whole, run_stop, run_all, run_parts, Stops, line_ends, string_reach, close_reach}
use Rattle.slice_lexer.proofs.Branches.{front_blank, front_word, front_number, front_slash, front_quote, front_backslash, front_hash, front_symbol, word_bytes, keyword_identifier, length_by, decimal_base, zero_octal, integer_first, string_bytes_more}
use Rattle.slice_lexer.proofs.Longest.{found, symbol_found, keyword_found, symbol_length, no_empty_symbol}
use Rattle.slice_lexer.proofs.Agree.{after_own, first_word, word_is, line_slashes, run_cons, in_line, spoils_by}

-- Words.

longest_word : (byte : ℕ) (bytes after : List ℕ) → IsIdentifier (byte ∷ bytes) → IsLongest (byte ∷ bytes) after → word (byte ∷ bytes ++ after) ≡ byte ∷ bytes
longest_word byte bytes after h longest =
    let w : List ℕ = word (byte ∷ bytes ++ after) in
    let is = (word_is [] [] w (first_word byte (bytes ++ after) h.0)).0 in
    run_whole is_word_byte (byte ∷ bytes) after (word_bytes byte bytes h) (longest (word_kind w) w _ (run_parts is_word_byte (byte ∷ bytes ++ after)) is)

word_reads : (place : ℕ) (before own after : List ℕ) → IsIdentifier own → IsLongest own after → front place before (own ++ after) ≡ token (word_kind own) (length own)
word_reads place before [] after h longest = absurd h
word_reads place before (byte ∷ bytes) after h longest =
    front_word place before byte (bytes ++ after) h.0 ∙ ap (λ (w : List ℕ). token (word_kind w) (length w)) (longest_word byte bytes after h longest)

no_keyword_by : (own : List ℕ) → (Contains keyword_names own → ⊥) → (o : Option ℕ) → position (bytes_eq own) keyword_names ≡ o → kind_of o ≡ kinds.Word
no_keyword_by own none None e = refl
no_keyword_by own none (Some code) e = absurd (none (found keyword_names code own (row_found keyword_names own code e).1))

plain_word : (own : List ℕ) → (Contains keyword_names own → ⊥) → word_kind own ≡ kinds.Word
unfolding word_kind
plain_word own none = no_keyword_by own none (position (bytes_eq own) keyword_names) refl

keyword : (code : ℕ) (own : List ℕ) → slice_get keyword_names code ≡ Some own → word_kind own ≡ kinds.Keyword code
unfolding word_kind
keyword code own e = ap kind_of (keyword_found code own e)

escaped_is : (place byte : ℕ) (bytes : List ℕ) → is_letter byte ≡ true → escaped_at place (backslash ∷ byte ∷ bytes) ≡ token kinds.Word (length (word (byte ∷ bytes)) + 1)
unfolding escaped_at
escaped_is place byte bytes h = rw h refl

escaped_reads : (place : ℕ) (before bytes after : List ℕ) → IsIdentifier bytes → IsLongest (backslash ∷ bytes) after → front place before (backslash ∷ bytes ++ after) ≡ token kinds.Word (suc (length bytes))
escaped_reads place before [] after h longest = absurd h
escaped_reads place before (byte ∷ bytes) after h longest =
    let w : List ℕ = word (byte ∷ bytes ++ after) in
    let short = longest kinds.Word (backslash ∷ w) _ (ap (λ (bs : List ℕ). backslash ∷ bs) (run_parts is_word_byte (byte ∷ bytes ++ after))) (inr (refl, first_word byte (bytes ++ after) h.0)) in
    let whole : w ≡ byte ∷ bytes = run_whole is_word_byte (byte ∷ bytes) after (word_bytes byte bytes h) (omega arith) in
    let size : length w + 1 ≡ suc (length (byte ∷ bytes)) = ap (λ (bs : List ℕ). length bs + 1) whole ∙ omega arith in
    front_backslash place before (byte ∷ bytes ++ after) ∙ escaped_is place byte (bytes ++ after) h.0 ∙ ap (λ (n : ℕ). token kinds.Word n) size

-- Numbers.

and3 : (a b c : Bool) → a ≡ true → b ≡ false → c ≡ true → ((a && not b) && c) ≡ true
and3 a b c e f g = rw (e, f, g) refl

number_taken : (place : ℕ) (bytes : List ℕ) → nat_lt 0 (length (number_digits bytes)) ≡ true → spoils_number (first (drop (number_length bytes) bytes)) ≡ false → nat_le (number_value bytes) 9223372036854775808 ≡ true
    → number_at place bytes ≡ token (kinds.Number (number_value bytes)) (number_length bytes)
unfolding number_at
number_taken place bytes one two three =
    let all : is_number bytes ≡ true = and3 _ _ _ one two three in
    ap (λ (t : Bool). if t then token (kinds.Number (number_value bytes)) (number_length bytes) else Err (faults.BadNumber place)) all

number_is : (place : ℕ) (bytes : List ℕ) (base prefix : ℕ) (ds after : List ℕ) (value : ℕ) → base_of bytes ≡ base → prefix_of bytes ≡ prefix → digits base (drop prefix bytes) ≡ ds
    → drop (prefix + length ds) bytes ≡ after → 0 < length ds → NumberEnds after → value ≡ digits_value base ds → value ≤ 9223372036854775808
    → number_at place bytes ≡ token (kinds.Number value) (prefix + length ds)
number_is place bytes base prefix ds after value b p d a some ends v few =
    let run : number_digits bytes ≡ ds = ap₂ (λ (n m : ℕ). digits n (drop m bytes)) b p ∙ d in
    let size : number_length bytes ≡ prefix + length ds = length_by bytes base prefix b p ∙ ap (λ (bs : List ℕ). prefix + length bs) d in
    let is : number_value bytes ≡ value = ap₂ (λ (n : ℕ) (bs : List ℕ). digits_value n bs) b run ∙ sym v in
    let rest : drop (number_length bytes) bytes ≡ after = ap (λ (n : ℕ). drop n bytes) size ∙ a in
    let one : nat_lt 0 (length (number_digits bytes)) ≡ true = ap (λ (bs : List ℕ). nat_lt 0 (length bs)) run ∙ lt-ltb 0 (length ds) some in
    let two : spoils_number (first (drop (number_length bytes) bytes)) ≡ false = ap (λ (bs : List ℕ). spoils_number (first bs)) rest ∙ spoils_by after ends in
    let three : nat_le (number_value bytes) 9223372036854775808 ≡ true = ap (λ (n : ℕ). nat_le n 9223372036854775808) is ∙ le-leb value 9223372036854775808 few in
    number_taken place bytes one two three ∙ ap₂ (λ (n m : ℕ). token (kinds.Number n) m) is size

digit_spoils : (byte base : ℕ) → base ≤ 16 → spoils_number byte ≡ false → is_digit byte base ≡ false
digit_spoils byte base h k = grind (arith, nat_tests)

digits_stop : (base : ℕ) (after : List ℕ) → base ≤ 16 → NumberEnds after → Stops (λ c. is_digit c base) after
digits_stop base [] h ends = tt
digits_stop base (byte ∷ after) h ends = digit_spoils byte base h ends

digits_whole : (base : ℕ) (own after : List ℕ) → base ≤ 16 → AreDigits base own → NumberEnds after → digits base (own ++ after) ≡ own
digits_whole base own after h all ends =
    run_whole (λ c. is_digit c base) own after all (run_stop (λ c. is_digit c base) own after all (digits_stop base after h ends))

x_spoils : (byte : ℕ) → spoils_number byte ≡ false → (120 == byte) ≡ false
x_spoils byte h = grind (arith, nat_tests)

octal_marks : (bytes after : List ℕ) → AreDigits 8 bytes → NumberEnds after → begins_with (codes "0x") (48 ∷ bytes ++ after) ≡ false
octal_marks [] [] h ends = refl
octal_marks [] (byte ∷ after) h ends = rw (x_spoils byte ends) refl
octal_marks (byte ∷ bytes) after h ends = zero_octal byte (bytes ++ after) (both (is_digit byte 8) (list_all (λ c. is_digit c 8) bytes) h).0

octal_is : (place : ℕ) (bytes after : List ℕ) (value : ℕ) → AreDigits 8 (48 ∷ bytes) → value ≡ digits_value 8 (48 ∷ bytes) → value ≤ 9223372036854775808 → NumberEnds after
    → number_at place (48 ∷ bytes ++ after) ≡ token (kinds.Number value) (suc (length bytes))
octal_is place bytes after value all v few ends =
    let own : List ℕ = 48 ∷ bytes in
    let marks = octal_marks bytes after all ends in
    number_is place (own ++ after) 8 0 own after value (rw marks refl) (rw marks refl) (digits_whole 8 own after (omega arith) all ends) (ap (λ (n : ℕ). drop n (own ++ after)) (zero-add (length own)) ∙ after_own own after) (omega arith) ends v few
    ∙ ap (λ (n : ℕ). token (kinds.Number value) n) (zero-add (length own))

hexadecimal_is : (place : ℕ) (ds after : List ℕ) (value : ℕ) → 0 < length ds → AreDigits 16 ds → value ≡ digits_value 16 ds → value ≤ 9223372036854775808 → NumberEnds after
    → number_at place (codes "0x" ++ ds ++ after) ≡ token (kinds.Number value) (length (codes "0x" ++ ds))
hexadecimal_is place ds after value some all v few ends =
    let size : 2 + length ds ≡ suc (suc (length ds)) = omega arith in
    number_is place (codes "0x" ++ ds ++ after) 16 2 ds after value refl refl (digits_whole 16 ds after (omega arith) all ends) (ap (λ (n : ℕ). drop n (codes "0x" ++ ds ++ after)) size ∙ after_own ds after) some ends v few
    ∙ ap (λ (n : ℕ). token (kinds.Number value) n) size

integer_is : (place : ℕ) (own after : List ℕ) (value : ℕ) → IsInteger own value → value ≤ 9223372036854775808 → NumberEnds after → number_at place (own ++ after) ≡ token (kinds.Number value) (length own)
integer_is place [] after value h few ends = let no = integer_first [] value h in absurd cc
integer_is place (byte ∷ bytes) after value (inl h) few ends =
    let base = decimal_base byte (bytes ++ after) h.0 in
    let own : List ℕ = byte ∷ bytes in
    number_is place (own ++ after) 10 0 own after value base.0 base.1 (digits_whole 10 own after (omega arith) h.1 ends) (ap (λ (n : ℕ). drop n (own ++ after)) (zero-add (length own)) ∙ after_own own after) (omega arith) ends h.2 few
    ∙ ap (λ (n : ℕ). token (kinds.Number value) n) (zero-add (length own))
integer_is place (byte ∷ bytes) after value (inr (inl h)) few ends =
    subst (λ (b : ℕ). number_at place (b ∷ bytes ++ after) ≡ token (kinds.Number value) (length (b ∷ bytes))) (sym h.0)
    (octal_is place bytes after value (subst (λ (b : ℕ). AreDigits 8 (b ∷ bytes)) h.0 h.1) (subst (λ (b : ℕ). value ≡ digits_value 8 (b ∷ bytes)) h.0 h.2) few ends)
integer_is place (byte ∷ bytes) after value (inr (inr h)) few ends =
    subst (λ (bs : List ℕ). number_at place (bs ++ after) ≡ token (kinds.Number value) (length bs)) (sym h.1) (hexadecimal_is place h.0 after value h.2 h.3 h.4 few ends)

number_reads : (place : ℕ) (before own after : List ℕ) (value : ℕ) → IsInteger own value → value ≤ 9223372036854775808 → NumberEnds after → front place before (own ++ after) ≡ token (kinds.Number value) (length own)
number_reads place before [] after value h few ends = let no = integer_first [] value h in absurd cc
number_reads place before (byte ∷ bytes) after value h few ends = front_number place before byte (bytes ++ after) (integer_first (byte ∷ bytes) value h) ∙ integer_is place (byte ∷ bytes) after value h few ends

-- Strings.

string_is : (place : ℕ) (inside after : List ℕ) → Characters inside → string_at place (quote ∷ inside ++ quote ∷ after) ≡ token kinds.Text (suc (suc (length inside)))
unfolding string_at
string_is place inside after h =
    let reach = string_reach h after in
    let one : string_length false (inside ++ quote ∷ after) + 1 ≡ suc (length inside) = ap (λ n. n + 1) reach ∙ omega arith in
    let two : string_length false (inside ++ quote ∷ after) + 2 ≡ suc (suc (length inside)) = ap (λ n. n + 2) reach ∙ omega arith in
    let rest : drop (string_length false (inside ++ quote ∷ after) + 1) (quote ∷ inside ++ quote ∷ after) ≡ quote ∷ after = ap (λ (n : ℕ). drop n (quote ∷ inside ++ quote ∷ after)) one ∙ after_own inside (quote ∷ after) in
    let closed : (first (drop (string_length false (inside ++ quote ∷ after) + 1) (quote ∷ inside ++ quote ∷ after)) == quote) ≡ true = ap (λ (bs : List ℕ). first bs == quote) rest in
    ap (λ (t : Bool). if t then token kinds.Text (string_length false (inside ++ quote ∷ after) + 2) else Err (faults.OpenString place)) closed ∙ ap (λ (n : ℕ). token kinds.Text n) two

string_reads : (place : ℕ) (before inside after : List ℕ) → Characters inside → front place before ((quote ∷ inside ++ quote ∷ []) ++ after) ≡ token kinds.Text (length (quote ∷ inside ++ quote ∷ []))
string_reads place before inside after h =
    ap (front place before) (string_bytes_more inside after) ∙ front_quote place before (inside ++ quote ∷ after) ∙ string_is place inside after h ∙ ap (λ (n : ℕ). token kinds.Text n) (omega (arith, length-append inside (quote ∷ [])))

-- Directives.

directive_is : (place : ℕ) (before bytes : List ℕ) → is_line_blank before ≡ true → directive_at place before bytes ≡ token kinds.Directive (length (line bytes))
unfolding directive_at
directive_is place before bytes h = rw h refl

directive_reads : (place : ℕ) (before bytes after : List ℕ) → IsOnOneLine bytes → is_line_blank before ≡ true → IsLongest (hash ∷ bytes) after → front place before (hash ∷ bytes ++ after) ≡ token kinds.Directive (suc (length bytes))
directive_reads place before bytes after h blank longest =
    let run : line (hash ∷ bytes ++ after) ≡ hash ∷ line (bytes ++ after) = run_cons in_line hash (bytes ++ after) refl in
    let short = longest kinds.Directive (hash ∷ line (bytes ++ after)) _ (ap (λ (bs : List ℕ). hash ∷ bs) (run_parts in_line (bytes ++ after))) (refl, run_all in_line (bytes ++ after)) in
    let whole : line (bytes ++ after) ≡ bytes = run_whole in_line bytes after h (omega arith) in
    front_hash place before (bytes ++ after) ∙ directive_is place before (hash ∷ bytes ++ after) blank ∙ ap (λ (bs : List ℕ). token kinds.Directive (length bs)) (run ∙ ap (λ (bs : List ℕ). hash ∷ bs) whole)

-- Symbols.

symbol_second : (place : ℕ) (bytes : List ℕ) (code : ℕ) → symbol_code (take 2 bytes) ≡ None → symbol_code (take 1 bytes) ≡ Some code → symbol_at place bytes ≡ token (kinds.Symbol code) 1
unfolding symbol_at
symbol_second place bytes code e f = rw (e, f) refl

symbol_first : (place : ℕ) (bytes : List ℕ) (code : ℕ) → symbol_code (take 2 bytes) ≡ Some code → symbol_at place bytes ≡ token (kinds.Symbol code) (length (take 2 bytes))
unfolding symbol_at
symbol_first place bytes code e = rw e refl

-- two bytes after a symbol of one byte are no symbol, since that would be longer
short_symbol : (place code byte next : ℕ) (after : List ℕ) → slice_get symbol_names code ≡ Some (byte ∷ []) → IsLongest (byte ∷ []) (next ∷ after) → (o : Option ℕ) → symbol_code (byte ∷ next ∷ []) ≡ o
    → symbol_at place (byte ∷ next ∷ after) ≡ token (kinds.Symbol code) 1
short_symbol place code byte next after h longest (Some other) e =
    let more = longest (kinds.Symbol other) (byte ∷ next ∷ []) after refl (row_found symbol_names (byte ∷ next ∷ []) other e).1 in
    absurd (omega arith)
short_symbol place code byte next after h longest None e = symbol_second place (byte ∷ next ∷ after) code e (symbol_found code (byte ∷ []) h)

symbol_reads : (place : ℕ) (before : List ℕ) (code : ℕ) (own after : List ℕ) → slice_get symbol_names code ≡ Some own → IsLongest own after → front place before (own ++ after) ≡ token (kinds.Symbol code) (length own)
symbol_reads place before code [] after h longest = absurd (no_empty_symbol code h)
symbol_reads place before code (byte ∷ []) [] h longest =
    front_symbol place before byte [] (symbol_length code byte [] h).0 ∙ symbol_first place (byte ∷ []) code (symbol_found code (byte ∷ []) h)
symbol_reads place before code (byte ∷ []) (next ∷ after) h longest =
    front_symbol place before byte (next ∷ after) (symbol_length code byte [] h).0 ∙ short_symbol place code byte next after h longest (symbol_code (byte ∷ next ∷ [])) refl
symbol_reads place before code (byte ∷ next ∷ []) after h longest =
    front_symbol place before byte (next ∷ after) (symbol_length code byte (next ∷ []) h).0 ∙ symbol_first place (byte ∷ next ∷ after) code (symbol_found code (byte ∷ next ∷ []) h)
symbol_reads place before code (byte ∷ next ∷ more ∷ bytes) after h longest = let short = (symbol_length code byte (next ∷ more ∷ bytes) h).1 in absurd (omega arith)

-- Tokens.

token_reads : (place : ℕ) (before own after : List ℕ) (kind : TokenKind) → IsToken kind own → IsLongest own after → MayStand before kind after → front place before (own ++ after) ≡ token kind (length own)
token_reads place before own after kinds.Word (inl h) longest may = word_reads place before own after h.0 longest ∙ ap (λ (k : TokenKind). token k (length own)) (plain_word own h.1)
token_reads place before [] after kinds.Word (inr h) longest may = absurd h
token_reads place before (byte ∷ bytes) after kinds.Word (inr h) longest may =
    let own = subst (λ (b : ℕ). IsLongest (b ∷ bytes) after) h.0 longest in
    subst (λ (b : ℕ). front place before (b ∷ bytes ++ after) ≡ token kinds.Word (length (b ∷ bytes))) (sym h.0) (escaped_reads place before bytes after h.1 own)
token_reads place before own after (kinds.Keyword code) h longest may = word_reads place before own after (keyword_identifier code own h) longest ∙ ap (λ (k : TokenKind). token k (length own)) (keyword code own h)
token_reads place before own after (kinds.Number value) h longest may = number_reads place before own after value h.0 h.1 may
token_reads place before own after kinds.Text h longest may = subst (λ (bs : List ℕ). front place before (bs ++ after) ≡ token kinds.Text (length bs)) (sym h.1) (string_reads place before h.0 after h.2)
token_reads place before own after (kinds.Symbol code) h longest may = symbol_reads place before code own after h longest
token_reads place before [] after kinds.Directive h longest may = absurd h
token_reads place before (byte ∷ bytes) after kinds.Directive h longest may =
    let own = subst (λ (b : ℕ). IsLongest (b ∷ bytes) after) h.0 longest in
    subst (λ (b : ℕ). front place before (b ∷ bytes ++ after) ≡ token kinds.Directive (length (b ∷ bytes))) (sym h.0) (directive_reads place before bytes after h.1 may own)

-- Blanks and comments.

line_comment_is : (place : ℕ) (rest : List ℕ) → comment_at place (codes "//" ++ rest) ≡ gap (length (line (codes "//" ++ rest)))
unfolding comment_at
line_comment_is place rest = refl

line_comment : (place : ℕ) (before inside after : List ℕ) → IsOnOneLine inside → LineEnds after → front place before ((codes "//" ++ inside) ++ after) ≡ gap (length (codes "//" ++ inside))
line_comment place before inside after h ends =
    let whole : line (inside ++ after) ≡ inside = run_whole in_line inside after h (run_stop in_line inside after h (line_ends after ends)) in
    front_slash place before (47 ∷ inside ++ after) ∙ line_comment_is place (inside ++ after) ∙ ap (λ (bs : List ℕ). gap (length bs)) (line_slashes (inside ++ after) ∙ ap (λ (bs : List ℕ). codes "//" ++ bs) whole)

block_comment_is : (place : ℕ) (rest : List ℕ) → before_close rest < length rest → comment_at place (codes "/*" ++ rest) ≡ gap (before_close rest + 4)
unfolding comment_at
block_comment_is place rest h = rw (lt-ltb (before_close rest) (length rest) h) refl

block_comment : (place : ℕ) (before inside after : List ℕ) → HasNoClose (inside ++ codes "*") → front place before ((codes "/*" ++ (inside ++ codes "*/")) ++ after) ≡ gap (length (codes "/*" ++ (inside ++ codes "*/")))
block_comment place before inside after h =
    let rest : List ℕ = inside ++ (codes "*/" ++ after) in
    let reach : before_close rest ≡ length inside = close_reach inside after h in
    let size : before_close rest + 4 ≡ length (codes "/*" ++ (inside ++ codes "*/")) = omega (arith, length-append inside (codes "*/")) in
    let less : before_close rest < length rest = omega (arith, length-append inside (codes "*/" ++ after)) in
    ap (λ (bs : List ℕ). front place before (codes "/*" ++ bs)) (append_assoc inside (codes "*/") after) ∙ front_slash place before (42 ∷ rest) ∙ block_comment_is place rest less ∙ ap gap size

gap_reads : (place : ℕ) (before own after : List ℕ) → IsGap own after → front place before (own ++ after) ≡ gap (length own)
gap_reads place before own after (inl h) = subst (λ (bs : List ℕ). front place before (bs ++ after) ≡ gap (length bs)) (sym h.1) (front_blank place before h.0 after h.2)
gap_reads place before own after (inr (inl h)) = subst (λ (bs : List ℕ). front place before (bs ++ after) ≡ gap (length bs)) (sym h.0.1) (line_comment place before h.0.0 after h.0.2 h.1)
gap_reads place before own after (inr (inr h)) = subst (λ (bs : List ℕ). front place before (bs ++ after) ≡ gap (length bs)) (sym h.1) (block_comment place before h.0 after h.2)

-- what stands there is read
pub stands_read : (place : ℕ) (before bytes : List ℕ) (piece : Piece) → Begins before bytes piece → front place before bytes ≡ Ok piece
stands_read place before bytes (pieces.Gap n) h = ap (front place before) h.2 ∙ gap_reads place before h.0 h.1 h.4 ∙ ap gap h.3
stands_read place before bytes (pieces.Token kind n) h =
    let t = h.4 in
    ap (front place before) h.2 ∙ token_reads place before h.0 h.1 kind t.is t.longest t.may ∙ ap (λ (m : ℕ). token kind m) h.3
