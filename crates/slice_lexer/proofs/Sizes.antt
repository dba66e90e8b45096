-- A piece has at least one byte, and ends within the text.
use Rattle.std.proofs.Common.{ℕ, suc, ◌≡◌, ◌+◌, ◌<◌, ◌≤◌, Bool, true, false, not, ◌&&◌, cond, if◌then◌else◌, ◌==◌, nat_lt, List, [], ◌∷◌, length, take, drop, codes, Option, Some, None, Ok, Err, refl, arith}
use Rattle.std.specs.Char.{is_ascii_digit}
use Rattle.std.specs.List.{prefix_len, take_while}
use Rattle.std.proofs.lemmas.Bool.Decides.{nat_tests}
use Rattle.std.proofs.lemmas.List.{length-take, length-drop}
use Rattle.std.proofs.lemmas.List.Folds.{length-prefix_len}
use Rattle.std.proofs.lemmas.List.Sums.{prefix_len-le-length}
use borrow.Author.Tests.{ltb-true}
use Rattle.slice_lexer.specs.declared.fault.LexFault.{LexFault}
use Rattle.slice_lexer.specs.declared.fault.LexFault.TheVariants as faults
use Rattle.slice_lexer.specs.declared.piece.Piece.{Piece}
use Rattle.slice_lexer.specs.declared.piece.Piece.TheVariants as pieces
use Rattle.slice_lexer.specs.declared.token.TokenKind.{TokenKind}
use Rattle.slice_lexer.specs.declared.token.TokenKind.TheVariants as kinds
use Rattle.slice_lexer.specs.Bytes.{newline, quote, hash, slash, backslash, first, is_blank, is_letter, is_word_byte, begins_with, line, word, before_close, string_length}
use Rattle.slice_lexer.specs.Pieces.{Front, gap, token, comment_at, word_kind, word_at, escaped_at, number_digits, number_length, number_value, prefix_of, number_at, string_at, directive_at, symbol_code, symbol_or, symbol_at, front}
use Rattle.slice_lexer.specs.Lexing.{length_of}

-- the piece has a byte, and no more than these bytes
abbrev Fits : List ℕ → Piece → Type 0
Fits bytes piece = (0 < length_of piece) × (length_of piece ≤ length bytes)

pub choose : (C : Type 0) (b : Bool) (x y r : Front) → (b ≡ true → x ≡ r → C) → (b ≡ false → y ≡ r → C) → cond b x y ≡ r → C
choose C true x y r f g e = f refl e
choose C false x y r f g e = g refl e

fits_gap : (bytes : List ℕ) (piece : Piece) (n : ℕ) → 0 < n → n ≤ length bytes → gap n ≡ Ok piece → Fits bytes piece
fits_gap bytes (pieces.Gap m) n h k e = let same : n ≡ m = cc in (omega arith, omega arith)
fits_gap bytes (pieces.Token kind m) n h k e = absurd cc

fits_token : (bytes : List ℕ) (piece : Piece) (kind : TokenKind) (n : ℕ) → 0 < n → n ≤ length bytes → token kind n ≡ Ok piece → Fits bytes piece
fits_token bytes (pieces.Gap m) kind n h k e = absurd cc
fits_token bytes (pieces.Token other m) kind n h k e = let same : n ≡ m = cc in (omega arith, omega arith)

fits_none : (bytes : List ℕ) (piece : Piece) (fault : LexFault) → Err fault ≡ Ok piece → Fits bytes piece
fits_none bytes piece fault e = absurd cc

pub run_within : (p : ℕ → Bool) (bytes : List ℕ) → length (take_while p bytes) ≤ length bytes
run_within p bytes = let e = length-prefix_len p bytes in let h = prefix_len-le-length p bytes in omega arith

run_some : (p : ℕ → Bool) (byte : ℕ) (bytes : List ℕ) → p byte ≡ true → 0 < length (take_while p (byte ∷ bytes))
run_some p byte bytes h =
    let e = length-prefix_len p (byte ∷ bytes) in
    let one : prefix_len p (byte ∷ bytes) ≡ 1 + prefix_len p bytes = rw h refl in
    omega arith

pub letter_goes_on : (byte : ℕ) → is_letter byte ≡ true → is_word_byte byte ≡ true
letter_goes_on byte h = grind (arith, nat_tests)

equal_line : (byte mark : ℕ) → (byte == mark) ≡ true → (mark == newline) ≡ false → not (byte == newline) ≡ true
equal_line byte mark h k = grind (arith, nat_tests)

-- a test that 0 fails passes at the front of some bytes alone
some_first : (p : ℕ → Bool) (bytes : List ℕ) → p 0 ≡ false → p (first bytes) ≡ true → 0 < length bytes
some_first p [] h k = absurd cc
some_first p (byte ∷ bytes) h k = omega arith

-- a close that stands there has two bytes
close_here : (byte : ℕ) (bytes : List ℕ) → begins_with (codes "*/") (byte ∷ bytes) ≡ true → 2 ≤ length (byte ∷ bytes)
close_here byte [] h = grind (arith, nat_tests)
close_here byte (next ∷ bytes) h = omega arith

close_next : (bytes : List ℕ) (byte : ℕ) → (before_close bytes < length bytes → before_close bytes + 2 ≤ length bytes) → (b : Bool) → begins_with (codes "*/") (byte ∷ bytes) ≡ b
    → before_close (byte ∷ bytes) < length (byte ∷ bytes) → before_close (byte ∷ bytes) + 2 ≤ length (byte ∷ bytes)
close_next bytes byte more true e h =
    let here = close_here byte bytes e in
    let is : before_close (byte ∷ bytes) ≡ 0 = rw e refl in
    omega arith
close_next bytes byte more false e h =
    let is : before_close (byte ∷ bytes) ≡ suc (before_close bytes) = rw e refl in
    omega arith

close_within : (bytes : List ℕ) → before_close bytes < length bytes → before_close bytes + 2 ≤ length bytes
close_within [] h = absurd (omega arith)
close_within (byte ∷ bytes) h = close_next bytes byte (close_within bytes) (begins_with (codes "*/") (byte ∷ bytes)) refl h

comment_fits : (place byte : ℕ) (bytes : List ℕ) (piece : Piece) → (byte == slash) ≡ true → comment_at place (byte ∷ bytes) ≡ Ok piece → Fits (byte ∷ bytes) piece
unfolding comment_at
comment_fits place byte bytes piece h =
    let C : Type 0 = Fits (byte ∷ bytes) piece in
    let block : Front = if nat_lt (before_close (drop 1 bytes)) (length (drop 1 bytes)) then gap (before_close (drop 1 bytes) + 4) else Err (faults.OpenComment place) in
    choose C (begins_with (codes "//") (byte ∷ bytes)) (gap (length (line (byte ∷ bytes)))) (if not (begins_with (codes "/*") (byte ∷ bytes)) then Err (faults.BadByte place) else block) (Ok piece)
    (λ _. fits_gap (byte ∷ bytes) piece (length (line (byte ∷ bytes))) (run_some (λ b. not (b == newline)) byte bytes (equal_line byte slash h refl)) (run_within (λ b. not (b == newline)) (byte ∷ bytes)))
    (λ _. choose C (not (begins_with (codes "/*") (byte ∷ bytes))) (Err (faults.BadByte place)) block (Ok piece)
    (λ _. fits_none (byte ∷ bytes) piece (faults.BadByte place))
    (λ _. choose C (nat_lt (before_close (drop 1 bytes)) (length (drop 1 bytes))) (gap (before_close (drop 1 bytes) + 4)) (Err (faults.OpenComment place)) (Ok piece)
    (λ closed. let inside = close_within (drop 1 bytes) (ltb-true _ _ closed) in fits_gap (byte ∷ bytes) piece (before_close (drop 1 bytes) + 4) (omega arith) (omega (arith, length-drop 1 bytes)))
    (λ _. fits_none (byte ∷ bytes) piece (faults.OpenComment place))))

escaped_fits : (place byte : ℕ) (bytes : List ℕ) (piece : Piece) → escaped_at place (byte ∷ bytes) ≡ Ok piece → Fits (byte ∷ bytes) piece
unfolding escaped_at
escaped_fits place byte bytes piece =
    let C : Type 0 = Fits (byte ∷ bytes) piece in
    let within = run_within is_word_byte bytes in
    choose C _ _ _ (Ok piece)
    (λ _. fits_token (byte ∷ bytes) piece kinds.Word (length (word bytes) + 1) (omega arith) (omega arith))
    (λ _. fits_none (byte ∷ bytes) piece (faults.BadByte place))

and_first : (a b : Bool) → (a && b) ≡ true → a ≡ true
and_first true b h = refl
and_first false b h = absurd cc

number_fits : (place : ℕ) (bytes : List ℕ) (piece : Piece) → number_at place bytes ≡ Ok piece → Fits bytes piece
unfolding number_at
number_fits place bytes piece =
    let C : Type 0 = Fits bytes piece in
    choose C _ _ _ (Ok piece)
    (λ is. let some : 0 < length (number_digits bytes) = ltb-true _ _ (and_first _ _ (and_first _ _ is)) in
    let within : length (number_digits bytes) ≤ length (drop (prefix_of bytes) bytes) = run_within _ (drop (prefix_of bytes) bytes) in
    fits_token bytes piece (kinds.Number (number_value bytes)) (number_length bytes) (omega arith) (omega (arith, length-drop (prefix_of bytes) bytes)))
    (λ _. fits_none bytes piece (faults.BadNumber place))

string_fits : (place : ℕ) (bytes : List ℕ) (piece : Piece) → string_at place bytes ≡ Ok piece → Fits bytes piece
unfolding string_at
string_fits place bytes piece =
    let C : Type 0 = Fits bytes piece in
    choose C _ _ _ (Ok piece)
    (λ is. let some : 0 < length (drop (string_length false (drop 1 bytes) + 1) bytes) = some_first (λ b. b == quote) _ refl is in
    fits_token bytes piece kinds.Text (string_length false (drop 1 bytes) + 2) (omega arith) (omega (arith, length-drop (string_length false (drop 1 bytes) + 1) bytes)))
    (λ _. fits_none bytes piece (faults.OpenString place))

directive_fits : (place : ℕ) (before : List ℕ) (byte : ℕ) (bytes : List ℕ) (piece : Piece) → (byte == hash) ≡ true → directive_at place before (byte ∷ bytes) ≡ Ok piece → Fits (byte ∷ bytes) piece
unfolding directive_at
directive_fits place before byte bytes piece h =
    let C : Type 0 = Fits (byte ∷ bytes) piece in
    choose C _ _ _ (Ok piece)
    (λ _. fits_token (byte ∷ bytes) piece kinds.Directive (length (line (byte ∷ bytes))) (run_some (λ b. not (b == newline)) byte bytes (equal_line byte hash h refl)) (run_within (λ b. not (b == newline)) (byte ∷ bytes)))
    (λ _. fits_none (byte ∷ bytes) piece (faults.BadByte place))

symbol_or_fits : (bytes : List ℕ) (piece : Piece) (o : Option ℕ) (n : ℕ) (other : Front) → 0 < n → n ≤ length bytes → (other ≡ Ok piece → Fits bytes piece)
    → symbol_or o n other ≡ Ok piece → Fits bytes piece
symbol_or_fits bytes piece (Some code) n other h k others e = fits_token bytes piece (kinds.Symbol code) n h k e
symbol_or_fits bytes piece None n other h k others e = others e

symbol_fits : (place byte : ℕ) (bytes : List ℕ) (piece : Piece) → symbol_at place (byte ∷ bytes) ≡ Ok piece → Fits (byte ∷ bytes) piece
unfolding symbol_at
symbol_fits place byte bytes piece =
    symbol_or_fits (byte ∷ bytes) piece (symbol_code (take 2 (byte ∷ bytes))) (length (take 2 (byte ∷ bytes))) (symbol_or (symbol_code (take 1 (byte ∷ bytes))) 1 (Err (faults.BadByte place)))
    (omega (arith, length-take 2 (byte ∷ bytes))) (omega (arith, length-take 2 (byte ∷ bytes)))
    (symbol_or_fits (byte ∷ bytes) piece (symbol_code (take 1 (byte ∷ bytes))) 1 (Err (faults.BadByte place)) (omega arith) (omega arith) (fits_none (byte ∷ bytes) piece (faults.BadByte place)))

word_fits : (byte : ℕ) (bytes : List ℕ) (piece : Piece) → is_letter byte ≡ true → word_at (byte ∷ bytes) ≡ Ok piece → Fits (byte ∷ bytes) piece
word_fits byte bytes piece h = fits_token (byte ∷ bytes) piece (word_kind (word (byte ∷ bytes))) (length (word (byte ∷ bytes))) (run_some is_word_byte byte bytes (letter_goes_on byte h)) (run_within is_word_byte (byte ∷ bytes))

byte_fits : (place : ℕ) (before : List ℕ) (byte : ℕ) (bytes : List ℕ) (piece : Piece) → front place before (byte ∷ bytes) ≡ Ok piece → Fits (byte ∷ bytes) piece
unfolding front
byte_fits place before byte bytes piece =
    let C : Type 0 = Fits (byte ∷ bytes) piece in
    choose C (is_blank byte) _ _ (Ok piece) (λ _. fits_gap (byte ∷ bytes) piece 1 (omega arith) (omega arith))
    (λ _. choose C (is_letter byte) _ _ (Ok piece) (word_fits byte bytes piece)
    (λ _. choose C (is_ascii_digit byte) _ _ (Ok piece) (λ _. number_fits place (byte ∷ bytes) piece)
    (λ _. choose C (byte == slash) _ _ (Ok piece) (comment_fits place byte bytes piece)
    (λ _. choose C (byte == quote) _ _ (Ok piece) (λ _. string_fits place (byte ∷ bytes) piece)
    (λ _. choose C (byte == backslash) _ _ (Ok piece) (λ _. escaped_fits place byte bytes piece)
    (λ _. choose C (byte == hash) _ _ (Ok piece) (directive_fits place before byte bytes piece)
    (λ _. symbol_fits place byte bytes piece)))))))

-- nothing begins with no byte
pub front_end : (place : ℕ) (before : List ℕ) → front place before [] ≡ Err (faults.BadByte place)
unfolding front symbol_at
front_end place before = refl

-- what stands at a place has a byte there, and no more than the text
pub front_fits : (place : ℕ) (before bytes : List ℕ) (piece : Piece) → front place before bytes ≡ Ok piece → Fits bytes piece
front_fits place before [] piece e = let none = front_end place before in absurd cc
front_fits place before (byte ∷ bytes) piece e = byte_fits place before byte bytes piece e
