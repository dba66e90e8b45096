-- A defect has its name from how the bytes begin, and a defect is read where no piece stands.
use Rattle.std.proofs.Common.{ℕ, ◌≡◌, ◌+◌, Bool, true, false, not, if◌then◌else◌, ◌==◌, nat_lt, List, [], ◌∷◌, length, take, drop, codes, Option, Some, None, Ok, Err, refl, sym, ap, subst, ◌∙◌, arith}
use Rattle.std.specs.Char.{is_ascii_digit}
use Rattle.std.proofs.lemmas.Bool.Decides.{nat_tests}
use Rattle.slice_lexer.specs.declared.fault.LexFault.{LexFault}
use Rattle.slice_lexer.specs.declared.fault.LexFault.TheVariants as faults
use Rattle.slice_lexer.specs.declared.piece.Piece.{Piece}
use Rattle.slice_lexer.specs.declared.piece.Piece.TheVariants as pieces
use Rattle.slice_lexer.specs.declared.token.TokenKind.TheVariants as kinds
use Rattle.slice_lexer.specs.Bytes.{quote, hash, slash, backslash, first, is_blank, is_letter, begins_with, line, word, is_line_blank, before_close, string_length}
use Rattle.slice_lexer.specs.Pieces.{Front, gap, token, comment_at, word_kind, escaped_at, number_length, number_value, is_number, number_at, string_at, directive_at, symbol_code, symbol_or, symbol_at, front}
use Rattle.slice_lexer.specs.Tokens.{Begins, IsNamed, Breaks}
use Rattle.slice_lexer.specs.Lexing.{IsAt}
use Rattle.slice_lexer.proofs.Sizes.{choose}
use Rattle.slice_lexer.proofs.Stretches.{equal, equals, unequals}
use Rattle.slice_lexer.proofs.Agree.{read_stands, admitted, denied}
use Rattle.slice_lexer.proofs.Exact.{stands_read}

given : (place : ℕ) (bytes : List ℕ) (fault other : LexFault) → IsNamed place bytes fault → ◌≡◌ {A = Front} (Err fault) (Err other) → IsNamed place bytes other
given place bytes fault other h e = let same : fault ≡ other = cc in subst (IsNamed place bytes) same h

none : (place : ℕ) (bytes : List ℕ) (piece : Piece) (other : LexFault) → Ok piece ≡ Err other → IsNamed place bytes other
none place bytes piece other e = absurd cc

-- bytes that begin with this mark begin with none of those that name a defect otherwise
marked : (place mark : ℕ) (bytes : List ℕ) → (mark == quote) ≡ false → (mark == slash) ≡ false → is_ascii_digit mark ≡ false → (first bytes == mark) ≡ true → IsNamed place bytes (faults.BadByte place)
marked place mark [] a b c h = (refl, λ e. absurd cc, refl, refl)
marked place mark (byte ∷ bytes) a b c h =
    let same = equal byte mark h in
    let slashes : (slash == byte) ≡ false = grind (arith, nat_tests) in
    (refl, λ e. unequals mark quote a (sym same ∙ e), rw slashes refl, ap is_ascii_digit same ∙ c)

slash_first : (bytes : List ℕ) → (first bytes == slash) ≡ true → (first bytes ≡ quote → ⊥) × (is_ascii_digit (first bytes) ≡ false)
slash_first bytes h = let same = equal (first bytes) slash h in (λ e. unequals slash quote refl (sym same ∙ e), ap is_ascii_digit same)

comment_fault : (place : ℕ) (bytes : List ℕ) (fault : LexFault) → (first bytes == slash) ≡ true → comment_at place bytes ≡ Err fault → IsNamed place bytes fault
unfolding comment_at
comment_fault place bytes fault is =
    let C : Type 0 = IsNamed place bytes fault in
    let other = slash_first bytes is in
    let block : Front = if nat_lt (before_close (drop 2 bytes)) (length (drop 2 bytes)) then gap (before_close (drop 2 bytes) + 4) else Err (faults.OpenComment place) in
    choose C (begins_with (codes "//") bytes) (gap (length (line bytes))) (if not (begins_with (codes "/*") bytes) then Err (faults.BadByte place) else block) (Err fault)
    (λ _. none place bytes (pieces.Gap (length (line bytes))) fault)
    (λ _. choose C (not (begins_with (codes "/*") bytes)) (Err (faults.BadByte place)) block (Err fault)
    (λ h. given place bytes (faults.BadByte place) fault (refl, other.0, denied _ h, other.1))
    (λ h. choose C (nat_lt (before_close (drop 2 bytes)) (length (drop 2 bytes))) (gap (before_close (drop 2 bytes) + 4)) (Err (faults.OpenComment place)) (Err fault)
    (λ _. none place bytes (pieces.Gap (before_close (drop 2 bytes) + 4)) fault)
    (λ _. given place bytes (faults.OpenComment place) fault (refl, admitted _ h))))

escaped_fault : (place : ℕ) (bytes : List ℕ) (fault : LexFault) → (first bytes == backslash) ≡ true → escaped_at place bytes ≡ Err fault → IsNamed place bytes fault
unfolding escaped_at
escaped_fault place bytes fault is =
    choose (IsNamed place bytes fault) (is_letter (first (drop 1 bytes))) (token kinds.Word (length (word (drop 1 bytes)) + 1)) (Err (faults.BadByte place)) (Err fault)
    (λ _. none place bytes (pieces.Token kinds.Word (length (word (drop 1 bytes)) + 1)) fault)
    (λ _. given place bytes (faults.BadByte place) fault (marked place backslash bytes refl refl refl is))

number_fault : (place : ℕ) (bytes : List ℕ) (fault : LexFault) → is_ascii_digit (first bytes) ≡ true → number_at place bytes ≡ Err fault → IsNamed place bytes fault
unfolding number_at
number_fault place bytes fault is =
    choose (IsNamed place bytes fault) (is_number bytes) (token (kinds.Number (number_value bytes)) (number_length bytes)) (Err (faults.BadNumber place)) (Err fault)
    (λ _. none place bytes (pieces.Token (kinds.Number (number_value bytes)) (number_length bytes)) fault)
    (λ _. given place bytes (faults.BadNumber place) fault (refl, is))

string_fault : (place : ℕ) (bytes : List ℕ) (fault : LexFault) → (first bytes == quote) ≡ true → string_at place bytes ≡ Err fault → IsNamed place bytes fault
unfolding string_at
string_fault place bytes fault is =
    choose (IsNamed place bytes fault) (first (drop (string_length false (drop 1 bytes) + 1) bytes) == quote) (token kinds.Text (string_length false (drop 1 bytes) + 2)) (Err (faults.OpenString place)) (Err fault)
    (λ _. none place bytes (pieces.Token kinds.Text (string_length false (drop 1 bytes) + 2)) fault)
    (λ _. given place bytes (faults.OpenString place) fault (refl, equal (first bytes) quote is))

directive_fault : (place : ℕ) (before bytes : List ℕ) (fault : LexFault) → (first bytes == hash) ≡ true → directive_at place before bytes ≡ Err fault → IsNamed place bytes fault
unfolding directive_at
directive_fault place before bytes fault is =
    choose (IsNamed place bytes fault) (is_line_blank before) (token kinds.Directive (length (line bytes))) (Err (faults.BadByte place)) (Err fault)
    (λ _. none place bytes (pieces.Token kinds.Directive (length (line bytes))) fault)
    (λ _. given place bytes (faults.BadByte place) fault (marked place hash bytes refl refl refl is))

symbol_or_fault : (place : ℕ) (bytes : List ℕ) (o : Option ℕ) (n : ℕ) (other : Front) (fault : LexFault) → (other ≡ Err fault → IsNamed place bytes fault) → symbol_or o n other ≡ Err fault → IsNamed place bytes fault
symbol_or_fault place bytes (Some code) n other fault h = none place bytes (pieces.Token (kinds.Symbol code) n) fault
symbol_or_fault place bytes None n other fault h = h

no_slash : (bytes : List ℕ) → (first bytes == slash) ≡ false → begins_with (codes "/*") bytes ≡ false
no_slash [] h = refl
no_slash (byte ∷ bytes) h = let slashes : (slash == byte) ≡ false = grind (arith, nat_tests) in rw slashes refl

symbol_fault : (place : ℕ) (bytes : List ℕ) (fault : LexFault) → is_ascii_digit (first bytes) ≡ false → (first bytes == slash) ≡ false → (first bytes == quote) ≡ false → symbol_at place bytes ≡ Err fault → IsNamed place bytes fault
unfolding symbol_at
symbol_fault place bytes fault digit slashed quoted =
    symbol_or_fault place bytes (symbol_code (take 2 bytes)) (length (take 2 bytes)) (symbol_or (symbol_code (take 1 bytes)) 1 (Err (faults.BadByte place))) fault
    (symbol_or_fault place bytes (symbol_code (take 1 bytes)) 1 (Err (faults.BadByte place)) fault (given place bytes (faults.BadByte place) fault (refl, unequals (first bytes) quote quoted, no_slash bytes slashed, digit)))

-- a defect that is read is named by how the bytes begin
fault_named : (place : ℕ) (before bytes : List ℕ) (fault : LexFault) → front place before bytes ≡ Err fault → IsNamed place bytes fault
unfolding front
fault_named place before bytes fault =
    let C : Type 0 = IsNamed place bytes fault in
    choose C (is_blank (first bytes)) _ _ (Err fault) (λ _. none place bytes (pieces.Gap 1) fault)
    (λ _. choose C (is_letter (first bytes)) _ _ (Err fault) (λ _. none place bytes (pieces.Token (word_kind (word bytes)) (length (word bytes))) fault)
    (λ _. choose C (is_ascii_digit (first bytes)) _ _ (Err fault) (number_fault place bytes fault)
    (λ digit. choose C (first bytes == slash) _ _ (Err fault) (comment_fault place bytes fault)
    (λ slashed. choose C (first bytes == quote) _ _ (Err fault) (string_fault place bytes fault)
    (λ quoted. choose C (first bytes == backslash) _ _ (Err fault) (escaped_fault place bytes fault)
    (λ _. choose C (first bytes == hash) _ _ (Err fault) (directive_fault place before bytes fault)
    (λ _. symbol_fault place bytes fault digit slashed quoted)))))))

-- the name of a defect, which is the only one
name_at : ℕ → List ℕ → LexFault
name_at place bytes =
    if first bytes == quote then faults.OpenString place
    else if begins_with (codes "/*") bytes then faults.OpenComment place
    else if is_ascii_digit (first bytes) then faults.BadNumber place
    else faults.BadByte place

slash_by : (bytes : List ℕ) → begins_with (codes "/*") bytes ≡ true → (first bytes == quote) ≡ false
slash_by [] h = absurd cc
slash_by (byte ∷ []) h = absurd grind (arith, nat_tests)
slash_by (byte ∷ next ∷ bytes) h = let one : byte ≡ slash = grind (arith, nat_tests) in rw one refl

digit_by : (byte : ℕ) → is_ascii_digit byte ≡ true → ((byte == quote) ≡ false) × ((slash == byte) ≡ false)
digit_by byte h = (grind (arith, nat_tests), grind (arith, nat_tests))

digit_no_comment : (bytes : List ℕ) → is_ascii_digit (first bytes) ≡ true → begins_with (codes "/*") bytes ≡ false
digit_no_comment [] h = refl
digit_no_comment (byte ∷ bytes) h = rw ((digit_by byte h).1) refl

not_equal : (a b : ℕ) → (a ≡ b → ⊥) → (t : Bool) → (a == b) ≡ t → (a == b) ≡ false
not_equal a b h true e = absurd (h (equal a b e))
not_equal a b h false e = e

one_name : (place : ℕ) (bytes : List ℕ) (fault : LexFault) → IsNamed place bytes fault → fault ≡ name_at place bytes
unfolding name_at
one_name place bytes (faults.OpenString from) h = rw (equals (first bytes) quote h.1, h.0) refl
one_name place bytes (faults.OpenComment from) h = rw (slash_by bytes h.1, h.1, h.0) refl
one_name place bytes (faults.BadNumber from) h = rw ((digit_by (first bytes) h.1).0, digit_no_comment bytes h.1, h.1, h.0) refl
one_name place bytes (faults.BadByte from) h = rw (not_equal (first bytes) quote h.1 (first bytes == quote) refl, h.2, h.3, h.0) refl
one_name place bytes faults.TooLong h = absurd h
one_name place bytes faults.Memory h = absurd h

-- a defect that is read is one
pub read_breaks : (place : ℕ) (before bytes : List ℕ) (fault : LexFault) → front place before bytes ≡ Err fault → Breaks place before bytes fault
read_breaks place before bytes fault e = (λ piece stands. absurd (never piece stands), fault_named place before bytes fault e) where
  never : (piece : Piece) → Begins before bytes piece → ⊥
  never piece stands = let ok = stands_read place before bytes piece stands in cc

breaks_by : (place : ℕ) (before bytes : List ℕ) (fault : LexFault) → Breaks place before bytes fault → (r : Front) → front place before bytes ≡ r → front place before bytes ≡ Err fault
breaks_by place before bytes fault h (Ok piece) e = absurd (h.0 piece (read_stands place before bytes piece e))
breaks_by place before bytes fault h (Err other) e =
    e ∙ ap (λ f. Err f) (one_name place bytes other (fault_named place before bytes other e) ∙ sym (one_name place bytes fault h.1))

-- a defect that stands there is read
pub breaks_read : (place : ℕ) (before bytes : List ℕ) (fault : LexFault) → Breaks place before bytes fault → front place before bytes ≡ Err fault
breaks_read place before bytes fault h = breaks_by place before bytes fault h (front place before bytes) refl

-- a defect's place is where it stands
pub named_at : (place : ℕ) (bytes : List ℕ) (fault : LexFault) → IsNamed place bytes fault → IsAt place fault
named_at place bytes (faults.OpenString from) h = h.0
named_at place bytes (faults.OpenComment from) h = h.0
named_at place bytes (faults.BadNumber from) h = h.0
named_at place bytes (faults.BadByte from) h = h.0
named_at place bytes faults.TooLong h = absurd h
named_at place bytes faults.Memory h = absurd h
