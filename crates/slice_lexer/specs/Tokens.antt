-- What blanks, comments and tokens are, in the words of the Ice manual: "The Slice Language", "Lexical Rules" (comments, keywords, identifiers), and "Constants and Literals" (integer and string literals).
use Rattle.std.specs.Prelude.{ℕ, ◌≡◌, ◌<◌, ◌≤◌, ◌⊎◌, not, ◌==◌, IsTrue, IsFalse, List, [], ◌∷◌, ◌++◌, length, codes, Contains, Some, slice_get}
use Rattle.std.specs.Char.{is_ascii_digit, is_digit}
use Rattle.std.specs.List.{list_all}
use Rattle.std.specs.Str.Parse.{digits_value}
use Rattle.case_tables.specs.Tables.{keyword_names, symbol_names}
use Rattle.slice_lexer.specs.declared.fault.LexFault.{LexFault}
use Rattle.slice_lexer.specs.declared.fault.LexFault.TheVariants as faults
use Rattle.slice_lexer.specs.declared.token.TokenKind.{TokenKind}
use Rattle.slice_lexer.specs.declared.token.TokenKind.TheVariants as kinds
use Rattle.slice_lexer.specs.declared.piece.Piece.{Piece}
use Rattle.slice_lexer.specs.declared.piece.Piece.TheVariants as pieces
use Rattle.slice_lexer.specs.Bytes.{newline, quote, hash, backslash, first, is_blank, is_letter, is_word_byte, spoils_number, begins_with, is_line_blank}

-- Identifiers and keywords.

-- a letter or `_`, then letters, digits and `_`
abbrev pub IsIdentifier : List ℕ → Type 0
IsIdentifier [] = ⊥
IsIdentifier (byte ∷ bytes) = IsTrue (is_letter byte) × IsTrue (list_all is_word_byte bytes)

-- an identifier directly after a `\`, which may be spelled like a keyword
abbrev pub IsEscaped : List ℕ → Type 0
IsEscaped [] = ⊥
IsEscaped (byte ∷ bytes) = (byte ≡ backslash) × IsIdentifier bytes

-- Integer literals.

-- digits of a base
abbrev pub AreDigits : ℕ → List ℕ → Type 0
AreDigits base bytes = IsTrue (list_all (λ byte. is_digit byte base) bytes)

-- decimal digits, of which the first is not `0`
abbrev pub IsDecimal : List ℕ → ℕ → Type 0
IsDecimal [] value = ⊥
IsDecimal (byte ∷ bytes) value = (byte ≡ 48 → ⊥) × AreDigits 10 (byte ∷ bytes) × (value ≡ digits_value 10 (byte ∷ bytes))

-- octal digits, of which the first is `0`
abbrev pub IsOctal : List ℕ → ℕ → Type 0
IsOctal [] value = ⊥
IsOctal (byte ∷ bytes) value = (byte ≡ 48) × AreDigits 8 (byte ∷ bytes) × (value ≡ digits_value 8 (byte ∷ bytes))

-- `0x`, then hexadecimal digits
abbrev pub IsHexadecimal : List ℕ → ℕ → Type 0
IsHexadecimal bytes value = (digits : List ℕ) × (bytes ≡ codes "0x" ++ digits) × (0 < length digits) × AreDigits 16 digits × (value ≡ digits_value 16 digits)

-- an integer literal, with its value
abbrev pub IsInteger : List ℕ → ℕ → Type 0
IsInteger bytes value = IsDecimal bytes value ⊎ (IsOctal bytes value ⊎ IsHexadecimal bytes value)

-- String literals.

-- a byte that stands for itself in a string
abbrev pub IsPlain : ℕ → Type 0
IsPlain byte = (byte ≡ quote → ⊥) × (byte ≡ backslash → ⊥) × (byte ≡ newline → ⊥)

-- what stands between the quotes of a string: plain bytes, and escapes, which are a `\` with a byte of the same line
pub data Characters : List ℕ → Type 0 where
  none : Characters []
  plain : (byte : ℕ) (bytes : List ℕ) → IsPlain byte → Characters bytes → Characters (byte ∷ bytes)
  escape : (byte : ℕ) (bytes : List ℕ) → (byte ≡ newline → ⊥) → Characters bytes → Characters (backslash ∷ byte ∷ bytes)

abbrev pub IsString : List ℕ → Type 0
IsString bytes = (inside : List ℕ) × (bytes ≡ quote ∷ inside ++ quote ∷ []) × Characters inside

-- Lines.

-- no line ends in these bytes
abbrev pub IsOnOneLine : List ℕ → Type 0
IsOnOneLine bytes = IsTrue (list_all (λ byte. not (byte == newline)) bytes)

-- The line ends before these bytes.
abbrev pub LineEnds : List ℕ → Type 0
LineEnds [] = Unit {0}
LineEnds (byte ∷ bytes) = byte ≡ newline

-- `#`, and what stands after it in its line
abbrev pub IsDirective : List ℕ → Type 0
IsDirective [] = ⊥
IsDirective (byte ∷ bytes) = (byte ≡ hash) × IsOnOneLine bytes

-- Blanks and comments.

-- one space, tab, carriage return, newline or form feed
abbrev pub IsBlank : List ℕ → Type 0
IsBlank bytes = (byte : ℕ) × (bytes ≡ byte ∷ []) × IsTrue (is_blank byte)

-- `//`, and what stands after it in its line
abbrev pub IsLineComment : List ℕ → Type 0
IsLineComment bytes = (inside : List ℕ) × (bytes ≡ codes "//" ++ inside) × IsOnOneLine inside

-- No `*/` stands in these bytes.
abbrev pub HasNoClose : List ℕ → Type 0
HasNoClose bytes = (before after : List ℕ) → bytes ≡ before ++ (codes "*/" ++ after) → ⊥

-- `/*` up to the first `*/` after it
abbrev pub IsBlockComment : List ℕ → Type 0
IsBlockComment bytes = (inside : List ℕ) × (bytes ≡ codes "/*" ++ (inside ++ codes "*/")) × HasNoClose (inside ++ codes "*")

-- a blank or a comment, before these bytes
abbrev pub IsGap : List ℕ → List ℕ → Type 0
IsGap own after = IsBlank own ⊎ ((IsLineComment own × LineEnds after) ⊎ IsBlockComment own)

-- Tokens.

-- The bytes are a token of this kind.
abbrev pub IsToken : TokenKind → List ℕ → Type 0
IsToken kinds.Word bytes = (IsIdentifier bytes × (Contains keyword_names bytes → ⊥)) ⊎ IsEscaped bytes
IsToken (kinds.Keyword code) bytes = slice_get keyword_names code ≡ Some bytes
IsToken (kinds.Number value) bytes = IsInteger bytes value × (value ≤ 9223372036854775808)
IsToken kinds.Text bytes = IsString bytes
IsToken (kinds.Symbol code) bytes = slice_get symbol_names code ≡ Some bytes
IsToken kinds.Directive bytes = IsDirective bytes

-- No letter, digit, `_` or `.` comes next.
abbrev pub NumberEnds : List ℕ → Type 0
NumberEnds [] = Unit {0}
NumberEnds (byte ∷ bytes) = IsFalse (spoils_number byte)

-- A token of the kind may stand between these bytes: before a directive its line is blank, and a number ends.
abbrev pub MayStand : List ℕ → TokenKind → List ℕ → Type 0
MayStand before kinds.Word after = Unit {0}
MayStand before (kinds.Keyword code) after = Unit {0}
MayStand before (kinds.Number value) after = NumberEnds after
MayStand before kinds.Text after = Unit {0}
MayStand before (kinds.Symbol code) after = Unit {0}
MayStand before kinds.Directive after = IsTrue (is_line_blank before)

-- No token that is longer begins where these bytes do.
abbrev pub IsLongest : List ℕ → List ℕ → Type 0
IsLongest own after = (kind : TokenKind) (longer rest : List ℕ) → own ++ after ≡ longer ++ rest → IsToken kind longer → length longer ≤ length own

-- A token of this kind stands there, between the bytes before and after.
pub record TokenStands (before : List ℕ) (kind : TokenKind) (own after : List ℕ) : Type 0 where
  pub is : IsToken kind own
  pub longest : IsLongest own after
  pub may : MayStand before kind after

-- What stands at a place of a text.

-- Bytes begin with this piece, which stands after those before.
abbrev pub Begins : List ℕ → List ℕ → Piece → Type 0
Begins before bytes (pieces.Gap size) = (own after : List ℕ) × (bytes ≡ own ++ after) × (length own ≡ size) × IsGap own after
Begins before bytes (pieces.Token kind size) = (own after : List ℕ) × (bytes ≡ own ++ after) × (length own ≡ size) × TokenStands before kind own after

-- A defect has its name from how the bytes at its place begin: with a `"`, with `/*`, with a digit, or otherwise.
abbrev pub IsNamed : ℕ → List ℕ → LexFault → Type 0
IsNamed place bytes (faults.OpenString from) = (from ≡ place) × (first bytes ≡ quote)
IsNamed place bytes (faults.OpenComment from) = (from ≡ place) × IsTrue (begins_with (codes "/*") bytes)
IsNamed place bytes (faults.BadNumber from) = (from ≡ place) × IsTrue (is_ascii_digit (first bytes))
IsNamed place bytes (faults.BadByte from) = (from ≡ place) × (first bytes ≡ quote → ⊥) × IsFalse (begins_with (codes "/*") bytes) × IsFalse (is_ascii_digit (first bytes))
IsNamed place bytes faults.TooLong = ⊥
IsNamed place bytes faults.Memory = ⊥

-- Neither a blank nor a comment nor a token stands at this place, and the defect is this one.
abbrev pub Breaks : ℕ → List ℕ → List ℕ → LexFault → Type 0
Breaks place before bytes fault = ((piece : Piece) → Begins before bytes piece → ⊥) × IsNamed place bytes fault
