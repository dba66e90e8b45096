-- What is read of bytes from the first on: a blank, a comment, a token or a defect. Tokens.antt says what these are, and this reading meets that.
use Rattle.std.specs.Prelude.{ℕ, ◌≡◌, ◌≤◌, ◌^◌, MatchOption, ◌+◌, Bool, false, not, ◌&&◌, ◌==◌, nat_lt, nat_le, if◌then◌else◌, List, codes, length, take, drop, Option, Some, None, Result, Ok, Err}
use Rattle.std.specs.Char.{is_ascii_digit}
use Rattle.std.specs.List.{position}
use Rattle.std.specs.Str.{bytes_eq}
use Rattle.std.specs.Str.Parse.{digits_value}
use Rattle.case_tables.specs.Tables.{keyword_names, symbol_names}
use Rattle.slice_lexer.specs.declared.fault.LexFault.{LexFault}
use Rattle.slice_lexer.specs.declared.fault.LexFault.TheVariants as faults
use Rattle.slice_lexer.specs.declared.token.TokenKind.{TokenKind}
use Rattle.slice_lexer.specs.declared.token.TokenKind.TheVariants as kinds
use Rattle.slice_lexer.specs.declared.piece.Piece.{Piece}
use Rattle.slice_lexer.specs.declared.piece.Piece.TheVariants as pieces
use Rattle.slice_lexer.specs.Bytes.{quote, hash, slash, backslash, first, is_blank, is_letter, spoils_number, begins_with, line, word, digits, is_line_blank, before_close, string_length}

-- what is read at a place, byte by byte: the definition of the inner functions alone. `proofs/Agree.antt` and
-- `Exact.antt` prove that it reads exactly what `Begins` and `Breaks` say
abbrev pub Front : Type 0
Front = Result Piece LexFault

abbrev pub gap : ℕ → Front
gap length = Ok (pieces.Gap length)

abbrev pub token : TokenKind → ℕ → Front
token kind length = Ok (pieces.Token kind length)

-- `//` up to the line's end, or `/*` up to the first `*/` after it
unfoldable pub comment_at : ℕ → List ℕ → Front
comment_at place bytes =
    if begins_with (codes "//") bytes then gap (length (line bytes))
    else if not (begins_with (codes "/*") bytes) then Err (faults.BadByte place)
    else if nat_lt (before_close (drop 2 bytes)) (length (drop 2 bytes)) then gap (before_close (drop 2 bytes) + 4)
    else Err (faults.OpenComment place)

abbrev pub kind_of : Option ℕ → TokenKind
kind_of (Some code) = kinds.Keyword code
kind_of None = kinds.Word

-- a keyword by its place in their table, or another word
unfoldable pub word_kind : List ℕ → TokenKind
word_kind name = kind_of (position (bytes_eq name) keyword_names)

abbrev pub word_at : List ℕ → Front
word_at bytes = token (word_kind (word bytes)) (length (word bytes))

-- a word after a `\` is no keyword
unfoldable pub escaped_at : ℕ → List ℕ → Front
escaped_at place bytes = if is_letter (first (drop 1 bytes)) then token kinds.Word (length (word (drop 1 bytes)) + 1) else Err (faults.BadByte place)

-- 16 after `0x`, 8 after another `0`, and else 10
abbrev pub base_of : List ℕ → ℕ
base_of bytes = if begins_with (codes "0x") bytes then 16 else if begins_with (codes "0") bytes then 8 else 10

-- how many bytes stand before a number's digits
abbrev pub prefix_of : List ℕ → ℕ
prefix_of bytes = if begins_with (codes "0x") bytes then 2 else 0

abbrev pub number_digits : List ℕ → List ℕ
number_digits bytes = digits (base_of bytes) (drop (prefix_of bytes) bytes)

abbrev pub number_length : List ℕ → ℕ
number_length bytes = prefix_of bytes + length (number_digits bytes)

abbrev pub number_value : List ℕ → ℕ
number_value bytes = digits_value (base_of bytes) (number_digits bytes)

-- the value of digits, where it is below 2 ^ 64
abbrev pub FitsValue : ℕ → List ℕ → Option ℕ → Type 0
FitsValue base digits result = MatchOption result (2 ^ 64 ≤ digits_value base digits) (λ value. value ≡ digits_value base digits)

-- Some digit stands there, nothing that spoils the number follows, and its value is at most 2 ^ 63.
abbrev pub is_number : List ℕ → Bool
is_number bytes =
    (nat_lt 0 (length (number_digits bytes)) && not (spoils_number (first (drop (number_length bytes) bytes))))
    && nat_le (number_value bytes) 9223372036854775808

unfoldable pub number_at : ℕ → List ℕ → Front
number_at place bytes = if is_number bytes then token (kinds.Number (number_value bytes)) (number_length bytes) else Err (faults.BadNumber place)

-- a string with both quotes
unfoldable pub string_at : ℕ → List ℕ → Front
string_at place bytes =
    if first (drop (string_length false (drop 1 bytes) + 1) bytes) == quote
    then token kinds.Text (string_length false (drop 1 bytes) + 2) else Err (faults.OpenString place)

-- the rest of the line, where `#` is the first byte of it that is no blank
unfoldable pub directive_at : ℕ → List ℕ → List ℕ → Front
directive_at place before bytes = if is_line_blank before then token kinds.Directive (length (line bytes)) else Err (faults.BadByte place)

-- the place of the symbol that these bytes are
abbrev pub symbol_code : List ℕ → Option ℕ
symbol_code bytes = position (bytes_eq bytes) symbol_names

-- the symbol of this code, or what stands there where it is none
abbrev pub symbol_or : Option ℕ → ℕ → Front → Front
symbol_or (Some code) length other = token (kinds.Symbol code) length
symbol_or None length other = other

-- a symbol of two bytes, or else one of one byte
unfoldable pub symbol_at : ℕ → List ℕ → Front
symbol_at place bytes =
    symbol_or (symbol_code (take 2 bytes)) (length (take 2 bytes)) (symbol_or (symbol_code (take 1 bytes)) 1 (Err (faults.BadByte place)))

-- What the bytes begin with, which stand at this place of the text after those before them. At the text's end it is no byte of the language.
unfoldable pub front : ℕ → List ℕ → List ℕ → Front
front place before bytes =
    if is_blank (first bytes) then gap 1
    else if is_letter (first bytes) then word_at bytes
    else if is_ascii_digit (first bytes) then number_at place bytes
    else if first bytes == slash then comment_at place bytes
    else if first bytes == quote then string_at place bytes
    else if first bytes == backslash then escaped_at place bytes
    else if first bytes == hash then directive_at place before bytes
    else symbol_at place bytes

-- what stands at this place of the text
abbrev pub front_at : List ℕ → ℕ → Front
front_at text place = front place (take place text) (drop place text)
