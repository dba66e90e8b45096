-- The bytes of a Slice text, and the runs that they form.
use Rattle.std.specs.Prelude.{ℕ, suc, Bool, not, ◌&&◌, ◌||◌, ◌==◌, nat_eq, if◌then◌else◌, List, [], ◌∷◌, reverse, codes, slice_index}
use Rattle.std.specs.Char.{is_ascii_alphanumeric, is_ascii_alphabetic, is_ascii_whitespace, is_digit}
use Rattle.std.specs.List.{list_all, starts_with, take_while}

abbrev pub newline : ℕ
newline = 10

abbrev pub quote : ℕ
quote = 34

abbrev pub hash : ℕ
hash = 35

abbrev pub dot : ℕ
dot = 46

abbrev pub slash : ℕ
slash = 47

abbrev pub backslash : ℕ
backslash = 92

abbrev pub underscore : ℕ
underscore = 95

-- the first of the bytes, or 0, which no token begins with
abbrev pub first : List ℕ → ℕ
first bytes = slice_index bytes 0

-- space, tab, carriage return, newline or form feed
abbrev pub is_blank : ℕ → Bool
is_blank byte = is_ascii_whitespace byte

-- a byte that a word may begin with
abbrev pub is_letter : ℕ → Bool
is_letter byte = is_ascii_alphabetic byte || byte == underscore

-- a byte that a word may go on with
abbrev pub is_word_byte : ℕ → Bool
is_word_byte byte = is_ascii_alphanumeric byte || byte == underscore

-- a byte that no number stands directly before
abbrev pub spoils_number : ℕ → Bool
spoils_number byte = is_word_byte byte || byte == dot

abbrev pub begins_with : List ℕ → List ℕ → Bool
begins_with mark bytes = starts_with nat_eq bytes mark

-- what is left of the line: all before the first newline
abbrev pub line : List ℕ → List ℕ
line bytes = take_while (λ byte. not (byte == newline)) bytes

-- the longest run of letters, digits and `_`
abbrev pub word : List ℕ → List ℕ
word bytes = take_while is_word_byte bytes

-- the longest run of digits of a base
abbrev pub digits : ℕ → List ℕ → List ℕ
digits base bytes = take_while (λ byte. is_digit byte base) bytes

-- Nothing but blanks stands in the line so far. `before` is all that stands before a place of the text.
abbrev pub is_line_blank : List ℕ → Bool
is_line_blank before = list_all is_blank (line (reverse before))

-- how many bytes stand before the first `*/`, all where there is none
abbrev pub before_close : List ℕ → ℕ
before_close [] = 0
before_close (byte ∷ bytes) = if begins_with (codes "*/") (byte ∷ bytes) then 0 else suc (before_close bytes)

-- How many bytes a string has after its opening quote: all before a newline, or before a quote that no `\` takes.
-- `taken` says that a `\` takes the first of these bytes.
abbrev pub string_length : Bool → List ℕ → ℕ
string_length taken [] = 0
string_length taken (byte ∷ bytes) =
    if byte == newline || (not taken && byte == quote) then 0 else suc (string_length (not taken && byte == backslash) bytes)
