-- How a text and an identity are printed. (Ice manual, "Proxy and Endpoint Syntax"; which bytes are escaped is this node's choice.)
use Rattle.std.specs.Prelude.{ℕ, ◌+◌, ◌/◌, ◌%◌, ◌==◌, Bool, true, ◌||◌, List, [], ◌∷◌, ◌++◌, nat_lt, if◌then◌else◌}
use Rattle.std.specs.List.{flat_map, list_any}
use Rattle.ice_types.specs.declared.identity.Identity.{Identity}
use Rattle.ice_proxy.specs.Words.{is_blank}

-- `\` and this letter
abbrev pub short : ℕ → List ℕ
short c = 92 ∷ c ∷ []

-- `\` and three octal digits
abbrev pub octal_escape : ℕ → List ℕ
octal_escape c = 92 ∷ (48 + c / 64) ∷ (48 + c / 8 % 8) ∷ (48 + c % 8) ∷ []

-- `\`, `"`, `'`, newline, carriage return and tab have their escapes, other bytes below 32 and 127 stand in octal
abbrev pub escape_of : ℕ → List ℕ
escape_of c =
    if c == 92 || (c == 34 || c == 39) then short c
    else (if c == 10 then short 110
    else (if c == 13 then short 114
    else (if c == 9 then short 116
    else (if nat_lt c 32 || c == 127 then octal_escape c
    else c ∷ []))))

-- within a category or a name, `/` is escaped too
abbrev pub escape_in_identity : ℕ → List ℕ
escape_in_identity c = if c == 47 then short 47 else escape_of c

-- how a text is printed, byte by byte
abbrev pub escapes : List ℕ → List ℕ
escapes text = flat_map escape_of text

-- the same between quotes
abbrev pub in_quotes : List ℕ → List ℕ
in_quotes bytes = 34 ∷ bytes ++ 34 ∷ []

-- a text in quotes
abbrev pub quoted_text : List ℕ → List ℕ
quoted_text text = in_quotes (escapes text)

-- a byte that a word has in quotes alone: a blank, `:`, `@` or `"`
abbrev pub is_special : ℕ → Bool
is_special c = is_blank c || (c == 58 || (c == 64 || c == 34))

-- a text that is empty, has such a byte, or begins with `-`
abbrev pub wants_quotes : List ℕ → Bool
wants_quotes [] = true
wants_quotes (c ∷ cs) = c == 45 || list_any is_special (c ∷ cs)

-- this escaped form of a text, in quotes where the text wants them
abbrev pub printed_as : List ℕ → List ℕ → List ℕ
printed_as text bytes = if wants_quotes text then in_quotes bytes else bytes

-- a text, in quotes where it wants them
abbrev pub printed_text : List ℕ → List ℕ
printed_text text = printed_as text (escapes text)

-- ---- identities

-- category, `/`, name, as they are; without a category the name alone
abbrev pub whole_name : Identity → List ℕ
whole_name i = elim i.category [ [] ↦ i.name | c ∷ cs ↦ (c ∷ cs) ++ 47 ∷ i.name ]

-- the same with escapes, without quotes
abbrev pub identity_escapes : Identity → List ℕ
identity_escapes i = elim i.category [ [] ↦ flat_map escape_in_identity i.name | c ∷ cs ↦ flat_map escape_in_identity (c ∷ cs) ++ 47 ∷ flat_map escape_in_identity i.name ]

-- an identity: its category, `/` and its name, with each `/` inside them escaped
abbrev pub printed_identity : Identity → List ℕ
printed_identity i = printed_as (whole_name i) (identity_escapes i)
