-- What a word stands for where a text or an identity is due: its quotes and escapes. (Ice manual, "Proxy and Endpoint Syntax".)
use Rattle.std.specs.Prelude.{ℕ, zero, suc, ◌+◌, ◌*◌, ◌==◌, Bool, true, false, not, ◌&&◌, List, [], ◌∷◌, ◌++◌, length, map, Option, None, Some, nat_lt, if◌then◌else◌}
use Rattle.std.specs.Char.{encode_utf8, digit_value}
use lib.Utf8.{scalar}
use Rattle.std.specs.Option.{option_and_then}
use Rattle.std.specs.Str.{is_utf8}
use Rattle.std.specs.List.{list_any}
use Rattle.ice_types.specs.declared.identity.Identity.{Identity}

-- ---- letters: the bytes that a word stands for, and whether an escape made them

-- the bytes that a word stands for, and whether an escape made them
pub record Letter : Type 0 where
  pub byte : ℕ
  pub is_escaped : Bool

abbrev pub plain : ℕ → Letter
plain c = record { byte = c; is_escaped = false }

abbrev pub escaped : List ℕ → List Letter
escaped bytes = map (λ c. record { byte = c; is_escaped = true }) bytes

-- an escape of one byte behind the `\`: that byte, and what it stands for
abbrev pub short_escapes : List (ℕ × ℕ)
short_escapes = (92, 92) ∷ (34, 34) ∷ (47, 47) ∷ (39, 39) ∷ (97, 7) ∷ (98, 8) ∷ (116, 9) ∷ (110, 10) ∷ (118, 11) ∷ (102, 12) ∷ (114, 13) ∷ []

abbrev pub found_in : ℕ → List (ℕ × ℕ) → Option ℕ
found_in c [] = None
found_in c (e ∷ es) = if c == e.0 then Some e.1 else found_in c es

-- what an escape stands for, and what follows it
abbrev pub Escape : Type 0
Escape = Option (List ℕ × List ℕ)

-- three octal digits, up to 377
abbrev pub octal : List ℕ → Escape
octal (a ∷ b ∷ c ∷ rest) = if nat_lt (digit_value a) 4 && (nat_lt (digit_value b) 8 && nat_lt (digit_value c) 8)
    then Some ((digit_value a * 64 + (digit_value b * 8 + digit_value c)) ∷ [], rest) else None
octal (a ∷ b ∷ []) = None
octal (a ∷ []) = None
octal [] = None

-- so many hexadecimal digits, behind those that made this number
abbrev pub digits : ℕ → ℕ → List ℕ → Option (ℕ × List ℕ)
digits zero value rest = Some (value, rest)
digits (suc n) value [] = None
digits (suc n) value (c ∷ cs) = if nat_lt (digit_value c) 16 then digits n (value * 16 + digit_value c) cs else None

-- a Unicode scalar value, in UTF-8
abbrev pub character : ℕ → List ℕ → Escape
character n cs = option_and_then (λ d. if scalar d.0 then Some (encode_utf8 d.0, d.1) else None) (digits n 0 cs)

-- what stands behind the `\`; `u` is 117 and `U` is 85
abbrev pub escape : List ℕ → Escape
escape [] = None
escape (c ∷ cs) = elim (found_in c short_escapes) [
  | Some b ↦ Some (b ∷ [], cs)
  | None ↦ if c == 117 then character 4 cs else (if c == 85 then character 8 cs else octal (c ∷ cs))
]

-- these letters before others
abbrev pub with_front : List Letter → Option (List Letter) → Option (List Letter)
with_front front found = option_and_then (λ others. Some (front ++ others)) found

-- Each escape takes a byte at least, so there are at most as many steps as bytes.
abbrev pub letters_within : ℕ → List ℕ → Option (List Letter)
letters_within steps [] = Some []
letters_within zero (c ∷ cs) = None
letters_within (suc steps) (c ∷ cs) = if c == 92
    then option_and_then (λ e. with_front (escaped e.0) (letters_within steps e.1)) (escape cs)
    else with_front (plain c ∷ []) (letters_within steps cs)

-- None where an escape is broken
abbrev pub letters : List ℕ → Option (List Letter)
letters bytes = letters_within (length bytes) bytes

-- ---- quotes

abbrev pub is_plain : ℕ → Letter → Bool
is_plain c l = not l.is_escaped && l.byte == c

abbrev pub is_quote : Letter → Bool
is_quote l = is_plain 34 l

-- what stands before the closing quote, which is the last letter
abbrev pub until_quote : List Letter → Option (List Letter)
until_quote [] = None
until_quote (l ∷ []) = if is_quote l then Some [] else None
until_quote (l ∷ m ∷ ls) = if is_quote l then None else with_front (l ∷ []) (until_quote (m ∷ ls))

-- Quotes stand as the first and the last letter or not at all.
abbrev pub unquoted : List Letter → Option (List Letter)
unquoted [] = Some []
unquoted (l ∷ ls) = if is_quote l then until_quote ls else (if list_any is_quote ls then None else Some (l ∷ ls))

-- ---- texts

abbrev pub bytes_of : List Letter → List ℕ
bytes_of ls = map (λ l. l.byte) ls

-- these bytes, where they are UTF-8
abbrev pub utf8 : List ℕ → Option (List ℕ)
utf8 bytes = if is_utf8 bytes then Some bytes else None

-- in UTF-8, once the escapes are replaced
abbrev pub utf8_of : List Letter → Option (List ℕ)
utf8_of ls = utf8 (bytes_of ls)

-- a facet, host or adapter, None where the word is none
abbrev pub text_of : List ℕ → Option (List ℕ)
text_of bytes = option_and_then utf8_of (option_and_then unquoted (letters bytes))

-- ---- identities

-- what stands before the first `/` that is no escape, and behind it where there is one
abbrev pub parted : List Letter → List Letter × Option (List Letter)
parted [] = ([], None)
parted (l ∷ ls) = if is_plain 47 l then ([], Some ls) else (let p = parted ls in (l ∷ p.0, p.1))

abbrev pub with_name : List ℕ → List ℕ → Option Identity
with_name category [] = None
with_name category (c ∷ cs) = Some (record { name = c ∷ cs; category = category })

-- a category and a name that is not empty, each in UTF-8
abbrev pub joined : List ℕ → List ℕ → Option Identity
joined category name = option_and_then (λ c. option_and_then (with_name c) (utf8 name)) (utf8 category)

-- what stands behind a category and its `/`: a second `/` is none
abbrev pub with_category : List ℕ → List Letter → Option Identity
with_category category ls = if list_any (is_plain 47) ls then None else joined category (bytes_of ls)

-- a name behind a category and `/`, or alone
abbrev pub named : List Letter × Option (List Letter) → Option Identity
named (name, None) = joined [] (bytes_of name)
named (category, Some name) = with_category (bytes_of category) name

-- an identity, None where the word is none
abbrev pub identity_of : List ℕ → Option Identity
identity_of bytes = option_and_then (λ ls. named (parted ls)) (option_and_then unquoted (letters bytes))
