-- What the calls that read a word answer, in the terms of what it stands for.
use Rattle.std.specs.Prelude.{ℕ, ◌≡◌, ◌==◌, Bool, true, false, not, ◌&&◌, ◌||◌, List, [], ◌∷◌, ◌++◌, Option, None, Some, if◌then◌else◌}
use Rattle.std.specs.Char.{encode_utf8}
use Rattle.std.specs.List.{list_any}
use Rattle.std.specs.Option.{option_and_then}
use Rattle.ice_proxy.specs.Escapes.{Letter, plain, is_plain, is_quote, with_front, letters, until_quote, bytes_of}
use Rattle.ice_proxy.specs.declared.escape.Meaning.{Meaning}
use Rattle.ice_proxy.specs.declared.escape.Meaning.TheVariants as meanings

-- the bytes that an escape stands for
abbrev pub stood : Meaning → List ℕ
stood (meanings.Byte b) = b ∷ []
stood (meanings.Character c) = encode_utf8 c

-- ---- the letters at the front of a word

-- a `"` or this mark, which no escape made
abbrev pub is_stop : ℕ → Letter → Bool
is_stop mark l = is_quote l || is_plain mark l

-- nothing, or such a byte at the front
abbrev pub Stops : ℕ → List ℕ → Type 0
Stops mark [] = Unit {0}
Stops mark (c ∷ cs) = is_stop mark (plain c) ≡ true

-- These letters stand before the rest of the word, and none of them is such a byte.
pub record Front (mark : ℕ) (bytes : List ℕ) (front : List Letter) (rest : List ℕ) : Type 0 where
  pub reads : letters bytes ≡ with_front front (letters rest)
  pub goes_on : list_any (is_stop mark) front ≡ false

-- A call appended what the bytes before the rest stand for, or found that an escape is broken.
abbrev pub Appends : ℕ → List ℕ → List ℕ → List ℕ → Option (List ℕ) → Type 0
Appends mark bytes old new None = letters bytes ≡ None
Appends mark bytes old new (Some rest) = (front : List Letter) × Front mark bytes front rest × (new ≡ old ++ bytes_of front)

-- ---- the quotes of a word

abbrev pub is_quoted : List ℕ → Bool
is_quoted [] = false
is_quoted (c ∷ cs) = c == 34

-- the word behind the quote that it begins with, or the word
abbrev pub inside : List ℕ → List ℕ
inside [] = []
inside (c ∷ cs) = if c == 34 then cs else c ∷ cs

-- Where the word began with a quote, one is left and nothing else, and otherwise nothing.
abbrev pub is_closed : Bool → List ℕ → Bool
is_closed quoted [] = not quoted
is_closed quoted (c ∷ []) = quoted && c == 34
is_closed quoted (c ∷ d ∷ cs) = false

-- of letters behind the quote that a word begins with, those before the closing one, and of others all where none is a quote
abbrev pub closing : Bool → List Letter → Option (List Letter)
closing true ls = until_quote ls
closing false ls = if list_any is_quote ls then None else Some ls

-- the same of bytes
abbrev pub remains : Bool → List ℕ → Option (List Letter)
remains quoted bytes = option_and_then (closing quoted) (letters bytes)

-- what stands behind the `/` at the front, None where none is there
abbrev pub behind_slash : List ℕ → Option (List ℕ)
behind_slash [] = None
behind_slash (c ∷ cs) = if c == 47 then Some cs else None
