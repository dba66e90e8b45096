-- The pieces of a text, from the left: its words, `:` and `@`, each with its place. (Ice manual, "Proxy and Endpoint Syntax".)
use Rattle.std.specs.Prelude.{ℕ, ◌≡◌, ◌≢◌, List, [], ◌∷◌}
use Rattle.ice_prims.specs.Rest.{Rest}
use Rattle.ice_proxy.specs.Words.{Token, end, next}

-- a word, `:` or `@`, and where it begins
pub record Piece : Type 0 where
  pub token : Token
  pub place : ℕ

abbrev pub Pieces : Type 0
Pieces = List Piece

-- These stand in the rest of a text up to its end, and nothing but blanks beside them.
abbrev pub HasPieces : Rest → Pieces → Type 0
HasPieces r [] = (next r).token ≡ end
HasPieces r (p ∷ ps) = ((next r).token ≡ p.token) × ((next r).place ≡ p.place) × (p.token ≢ end) × HasPieces (next r).rest ps

-- the place of the first one, or the text's length where there is none
abbrev pub first_place : ℕ → Pieces → ℕ
first_place size [] = size
first_place size (p ∷ ps) = p.place
