-- The tokens of a Slice text, after "The Slice Language" of the Ice manual, "Lexical Rules".
use Rattle.std.specs.Prelude.{ℕ, ◌≡◌, ◌+◌, ◌<◌, ◌≤◌, List, [], ◌∷◌, length, take, drop, slice_get, slice_range, Contains, Some, Result, Ok, Err}
use Rattle.slice_lexer.specs.declared.fault.LexFault.{LexFault}
use Rattle.slice_lexer.specs.declared.fault.LexFault.TheVariants as faults
use Rattle.slice_lexer.specs.declared.lexer.TheConstants.{MOST_BYTES}
use Rattle.slice_lexer.specs.declared.token.Token.{Token}
use Rattle.slice_lexer.specs.declared.token.TokenKind.{TokenKind}
use Rattle.slice_lexer.specs.declared.piece.Piece.{Piece}
use Rattle.slice_lexer.specs.declared.piece.Piece.TheVariants as pieces
use Rattle.slice_lexer.specs.Tokens.{Begins, Breaks, TokenStands}

-- This piece stands at a place of the text.
abbrev pub StandsAt : List ℕ → ℕ → Piece → Type 0
StandsAt text place piece = Begins (take place text) (drop place text) piece

-- This defect stands at a place of the text.
abbrev pub BreaksAt : List ℕ → ℕ → LexFault → Type 0
BreaksAt text place fault = Breaks place (take place text) (drop place text) fault

-- how long a piece is
abbrev pub length_of : Piece → ℕ
length_of (pieces.Gap length) = length
length_of (pieces.Token kind length) = length

-- From one place of the text to another these pieces stand one after the other.
abbrev pub Stand : List ℕ → ℕ → List Piece → ℕ → Type 0
Stand text place [] end = place ≡ end
Stand text place (piece ∷ others) end = StandsAt text place piece × Stand text (place + length_of piece) others end

-- the pieces from a place on that are no gaps, each with its span
abbrev pub tokens_of : ℕ → List Piece → List Token
tokens_of place [] = []
tokens_of place (pieces.Gap length ∷ others) = tokens_of (place + length) others
tokens_of place (pieces.Token kind length ∷ others) = record { kind = kind; from = place; to = place + length } ∷ tokens_of (place + length) others

-- The text up to a place is pieces, of which these are the tokens.
abbrev pub ReadsTokens : List ℕ → List Token → ℕ → Type 0
ReadsTokens text tokens place = (found : List Piece) × Stand text 0 found place × (tokens_of 0 found ≡ tokens)

-- The whole text is pieces, of which these are the tokens.
abbrev pub Lexes : List ℕ → List Token → Type 0
Lexes text tokens = ReadsTokens text tokens (length text)

-- The text is pieces up to a place, and there is this defect.
abbrev pub LexBreaks : List ℕ → LexFault → Type 0
LexBreaks text fault = (tokens : List Token) × (place : ℕ) × ReadsTokens text tokens place × (place < length text) × BreaksAt text place fault

-- the text has some tokens, or some first defect
abbrev pub HasTokens : List ℕ → Type 0
HasTokens text = (tokens : List Token) × Lexes text tokens

-- the text has some first defect
abbrev pub HasDefect : List ℕ → Type 0
HasDefect text = (fault : LexFault) × LexBreaks text fault

-- The token stands in the text, between all bytes before it and all after it.
abbrev pub IsTokenOf : List ℕ → Token → Type 0
IsTokenOf text token = TokenStands (take token.from text) token.kind (slice_range text token.from token.to) (drop token.to text)

-- Each token stands in the text.
abbrev pub AreTokensOf : List ℕ → List Token → Type 0
AreTokensOf text tokens = (token : Token) → Contains tokens token → IsTokenOf text token

-- These are the bytes of the token at a place among the tokens.
abbrev pub AreBytesOf : List ℕ → List Token → ℕ → List ℕ → Type 0
AreBytesOf text tokens at bytes = (token : Token) → slice_get tokens at ≡ Some token → bytes ≡ slice_range text token.from token.to

-- the place that a defect of the text names
abbrev pub IsAt : ℕ → LexFault → Type 0
IsAt place (faults.BadByte from) = from ≡ place
IsAt place (faults.OpenString from) = from ≡ place
IsAt place (faults.OpenComment from) = from ≡ place
IsAt place (faults.BadNumber from) = from ≡ place
IsAt place faults.TooLong = ⊥
IsAt place faults.Memory = ⊥

-- A byte of the text is the place that the defect names.
abbrev pub IsWithin : List ℕ → LexFault → Type 0
IsWithin text fault = (place : ℕ) × (place < length text) × IsAt place fault

-- Spans from one place to another: they rise without overlap, and none is empty.
abbrev pub AreSpans : ℕ → List Token → ℕ → Type 0
AreSpans place [] end = place ≤ end
AreSpans place (token ∷ tokens) end = (place ≤ token.from) × (token.from < token.to) × AreSpans token.to tokens end

-- The text is pieces up to a place where a token stands.
abbrev pub HasToken : List ℕ → Type 0
HasToken text = (tokens : List Token) × (place : ℕ) × (kind : TokenKind) × (size : ℕ) × ReadsTokens text tokens place × StandsAt text place (pieces.Token kind size)

-- The answer to a text. Memory is taken for tokens alone.
abbrev pub Answers : List ℕ → Result (List Token) LexFault → Type 0
Answers text (Ok tokens) = (length text ≤ MOST_BYTES) × Lexes text tokens
Answers text (Err faults.TooLong) = MOST_BYTES < length text
Answers text (Err faults.Memory) = (length text ≤ MOST_BYTES) × HasToken text
Answers text (Err fault) = (length text ≤ MOST_BYTES) × LexBreaks text fault
