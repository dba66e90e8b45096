-- One step of reading a text.
use Rattle.std.proofs.Common.{ℕ, ◌≡◌, ◌+◌, ◌<◌, ◌≤◌, List, [], ◌∷◌, ◌++◌, length, take, drop, slice_get, get_or, Some, Result, Ok, Err, refl, sym, ap, subst, ◌∙◌, slice_range}
use Rattle.std.specs.Result.{IsErrAnd}
use Rattle.std.proofs.lemmas.Option.{get_or_from_slice_get, slice_get_read}
use Rattle.slice_lexer.specs.declared.fault.LexFault.{LexFault}
use Rattle.slice_lexer.specs.declared.fault.LexFault.TheVariants as faults
use Rattle.slice_lexer.specs.declared.piece.Piece.{Piece}
use Rattle.slice_lexer.specs.declared.piece.Piece.TheVariants as pieces
use Rattle.slice_lexer.specs.declared.token.Token.{Token}
use Rattle.slice_lexer.specs.declared.token.TokenKind.{TokenKind}
use Rattle.slice_lexer.specs.Pieces.{front_at}
use Rattle.slice_lexer.specs.Lexing.{length_of, ReadsTokens, Lexes, LexBreaks, IsAt, Answers}
use Rattle.slice_lexer.proofs.Standing.{piece_within, reads_gap, reads_token, token_within}
use Rattle.slice_lexer.proofs.Agree.{read_stands}
use Rattle.slice_lexer.proofs.Faults.{read_breaks, named_at}

pub gap_step : (text : List ℕ) (tokens : List Token) (place n m : ℕ) (piece : Piece) → ReadsTokens text tokens place → Ok piece ≡ front_at text place → piece ≡ pieces.Gap m → n ≡ length_of piece
    → ReadsTokens text tokens (place + n) × (place + n ≤ length text)
gap_step text tokens place n m piece h e is size =
    let same : m ≡ n = sym (size ∙ ap length_of is) in
    let found : front_at text place ≡ Ok (pieces.Gap n) = sym e ∙ ap (λ p. Ok p) is ∙ ap (λ k. Ok (pieces.Gap k)) same in
    (reads_gap text tokens place n h (read_stands place (take place text) (drop place text) (pieces.Gap n) found), (piece_within text place (pieces.Gap n) found).1)

pub token_step : (text : List ℕ) (tokens more : List Token) (place n m : ℕ) (kind : TokenKind) (piece : Piece) → ReadsTokens text tokens place → Ok piece ≡ front_at text place → piece ≡ pieces.Token kind m
    → n ≡ length_of piece → more ≡ tokens ++ record { kind = kind; from = place; to = place + n } ∷ [] → ReadsTokens text more (place + n) × (place + n ≤ length text)
token_step text tokens more place n m kind piece h e is size added =
    let same : m ≡ n = sym (size ∙ ap length_of is) in
    let found : front_at text place ≡ Ok (pieces.Token kind n) = sym e ∙ ap (λ p. Ok p) is ∙ ap (λ k. Ok (pieces.Token kind k)) same in
    (reads_token text tokens more place n kind h (read_stands place (take place text) (drop place text) (pieces.Token kind n) found) added, (piece_within text place (pieces.Token kind n) found).1)

placed : (text : List ℕ) (place : ℕ) (fault : LexFault) → IsAt place fault → length text ≤ 1000000 → LexBreaks text fault → Answers text (Err fault)
placed text place (faults.BadByte from) at few h = (few, h)
placed text place (faults.OpenString from) at few h = (few, h)
placed text place (faults.OpenComment from) at few h = (few, h)
placed text place (faults.BadNumber from) at few h = (few, h)
placed text place faults.TooLong at few h = absurd at
placed text place faults.Memory at few h = absurd at

err_answer : (text : List ℕ) (fault : LexFault) (r : Result (List Token) LexFault) → IsErrAnd r (λ e. e ≡ fault) → Answers text (Err fault) → Answers text r
err_answer text fault (Ok tokens) is h = absurd is
err_answer text fault (Err other) is h = subst (λ (f : LexFault). Answers text (Err f)) (sym is) h

pub break_step : (text : List ℕ) (tokens : List Token) (place : ℕ) (fault : LexFault) (r : Result (List Token) LexFault) → ReadsTokens text tokens place → place < length text → length text ≤ 1000000
    → Err fault ≡ front_at text place → IsErrAnd r (λ e. e ≡ fault) → Answers text r
break_step text tokens place fault r h less few e is =
    let breaks = read_breaks place (take place text) (drop place text) fault (sym e) in
    err_answer text fault r is (placed text place fault (named_at place (drop place text) fault breaks.1) few (tokens, place, h, less, breaks))

-- a defect's place is a byte of the text
pub break_placed : (text : List ℕ) (fault : LexFault) → LexBreaks text fault → (place : ℕ) × (place < length text) × IsAt place fault
break_placed text fault h = (h.1, h.3, named_at h.1 (drop h.1 text) fault h.4.1)

-- the token that an index reads
pub token_read : (text : List ℕ) (items seen : List Token) (at : ℕ) (token : Token) → items ≡ seen → at < length seen → token ≡ get_or items at token → Lexes text seen
    → (token.from ≤ token.to) × (token.to ≤ length text)
token_read text items seen at token e h is lexes = token_within text seen lexes at token (slice_get_read seen (length seen) at token refl h (is ∙ ap (λ xs. get_or xs at token) e))

pub bytes_read : (text : List ℕ) (items seen : List Token) (at : ℕ) (token : Token) → items ≡ seen → token ≡ get_or items at token
    → (other : Token) → slice_get seen at ≡ Some other → slice_range text token.from token.to ≡ slice_range text other.from other.to
bytes_read text items seen at token e is other found =
    let same : token ≡ other = is ∙ ap (λ xs. get_or xs at token) e ∙ get_or_from_slice_get seen at other token found in
    ap (λ (t : Token). slice_range text t.from t.to) same

-- memory is wanted where a token stands
pub memory_step : (text : List ℕ) (tokens : List Token) (place m : ℕ) (kind : TokenKind) (piece : Piece) (r : Result (List Token) LexFault) → ReadsTokens text tokens place → Ok piece ≡ front_at text place → piece ≡ pieces.Token kind m
    → length text ≤ 1000000 → IsErrAnd r (λ e. e ≡ faults.Memory) → Answers text r
memory_step text tokens place m kind piece r h e is few memory =
    let found : front_at text place ≡ Ok (pieces.Token kind m) = sym e ∙ ap (λ p. Ok p) is in
    err_answer text faults.Memory r memory (few, (tokens, place, kind, m, h, read_stands place (take place text) (drop place text) (pieces.Token kind m) found))
