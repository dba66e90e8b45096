-- Pieces that stand one after the other.
use Rattle.std.proofs.Common.{ℕ, zero, suc, ◌≡◌, ◌+◌, ◌-◌, ◌<◌, ◌≤◌, List, [], ◌∷◌, ◌++◌, length, take, drop, slice_get, slice_range, slice_index_or, Contains, Some, Ok, Err, refl, sym, ap, subst, subst₂, drop-drop, ◌∙◌, arith}
use Rattle.std.proofs.lemmas.List.{length-drop}
use Rattle.std.proofs.Math.Seq.{drop-length}
use Rattle.slice_lexer.specs.declared.fault.LexFault.{LexFault}
use Rattle.slice_lexer.specs.declared.fault.LexFault.TheVariants as faults
use Rattle.slice_lexer.specs.declared.piece.Piece.{Piece}
use Rattle.slice_lexer.specs.declared.piece.Piece.TheVariants as pieces
use Rattle.slice_lexer.specs.declared.token.Token.{Token}
use Rattle.slice_lexer.specs.declared.token.TokenKind.{TokenKind}
use Rattle.slice_lexer.specs.Pieces.{Front, front, front_at}
use Rattle.slice_lexer.specs.Tokens.{TokenStands}
use Rattle.slice_lexer.specs.Lexing.{IsTokenOf, StandsAt, BreaksAt, length_of, Stand, tokens_of, ReadsTokens, Lexes, LexBreaks, AreSpans}
use Rattle.slice_lexer.proofs.Sizes.{front_end, front_fits}
use Rattle.slice_lexer.proofs.Agree.{after_own}
use Rattle.slice_lexer.proofs.Exact.{stands_read}
use Rattle.slice_lexer.proofs.Faults.{breaks_read}

pub piece_within : (text : List ℕ) (place : ℕ) (piece : Piece) → front_at text place ≡ Ok piece → (0 < length_of piece) × (place + length_of piece ≤ length text)
piece_within text place piece e =
    let fits = front_fits place (take place text) (drop place text) piece e in
    (fits.0, omega (arith, length-drop place text))

pub at_piece : (text : List ℕ) (place : ℕ) (piece : Piece) → StandsAt text place piece → front_at text place ≡ Ok piece
at_piece text place piece h = stands_read place (take place text) (drop place text) piece h

at_fault : (text : List ℕ) (place : ℕ) (fault : LexFault) → BreaksAt text place fault → front_at text place ≡ Err fault
at_fault text place fault h = breaks_read place (take place text) (drop place text) fault h

-- one piece more stands at the end
stand_more : (text : List ℕ) (start : ℕ) (found : List Piece) (place : ℕ) (piece : Piece) → StandsAt text place piece → Stand text start found place
    → Stand text start (found ++ piece ∷ []) (place + length_of piece)
stand_more text start [] place piece e h = rw h (e, refl)
stand_more text start (other ∷ found) place piece e h = (h.0, stand_more text (start + length_of other) found place piece e h.1)

gap_more : (text : List ℕ) (start : ℕ) (found : List Piece) (n : ℕ) → tokens_of start (found ++ pieces.Gap n ∷ []) ≡ tokens_of start found
gap_more text start [] n = refl
gap_more text start (pieces.Gap m ∷ found) n = gap_more text (start + m) found n
gap_more text start (pieces.Token kind m ∷ found) n = ap (λ tokens. record { kind = kind; from = start; to = start + m } ∷ tokens) (gap_more text (start + m) found n)

token_more : (text : List ℕ) (start : ℕ) (found : List Piece) (place : ℕ) (kind : TokenKind) (n : ℕ) → Stand text start found place
    → tokens_of start (found ++ pieces.Token kind n ∷ []) ≡ tokens_of start found ++ record { kind = kind; from = place; to = place + n } ∷ []
token_more text start [] place kind n h = rw h refl
token_more text start (pieces.Gap m ∷ found) place kind n h = token_more text (start + m) found place kind n h.1
token_more text start (pieces.Token other m ∷ found) place kind n h =
    ap (λ tokens. record { kind = other; from = start; to = start + m } ∷ tokens) (token_more text (start + m) found place kind n h.1)

pub reads_gap : (text : List ℕ) (tokens : List Token) (place n : ℕ) → ReadsTokens text tokens place → StandsAt text place (pieces.Gap n) → ReadsTokens text tokens (place + n)
reads_gap text tokens place n h e = (h.0 ++ pieces.Gap n ∷ [], stand_more text 0 h.0 place (pieces.Gap n) e h.1, gap_more text 0 h.0 n ∙ h.2)

pub reads_token : (text : List ℕ) (tokens more : List Token) (place n : ℕ) (kind : TokenKind) → ReadsTokens text tokens place → StandsAt text place (pieces.Token kind n)
    → more ≡ tokens ++ record { kind = kind; from = place; to = place + n } ∷ [] → ReadsTokens text more (place + n)
reads_token text tokens more place n kind h e is = (
  h.0 ++ pieces.Token kind n ∷ [],
  stand_more text 0 h.0 place (pieces.Token kind n) e h.1,
  token_more text 0 h.0 place kind n h.1 ∙ ap (λ found. found ++ record { kind = kind; from = place; to = place + n } ∷ []) h.2 ∙ sym is,
)

-- no piece stands at the text's end
end_front : (text : List ℕ) → front_at text (length text) ≡ Err (faults.BadByte (length text))
end_front text = ap (front (length text) (take (length text) text)) (drop-length text) ∙ front_end (length text) (take (length text) text)

one_piece : (r : Front) (piece other : Piece) → r ≡ Ok piece → r ≡ Ok other → piece ≡ other
one_piece r piece other e f = cc

one_fault : (r : Front) (fault defect : LexFault) → r ≡ Err fault → r ≡ Err defect → fault ≡ defect
one_fault r fault defect e f = cc

-- pieces that reach places where none stands are the same
same_pieces : (text : List ℕ) (start : ℕ) (found others : List Piece) (place end : ℕ) (fault defect : LexFault) → front_at text place ≡ Err fault → front_at text end ≡ Err defect
    → Stand text start found place → Stand text start others end → (found ≡ others) × (place ≡ end)
same_pieces text start [] [] place end fault defect e f h k = (refl, sym h ∙ k)
same_pieces text start [] (other ∷ others) place end fault defect e f h k = let here = ap (front_at text) h in let stands = at_piece text start other k.0 in absurd cc
same_pieces text start (piece ∷ found) [] place end fault defect e f h k = let here = ap (front_at text) k in let stands = at_piece text start piece h.0 in absurd cc
same_pieces text start (piece ∷ found) (other ∷ others) place end fault defect e f h k =
    let same : piece ≡ other = one_piece (front_at text start) piece other (at_piece text start piece h.0) (at_piece text start other k.0) in
    let rest = same_pieces text (start + length_of piece) found others place end fault defect e f h.1 (rw same k.1) in
    let tails : found ≡ others = rest.0 in
    (cc (same, tails), rest.1)

-- a text's tokens are these alone
pub one_lexing : (text : List ℕ) (tokens others : List Token) → Lexes text tokens → Lexes text others → tokens ≡ others
one_lexing text tokens others h k =
    let same = same_pieces text 0 h.0 k.0 (length text) (length text) (faults.BadByte (length text)) (faults.BadByte (length text)) (end_front text) (end_front text) h.1 k.1 in
    sym h.2 ∙ ap (tokens_of 0) same.0 ∙ k.2

-- a text has one first defect
pub one_break : (text : List ℕ) (fault defect : LexFault) → LexBreaks text fault → LexBreaks text defect → fault ≡ defect
one_break text fault defect h k =
    let same = same_pieces text 0 h.2.0 k.2.0 h.1 k.1 fault defect (at_fault text h.1 fault h.4) (at_fault text k.1 defect k.4) h.2.1 k.2.1 in
    one_fault (front_at text h.1) fault defect (at_fault text h.1 fault h.4) (ap (front_at text) same.1 ∙ at_fault text k.1 defect k.4)

-- a text with tokens has no defect
pub lexes_whole : (text : List ℕ) (tokens : List Token) (fault : LexFault) → Lexes text tokens → LexBreaks text fault → ⊥
lexes_whole text tokens fault h k =
    let same = same_pieces text 0 h.0 k.2.0 (length text) k.1 (faults.BadByte (length text)) fault (end_front text) (at_fault text k.1 fault k.4) h.1 k.2.1 in
    let is : length text ≡ k.1 = same.1 in
    let less : k.1 < length text = k.3 in
    omega arith

wider : (place start : ℕ) (tokens : List Token) (end : ℕ) → place ≤ start → AreSpans start tokens end → AreSpans place tokens end
wider place start [] end h spans = omega arith
wider place start (token ∷ tokens) end h spans = let first = spans.0 in (omega arith, spans.1, spans.2)

spans_of : (text : List ℕ) (start : ℕ) (found : List Piece) (end : ℕ) → Stand text start found end → AreSpans start (tokens_of start found) end
spans_of text start [] end h = omega arith
spans_of text start (pieces.Gap n ∷ found) end h = wider start (start + n) (tokens_of (start + n) found) end (omega arith) (spans_of text (start + n) found end h.1)
spans_of text start (pieces.Token kind n ∷ found) end h =
    let some : 0 < n = (piece_within text start (pieces.Token kind n) (at_piece text start (pieces.Token kind n) h.0)).0 in
    (omega arith, omega arith, spans_of text (start + n) found end h.1)

-- the spans of a text's tokens rise
pub lexes_spans : (text : List ℕ) (tokens : List Token) → Lexes text tokens → AreSpans 0 tokens (length text)
lexes_spans text tokens h = subst (λ (ts : List Token). AreSpans 0 ts (length text)) h.2 (spans_of text 0 h.0 (length text) h.1)

end_after : (place : ℕ) (tokens : List Token) (end : ℕ) → AreSpans place tokens end → place ≤ end
end_after place [] end spans = spans
end_after place (token ∷ tokens) end spans = let rest = end_after token.to tokens end spans.2 in let a = spans.0 in let b = spans.1 in omega arith

span_at : (place : ℕ) (tokens : List Token) (end : ℕ) → AreSpans place tokens end → (at : ℕ) (token : Token) → slice_get tokens at ≡ Some token → (token.from ≤ token.to) × (token.to ≤ end)
span_at place [] end spans at token e = absurd cc
span_at place (first ∷ tokens) end spans zero token e =
    let same : first ≡ token = cc in
    let rest = end_after first.to tokens end spans.2 in
    let b = spans.1 in
    subst (λ (t : Token). (t.from ≤ t.to) × (t.to ≤ end)) same (omega arith, rest)
span_at place (first ∷ tokens) end spans (suc at) token e = span_at first.to tokens end spans.2 at token e

-- a token of a text lies within it
pub token_within : (text : List ℕ) (tokens : List Token) → Lexes text tokens → (at : ℕ) (token : Token) → slice_get tokens at ≡ Some token → (token.from ≤ token.to) × (token.to ≤ length text)
token_within text tokens h = span_at 0 tokens (length text) (lexes_spans text tokens h)

take_own : (own after : List ℕ) → take (length own) (own ++ after) ≡ own
take_own [] after = refl
take_own (byte ∷ own) after = ap (λ (bs : List ℕ). byte ∷ bs) (take_own own after)

-- a piece that is a token is one between all bytes before it and all after it
token_of : (text : List ℕ) (place n : ℕ) (kind : TokenKind) → StandsAt text place (pieces.Token kind n) → IsTokenOf text (record { kind = kind; from = place; to = place + n })
token_of text place n kind h =
    let count : place + n - place ≡ length h.0 = (omega arith) ∙ sym h.3 in
    let own : slice_range text place (place + n) ≡ h.0 = ap (λ (k : ℕ). take k (drop place text)) count ∙ ap (λ (bs : List ℕ). take (length h.0) bs) h.2 ∙ take_own h.0 h.1 in
    let rest : drop (place + n) text ≡ h.1 = sym (drop-drop n place text) ∙ ap (λ (k : ℕ). drop k (drop place text)) (sym h.3) ∙ ap (λ (bs : List ℕ). drop (length h.0) bs) h.2 ∙ after_own h.0 h.1 in
    subst₂ (λ (mine after : List ℕ). TokenStands (take place text) kind mine after) (sym own) (sym rest) h.4

contains_by : (text : List ℕ) (first : Token) (tokens : List Token) → IsTokenOf text first → ((token : Token) → Contains tokens token → IsTokenOf text token)
    → (token : Token) (k : ℕ) → k < length (first ∷ tokens) → slice_index_or (first ∷ tokens) k token ≡ token → IsTokenOf text token
contains_by text first tokens here more token zero h e = subst (IsTokenOf text) e here
contains_by text first tokens here more token (suc k) h e = more token (k, omega arith, e)

stand_tokens : (text : List ℕ) (start : ℕ) (found : List Piece) (end : ℕ) → Stand text start found end → (token : Token) → Contains (tokens_of start found) token → IsTokenOf text token
stand_tokens text start [] end h token there = let less = there.1 in absurd (omega arith)
stand_tokens text start (pieces.Gap n ∷ found) end h token there = stand_tokens text (start + n) found end h.1 token there
stand_tokens text start (pieces.Token kind n ∷ found) end h token there =
    contains_by text (record { kind = kind; from = start; to = start + n }) (tokens_of (start + n) found) (token_of text start n kind h.0) (stand_tokens text (start + n) found end h.1) token there.0 there.1 there.2

-- each token of a text is one
pub lexes_stand : (text : List ℕ) (tokens : List Token) → Lexes text tokens → (token : Token) → Contains tokens token → IsTokenOf text token
lexes_stand text tokens h token there = stand_tokens text 0 h.0 (length text) h.1 token (subst (λ (ts : List Token). Contains ts token) (sym h.2) there)
