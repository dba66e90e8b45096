-- Each text is pieces up to its end or up to a defect.
use Rattle.std.proofs.Common.{ℕ, zero, suc, ◌≡◌, ◌+◌, ◌<◌, ◌≤◌, Bool, true, false, nat_lt, List, [], ◌∷◌, ◌++◌, length, take, drop, Ok, Err, refl, subst, inl, inr, ◌⊎◌, arith}
use borrow.Author.Tests.{ltb-true, ltb-false}
use Rattle.slice_lexer.specs.declared.fault.LexFault.{LexFault}
use Rattle.slice_lexer.specs.declared.piece.Piece.TheVariants as pieces
use Rattle.slice_lexer.specs.declared.token.Token.{Token}
use Rattle.slice_lexer.specs.Pieces.{Front, front_at}
use Rattle.slice_lexer.specs.Lexing.{ReadsTokens, Lexes, LexBreaks}
use Rattle.slice_lexer.proofs.Agree.{read_stands}
use Rattle.slice_lexer.proofs.Faults.{read_breaks}
use Rattle.slice_lexer.proofs.Standing.{piece_within, reads_gap, reads_token}

abbrev Answered : List ℕ → Type 0
Answered text = ((tokens : List Token) × Lexes text tokens) ⊎ ((fault : LexFault) × LexBreaks text fault)

-- what more reading answers, of a text that is read up to any later place
abbrev Goes : List ℕ → ℕ → Type 0
Goes text fuel = (place : ℕ) (tokens : List Token) → length text ≤ place + fuel → place ≤ length text → ReadsTokens text tokens place → Answered text

at_front : (text : List ℕ) (fuel place : ℕ) (tokens : List Token) → Goes text fuel → length text ≤ place + suc fuel → place < length text → ReadsTokens text tokens place
    → (r : Front) → front_at text place ≡ r → Answered text
at_front text fuel place tokens more enough less h (Ok (pieces.Gap n)) e =
    let within = piece_within text place (pieces.Gap n) e in
    more (place + n) tokens (omega arith) (omega arith) (reads_gap text tokens place n h (read_stands place (take place text) (drop place text) (pieces.Gap n) e))
at_front text fuel place tokens more enough less h (Ok (pieces.Token kind n)) e =
    let within = piece_within text place (pieces.Token kind n) e in
    let seen : List Token = tokens ++ record { kind = kind; from = place; to = place + n } ∷ [] in
    more (place + n) seen (omega arith) (omega arith) (reads_token text tokens seen place n kind h (read_stands place (take place text) (drop place text) (pieces.Token kind n) e) refl)
at_front text fuel place tokens more enough less h (Err fault) e = inr (fault, (tokens, place, h, less, read_breaks place (take place text) (drop place text) fault e))

at_end : (text : List ℕ) (place : ℕ) (tokens : List Token) → place ≡ length text → ReadsTokens text tokens place → Answered text
at_end text place tokens e h = inl (tokens, subst (ReadsTokens text tokens) e h)

at_place : (text : List ℕ) (fuel place : ℕ) (tokens : List Token) → Goes text fuel → length text ≤ place + suc fuel → place ≤ length text → ReadsTokens text tokens place
    → (b : Bool) → nat_lt place (length text) ≡ b → Answered text
at_place text fuel place tokens more enough within h true e = at_front text fuel place tokens more enough (ltb-true _ _ e) h (front_at text place) refl
at_place text fuel place tokens more enough within h false e = let past = ltb-false place (length text) e in at_end text place tokens (omega arith) h

goes : (text : List ℕ) (fuel : ℕ) → Goes text fuel
goes text zero place tokens enough within h = at_end text place tokens (omega arith) h
goes text (suc fuel) place tokens enough within h = at_place text fuel place tokens (goes text fuel) enough within h (nat_lt place (length text)) refl

pub answered : (text : List ℕ) → Answered text
answered text = goes text (length text) 0 [] (omega arith) (omega arith) ([], refl, refl)
