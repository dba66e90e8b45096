-- The same over bytes: they are messages in one way alone.
use Rattle.std.proofs.Common.{◌≡◌, ℕ, inl, inr, List, [], ◌∷◌, ◌++◌, length, Option, None, Some, refl, ap, sym, ◌∙◌, subst, arith, length-append}
use Rattle.std.specs.Prelude.{Result, Ok, Err}
use Rattle.ice_prims.specs.declared.fault.Fault.{Fault}
use Rattle.ice_prims.specs.Rest.{Rest}
use Rattle.call_world.specs.World.{World, opening}
use Rattle.call_world.specs.Service.{free_rules}
use Rattle.ice_messages.specs.declared.message.Call.{Call}
use Rattle.ice_messages.specs.declared.message.Answer.{Answer}
use Rattle.ice_messages.specs.declared.message.Message.{Message}
use Rattle.ice_messages.specs.Messages.{SpellsMessage}
use Rattle.ice_messages.specs.Streams.{StreamEnds, next_at}
use Rattle.ice_messages.proofs.Streams.{messages_apart, next_message, front_next}
use Rattle.ice_messages.proofs.Runs.{one_end}
use Rattle.ice_audit.specs.declared.verdict.Seen.{Seen}
use Rattle.ice_audit.specs.declared.verdict.Seen.TheVariants.{Once, Never, Either}
use Rattle.ice_audit.specs.Pieces.{Piece, messages_of, Pieces, IsRead, AreWhole}
use Rattle.ice_audit.specs.Captured.{seat_ids, replies_in, reply_answers, closes}
use Rattle.ice_audit.specs.Traces.{IsTrace, TellsIn, flags, reply_at, seen_of}
use Rattle.ice_audit.specs.Captures.{Trace, CaptureHasTrace, CaptureIsTold, CaptureNoneTwice}
use Rattle.ice_audit.proofs.Tracing.{good_lem, told_lem, twice_lem}

abbrev Next : Type 0
Next = Result (Option (Message × Rest)) Fault

-- what ends a stream is no message
no_end : (rest first others : List ℕ) (m : Message) (end : Option Fault) → StreamEnds rest end → rest ≡ first ++ others → SpellsMessage first m → ⊥
no_end rest first others m None front e spells =
    let a = front_next rest front in
    let b = next_message first others m spells in
    let z : ◌≡◌ {A = Next} (Ok None) (Ok (Some (m, record { place = length first; bytes = others }))) = sym a ∙ (ap next_at e ∙ b) in
    cc
no_end rest first others m (Some fault) bad e spells =
    let b = next_message first others m spells in
    let z : ◌≡◌ {A = Next} (Err fault) (Ok (Some (m, record { place = length first; bytes = others }))) = sym bad ∙ (ap next_at e ∙ b) in
    cc

same_length : (a b x y : List ℕ) → a ++ x ≡ b ++ y → x ≡ y → length a ≡ length b
same_length a b x y e f =
    let p = length-append a x in
    let q = length-append b y in
    let r = ap (λ (l : List ℕ). length l) e in
    let s = ap (λ (l : List ℕ). length l) f in
    omega arith

same_piece : (p q : Piece) → p.0 ≡ q.0 → p.1 ≡ q.1 → p ≡ q
same_piece (m, i) (n, j) e f = ap (λ (x : Message). (x, i)) e ∙ ap (λ (k : ℕ). (n, k)) f

pieces_one : (bytes : List ℕ) (ps qs : List Piece) (rest left : List ℕ) (a b : Option Fault) → Pieces bytes ps rest → StreamEnds rest a → Pieces bytes qs left → StreamEnds left b
    → (ps ≡ qs) × (rest ≡ left)
pieces_one bytes [] [] rest left a b h fa k fb = (refl, sym h ∙ k)
pieces_one bytes [] (q ∷ qs) rest left a b h fa (first, others, e, spells, size, more) fb = absurd (no_end rest first others q.0 a fa (sym h ∙ e) spells)
pieces_one bytes (p ∷ ps) [] rest left a b (first, others, e, spells, size, more) fa k fb = absurd (no_end left first others p.0 b fb (sym k ∙ e) spells)
pieces_one bytes (p ∷ ps) (q ∷ qs) rest left a b (first, others, e, spells, size, more) fa (second, behind, f, spelled, number, further) fb =
    let apart = messages_apart first second others behind p.0 q.0 spells spelled (sym e ∙ f) in
    let sizes : p.1 ≡ q.1 = size ∙ (same_length first second others behind (sym e ∙ f) apart.1 ∙ sym number) in
    let same = pieces_one others ps qs rest left a b more fa (subst (λ (l : List ℕ). Pieces l qs left) (sym apart.1) further) fb in
    let pair : p ≡ q = same_piece p q apart.0 sizes in
    (ap (λ (x : Piece). x ∷ ps) pair ∙ ap (λ (l : List Piece). q ∷ l) same.0, same.1)

pub read_one : (bytes : List ℕ) (ps qs : List Piece) (a b : Option Fault) → IsRead bytes ps a → IsRead bytes qs b → (ps ≡ qs) × (a ≡ b)
read_one bytes ps qs a b r s =
    let same = pieces_one bytes ps qs r.rest s.rest a b r.spelled r.ends s.spelled s.ends in
    (same.0, one_end s.rest a b (subst (λ (l : List ℕ). StreamEnds l a) same.1 r.ends) s.ends)

-- ---- the empty capture

quiet : (w : World Call Answer (Unit {0})) × IsTrace [] [] w
unfolding free_rules
quiet = (
  opening tt,
  record {
    reached = ([], refl);
    sent = [];
    said = refl;
    fits = record {
      asked = record {
        number = refl;
        calls = λ n s x a b. absurd (let z : None ≡ Some s = a in cc);
        own = λ m n s t a b e. absurd (let z : None ≡ Some s = a in cc);
        alone = λ c other. refl;
      };
      handed = refl;
      more = [];
      answered = refl;
    };
  },
)

no_pieces : (ps : List Piece) (rest : List ℕ) → Pieces [] ps rest → ps ≡ []
no_pieces [] rest h = refl
no_pieces (p ∷ ps) rest (first, others, e, spells, size, more) =
    absurd (let b = next_message first others p.0 spells in
    let z : ◌≡◌ {A = Next} (Ok None) (Ok (Some (p.0, record { place = length first; bytes = others }))) = ap next_at e ∙ b in
    cc)

pub nothing_read : (bytes : List ℕ) (ps : List Piece) (end : Option Fault) → bytes ≡ [] → IsRead bytes ps end → ps ≡ []
nothing_read bytes ps end e r = no_pieces ps r.rest (subst (λ (l : List ℕ). Pieces l ps r.rest) e r.spelled)

-- ---- the laws

pub has_trace_lem : CaptureHasTrace
has_trace_lem client server g = elim g.good [
  | inl good ↦
      let t = good_lem g.asked (messages_of g.sent) good in
      (t.0, record { asked = g.asked; sent = g.sent; whole = g.whole; trace = t.1 })
  | inr none ↦
      let e = nothing_read client g.asked None none.0 g.whole.asked_whole in
      let q = quiet in (
        q.0,
        record {
          asked = g.asked;
          sent = g.sent;
          whole = g.whole;
          trace = subst (λ (ms : List Piece). IsTrace g.asked (messages_of ms) q.0) (sym none.1) (subst (λ (ps : List Piece). IsTrace ps [] q.0) (sym e) q.1);
        },
      )
]

-- the runs that show the bytes are those that show their messages
down : (client server : List ℕ) (asked sent : List Piece) → AreWhole client server asked sent
    → (w : World Call Answer (Unit {0})) → Trace client server w → IsTrace asked (messages_of sent) w
down client server asked sent a w t =
    let p = (read_one client t.asked asked None None t.whole.asked_whole a.asked_whole).0 in
    let m = (read_one server t.sent sent None None t.whole.sent_whole a.sent_whole).0 in
    subst (λ (ms : List Piece). IsTrace asked (messages_of ms) w) m (subst (λ (ps : List Piece). IsTrace ps (messages_of t.sent) w) p t.trace)

tells_over : (client server : List ℕ) (asked sent : List Piece) → AreWhole client server asked sent
    → (seat : ℕ) (seen : Seen) → TellsIn (IsTrace asked (messages_of sent)) seat seen → TellsIn (Trace client server) seat seen
tells_over client server asked sent a seat Once h = λ w s t at. h w s (down client server asked sent a w t) at
tells_over client server asked sent a seat Never h = λ w s t at. h w s (down client server asked sent a w t) at
tells_over client server asked sent a seat Either (none, once) = (
  (none.0, none.1, record { asked = asked; sent = sent; whole = a; trace = none.2 }, none.3, none.4),
  (once.0, once.1, record { asked = asked; sent = sent; whole = a; trace = once.2 }, once.3, once.4),
)

pub is_told_lem : CaptureIsTold
is_told_lem client server asked sent a good seat two =
    tells_over client server asked sent a seat
    (seen_of (reply_at (flags (seat_ids asked)) (reply_answers (replies_in (messages_of sent))) seat) (closes (messages_of sent)))
    (told_lem asked (messages_of sent) good seat two)

pub none_twice_lem : CaptureNoneTwice
none_twice_lem client server seat w s t at = twice_lem t.asked (messages_of t.sent) seat w s t.trace at
