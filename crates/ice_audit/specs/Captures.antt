-- Captures as bytes: what each end sent, from the beginning of the connection on.
use Rattle.std.specs.Prelude.{ℕ, ℤ, pos, suc, ◌≡◌, ◌<◌, ◌+◌, ◌⊎◌, true, false, List, [], ◌∷◌, length, Some, slice_get}
use Rattle.call_world.specs.World.{World}
use Rattle.ice_messages.specs.declared.message.Call.{Call}
use Rattle.ice_messages.specs.declared.message.Answer.{Answer}
use Rattle.ice_messages.specs.declared.message.Message.{Message}
use Rattle.ice_messages.specs.declared.message.Message.TheVariants.{Request, Batch, Reply, Validate, Close}
use Rattle.ice_audit.specs.declared.verdict.Seen.TheVariants.{Either}
use Rattle.ice_audit.specs.declared.verdict.Line.{Line}
use Rattle.ice_audit.specs.Lines.{lines_of}
use Rattle.ice_audit.specs.Pieces.{Piece, AreWhole, messages_of}
use Rattle.ice_audit.specs.Posing.{posed_in, statuses}
use Rattle.ice_audit.specs.Captured.{is_asked, seat_ids, IsGood, replies_in, reply_answers, closes}
use Rattle.ice_audit.specs.Traces.{IsTrace, TellsIn, HasAtMostOne, flags, reply_at, seen_of}

-- Whole messages that are good, and then less than a message. Where the server has sent no whole message, the client
-- has sent nothing.
pub record Good (client server : List ℕ) : Type 0 where
  pub asked : List Piece
  pub sent : List Piece
  pub whole : AreWhole client server asked sent
  pub good : IsGood asked (messages_of sent) ⊎ ((client ≡ []) × (sent ≡ []))

-- a run that shows the whole messages
pub record Trace (client server : List ℕ) (w : World Call Answer (Unit {0})) : Type 0 where
  pub asked : List Piece
  pub sent : List Piece
  pub whole : AreWhole client server asked sent
  pub trace : IsTrace asked (messages_of sent) w

-- ---- what the lines tell

-- Of a request with this id. Where it asks for no reply, a run of each is not claimed.
pub record RequestTells (IsRun : World Call Answer (Unit {0}) → Type 0) (seat : ℕ) (id : ℤ) (line : Line) : Type 0 where
  pub named : line.id ≡ id
  pub single : (line.calls ≡ 1) × (line.batch ≡ false)
  pub replied : is_asked id ≡ true → TellsIn IsRun seat line.seen
  pub oneway : is_asked id ≡ false → line.seen ≡ Either
  pub once : HasAtMostOne IsRun seat

-- of a batch of these calls, the first of which has this seat
pub record BatchTells (IsRun : World Call Answer (Unit {0}) → Type 0) (seat : ℕ) (calls : List Call) (line : Line) : Type 0 where
  pub named : line.id ≡ pos 0
  pub several : (line.calls ≡ length calls) × (line.batch ≡ true)
  pub oneway : line.seen ≡ Either
  pub once : (n : ℕ) → n < length calls → HasAtMostOne IsRun (seat + n)

-- a batch without calls has no line
abbrev pub SomeTell : (World Call Answer (Unit {0}) → Type 0) → List Call → ℕ → (ℕ → List Line → Type 0) → List Line → Type 0
SomeTell IsRun [] seat Others ls = Others seat ls
SomeTell IsRun (c ∷ cs) seat Others ls =
    (l : Line) × (others : List Line) × (ls ≡ l ∷ others) × BatchTells IsRun seat (c ∷ cs) l × Others (seat + length (c ∷ cs)) others

abbrev pub OneTells : (World Call Answer (Unit {0}) → Type 0) → ℕ → Message → (ℕ → List Line → Type 0) → List Line → Type 0
OneTells IsRun seat (Request id c) Others ls = (l : Line) × (others : List Line) × (ls ≡ l ∷ others) × RequestTells IsRun seat id l × Others (suc seat) others
OneTells IsRun seat (Batch calls) Others ls = SomeTell IsRun calls seat Others ls
OneTells IsRun seat (Reply id a) Others ls = Others seat ls
OneTells IsRun seat Validate Others ls = Others seat ls
OneTells IsRun seat Close Others ls = Others seat ls

-- a line for each request and each batch that is not empty, in order; the first call has this seat
abbrev pub LinesTell : (World Call Answer (Unit {0}) → Type 0) → ℕ → List Piece → List Line → Type 0
LinesTell IsRun seat [] ls = ls ≡ []
LinesTell IsRun seat (p ∷ ps) ls = OneTells IsRun seat p.0 (λ s others. LinesTell IsRun s ps others) ls

-- ---- the laws

abbrev pub CaptureHasTrace : Type 0
CaptureHasTrace = (client server : List ℕ) → Good client server → (w : World Call Answer (Unit {0})) × Trace client server w

abbrev pub CaptureIsTold : Type 0
CaptureIsTold =
    (client server : List ℕ) (asked sent : List Piece) → AreWhole client server asked sent → IsGood asked (messages_of sent)
    → (seat : ℕ) → slice_get (flags (seat_ids asked)) seat ≡ Some true
    → TellsIn (Trace client server) seat (seen_of (reply_at (flags (seat_ids asked)) (reply_answers (replies_in (messages_of sent))) seat) (closes (messages_of sent)))

-- no call is dispatched twice, whether it asks for a reply or not
abbrev pub CaptureNoneTwice : Type 0
CaptureNoneTwice = (client server : List ℕ) (seat : ℕ) → HasAtMostOne (Trace client server) seat

-- the lines of a good capture tell what is so over all its runs
abbrev pub LinesAreTold : Type 0
LinesAreTold =
    (client server : List ℕ) (asked sent : List Piece) → AreWhole client server asked sent → IsGood asked (messages_of sent)
    → LinesTell (Trace client server) 0 asked (lines_of (posed_in asked) (statuses (replies_in (messages_of sent))) (closes (messages_of sent)))
