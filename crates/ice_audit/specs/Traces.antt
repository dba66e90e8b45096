-- The runs of the world of calls that show a capture.
use Rattle.std.specs.Prelude.{ℕ, ℤ, zero, suc, ◌≡◌, ◌≤◌, Bool, true, false, List, [], ◌∷◌, Option, None, Some, slice_get}
use Rattle.call_world.specs.Service.{free_rules}
use Rattle.call_world.specs.World.{World, Seat, Sent}
use Rattle.call_world.specs.World as world
use Rattle.call_world.specs.Step.{IsReached}
use Rattle.call_world.specs.Counts.{count}
use Rattle.ice_messages.specs.declared.message.Call.{Call}
use Rattle.ice_messages.specs.declared.message.Answer.{Answer}
use Rattle.ice_messages.specs.declared.message.Message.{Message}
use Rattle.ice_messages.specs.declared.message.Message.TheVariants.{Request, Batch, Reply, Validate, Close}
use Rattle.ice_messages.specs.Calls.{status_of}
use Rattle.call_world.specs.Fits.{Fits}
use Rattle.ice_audit.specs.declared.verdict.Seen.{Seen}
use Rattle.ice_audit.specs.declared.verdict.Seen.TheVariants.{Once, Never, Either}
use Rattle.ice_audit.specs.Pieces.{Piece}
use Rattle.ice_audit.specs.Captured.{asked_in, seat_ids, is_asked, first_validate, IsGood, replies_in, reply_answers, closes}

-- idempotent and nonmutating calls may be tried again
abbrev pub repeats_by : ℕ → Bool
repeats_by zero = false
repeats_by (suc n) = true

abbrev pub repeatable : Call → Bool
repeatable c = repeats_by c.mode

-- the message m is what the world shows as s; a reply is to a call that has its id
abbrev pub IsSaid : List ℤ → Message → Sent Answer → Type 0
IsSaid ids (Request id c) s = ⊥
IsSaid ids (Batch calls) s = ⊥
IsSaid ids (Reply id a) s = (n : ℕ) × (s ≡ world.Answer n a) × (slice_get ids n ≡ Some id) × (is_asked id ≡ true)
IsSaid ids Validate s = s ≡ world.Validate
IsSaid ids Close s = s ≡ world.Close

abbrev pub AreSaid : List ℤ → List Message → List (Sent Answer) → Type 0
AreSaid ids [] sent = sent ≡ []
AreSaid ids (m ∷ ms) sent = (s : Sent Answer) × (others : List (Sent Answer)) × (sent ≡ s ∷ others) × IsSaid ids m s × AreSaid ids ms others

-- a run with free objects, on one connection, that shows these messages
pub record IsTrace (client : List Piece) (server : List Message) (w : World Call Answer (Unit {0})) : Type 0 where
  pub reached : IsReached (free_rules status_of) tt w
  pub sent : List (Sent Answer)
  pub said : AreSaid (seat_ids client) (first_validate server) sent
  pub fits : Fits repeatable (asked_in client) sent w

-- ---- how often the call in a seat is dispatched, over all these runs

-- so often in some run
abbrev pub HasSome : (World Call Answer (Unit {0}) → Type 0) → ℕ → ℕ → Type 0
HasSome IsRun seat n =
    (w : World Call Answer (Unit {0})) × (s : Seat) × IsRun w × (slice_get (w.connections 0).asked seat ≡ Some s) × (count w s.invocation ≡ n)

-- so often in each run
abbrev pub HasAll : (World Call Answer (Unit {0}) → Type 0) → ℕ → ℕ → Type 0
HasAll IsRun seat n =
    (w : World Call Answer (Unit {0})) (s : Seat) → IsRun w → slice_get (w.connections 0).asked seat ≡ Some s → count w s.invocation ≡ n

-- in each run not twice
abbrev pub HasAtMostOne : (World Call Answer (Unit {0}) → Type 0) → ℕ → Type 0
HasAtMostOne IsRun seat =
    (w : World Call Answer (Unit {0})) (s : Seat) → IsRun w → slice_get (w.connections 0).asked seat ≡ Some s → count w s.invocation ≤ 1

-- what is told of the call is so
abbrev pub TellsIn : (World Call Answer (Unit {0}) → Type 0) → ℕ → Seen → Type 0
TellsIn IsRun seat Once = HasAll IsRun seat 1
TellsIn IsRun seat Never = HasAll IsRun seat 0
TellsIn IsRun seat Either = HasSome IsRun seat 0 × HasSome IsRun seat 1

-- ---- the laws

abbrev pub GoodHasTrace : Type 0
GoodHasTrace = (client : List Piece) (server : List Message) → IsGood client server → (w : World Call Answer (Unit {0})) × IsTrace client server w

-- the answer to the call in this seat
abbrev pub reply_at : List Bool → List Answer → ℕ → Option Answer
reply_at [] rs n = None
reply_at (false ∷ ts) rs zero = None
reply_at (false ∷ ts) rs (suc n) = reply_at ts rs n
reply_at (true ∷ ts) [] n = None
reply_at (true ∷ ts) (r ∷ rs) zero = Some r
reply_at (true ∷ ts) (r ∷ rs) (suc n) = reply_at ts rs n

abbrev pub flags : List ℤ → List Bool
flags [] = []
flags (id ∷ ids) = is_asked id ∷ flags ids

abbrev pub seen_by : ℕ → Seen
seen_by zero = Once
seen_by (suc zero) = Once
seen_by (suc (suc zero)) = Never
seen_by (suc (suc (suc zero))) = Never
seen_by (suc (suc (suc (suc n)))) = Once

-- by its reply, and whether the server's close stands
abbrev pub seen_of : Option Answer → Bool → Seen
seen_of (Some a) closed = seen_by (status_of a)
seen_of None true = Never
seen_of None false = Either

-- of each call that asks for a reply, in a good capture
abbrev pub EachIsTold : Type 0
EachIsTold =
    (client : List Piece) (server : List Message) → IsGood client server → (seat : ℕ) → slice_get (flags (seat_ids client)) seat ≡ Some true
    → TellsIn (IsTrace client server) seat (seen_of (reply_at (flags (seat_ids client)) (reply_answers (replies_in server)) seat) (closes server))

-- and no call is dispatched twice
abbrev pub NoneTwice : Type 0
NoneTwice = (client : List Piece) (server : List Message) (seat : ℕ) → HasAtMostOne (IsTrace client server) seat
