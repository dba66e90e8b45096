-- What a capture is answered.
use Rattle.std.specs.Prelude.{ℕ, ◌≡◌, ◌≤◌, ◌<◌, List, [], length, Option, None, Some}
use Rattle.call_world.specs.World.{World}
use Rattle.ice_prims.specs.declared.fault.Fault.{Fault}
use Rattle.ice_prims.specs.declared.fault.Kind.TheVariants.{NotValidated}
use Rattle.ice_messages.specs.declared.message.Call.{Call}
use Rattle.ice_messages.specs.declared.message.Answer.{Answer}
use Rattle.ice_audit.specs.declared.stop.Stop.{Stop}
use Rattle.ice_audit.specs.declared.stop.Stage.TheVariants.{Fresh, Open}
use Rattle.ice_audit.specs.declared.verdict.TheConstants.{MOST_BYTES}
use Rattle.ice_audit.specs.declared.verdict.Line.{Line}
use Rattle.ice_audit.specs.declared.verdict.Side.{Side}
use Rattle.ice_audit.specs.declared.verdict.Side.TheVariants.{Client, Server}
use Rattle.ice_audit.specs.declared.verdict.Why.{Why}
use Rattle.ice_audit.specs.declared.verdict.Why.TheVariants.{Bytes, TooLong}
use Rattle.ice_audit.specs.declared.verdict.Verdict.{Verdict}
use Rattle.ice_audit.specs.declared.verdict.Verdict.TheVariants.{Yes, No}
use Rattle.ice_audit.specs.Pieces.{Piece, IsRead}
use Rattle.ice_audit.specs.Captured.{due, seat_ids}
use Rattle.ice_audit.specs.Captures.{Good, Trace, LinesTell}
use Rattle.ice_audit.specs.Stops.{client_stop, server_stop}

abbrev pub AreShort : List ℕ → List ℕ → Type 0
AreShort client server = (length client ≤ MOST_BYTES) × (length server ≤ MOST_BYTES)

-- The first cause of a No: the lengths, the client's before the server's; then what stands in the client's stream, then
-- what stands in the server's, then that the server has sent no message though the client has sent something.
pub data Stops (client server : List ℕ) : Side → ℕ → Why → Type 0 where
  client_long : MOST_BYTES < length client → Stops client server Client 0 TooLong
  server_long : length client ≤ MOST_BYTES → MOST_BYTES < length server → Stops client server Server 0 TooLong
  client_wrong : AreShort client server → (ps : List Piece) (end : Option Fault) (stop : Stop) → IsRead client ps end
      → client_stop 0 Open ps end ≡ Some stop → Stops client server Client stop.place stop.why
  server_wrong : AreShort client server → (ps qs : List Piece) (end : Option Fault) (stop : Stop) → IsRead client ps None
      → client_stop 0 Open ps None ≡ None → IsRead server qs end → server_stop 0 Fresh (due (seat_ids ps)) qs end ≡ Some stop
      → Stops client server Server stop.place stop.why
  no_validate : AreShort client server → (ps : List Piece) → IsRead client ps None → client_stop 0 Open ps None ≡ None
      → IsRead server [] None → ¬ (client ≡ []) → Stops client server Client 0 (Bytes NotValidated)

-- the lines, and what they rest on
pub record IsTold (client server : List ℕ) (lines : List Line) : Type 0 where
  pub short : AreShort client server
  pub good : Good client server
  pub run : (w : World Call Answer (Unit {0})) × Trace client server w
  pub lines_tell : LinesTell (Trace client server) 0 good.asked lines

-- lines exactly where the streams are short and good, else the first cause
abbrev pub Judges : List ℕ → List ℕ → Verdict → Type 0
Judges client server (Yes lines) = IsTold client server lines
Judges client server (No side place why) = Stops client server side place why × ¬ (AreShort client server × Good client server)

-- a capture has one verdict
abbrev pub VerdictsApart : Type 0
VerdictsApart = (client server : List ℕ) (a b : Verdict) → Judges client server a → Judges client server b → a ≡ b
