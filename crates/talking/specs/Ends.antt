-- How a connection that is served ends, and what shows it.
use Rattle.std.specs.Prelude.{ℕ, ◌≡◌, ◌≢◌, ◌≤◌, ◌<◌, ◌⊎◌, Bool, true, false, List, [], ◌∷◌, ◌++◌, length, Option, Some, None, Result, Ok, Err}
use Rattle.ice_ports.specs.declared.talk.Talk.{Talk}
use Rattle.ice_messages.specs.declared.message.Message.{Message}
use Rattle.ice_messages.specs.declared.message.Message.TheVariants.{Close}
use Rattle.ice_messages.specs.Streams.{Stream, IsFront, next_at}
use Rattle.ice_messages.specs.Ends.{server_fault}
use Rattle.talking.specs.declared.end.End.{End}
use Rattle.talking.specs.declared.end.End.TheVariants.{PeerEnded, PeerClosed, PeerBroke, LinkFailed, Enough}
use Rattle.talking.specs.Said.{all_of, IsSaid, IsSaidBut, IsCut, IsFine}

-- the end, or None at want of memory
abbrev pub end_of : {E : Type 0} → Result End E → Option End
end_of (Ok end) = Some end
end_of (Err e) = None

abbrev pub HasEnd : Option End → Type 0
HasEnd None = ⊥
HasEnd (Some end) = Unit {0}

-- the answer is that the link failed
abbrev pub is_link_failed : {E : Type 0} → Result End E → Bool
is_link_failed (Ok PeerEnded) = false
is_link_failed (Ok PeerClosed) = false
is_link_failed (Ok (PeerBroke fault)) = false
is_link_failed (Ok LinkFailed) = true
is_link_failed (Ok Enough) = false
is_link_failed (Err e) = false

-- the same where the connection may go on
abbrev pub fails_next : {E : Type 0} → Result (Option End) E → Bool
fails_next {E = E} (Ok (Some end)) = is_link_failed {E = E} (Ok end)
fails_next (Ok None) = false
fails_next (Err e) = false

-- where a reply could not be written the connection ends
abbrev pub end_behind_reply : Bool → Option End
end_behind_reply true = None
end_behind_reply false = Some LinkFailed

-- ---- what shows an end

-- this message begins the bytes
abbrev pub Begins : List ℕ → Message → Type 0
Begins bytes m = (rest : List ℕ) × Stream bytes (m ∷ []) rest

-- the bytes behind the messages that were taken show this end; none, at want of memory, comes only where nothing ended or failed
abbrev pub Shows : Talk → List ℕ → Option End → Type 0
Shows t left None = IsFine t
Shows t left (Some PeerEnded) = IsFront left × (t.ended ≡ true)
Shows t left (Some PeerClosed) = Begins left Close
Shows t left (Some (PeerBroke fault)) = (next_at left ≡ Err fault) ⊎ ((m : Message) × Begins left m × (server_fault m ≡ Some fault))
Shows t left (Some LinkFailed) = t.failed ≡ true
Shows t left (Some Enough) = Unit {0}

-- a connection goes on behind it: no client sends any other message but a close
abbrev pub IsTaken : Message → Type 0
IsTaken m = (server_fault m ≡ None) × (m ≢ Close)

-- ---- what was said before one

-- a close message, as a last step
abbrev pub closing : List (List Message)
closing = (Close ∷ []) ∷ []

-- A read failed: fewer messages were read than the most that are, none lay whole behind them, and all of the steps was said.
abbrev pub IsReadFailed : List ℕ → (read most : ℕ) → List (List Message) → List ℕ → Type 0
IsReadFailed left read most steps taken = IsFront left × (read < most) × IsSaid (all_of steps) taken

-- A write failed: that of the last step, or of the close message behind all of them, once the most were read.
abbrev pub IsWriteFailed : (read most : ℕ) → List (List Message) → List ℕ → Type 0
IsWriteFailed read most steps taken = IsCut steps taken ⊎ ((read ≡ most) × IsCut (steps ++ closing) taken)

-- all of the steps, validate and the replies, and behind them a close message exactly where the most were read; only at want
-- of memory, and where a write failed, what comes last was not said whole
abbrev pub WasSaid : Option End → List ℕ → (read most : ℕ) → List (List Message) → List ℕ → Type 0
WasSaid None left read most steps taken = IsSaidBut steps taken
WasSaid (Some PeerEnded) left read most steps taken = (read < most) × IsSaid (all_of steps) taken
WasSaid (Some PeerClosed) left read most steps taken = (read < most) × IsSaid (all_of steps) taken
WasSaid (Some (PeerBroke fault)) left read most steps taken = (read < most) × IsSaid (all_of steps) taken
WasSaid (Some LinkFailed) left read most steps taken = IsReadFailed left read most steps taken ⊎ IsWriteFailed read most steps taken
WasSaid (Some Enough) left read most steps taken = (read ≡ most) × IsSaid (all_of (steps ++ closing)) taken

-- ---- in place of a message, or behind one

-- one step, or such as say nothing
abbrev pub IsSingle : List (List Message) → Type 0
IsSingle steps = (length steps ≤ 1) ⊎ (all_of steps ≡ [])

-- nothing was read, and all of the steps was said
abbrev pub IsStill : List Message → List (List Message) → List ℕ → Type 0
IsStill reads steps taken = (reads ≡ []) × IsSaid (all_of steps) taken

-- only where a write failed a message was read before the end
abbrev pub EndsBy : End → List ℕ → List Message → List (List Message) → List ℕ → Type 0
EndsBy PeerEnded left reads steps taken = IsStill reads steps taken
EndsBy PeerClosed left reads steps taken = IsStill reads steps taken
EndsBy (PeerBroke fault) left reads steps taken = IsStill reads steps taken
EndsBy LinkFailed left reads steps taken = (IsFront left × IsStill reads steps taken) ⊎ IsCut steps taken
EndsBy Enough left reads steps taken = ⊥
