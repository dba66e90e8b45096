-- What the two readers of streams answer.
use Rattle.std.specs.Prelude.{ℕ, ℤ, ◌≡◌, ◌+◌, ◌⊎◌, List, ◌++◌, Option, None, Some, Result, Ok, Err}
use Rattle.ice_prims.specs.declared.fault.Fault.{Fault}
use Rattle.ice_prims.specs.Rest.{Rest}
use Rattle.ice_messages.specs.declared.message.Message.{Message}
use Rattle.ice_messages.specs.Streams.{next_at}
use Rattle.ice_messages.specs.Framing.{Held}
use Rattle.ice_audit.specs.declared.client.Asked.{Asked}
use Rattle.ice_audit.specs.declared.server.Answered.{Answered}
use Rattle.ice_audit.specs.declared.stop.Stop.{Stop}
use Rattle.ice_audit.specs.declared.stop.Stage.{Stage}
use Rattle.ice_audit.specs.declared.stop.Stage.TheVariants.{Fresh, Open}
use Rattle.ice_audit.specs.declared.stop.Halt.{Halt}
use Rattle.ice_audit.specs.declared.stop.Halt.TheVariants.{Found, Memory}
use Rattle.ice_audit.specs.declared.verdict.Why.TheVariants.{Bytes}
use Rattle.ice_audit.specs.Pieces.{Piece, IsRead, messages_of}
use Rattle.ice_audit.specs.Captured.{due, seat_ids, replies_in}
use Rattle.ice_audit.specs.Posing.{posed_by, posed_in, due_by, statuses_by, statuses}
use Rattle.ice_audit.specs.Stops.{client_message, client_stop, server_message, server_stop, stage_after, last_stage}

-- the fault of what stands next, as a cause
pub record IsBroken (at : ℕ) (bytes : List ℕ) (stop : Stop) : Type 0 where
  pub fault : Fault
  pub next : next_at bytes ≡ Err fault
  pub is : stop ≡ record { place = at + fault.place; why = Bytes fault.kind }

-- what stands next in these bytes, and what is held then
abbrev pub FindsNext : ℕ → List ℕ → Held → Result (Option Message) Halt → Type 0
FindsNext at bytes left (Ok None) = next_at bytes ≡ Ok None
FindsNext at bytes left (Ok (Some m)) = (rest : Rest) × (next_at bytes ≡ Ok (Some (m, rest))) × (left ≡ record { bytes = rest.bytes; stopped = None })
FindsNext at bytes left (Err (Found stop)) = IsBroken at bytes stop
FindsNext at bytes left (Err Memory) = Unit {0}

-- ---- the client

-- behind a message that is no cause, what it asks is kept
abbrev pub HearsClient : Stage → ℕ → Message → Asked → Asked → Result Stage Halt → Type 0
HearsClient stage at m old new (Ok next) =
    (client_message stage m at ≡ None) × (next ≡ stage_after m) × (new.posed.items ≡ old.posed.items ++ posed_by m) × (new.due.items ≡ old.due.items ++ due_by m)
HearsClient stage at m old new (Err (Found stop)) = client_message stage m at ≡ Some stop
HearsClient stage at m old new (Err Memory) = Unit {0}

-- so of the message that stands next in these bytes
abbrev pub TakesClient : Stage → ℕ → List ℕ → Asked → Held → Asked → Result (Option Stage) Halt → Type 0
TakesClient stage at bytes old left new (Ok None) = (next_at bytes ≡ Ok None) × (new ≡ old)
TakesClient stage at bytes old left new (Ok (Some next)) =
    (m : Message) × (rest : Rest) × (next_at bytes ≡ Ok (Some (m, rest))) × (left ≡ record { bytes = rest.bytes; stopped = None })
    × HearsClient stage at m old new (Ok next)
TakesClient stage at bytes old left new (Err (Found stop)) =
    IsBroken at bytes stop ⊎ ((m : Message) × (rest : Rest) × (next_at bytes ≡ Ok (Some (m, rest))) × (client_message stage m at ≡ Some stop))
TakesClient stage at bytes old left new (Err Memory) = Unit {0}

-- all that is asked and due, where there is no cause; else the cause
abbrev pub ReadsClient : List ℕ → Result Asked Halt → Type 0
ReadsClient bytes (Ok asked) =
    (ps : List Piece) × IsRead bytes ps None × (client_stop 0 Open ps None ≡ None) × (asked.posed.items ≡ posed_in ps) × (asked.due.items ≡ due (seat_ids ps))
ReadsClient bytes (Err (Found stop)) = (ps : List Piece) × (end : Option Fault) × IsRead bytes ps end × (client_stop 0 Open ps end ≡ Some stop)
ReadsClient bytes (Err Memory) = Unit {0}

-- ---- the server, where replies to these are due

abbrev pub HearsServer : Stage → List ℤ → ℕ → Message → List ℕ → List ℕ → Result Stage Halt → Type 0
HearsServer stage due at m old new (Ok next) = (server_message stage due m at ≡ None) × (next ≡ stage_after m) × (new ≡ old ++ statuses_by m)
HearsServer stage due at m old new (Err (Found stop)) = server_message stage due m at ≡ Some stop
HearsServer stage due at m old new (Err Memory) = Unit {0}

abbrev pub TakesServer : Stage → List ℤ → ℕ → List ℕ → List ℕ → Held → List ℕ → Result (Option Stage) Halt → Type 0
TakesServer stage due at bytes old left new (Ok None) = (next_at bytes ≡ Ok None) × (new ≡ old)
TakesServer stage due at bytes old left new (Ok (Some next)) =
    (m : Message) × (rest : Rest) × (next_at bytes ≡ Ok (Some (m, rest))) × (left ≡ record { bytes = rest.bytes; stopped = None })
    × HearsServer stage due at m old new (Ok next)
TakesServer stage due at bytes old left new (Err (Found stop)) =
    IsBroken at bytes stop ⊎ ((m : Message) × (rest : Rest) × (next_at bytes ≡ Ok (Some (m, rest))) × (server_message stage due m at ≡ Some stop))
TakesServer stage due at bytes old left new (Err Memory) = Unit {0}

abbrev pub ReadsServer : List ℕ → List ℤ → Result Answered Halt → Type 0
ReadsServer bytes due (Ok answered) =
    (ps : List Piece) × IsRead bytes ps None × (server_stop 0 Fresh due ps None ≡ None) × (answered.statuses.items ≡ statuses (replies_in (messages_of ps)))
    × (answered.stage ≡ last_stage Fresh ps)
ReadsServer bytes due (Err (Found stop)) = (ps : List Piece) × (end : Option Fault) × IsRead bytes ps end × (server_stop 0 Fresh due ps end ≡ Some stop)
ReadsServer bytes due (Err Memory) = Unit {0}
