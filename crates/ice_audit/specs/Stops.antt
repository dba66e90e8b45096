-- What is wrong with a stream: the first cause, message by message.
use Rattle.std.specs.Prelude.{ℕ, ℤ, ◌+◌, Bool, true, false, List, [], ◌∷◌, Option, None, Some}
use Rattle.std.specs.Ordering.{int_eq}
use Rattle.ice_prims.specs.declared.fault.Fault.{Fault}
use Rattle.ice_prims.specs.declared.fault.Kind.TheVariants.{Unexpected, NotValidated, UnknownId}
use Rattle.ice_messages.specs.declared.message.Message.{Message}
use Rattle.ice_messages.specs.declared.message.Message.TheVariants.{Request, Batch, Reply, Validate, Close}
use Rattle.ice_messages.specs.declared.message.TheConstants.{HEADER_BYTES}
use Rattle.ice_messages.specs.Ends.{is_clients, is_servers}
use Rattle.ice_audit.specs.declared.stop.Stop.{Stop}
use Rattle.ice_audit.specs.declared.stop.Stage.{Stage}
use Rattle.ice_audit.specs.declared.stop.Stage.TheVariants.{Fresh, Open, Closed}
use Rattle.ice_audit.specs.declared.verdict.Why.TheVariants.{Bytes, AfterClose}
use Rattle.ice_audit.specs.Pieces.{Piece}
use Rattle.ice_audit.specs.Lines.{rest_of}

-- the cause that stands first
abbrev pub or_later : Option Stop → Option Stop → Option Stop
or_later (Some stop) later = Some stop
or_later None later = later

-- the fault of what follows the whole messages of a stream
abbrev pub end_stop : ℕ → Option Fault → Option Stop
end_stop at None = None
end_stop at (Some fault) = Some (record { place = at + fault.place; why = Bytes fault.kind })

-- ---- one message

abbrev pub is_validate : Message → Bool
is_validate (Request id c) = false
is_validate (Batch calls) = false
is_validate (Reply id a) = false
is_validate Validate = true
is_validate Close = false

abbrev pub stage_after : Message → Stage
stage_after (Request id c) = Open
stage_after (Batch calls) = Open
stage_after (Reply id a) = Open
stage_after Validate = Open
stage_after Close = Closed

abbrev pub is_fresh : Stage → Bool
is_fresh Fresh = true
is_fresh Open = false
is_fresh Closed = false

abbrev pub is_closed : Stage → Bool
is_closed Fresh = false
is_closed Open = false
is_closed Closed = true

-- a message that its end does not send, and else one behind a close
abbrev pub out_of_turn : Bool → Stage → ℕ → Option Stop
out_of_turn false stage at = Some (record { place = at; why = Bytes Unexpected })
out_of_turn true Fresh at = None
out_of_turn true Open at = None
out_of_turn true Closed at = Some (record { place = at; why = AfterClose })

-- the first message of a server is a validate message
abbrev pub unvalidated : Stage → Bool → ℕ → Option Stop
unvalidated Fresh false at = Some (record { place = at; why = Bytes NotValidated })
unvalidated Fresh true at = None
unvalidated Open validates at = None
unvalidated Closed validates at = None

abbrev pub is_first : ℤ → List ℤ → Bool
is_first id [] = false
is_first id (d ∷ ds) = int_eq d id

-- a reply is the one that is due next
abbrev pub is_due : Message → List ℤ → Bool
is_due (Request id c) due = true
is_due (Batch calls) due = true
is_due (Reply id a) due = is_first id due
is_due Validate due = true
is_due Close due = true

abbrev pub undue : Bool → ℕ → Option Stop
undue true at = None
undue false at = Some (record { place = at + HEADER_BYTES; why = Bytes UnknownId })

abbrev pub client_message : Stage → Message → ℕ → Option Stop
client_message stage m at = out_of_turn (is_clients m) stage at

abbrev pub server_message : Stage → List ℤ → Message → ℕ → Option Stop
server_message stage due m at =
    or_later (out_of_turn (is_servers m) stage at) (or_later (unvalidated stage (is_validate m) at) (undue (is_due m due) at))

-- ---- a stream, behind so many bytes of it

abbrev pub client_stop : ℕ → Stage → List Piece → Option Fault → Option Stop
client_stop at stage [] end = end_stop at end
client_stop at stage (p ∷ ps) end = or_later (client_message stage p.0 at) (client_stop (at + p.1) (stage_after p.0) ps end)

abbrev pub due_after : Message → List ℤ → List ℤ
due_after (Request id c) due = due
due_after (Batch calls) due = due
due_after (Reply id a) due = rest_of due
due_after Validate due = due
due_after Close due = due

-- where replies to these are due
abbrev pub server_stop : ℕ → Stage → List ℤ → List Piece → Option Fault → Option Stop
server_stop at stage due [] end = end_stop at end
server_stop at stage due (p ∷ ps) end =
    or_later (server_message stage due p.0 at) (server_stop (at + p.1) (stage_after p.0) (due_after p.0 due) ps end)

-- what the stream has come to behind its messages
abbrev pub last_stage : Stage → List Piece → Stage
last_stage stage [] = stage
last_stage stage (p ∷ ps) = last_stage (stage_after p.0) ps
