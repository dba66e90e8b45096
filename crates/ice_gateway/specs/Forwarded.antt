-- The message that is sent for a message that came, written anew. (Ice manual, "Request Message", "Oneway Invocations" and
-- "Batched Invocations".)
use Rattle.std.specs.Prelude.{ℤ, pos, negsuc, zero, suc, List, [], ◌∷◌, length, Option, Some, None, is_some, nat_le, if◌then◌else◌}
use Rattle.ice_encoding.specs.declared.limits.TheConstants.{LARGEST}
use Rattle.encaps_optionals.specs.Usable.{tcp_at}
use Rattle.ice_messages.specs.declared.message.Call.{Call}
use Rattle.ice_messages.specs.declared.message.Message.{Message}
use Rattle.ice_messages.specs.declared.message.Message.TheVariants.{Request, Batch, Reply, Validate, Close}
use Rattle.ice_messages.specs.Messages.{message_bytes}
use Rattle.ice_gateway.specs.declared.admitting.Admitted.{Admitted}
use Rattle.ice_gateway.specs.declared.admitting.Admitted.TheVariants.{Goes, Refused}
use Rattle.ice_gateway.specs.Gate.{Gate}
use Rattle.ice_gateway.specs.Mapped.{admitted}

-- where an endpoint can be used
abbrev pub placed : Gate → Message → Option Message
placed gate m = if is_some (tcp_at 0 gate.endpoints) then Some m else None

-- a reply is asked for by the id 1
abbrev pub id_anew : ℤ → ℤ
id_anew (pos zero) = pos 0
id_anew (pos (suc n)) = pos 1
id_anew (negsuc n) = pos 1

-- a call that is not refused
abbrev pub going : Admitted → Option Call
going (Goes c) = Some c
going (Refused answer) = None

-- a request with this id, of a call that is not refused
abbrev pub request_anew : Gate → ℤ → Option Call → Option Message
request_anew gate id None = None
request_anew gate id (Some c) = placed gate (Request id c)

abbrev pub with_call : Option Call → List Call → List Call
with_call None cs = cs
with_call (Some c) cs = c ∷ cs

-- those that are not refused, in order
abbrev pub calls_anew : Gate → List Call → List Call
calls_anew gate [] = []
calls_anew gate (c ∷ cs) = with_call (going (admitted gate c)) (calls_anew gate cs)

-- a batch of calls, where there is one, and it is no longer than a message may be
abbrev pub batch_anew : Gate → List Call → Option Message
batch_anew gate [] = None
batch_anew gate (c ∷ cs) = if nat_le (length (message_bytes (Batch (c ∷ cs)))) LARGEST then placed gate (Batch (c ∷ cs)) else None

-- what is sent for a message, or nothing
abbrev pub forwarded : Gate → Message → Option Message
forwarded gate (Request id c) = request_anew gate (id_anew id) (going (admitted gate c))
forwarded gate (Batch cs) = batch_anew gate (calls_anew gate cs)
forwarded gate (Reply id answer) = None
forwarded gate Validate = None
forwarded gate Close = None
