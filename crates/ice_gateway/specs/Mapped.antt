-- THE ANSWER of a request, row by row: the first row that fits counts. (Ice manual, "Request Message" and "Reply Message".)
use Rattle.std.specs.Prelude.{ℕ, pos, ◌≡◌, List, ◌++◌, length, Option, Some, None, codes, nat_le, if◌then◌else◌}
use Rattle.std.specs.Fmt.{decimal}
use Rattle.ice_prims.specs.declared.fault.Fault.{Fault}
use Rattle.ice_prims.specs.Kinds.{kind_name}
use Rattle.ice_encoding.specs.declared.limits.TheConstants.{LARGEST}
use Rattle.ice_messages.specs.declared.message.Call.{Call}
use Rattle.ice_messages.specs.declared.message.Answer.{Answer}
use Rattle.ice_messages.specs.declared.message.Answer.TheVariants.{Done, Raised, Missing, Unknown}
use Rattle.ice_messages.specs.declared.message.Message.TheVariants.{Request}
use Rattle.ice_messages.specs.Messages.{message_bytes}
use Rattle.ice_client.specs.declared.outcome.Outcome.{Outcome}
use Rattle.ice_client.specs.declared.outcome.Outcome.TheVariants.{Replied, Sent, NetFailed, Ended, Closed, Broke, NoEndpoint}
use Rattle.object_adapter.specs.Refusals.{missed, failed, fault_text}
use Rattle.ice_gateway.specs.declared.renewing.Renewed.{Renewed}
use Rattle.ice_gateway.specs.declared.renewing.Renewed.TheVariants.{Written, TooLong, Broken}
use Rattle.ice_gateway.specs.declared.admitting.Admitted.{Admitted}
use Rattle.ice_gateway.specs.declared.admitting.Admitted.TheVariants.{Goes, Refused}
use Rattle.ice_gateway.specs.Gate.{Gate, Operation, operation_of}
use Rattle.ice_gateway.specs.Anew.{body_anew, exception_anew}

-- ---- before anything is connected

abbrev pub too_long : Answer
too_long = failed (codes "too long")

-- a call whose request is no longer than a message may be
abbrev pub fitting : Call → Admitted
fitting c = if nat_le (length (message_bytes (Request (pos 1) c))) LARGEST then Goes c else Refused too_long

-- the call with its arguments written anew: its identity, facet, operation, mode and context stay
abbrev pub with_arguments : Call → Renewed → Admitted
with_arguments c (Written body) = fitting (record c { body = body })
with_arguments c TooLong = Refused too_long
with_arguments c (Broken fault) = Refused (failed (fault_text fault))

abbrev pub admitted_by : Call → Option Operation → Admitted
admitted_by c None = Refused (missed 4 c)
admitted_by c (Some op) = with_arguments c (body_anew op.tables op.declared.arguments c.body)

-- the call as it is forwarded, or the answer of one that is refused
abbrev pub admitted : Gate → Call → Admitted
admitted gate c = admitted_by c (operation_of gate c.operation)

-- ---- what came of it

-- bad results KIND at PLACE
abbrev pub results_text : Fault → List ℕ
results_text fault = codes "bad results " ++ (kind_name fault.kind ++ (codes " at " ++ decimal fault.place))

-- with this status
abbrev pub wrapped : (List ℕ → Answer) → Renewed → Answer
wrapped status (Written body) = status body
wrapped status TooLong = too_long
wrapped status (Broken fault) = failed (results_text fault)

-- an answer that was read: results and user exceptions are written anew, all else is as it was
abbrev pub given_back : Gate → Operation → Answer → Answer
given_back gate op (Done body) = wrapped Done (body_anew op.tables op.declared.results body)
given_back gate op (Raised body) = wrapped Raised (exception_anew gate.tables body)
given_back gate op (Missing status i f o) = Missing status i f o
given_back gate op (Unknown status what) = Unknown status what

-- by the outcome of a request that asks for a reply at endpoints that can be used: it is never only sent
abbrev pub IsOutcomes : Gate → Operation → Outcome → Answer → Type 0
IsOutcomes gate op (Replied came) answer = answer ≡ given_back gate op came
IsOutcomes gate op Sent answer = ⊥
IsOutcomes gate op NetFailed answer = answer ≡ failed (codes "upstream failed")
IsOutcomes gate op Ended answer = answer ≡ failed (codes "upstream ended")
IsOutcomes gate op Closed answer = answer ≡ failed (codes "upstream closed")
IsOutcomes gate op (Broke fault) answer = answer ≡ failed (codes "upstream broke")
IsOutcomes gate op NoEndpoint answer = ⊥

-- of a call that can be forwarded, and was, or found no endpoint
abbrev pub ByOutcome : Gate → Operation → Option Outcome → Answer → Type 0
ByOutcome gate op None answer = answer ≡ failed (codes "no upstream")
ByOutcome gate op (Some outcome) answer = IsOutcomes gate op outcome answer

abbrev pub ByArguments : Gate → Operation → Option Outcome → Answer → Admitted → Type 0
ByArguments gate op outcome answer (Refused refusal) = answer ≡ refusal
ByArguments gate op outcome answer (Goes call) = ByOutcome gate op outcome answer

abbrev pub ByOperation : Gate → Call → Option Outcome → Answer → Option Operation → Type 0
ByOperation gate c outcome answer None = answer ≡ missed 4 c
ByOperation gate c outcome answer (Some op) = ByArguments gate op outcome answer (with_arguments c (body_anew op.tables op.declared.arguments c.body))

-- the answer of a request with this call, where its invocation came to this, or there was none
abbrev pub Mapped : Gate → Call → Option Outcome → Answer → Type 0
Mapped gate c outcome answer = ByOperation gate c outcome answer (operation_of gate c.operation)
