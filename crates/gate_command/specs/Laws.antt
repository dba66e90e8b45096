-- What the definitions promise.
use Rattle.std.specs.Prelude.{ℕ, ℤ, pos, ◌≡◌, ◌≢◌, ◌⊎◌, List, [], ◌∷◌, ◌++◌, Option, Some, None, Bool, false}
use Rattle.ice_encoding.specs.Parts.{Each}
use Rattle.ice_client.specs.declared.outgoing.Outgoing.{Outgoing}
use Rattle.ice_client.specs.Sending.{IsOf, IsIdempotent}
use Rattle.ice_client.specs.ClientDid.{Tried}
use Rattle.ice_client.specs.Rows.{IsReplied}
use Rattle.ice_messages.specs.declared.message.Answer.TheVariants.{Done}
use Rattle.ice_messages.specs.declared.message.Call.{Call}
use Rattle.ice_messages.specs.declared.message.Message.{Message}
use Rattle.ice_messages.specs.declared.message.Message.TheVariants.{Request, Reply}
use Rattle.ice_ports.specs.declared.talk.Talk.{Talk}
use Rattle.ice_ports.specs.Failures.{one_more}
use Rattle.ice_gateway.specs.declared.renewing.Renewed.TheVariants.{Written}
use Rattle.ice_gateway.specs.Anew.{body_anew}
use Rattle.ice_gateway.specs.Gate.{Gate, Operation, operation_of}
use Rattle.ice_gateway.specs.Runs.{NetSeen}
use Rattle.ice_gateway.specs.Forwarded.{forwarded}
use Rattle.ice_gateway.specs.Handled.{Handled, Invocation, WasHandled}
use Rattle.ice_gateway.specs.Sessions.{Session, AllDid}
use Rattle.ice_gateway.specs.Laws.{OnlyLastCounts}
use Rattle.node_commands.specs.Outside.{Files, Outside, ShelfFailed, SinkFailed}
use Rattle.node_commands.specs.Answers.{Answer, done, read_failed, no_memory}
use Rattle.node_commands.specs.declared.limits.TheConstants.{MOST_MESSAGES}
use Rattle.node_commands.specs.Ends.{End, answered}
use Rattle.node_commands.specs.Lines.{listening, served}
use Rattle.gate_command.specs.Words.{GateWords}
use Rattle.gate_command.specs.Decided.{Refuses, Sets}
use Rattle.gate_command.specs.Gated.{Gated, Sessions}

-- ---- what words and files decide

-- with these words and files one answer refuses at most, they set one gate at most, and not both
abbrev pub AreSingle : Type 0
AreSingle = (c : GateWords) (files : Files) → ((a b : Answer) → Refuses c (Some files) a → Refuses c (Some files) b → a ≡ b)
    × ((g h : Gate) → Sets c (Some files) g → Sets c (Some files) h → g ≡ h)
    × ((a : Answer) (g : Gate) → Refuses c (Some files) a → Sets c (Some files) g → ⊥)

-- where the shelf tells its files, words that are refused end so, unless a file could not be read or memory ran out
abbrev pub EndsAsRefused : Type 0
EndsAsRefused = (c : GateWords) (before after : Outside) (net later : NetSeen) (result : ℕ) (files : Files) (answer : Answer)
    → before.files ≡ Some files → Refuses c (Some files) answer → (h : Gated c before after net later result)
    → (h.end ≡ answered answer) ⊎ ((h.end ≡ answered read_failed) ⊎ (h.end ≡ answered no_memory))

-- ---- how it ends

-- both lines were written, with this port and count
abbrev pub IsDone : End → Type 0
IsDone end = (port : ℕ) × (count : ℕ) × (end ≡ answered (done (listening port ++ served count)))

-- what keeps it from that: a refusal, want of memory, or a shelf, a sink, or a listener of the net that failed; never a link,
-- of a caller or to a server
abbrev pub EndsForCause : Type 0
EndsForCause = (c : GateWords) (before after : Outside) (net later : NetSeen) (result : ℕ) (h : Gated c before after net later result)
    → IsDone h.end
    ⊎ (((answer : Answer) × Refuses c before.files answer × (h.end ≡ answered answer))
    ⊎ ((h.end ≡ answered no_memory)
    ⊎ (ShelfFailed before.failures after.failures
    ⊎ (SinkFailed before.failures after.failures
    ⊎ (later.listen_failures ≡ one_more net.listen_failures)))))

-- ---- each call once

-- of the attempts at a message that is not idempotent, no server may dispatch any but the last
abbrev pub IsSentOnce : Option Invocation → Type 0
IsSentOnce None = Unit {0}
IsSentOnce (Some i) = (IsIdempotent i.message → ⊥) → OnlyLastCounts i.message i.tried

-- nor of those at a message that was not handled, since memory ran out
abbrev pub IsLeftOnce : Gate → List Message → List (List Tried) → Type 0
IsLeftOnce gate rest cut = (m n : Message) (tried : List Tried) → rest ≡ m ∷ [] → forwarded gate m ≡ Some n → cut ≡ tried ∷ [] → (IsIdempotent n → ⊥) → OnlyLastCounts n tried

-- each message that was taken, on each connection
abbrev pub AreSentOnce : (gate : Gate) (most : ℕ) (sessions : List Session) → AllDid gate most sessions → Type 0
AreSentOnce gate most [] did = Unit {0}
AreSentOnce gate most (s ∷ ss) did = Each (λ (h : Handled). IsSentOnce h.invocation) did.0.handled × IsLeftOnce gate did.0.rest did.0.cut × AreSentOnce gate most ss did.1

-- whatever is lost, closed and tried again, on whatever connection, and wherever memory runs out
abbrev pub GatesOnce : Type 0
GatesOnce = (c : GateWords) (gate : Gate) (net later : NetSeen) (count : ℕ) (failed starved : Bool) (h : Sessions c gate net later count failed starved)
    → AreSentOnce gate MOST_MESSAGES h.heard.all.sessions h.heard.all.did

-- ---- a success arrives

-- A request was forwarded, and over the link of the last attempt at it the server gave validate and results, having taken it
-- whole; they are those of the operation, within the limit: the caller's reply has them, written anew.
abbrev pub SuccessesArrive : Type 0
SuccessesArrive = (gate : Gate) (h : Handled) (i : Invocation) (id : ℤ) (c : Call) (op : Operation) (before : List Tried) (last : Tried) (t : Talk) (came body : List ℕ)
    → WasHandled gate h → h.invocation ≡ Some i → h.message ≡ Request id c → id ≢ pos 0 → operation_of gate c.operation ≡ Some op
    → i.tried ≡ before ++ last ∷ [] → last.talk ≡ Some t → ((o : Outgoing) → IsOf o i.message → IsReplied o false t (Done came) false)
    → body_anew op.tables op.declared.results came ≡ Written body → h.replies ≡ Reply id (Done body) ∷ []
