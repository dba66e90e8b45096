-- What the parts of a call answer on the way.
use Rattle.std.specs.Prelude.{ℕ, pos, negsuc, zero, suc, ◌≡◌, ◌<◌, ◌≤◌, ◌⊎◌, List, length, Option, Some, None, Result, Ok, Err, Vec}
use Rattle.std.specs.declared.alloc.Global.{Global}
use Rattle.std.specs.Io.KnownBytes.{Keeps, Appends}
use Rattle.ice_types.specs.declared.proxy.Proxy.{Proxy}
use Rattle.ice_types.specs.declared.declarations.Shape.{Shape}
use Rattle.ice_types.specs.Tables.{Tables}
use Rattle.ice_types.specs.Fits.{ShapeFits}
use Rattle.ice_prims.specs.declared.fault.ReadFault.{ReadFault}
use Rattle.ice_prims.specs.declared.fault.ReadFault.TheVariants as read_faults
use Rattle.ice_encoding.specs.declared.limits.TheConstants.{LARGEST}
use Rattle.ice_ports.specs.Failures.{one_more}
use Rattle.ice_ports.specs.Writing.{AppendsPrefix}
use Rattle.ice_encoding.specs.Graph.{Graph}
use Rattle.ice_encoding.specs.CanonicalGraph.{Format, IsWritable, graph_bytes}
use Rattle.class_slices.specs.Encoding.{NeedsSliced}
use Rattle.graph_json.specs.Texts.{IsRefused, Lists}
use Rattle.ice_messages.specs.declared.fault.WriteFault.{WriteFault}
use Rattle.ice_messages.specs.declared.message.Call.{Call}
use Rattle.ice_messages.specs.declared.message.Answer.TheVariants as answers
use Rattle.ice_messages.specs.declared.message.Message.{Message}
use Rattle.ice_messages.specs.declared.message.Message.TheVariants.{Request, Batch, Reply, Validate, Close}
use Rattle.ice_messages.specs.Messages.{message_bytes}
use Rattle.ice_messages.specs.Written.{told, IsWritable as CanBeWritten}
use Rattle.ice_client.specs.declared.outcome.Outcome.{Outcome}
use Rattle.ice_client.specs.declared.outcome.Outcome.TheVariants as outcomes
use Rattle.ice_client.specs.Sending.{IsOneway}
use Rattle.ice_client.specs.ClientDid.{Rises}
use Rattle.locator.specs.declared.through.Through.{Through}
use Rattle.locator.specs.declared.through.Through.TheVariants.{Invoked, NotLocated, LocatorFailed}
use Rattle.locator.specs.Caches.{Kept}
use Rattle.locator.specs.Rounds.{Round}
use Rattle.locator.specs.Through.{GoesThrough, IsFailure}
use Rattle.ice_relay.specs.TextStreams.{TakesText}
use Rattle.ice_relay.specs.declared.fault.RelayFault.{RelayFault}
use Rattle.ice_relay.specs.declared.fault.RelayFault.TheVariants as faults
use Rattle.node_commands.specs.Answers.{usage, read_failed, no_memory}
use Rattle.call_command.specs.declared.arguments.TheConstants.{MOST_OF_ARGUMENTS}
use Rattle.call_command.specs.declared.callee.Callee.{Callee}
use Rattle.call_command.specs.declared.preparing.Plan.{Plan as Written}
use Rattle.call_command.specs.declared.ending.Ending.{Ending}
use Rattle.call_command.specs.declared.stop.Stop.{Stop}
use Rattle.call_command.specs.declared.stop.Stop.TheVariants as stops
use Rattle.call_command.specs.declared.stop.Reason.{Reason}
use Rattle.call_command.specs.declared.stop.Reason.TheVariants as reasons
use Rattle.call_command.specs.Words.{CallWords}
use Rattle.call_command.specs.Operations.{Operation}
use Rattle.call_command.specs.Planning.{Expected, Plan, of_locator, seen, target_of}
use Rattle.call_command.specs.Replies.{HasLine, HasReason, IsLine, IsReason}
use Rattle.call_command.specs.Endings.{Ended, finished, refused, twoway_only, stopped, ending_seen}
use Rattle.call_command.specs.Decided.{IsListed, WithInterface, WithFound, WithOperation, WithCallee, WithReply, Plans}
use Rattle.call_command.specs.Rounds.{Delivered, Finishes, IsUsed, NetSeen, SinkSeen, Stops}

-- ---- the proxies

-- what a text says was found, or memory ran out
abbrev pub Parses : {X : Type 0} → X → Result X Ending → Type 0
Parses said (Ok found) = said ≡ found
Parses said (Err ending) = ending_seen ending ≡ refused no_memory

-- the same, where PROXY's text is of none for datagrams
abbrev pub ParsesListed : {X : Type 0} → Result Proxy ℕ → X → Result X Ending → Type 0
ParsesListed parsed said (Ok found) = (said ≡ found) × IsListed parsed
ParsesListed parsed said (Err ending) = ((IsListed parsed → ⊥) × (ending_seen ending ≡ refused usage)) ⊎ (ending_seen ending ≡ refused no_memory)

-- ---- the steps that are left

-- of the operation and the object
abbrev pub KnownDecides : CallWords → Option (List ℕ) → Operation → Callee → Ended → (Plan → Type 0) → Type 0
KnownDecides c input o callee came Next = WithReply callee.proxy o.declared c.operation came (Plans c input came Next o callee)

abbrev pub KnownWants : CallWords → Operation → Callee → Type 0
KnownWants c o callee = WithReply callee.proxy o.declared c.operation (refused read_failed) (Unit {0})

-- of what the operation's name was found to be
abbrev pub FoundDecides : CallWords → Option (List ℕ) → Option Operation → Result Callee ℕ → Ended → (Plan → Type 0) → Type 0
FoundDecides c input found parsed came Next =
    WithFound found c.operation came (λ o.
    WithCallee parsed came (λ callee. KnownDecides c input o callee came Next))

abbrev pub FoundWants : CallWords → Option Operation → Result Callee ℕ → Type 0
FoundWants c found parsed =
    WithFound found c.operation (refused read_failed) (λ o.
    WithCallee parsed (refused read_failed) (λ callee. KnownWants c o callee))

-- of the schema
abbrev pub SchemaDecides : CallWords → Option (List ℕ) → Result Callee ℕ → Tables → Ended → (Plan → Type 0) → Type 0
SchemaDecides c input parsed t came Next =
    WithInterface t c.interface came (λ at.
    WithOperation t at c.operation came (λ o.
    WithCallee parsed came (λ callee. KnownDecides c input o callee came Next)))

abbrev pub SchemaWants : CallWords → Result Callee ℕ → Tables → Type 0
SchemaWants c parsed t =
    WithInterface t c.interface (refused read_failed) (λ at.
    WithOperation t at c.operation (refused read_failed) (λ o.
    WithCallee parsed (refused read_failed) (λ callee. KnownWants c o callee)))

-- ---- the arguments

-- The encapsulation of the graph that the text lists; or why it lists none; or that compact format cannot carry it; or the
-- length of the encapsulation, which is more than it may have.
abbrev pub EncodesArguments : Tables → Shape → Format → List ℕ → Result (List ℕ) RelayFault → Type 0
EncodesArguments t shape f text (Ok body) = (g : Graph) × Lists t shape text g × IsWritable f g
    × (body ≡ graph_bytes t shape f g) × (length body ≤ MOST_OF_ARGUMENTS)
EncodesArguments t shape f text (Err (faults.Broken fault)) = ⊥
EncodesArguments t shape f text (Err (faults.TextRefused why)) = IsRefused t shape text why
EncodesArguments t shape f text (Err faults.NeedsSliced) = (g : Graph) × Lists t shape text g × NeedsSliced f g
EncodesArguments t shape f text (Err (faults.TooLong n)) = (g : Graph) × Lists t shape text g × IsWritable f g
    × (n ≡ length (graph_bytes t shape f g)) × (MOST_OF_ARGUMENTS < n)
EncodesArguments t shape f text (Err faults.Memory) = Unit {0}

-- the message, or that it is too long, with its length
abbrev pub MakesMessage : Message → Result Message RelayFault → Type 0
MakesMessage m (Ok made) = (made ≡ m) × (length (message_bytes m) ≤ LARGEST)
MakesMessage m (Err (faults.Broken fault)) = ⊥
MakesMessage m (Err (faults.TextRefused why)) = ⊥
MakesMessage m (Err faults.NeedsSliced) = ⊥
MakesMessage m (Err (faults.TooLong n)) = (LARGEST < length (message_bytes m)) × (n ≡ told (length (message_bytes m)))
MakesMessage m (Err faults.Memory) = Unit {0}

-- ---- the plan

-- a request with id 1, or calls for which no reply comes
abbrev pub IsSent : Message → Type 0
IsSent m = ((c : Call) × (m ≡ Request (pos 1) c)) ⊎ IsOneway m

pub record CanBeSent (plan : Written) : Type 0 where
  pub writable : CanBeWritten plan.message
  pub sent : IsSent plan.message
  pub short : length (message_bytes plan.message) ≤ LARGEST
  pub results : ShapeFits plan.expected.schema.now plan.expected.results.now

-- why there is none, with the source's count before and after: a refusal is decided, a read failed, or memory ran out
abbrev pub LacksPlan : CallWords → Option (List ℕ) → Operation → Callee → (before after : ℕ) → Ended → Type 0
LacksPlan c input o callee before after came = (KnownDecides c input o callee came (λ plan. ⊥) × (after ≡ before))
    ⊎ (((came ≡ refused read_failed) × KnownWants c o callee × (after ≡ one_more before))
    ⊎ ((came ≡ refused no_memory) × (after ≡ before)))

-- the plan that is decided, whatever comes of it
abbrev pub GivesPlan : CallWords → Option (List ℕ) → Operation → Callee → (before after : ℕ) → Result Written Ending → Type 0
GivesPlan c input o callee before after (Ok plan) = ((came : Ended) → KnownDecides c input o callee came (λ q. q ≡ seen plan)) × (after ≡ before)
GivesPlan c input o callee before after (Err ending) = LacksPlan c input o callee before after (ending_seen ending)

-- the input is as it was, or was read where a reply can come
abbrev pub LooksFor : (Lacks : Type 0) → Option (List ℕ) → Option (List ℕ) → Type 0
LooksFor Lacks old new = Keeps old new ⊎ ((Lacks → ⊥) × TakesText old new)

-- ---- replies

-- for this reason, or memory ran out
abbrev pub StopsOrMemory : Reason → Stop → Type 0
StopsOrMemory reason stop = (stop ≡ stops.Ended reason) ⊎ (stop ≡ stops.Memory)

-- what stops a call by a fault of reading
abbrev pub of_read : ReadFault → Stop
of_read (read_faults.Broken fault) = stops.Ended (reasons.Broke fault)
of_read read_faults.Memory = stops.Memory

-- why an outcome has no line
abbrev pub LacksLine : Expected → Outcome → Stop → Type 0
LacksLine e outcome stops.WriteFailed = ⊥
LacksLine e outcome stops.NetFailed = outcome ≡ outcomes.NetFailed
LacksLine e outcome (stops.Ended reason) = IsReason e outcome reason
LacksLine e outcome stops.Memory = Unit {0}

-- the line on an outcome, or what stops the call
abbrev pub TellsOutcome : Expected → Outcome → Result (Vec ℕ Global) Stop → Type 0
TellsOutcome e outcome (Ok line) = IsLine e outcome line.items
TellsOutcome e outcome (Err stop) = LacksLine e outcome stop

-- the same of results in this encapsulation
abbrev pub TellsBody : Expected → List ℕ → Result (Vec ℕ Global) Stop → Type 0
TellsBody e body result = TellsOutcome e (outcomes.Replied (answers.Done body)) result

-- why a message has no line
abbrev pub StopsCall : Plan → Through → Stop → Type 0
StopsCall plan through stops.WriteFailed = ⊥
StopsCall plan through stops.NetFailed = IsFailure through
StopsCall plan through (stops.Ended reason) = HasReason plan through reason
StopsCall plan through stops.Memory = Unit {0}

-- the line on a message, or what stops the call
abbrev pub Tells : Plan → Through → Result (Vec ℕ Global) Stop → Type 0
Tells plan through (Ok line) = HasLine plan through line.items
Tells plan through (Err stop) = StopsCall plan through stop

-- a locator that failed gave no results
abbrev pub IsInVain : Through → Type 0
IsInVain (Invoked r) = Unit {0}
IsInVain NotLocated = Unit {0}
IsInVain (LocatorFailed r) = (line : List ℕ) → IsLine of_locator r.outcome line → ⊥

-- ---- a message

-- the call of a request with id 1
abbrev pub twoway_of : Message → Option Call
twoway_of (Request (pos zero) c) = None
twoway_of (Request (pos (suc zero)) c) = Some c
twoway_of (Request (pos (suc (suc n))) c) = None
twoway_of (Request (negsuc n) c) = None
twoway_of (Batch calls) = None
twoway_of (Reply id answer) = None
twoway_of Validate = None
twoway_of Close = None

-- what a message came to, from these places to those, or memory ran out
abbrev pub DeliversOnce : Plan → Kept → (before after : NetSeen) → Kept → Result Through Stop → Type 0
DeliversOnce plan old before after new (Ok through) = (rounds : List Round) × IsUsed rounds before after × Delivered plan old rounds new through
    × (IsFailure through → Rises before.failures after.failures)
DeliversOnce plan old before after new (Err stop) = (rounds : List Round) × IsUsed rounds before after
    × ((came : Result Through WriteFault) × GoesThrough plan.message (target_of plan) old rounds new came) × (stop ≡ stops.Memory)

-- the line was written, or a prefix of it
abbrev pub PrintsLine : {X : Type 0} → (before after : SinkSeen) → List ℕ → Result X Stop → Type 0
PrintsLine before after line (Ok x) = Appends before.taken after.taken line × (after.failures ≡ before.failures)
PrintsLine before after line (Err stop) = (stop ≡ stops.WriteFailed) × AppendsPrefix before.taken after.taken line × (after.failures ≡ one_more before.failures)

-- ---- all messages

-- the end of a call that has a plan
abbrev pub CarriesOut : Plan → (before after : SinkSeen) → (net new : NetSeen) → Ended → Type 0
CarriesOut plan before after net new finished = Finishes plan before after net new
CarriesOut plan before after net new (stopped stop) = Stops plan before after net new stop
CarriesOut plan before after net new (refused answer) = ⊥
CarriesOut plan before after net new (twoway_only word) = ⊥
