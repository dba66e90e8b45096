-- The steps of `gate`, as its functions answer them.
use Rattle.std.specs.Prelude.{ℕ, ◌≡◌, ◌⊎◌, Bool, List, [], Option, Result, Ok, Err}
use Rattle.std.specs.Io.KnownBytes.{Appends}
use Rattle.ice_types.specs.declared.proxy.Proxy.{Proxy}
use Rattle.ice_types.specs.Tables.{Tables}
use Rattle.ice_types.specs.Object.{object_tables}
use Rattle.ice_ports.specs.Failures.{one_more}
use Rattle.ice_ports.specs.Nets.{ToldListener, IsNewListener, came_back, gathered_of}
use Rattle.ice_ports.specs.Writing.{AppendsPrefix}
use Rattle.ice_gateway.specs.Gate.{Gate}
use Rattle.ice_gateway.specs.Runs.{NetSeen}
use Rattle.node_commands.specs.declared.outcome.Outcome.{Outcome}
use Rattle.node_commands.specs.declared.outcome.Outcome.TheVariants as outcomes
use Rattle.node_commands.specs.Outside.{Files}
use Rattle.node_commands.specs.Answers.{Answer, usage, no_memory, read_failed}
use Rattle.node_commands.specs.Outcomes.{answer_of}
use Rattle.node_commands.specs.Interfaces.{IsInterface}
use Rattle.node_commands.specs.declared.ending.Ending.{Ending}
use Rattle.node_commands.specs.declared.ending.Ending.TheVariants as endings
use Rattle.node_commands.specs.Lines.{listening, served}
use Rattle.node_commands.specs.Lines.{EndsWith}
use Rattle.gate_command.specs.declared.plan.Plan.{Plan}
use Rattle.gate_command.specs.Words.{GateWords}
use Rattle.gate_command.specs.Decided.{IsListed, WithInterface, WithProxy, Refuses, Sets}
use Rattle.gate_command.specs.Gated.{Heard, IsPort, asked}

-- the answer of an outcome for which nothing was written
abbrev pub answered_by : Outcome → Answer
answered_by outcome = answer_of outcome []

-- what the text of PROXY says; or it has no endpoints; or memory lacked
abbrev pub FindsUpstream : Result Proxy ℕ → Result (Result Proxy ℕ) Outcome → Type 0
FindsUpstream parsed (Ok found) = (parsed ≡ found) × IsListed parsed
FindsUpstream parsed (Err outcome) = ((IsListed parsed → ⊥) × (answered_by outcome ≡ usage)) ⊎ (answered_by outcome ≡ no_memory)

-- ---- the plan

-- wherever its parts lie in memory
abbrev pub gate_of : Plan → Gate
gate_of p = record { tables = p.schema; interface = p.interface; endpoints = p.upstream.endpoints; retries = p.retries }

-- a step that is left refuses; or memory lacked
abbrev pub SchemaRefuses : GateWords → Result Proxy ℕ → Tables → Answer → Type 0
SchemaRefuses c parsed t answer = WithInterface t c.interface answer (λ at. WithProxy parsed answer (λ p. ⊥)) ⊎ (answer ≡ no_memory)

-- what goes with this schema
abbrev pub SchemaGives : GateWords → Result Proxy ℕ → Tables → Result (Tables × ℕ × Proxy) Outcome → Type 0
SchemaGives c parsed t (Ok (object, interface, upstream)) = IsInterface t c.interface interface × (parsed ≡ Ok upstream) × (object ≡ object_tables)
SchemaGives c parsed t (Err outcome) = SchemaRefuses c parsed t (answered_by outcome)

-- the plan with this schema
abbrev pub SchemaMakes : GateWords → Result Proxy ℕ → Tables → Result Plan Outcome → Type 0
SchemaMakes c parsed t (Ok plan) = IsInterface t c.interface plan.interface × (parsed ≡ Ok plan.upstream)
    × (plan.schema ≡ t) × (plan.retries ≡ c.retries) × (plan.object ≡ object_tables)
SchemaMakes c parsed t (Err outcome) = SchemaRefuses c parsed t (answered_by outcome)

-- why there is none: the words are refused; a file could not be read; memory lacked
abbrev pub MakesNone : GateWords → Option Files → (before after : ℕ) → Answer → Type 0
MakesNone c files before after answer = (Refuses c files answer × (after ≡ before))
    ⊎ (((answer ≡ read_failed) × (after ≡ one_more before)) ⊎ ((answer ≡ no_memory) × (after ≡ before)))

abbrev pub MakesPlan : GateWords → Option Files → (before after : ℕ) → Result Plan Outcome → Type 0
MakesPlan c files before after (Ok plan) = Sets c files (gate_of plan) × (plan.object ≡ object_tables) × (after ≡ before)
MakesPlan c files before after (Err outcome) = MakesNone c files before after (answered_by outcome)

-- ---- listening

-- connections were served, and then it ended so
abbrev pub Serves : GateWords → Gate → Option ToldListener → (old new : Option (List ℕ)) → (before after : ℕ) → (net later : NetSeen) → Ending → Type 0
Serves c gate first old new before after net later ending = (count : ℕ) × (failed starved : Bool)
    × Heard c gate first net later count failed starved × EndsWith old new before after (served count) failed starved ending

-- where it listens could not be written; or it was, and connections were served
abbrev pub Listens : GateWords → Gate → Option ToldListener → (port : ℕ) → (old new : Option (List ℕ)) → (before after : ℕ) → (net later : NetSeen) → Ending → Type 0
Listens c gate first port old new before after net later ending =
    ((ending ≡ endings.Known outcomes.WriteFailed) × AppendsPrefix old new (listening port) × (after ≡ one_more before)
    × (later ≡ record net { told = came_back (gathered_of first) net.told }))
    ⊎ ((mid : Option (List ℕ)) × Appends old mid (listening port) × Serves c gate first mid new before after net later ending)

-- the net could not listen; or it did, at a port with a new listener, and it went on from there
abbrev pub Asks : GateWords → Gate → (old new : Option (List ℕ)) → (before after : ℕ) → (net later : NetSeen) → Ending → Type 0
Asks c gate old new before after net later ending =
    ((ending ≡ endings.NetworkFailed) × (new ≡ old) × (after ≡ before)
    × (later ≡ record (asked c net) { listen_failures = one_more net.listen_failures }))
    ⊎ ((first : Option ToldListener) × (port : ℕ) × IsNewListener net.told first × IsPort c port
    × Listens c gate first port old new before after (asked c net) later ending)
