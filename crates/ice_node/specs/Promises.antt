-- What the program promises of one run, from the words and what is outside before and after it.
use Rattle.std.specs.Prelude.{ℕ, ◌≡◌, ◌⊎◌, List, Some}
use Rattle.std.specs.Io.KnownBytes.{Appends}
use Rattle.ice_prims.specs.Rest.{IsBytes}
use Rattle.node_commands.specs.Words.{Word}
use Rattle.node_commands.specs.Outside.{Files, Outside, NoneFailed}
use Rattle.node_commands.specs.Answers.{Answer, no_memory}
use Rattle.node_commands.specs.Decided.{Decided}
use Rattle.node_commands.specs.Effects.{GetsLine}
use Rattle.node_commands.specs.Statuses.{Answered, EndsWithStatus}
use Rattle.call_command.specs.Words.{CallWords, CallForm}
use Rattle.call_command.specs.Rounds.{NetSeen}
use Rattle.call_command.specs.Called.{Called}
use Rattle.gate_command.specs.Words.{GateWords, GateForm}
use Rattle.gate_command.specs.Gated.{Gated}
use Rattle.ice_gateway.specs.Runs as gateways
use Rattle.serve_command.specs.Words.{Serve, ServeForm, IsServe}
use Rattle.serve_command.specs.Served.{Network, Served, network}
use Rattle.ice_node.specs.Carrying.{Carries}

-- Of a command that leaves the net alone.
pub record KeepsLocally (words : List Word) (before after : Outside) (status : ℕ) : Type 0 where
  -- There is one answer: its status is returned, it comes for its cause, no more of the input was
  -- taken than it says, and the sinks got what it says.
  pub answered : (answer : Answer) × Answered words before after status answer
  -- Where the outside tells what it holds, and that decides an answer, this one came, unless a read
  -- or a write failed, or memory ran out.
  pub exactly : (files : Files) (input : List ℕ) (answer : Answer)
      → before.files ≡ Some files → before.input ≡ Some input
      → Decided words files input answer → EndsWithStatus words before after status answer
  -- Where the outside tells what it holds, `relay` in sliced format has written, with status 0, the
  -- graph that the input is for whoever knows the classes that FILE lacks.
  pub carried : (files : Files) (input : List ℕ)
      → before.files ≡ Some files → before.input ≡ Some input → IsBytes input → status ≡ 0
      → (out : List ℕ) × Appends before.output after.output out × Carries words files input out

-- Memory ran out before it was known what words that begin with `serve` ask for, and nothing was done.
pub record Starves (words : List Word) (before after : Outside) (status : ℕ) : Type 0 where
  pub begins : IsServe words
  pub returned : status ≡ 9
  pub none_failed : NoneFailed before.failures after.failures
  pub input : after.input ≡ before.input
  pub output : after.output ≡ before.output
  pub line : GetsLine before.errors after.errors before.error_failures after.error_failures no_memory

-- what `serve` has to do with of a net
abbrev pub listened : NetSeen → Network
listened n = network n.told n.listen_failures

-- and `gate`
abbrev pub gated : NetSeen → gateways.NetSeen
gated n = gateways.net_seen n.told n.failures n.listen_failures

pub record KeepsPromises (words : List Word) (before after : Outside) (net later : NetSeen) (status : ℕ) : Type 0 where
  -- any other command leaves the net as it was
  pub locally : ((c : CallWords) → CallForm words c → ⊥) → ((c : GateWords) → GateForm words c → ⊥) → ((c : Serve) → ServeForm words c → ⊥)
      → (KeepsLocally words before after status ⊎ Starves words before after status) × (later ≡ net)
  -- `call` does what its words say
  pub called : (c : CallWords) → CallForm words c → Called c before after net later status
  -- so does `gate`
  pub gates : (c : GateWords) → GateForm words c → Gated c before after (gated net) (gated later) status
  -- and `serve`
  pub served : (c : Serve) → ServeForm words c
      → Served c before after (listened net) (listened later) status ⊎ (Starves words before after status × (later ≡ net))

-- words are a form of one of `call`, `serve` and `gate` at most
abbrev pub NetFormsApart : Type 0
NetFormsApart = (words : List Word)
    → ((c : CallWords) (s : Serve) → CallForm words c → ServeForm words s → ⊥)
    × ((c : CallWords) (g : GateWords) → CallForm words c → GateForm words g → ⊥)
    × ((g : GateWords) (s : Serve) → GateForm words g → ServeForm words s → ⊥)
