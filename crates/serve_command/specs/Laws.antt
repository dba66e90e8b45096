-- What the definitions promise.
use Rattle.std.specs.Prelude.{ℕ, ◌≡◌, ◌⊎◌, ◌++◌, List, Some}
use Rattle.ice_ports.specs.Failures.{one_more}
use Rattle.object_adapter.specs.Objects.{Objects}
use Rattle.node_commands.specs.Words.{Word}
use Rattle.node_commands.specs.Outside.{Files, Outside, ShelfFailed, SinkFailed}
use Rattle.node_commands.specs.Answers.{Answer, done, read_failed, no_memory}
use Rattle.serve_command.specs.Words.{Serve, ServeForm, IsServe}
use Rattle.node_commands.specs.Ends.{End, answered}
use Rattle.node_commands.specs.Lines.{listening, served}
use Rattle.serve_command.specs.Served.{Network, Refuses, Sets, Served}

-- with these words and files one answer refuses at most, and where one does they make no objects
abbrev pub AreSingle : Type 0
AreSingle = (c : Serve) (files : Files) → ((a b : Answer) → Refuses c (Some files) a → Refuses c (Some files) b → a ≡ b)
    × ((a : Answer) (o : Objects) → Refuses c (Some files) a → Sets c (Some files) o → ⊥)

-- words of a form of `serve` begin with that word
abbrev pub BeginsForm : Type 0
BeginsForm = (words : List Word) (c : Serve) → ServeForm words c → IsServe words

-- where the shelf tells its files, words that are refused end so, unless a file could not be read or memory ran out
abbrev pub EndsAsRefused : Type 0
EndsAsRefused = (c : Serve) (before after : Outside) (net later : Network) (result : ℕ) (files : Files) (answer : Answer)
    → before.files ≡ Some files → Refuses c (Some files) answer → (h : Served c before after net later result)
    → (h.end ≡ answered answer) ⊎ ((h.end ≡ answered read_failed) ⊎ (h.end ≡ answered no_memory))

-- both lines were written, with this port and count
abbrev pub IsDone : End → Type 0
IsDone end = (port : ℕ) × (count : ℕ) × (end ≡ answered (done (listening port ++ served count)))

-- what keeps it from that: a refusal, want of memory, or a shelf, a sink, or a listener of the net that failed
abbrev pub EndsForCause : Type 0
EndsForCause = (c : Serve) (before after : Outside) (net later : Network) (result : ℕ) (h : Served c before after net later result)
    → IsDone h.end
    ⊎ (((answer : Answer) × Refuses c before.files answer × (h.end ≡ answered answer))
    ⊎ ((h.end ≡ answered no_memory)
    ⊎ (ShelfFailed before.failures after.failures
    ⊎ (SinkFailed before.failures after.failures
    ⊎ (later.failures ≡ one_more net.failures)))))
