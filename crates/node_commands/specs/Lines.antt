-- The lines that tell where a command listens and how many connections it took, and how it ends by them.
use Rattle.std.specs.Prelude.{ℕ, ◌≡◌, ◌⊎◌, Bool, true, false, List, ◌++◌, codes, Option}
use Rattle.std.specs.Fmt.{decimal}
use Rattle.std.specs.Io.KnownBytes.{Appends}
use Rattle.ice_ports.specs.Failures.{one_more}
use Rattle.ice_ports.specs.Writing.{AppendsPrefix}
use Rattle.node_commands.specs.declared.outcome.Outcome.TheVariants as outcomes
use Rattle.node_commands.specs.Outside.{Outside, NoneFailed, SinkFailed}
use Rattle.node_commands.specs.Answers.{done, write_failed, no_memory}
use Rattle.node_commands.specs.declared.ending.Ending.{Ending}
use Rattle.node_commands.specs.declared.ending.Ending.TheVariants as endings
use Rattle.node_commands.specs.Ends.{End, answered, network_failed}

abbrev pub listening : ℕ → List ℕ
listening port = codes "listening " ++ (decimal port ++ codes "\n")

abbrev pub served : ℕ → List ℕ
served count = codes "served " ++ (decimal count ++ codes "\n")

-- what the sink got of all connections: both lines, or a prefix of them after a failed write; the first alone, where an accept failed or memory lacked
abbrev pub WritesEnd : (before after : Outside) → (lines first : List ℕ) → (failed starved : Bool) → End → Type 0
WritesEnd before after lines first failed true end = (end ≡ answered no_memory) × NoneFailed before.failures after.failures × Appends before.output after.output first
WritesEnd before after lines first true false end = (end ≡ network_failed) × NoneFailed before.failures after.failures × Appends before.output after.output first
WritesEnd before after lines first false false end =
    ((end ≡ answered (done lines)) × NoneFailed before.failures after.failures × Appends before.output after.output lines)
    ⊎ ((end ≡ answered (write_failed lines)) × SinkFailed before.failures after.failures × AppendsPrefix before.output after.output lines)

-- the line was written, or a prefix of it before a write failed
abbrev pub Tells : (old new : Option (List ℕ)) → (before after : ℕ) → Bool → List ℕ → Type 0
Tells old new before after true line = Appends old new line × (after ≡ before)
Tells old new before after false line = AppendsPrefix old new line × (after ≡ one_more before)

-- the last line was written, or a prefix of it; or there is none, because an accept failed or memory lacked
abbrev pub EndsWith : (old new : Option (List ℕ)) → (before after : ℕ) → List ℕ → (failed starved : Bool) → Ending → Type 0
EndsWith old new before after line failed true ending = (ending ≡ endings.Known outcomes.Memory) × (new ≡ old) × (after ≡ before)
EndsWith old new before after line true false ending = (ending ≡ endings.NetworkFailed) × (new ≡ old) × (after ≡ before)
EndsWith old new before after line false false ending = ((ending ≡ endings.Known outcomes.Done) × Appends old new line × (after ≡ before))
    ⊎ ((ending ≡ endings.Known outcomes.WriteFailed) × AppendsPrefix old new line × (after ≡ one_more before))
