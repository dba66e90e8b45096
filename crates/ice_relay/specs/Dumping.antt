-- The line that tells a value, and what a sink gets of it.
use Rattle.std.specs.Prelude.{ℕ, ◌≡◌, List, ◌++◌, codes, Option, Result, Ok, Err}
use Rattle.std.specs.Io.KnownBytes.{Appends, Keeps}
use Rattle.ice_types.specs.declared.kind.TypeRef.{TypeRef}
use Rattle.ice_types.specs.Tables.{Tables}
use Rattle.ice_encoding.specs.Graph.{Graph}
use Rattle.ice_ports.specs.Failures.{one_more}
use Rattle.ice_ports.specs.Writing.{AppendsPrefix}
use Rattle.graph_json.specs.Texts.{graph_text}
use Rattle.ice_relay.specs.Relaying.{one_value, Holds, held}
use Rattle.ice_relay.specs.declared.dump_fault.DumpFault.{DumpFault}
use Rattle.ice_relay.specs.declared.dump_fault.DumpFault.TheVariants as faults

-- the text of a graph, and the end of the line
abbrev pub dump_line : Tables → TypeRef → Graph → List ℕ
dump_line t kind g = graph_text t (one_value kind) g ++ codes "\n"

-- the sink got the beginning of the bytes: none, all, or some first ones of them
abbrev pub Begins : Option (List ℕ) → Option (List ℕ) → List ℕ → Type 0
Begins old new bytes = (written rest : List ℕ) × (bytes ≡ written ++ rest) × Appends old new written

-- The sink got the line of the graph that the input holds; or nothing, and the input's first fault is told; or less than
-- the line, since a write failed; or nothing, or the beginning of the line, since memory ran out. Beside it the count of
-- the sink's failures, before and after.
abbrev pub DumpsTo : Tables → TypeRef → List ℕ → Option (List ℕ) → Option (List ℕ) → (before after : ℕ) → Result (Unit {0}) DumpFault → Type 0
DumpsTo t kind input old new before after (Ok done) = (g : Graph) × Holds t kind input g × Appends old new (dump_line t kind g) × (after ≡ before)
DumpsTo t kind input old new before after (Err (faults.Broken fault)) = (held t kind input ≡ Err fault) × Keeps old new × (after ≡ before)
DumpsTo t kind input old new before after (Err faults.WriteFailed) = (g : Graph) × Holds t kind input g × AppendsPrefix old new (dump_line t kind g) × (after ≡ one_more before)
DumpsTo t kind input old new before after (Err faults.Memory) = Keeps old new × (after ≡ before)
DumpsTo t kind input old new before after (Err faults.MemoryAfter) = (g : Graph) × Holds t kind input g × Begins old new (dump_line t kind g) × (after ≡ before)
