-- A text on its way to a sink: what the sink has taken of it, and what stands on a page.
use Rattle.std.specs.Prelude.{ℕ, ◌≡◌, List, ◌++◌, Option, Result, Ok, Err, Vec, codes}
use Rattle.std.specs.Io.KnownBytes.{Appends}
use Rattle.std.specs.declared.alloc.Global.{Global}
use Rattle.serde_json.specs.Data.{Data}
use Rattle.serde_json.specs.Written.{compact_text}
use Rattle.ice_ports.specs.Failures.{one_more}
use Rattle.ice_ports.specs.Writing.{AppendsPrefix}
use Rattle.ice_relay.specs.Dumping.{Begins}
use Rattle.ice_relay.specs.declared.dump_fault.DumpFault.{DumpFault}
use Rattle.ice_relay.specs.declared.dump_fault.DumpFault.TheVariants as dump_faults
use Rattle.ice_ports.specs.declared.ports.PortFault.{PortFault}
use Rattle.ice_ports.specs.declared.ports.PortFault.TheVariants as faults

-- why the text is not whole: a write failed, and the sink got less; or memory ran out, and the sink got the beginning
abbrev pub Stops : List ℕ → Option (List ℕ) → Option (List ℕ) → (before after : ℕ) → PortFault → Type 0
Stops text old new before after faults.Failed = AppendsPrefix old new text × (after ≡ one_more before)
Stops text old new before after faults.Memory = Begins old new text × (after ≡ before)

-- the sink got the front of the text, and the rest of it stands on the page; or why not
abbrev pub Tells : List ℕ → Option (List ℕ) → Option (List ℕ) → (before after : ℕ) → Result (Vec ℕ Global) PortFault → Type 0
Tells text old new before after (Ok page) = (written : List ℕ) × (text ≡ written ++ page.items) × Appends old new written × (after ≡ before)
Tells text old new before after (Err fault) = Stops text old new before after fault

-- the sink got the whole text; or why not
abbrev pub TellsAll : List ℕ → Option (List ℕ) → Option (List ℕ) → (before after : ℕ) → Result (Unit {0}) PortFault → Type 0
TellsAll text old new before after (Ok done) = Appends old new text × (after ≡ before)
TellsAll text old new before after (Err fault) = Stops text old new before after fault

-- what stands behind the instances in the line of a graph, with this notation of its roots
abbrev pub roots_text : Data → List ℕ
roots_text roots = codes ",\"roots\":" ++ (compact_text roots ++ codes "}\n")

-- what such a fault comes to, for one who dumps a value
abbrev pub of_tell : PortFault → DumpFault
of_tell faults.Failed = dump_faults.WriteFailed
of_tell faults.Memory = dump_faults.MemoryAfter
