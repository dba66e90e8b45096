-- What comes of a name on a shelf.
use Rattle.std.specs.Prelude.{ℕ, ◌≡◌, List, Bool, true, false, Result, Ok, Err}
use Rattle.ice_ports.specs.declared.ports.PortFault.{PortFault}
use Rattle.ice_ports.specs.declared.ports.PortFault.TheVariants as ports
use Rattle.ice_types.specs.Tables.{Tables}
use Rattle.slice_syntax.specs.declared.tree.File.{File}
use Rattle.slice_meaning.specs.Names.{Name}
use Rattle.slice_meaning.specs.Printed.{LoadBreak, broken_at}
use Rattle.slice_meaning.specs.Loading.{Shelf, IsTree, TextBreaks, Loads, LoadBreaks}
use Rattle.slice_check.specs.declared.fault.LoadFault.{LoadFault}
use Rattle.slice_check.specs.declared.fault.LoadFault.TheVariants as faults

-- the fault is of this sort, where it is one of a text
abbrev pub IfText : (LoadBreak → Type 0) → LoadFault → Type 0
IfText Breaks (faults.Text file place kind) = Breaks (broken_at file place kind)
IfText Breaks faults.Shelf = Unit {0}
IfText Breaks faults.Memory = Unit {0}

-- the answer to a name: what the file means with all that it includes, or their first fault
abbrev pub Answers : Shelf → Name → Result Tables LoadFault → Type 0
Answers shelf name (Ok t) = Loads shelf name t
Answers shelf name (Err fault) = IfText (LoadBreaks shelf name) fault

-- the shelf itself failed
abbrev pub is_failed : {T : Type 0} → Result T LoadFault → Bool
is_failed (Ok answer) = false
is_failed (Err (faults.Text file place kind)) = false
is_failed (Err faults.Shelf) = true
is_failed (Err faults.Memory) = false

-- ---- what a fault of a part comes to

-- what a fault of the shelf comes to
abbrev pub of_port : PortFault → LoadFault
of_port ports.Failed = faults.Shelf
of_port ports.Memory = faults.Memory

-- this fault is answered, unless memory runs out
abbrev pub IsFault : LoadBreak → LoadFault → Type 0
IsFault broken (faults.Text file place kind) = broken ≡ broken_at file place kind
IsFault broken faults.Shelf = ⊥
IsFault broken faults.Memory = Unit {0}

-- the answer to a text: its tree, or its first fault
abbrev pub Parses : Name → List ℕ → Result File LoadFault → Type 0
Parses file text (Ok tree) = IsTree text tree
Parses file text (Err (faults.Text name place kind)) = TextBreaks file text (broken_at name place kind)
Parses file text (Err faults.Shelf) = ⊥
Parses file text (Err faults.Memory) = Unit {0}
