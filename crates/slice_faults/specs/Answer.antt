-- What the checker answers.
use Rattle.std.specs.Prelude.{ℕ, List, Option, None, Some, Result, Ok, Err}
use Rattle.slice_syntax.specs.declared.tree.File.{File}
use Rattle.ice_types.specs.Tables.{Tables}
use Rattle.slice_meaning.specs.declared.fault.Fault.{Fault}
use Rattle.slice_meaning.specs.Uses.{fault_at}
use Rattle.slice_meaning.specs.Meaning.{Means, CheckBreaks}
use Rattle.slice_faults.specs.declared.fault.CheckFault.{CheckFault}
use Rattle.slice_faults.specs.declared.fault.CheckFault.TheVariants as faults

-- the tables, or a fault where there is one
abbrev pub answer_of : Tables → Option (ℕ × Fault) → Result Tables (ℕ × Fault)
answer_of t None = Ok t
answer_of t (Some fault) = Err fault

-- what files mean, or their first fault; want of memory says nothing
abbrev pub IsAnswer : List File → Result Tables CheckFault → Type 0
IsAnswer files (Ok t) = Means files t
IsAnswer files (Err (faults.At file place kind)) = CheckBreaks files file (fault_at place kind)
IsAnswer files (Err faults.Memory) = Unit {0}
