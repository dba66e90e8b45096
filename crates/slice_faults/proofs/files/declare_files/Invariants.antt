use Rattle.std.proofs.Common.{◌≡◌, drop}
use Rattle.slice_syntax.specs.Places.{AreRegular, Each}
use Rattle.slice_meaning.specs.Checking.{checked_from}
use Rattle.slice_faults.specs.Held.{known_of}
use Rattle.slice_faults.specs.Kept.{IsKept}
use Rattle.slice_faults.proofs.files.declare_files.Given as goal

abbrev pub invariant-loop-file : goal.invariant-loop-file
invariant-loop-file l = Each AreRegular (drop l.file-index l.files) × IsKept (known_of l.known)
    × (checked_from (known_of l.known) (drop l.file-index l.files) ≡ checked_from (known_of l.fn.known) l.files)
