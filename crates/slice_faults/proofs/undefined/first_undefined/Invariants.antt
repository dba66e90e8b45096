use Rattle.std.proofs.Common.{◌≡◌, ◌≤◌, length, Option, None}
use Rattle.std.specs.Prelude.{filter, option_map}
use Rattle.slice_meaning.specs.Names.{Declared}
use Rattle.slice_meaning.specs.Meaning.{is_undefined, undefined}
use Rattle.slice_meaning.specs.Checking.{earlier}
use Rattle.slice_meaning.specs.Numbers.{stands_at}
use Rattle.slice_faults.specs.Held.{known_of}
use Rattle.slice_faults.proofs.Earliest.{up_to}
use Rattle.slice_faults.proofs.undefined.first_undefined.Given as goal

abbrev pub invariant-loop-number : goal.invariant-loop-number
invariant-loop-number l = (e : Option Declared) × (l.first ≡ option_map stands_at e) × (l.number ≤ length l.known.names)
    × (earlier e (filter (is_undefined (known_of l.known).tables) (up_to l.known.names l.number)) ≡ earlier None (undefined (known_of l.known)))

abbrev pub decreases-loop-number : goal.decreases-loop-number
decreases-loop-number l = l.number
