use Rattle.std.proofs.Common.{◌≡◌, drop}
use Rattle.slice_syntax.specs.Places.{Each, IsRegular}
use Rattle.slice_meaning.specs.After.{after_all}
use Rattle.slice_meaning.specs.Checking.{broken}
use Rattle.slice_faults.specs.Held.{known_of}
use Rattle.slice_faults.specs.Kept.{IsKept}
use Rattle.slice_faults.proofs.items.declare_all.Given as goal

abbrev pub invariant-loop-item : goal.invariant-loop-item
invariant-loop-item l = Each IsRegular (drop l.item-index l.items) × IsKept (known_of l.known)
    × (broken (known_of l.known) (drop l.item-index l.items) ≡ broken (known_of l.fn.known) l.items)
    × (after_all (known_of l.known) (drop l.item-index l.items) ≡ after_all (known_of l.fn.known) l.items)
