use Rattle.slice_compat.specs.Children.{AreLinked}
use Rattle.slice_compat.proofs.children.Children.of.Given as goal

-- the classes before
abbrev pub invariant-loop-at : goal.invariant-loop-at
invariant-loop-at l = AreLinked l.classes l.at l.children.first.items l.children.next.items
