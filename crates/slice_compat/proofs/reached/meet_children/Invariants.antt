use Rattle.slice_compat.specs.Children.{link_at}
use Rattle.slice_compat.specs.Marks.{Spreads}
use Rattle.slice_compat.proofs.Linked.{still}
use Rattle.slice_compat.proofs.Meeting.{IsRest, VisitedOf}
use Rattle.slice_compat.proofs.reached.meet_children.Given as goal

-- those that stand before the link are met
abbrev pub invariant-loop-link : goal.invariant-loop-link
invariant-loop-link l = record {
  rest : IsRest l.children.next.items (link_at l.children.first.items l.base) l.link;
  met : Spreads (VisitedOf l.children.next.items (link_at l.children.first.items l.base) l.link) l.fn.marks l.marks;
}

abbrev pub decreases-loop-link : goal.decreases-loop-link
decreases-loop-link l = still l.link
