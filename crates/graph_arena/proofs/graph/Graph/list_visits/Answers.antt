use Rattle.std.proofs.Common.{◌≡◌, ◌++◌, ap, sym, subst, ◌∙◌, length}
use Rattle.std.proofs.lemmas.List.{append-nil}
use Rattle.ice_encoding.specs.Visiting.{most, order, visit_at, visit_each}
use Rattle.graph_arena.specs.Arena.{AreBelow}
use Rattle.graph_arena.specs.Listing.{Listed, from_top}
use Rattle.graph_arena.proofs.Listed.{new-is, same-is}
use Rattle.graph_arena.proofs.Visits.{below-put, below-taken, left-listed, left-new, order-begins, range-of, work-new}
use Rattle.graph_arena.proofs.graph.Graph.list_visits.Goals as goal

pub loop-place-init : goal.loop-place-init
loop-place-init c =
    let named : from_top c.put_on_top.new.stack ≡ c.in_ok-root_refs.field-0 =
    c.in_ok-put_on_top.ensures ∙ ap (λ l. c.in_ok-root_refs.field-0 ++ from_top l) c.requires.empty ∙ append-nil c.in_ok-root_refs.field-0 in
    record {
      left =
          ap (λ (l : Listed). visit_each (visit_at most c.args.self.now) (from_top c.put_on_top.new.stack) l.places) c.requires.none
          ∙ order-begins c.args.self.now c.put_on_top.new.stack (named ∙ c.in_ok-root_refs.ensures.names);
      below = subst (AreBelow (length c.args.self.now.instances)) (sym named) c.in_ok-root_refs.ensures.in_range;
      count = ap (λ (l : Listed). l.count) c.requires.none;
    }

pub loop-place-smaller-in_ok-put_on_top-2 : goal.loop-place-smaller-in_ok-put_on_top-2
loop-place-smaller-in_ok-put_on_top-2 c =
    let fresh = new-is c.in_ok-list.field-0 c.in-Some.place c.loop-place.listing.places c.list.new.self.places c.if-branch.true c.in_ok-list.ensures.lists in
    work-new c.args.self.now most c.loop-place.pending c.pop.new.self c.in-Some.place c.in-Some.ensures
    c.in_ok-refs.field-0 c.put_on_top-then-branch.new.stack c.in_ok-refs.ensures.names c.in_ok-put_on_top-2.ensures
    c.loop-place.listing.places c.list.new.self.places c.loop-place.invariant.below fresh.0 fresh.1

pub loop-place-preserved-in_ok-put_on_top-2 : goal.loop-place-preserved-in_ok-put_on_top-2
loop-place-preserved-in_ok-put_on_top-2 c =
    let fresh = new-is c.in_ok-list.field-0 c.in-Some.place c.loop-place.listing.places c.list.new.self.places c.if-branch.true c.in_ok-list.ensures.lists in
    record {
      left =
          left-new c.args.self.now most c.loop-place.pending c.pop.new.self c.in-Some.place c.in-Some.ensures
          c.in_ok-refs.field-0 c.put_on_top-then-branch.new.stack c.in_ok-refs.ensures.names c.in_ok-put_on_top-2.ensures
          (range-of c.args.self.now c.requires.sound) c.requires.sound.few
          c.loop-place.listing.places c.list.new.self.places (order c.args.self.now) c.loop-place.invariant.below fresh.0 fresh.1 c.loop-place.invariant.left;
      below =
          below-put c.args.self.now most c.loop-place.pending c.pop.new.self c.in-Some.place c.in-Some.ensures
          c.in_ok-refs.field-0 c.put_on_top-then-branch.new.stack c.in_ok-refs.ensures.names c.in_ok-put_on_top-2.ensures
          (length c.args.self.now.instances) c.loop-place.invariant.below c.in_ok-refs.ensures.in_range;
      count = c.in_ok-list.ensures.count ∙ c.loop-place.invariant.count;
    }

pub loop-place-preserved : goal.loop-place-preserved
loop-place-preserved c =
    let same = same-is c.in_ok-list.field-0 c.in-Some.place c.loop-place.listing.places c.list.new.self.places c.if-branch.false c.in_ok-list.ensures.lists in
    record {
      left =
          left-listed c.args.self.now most c.loop-place.pending c.pop.new.self c.in-Some.place c.in-Some.ensures
          c.loop-place.listing.places c.list.new.self.places (order c.args.self.now) same.0 same.1 c.loop-place.invariant.left;
      below = (below-taken c.args.self.now most c.loop-place.pending c.pop.new.self c.in-Some.place c.in-Some.ensures (length c.args.self.now.instances) c.loop-place.invariant.below).1;
      count = c.in_ok-list.ensures.count ∙ c.loop-place.invariant.count;
    }
