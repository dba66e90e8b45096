use Rattle.std.proofs.Common.{◌<◌, sym, subst}
use Rattle.graph_arena.proofs.Listed.{marks-set}
use Rattle.graph_arena.proofs.listing.Listing.list.Goals as goal

pub invariant_of-self-2 : goal.invariant_of-self-2
invariant_of-self-2 c = marks-set c.self.inside.marks.items c.self.inside.places c.push.new.self c.args.place c.self.invariant (subst (λ l. c.args.place < l.count) (sym c.self.view_is) c.requires) c.in_ok-push.ensures.ok
