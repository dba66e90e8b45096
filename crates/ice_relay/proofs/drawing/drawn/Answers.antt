use Rattle.std.proofs.Common.{sym, subst}
use Rattle.graph_arena.specs.Arena.{IsSound}
use Rattle.ice_relay.proofs.Fitting.{drawn-sound}
use Rattle.ice_relay.proofs.drawing.drawn.Goals as goal

pub of-requires : goal.of-requires
of-requires c = subst IsSound (sym (λ i. record { roots = c.in_ok-roots.ensures i; instances = c.in_ok-nodes.ensures i })) (drawn-sound c.args.start c.args.count c.requires.some c.requires.few)
