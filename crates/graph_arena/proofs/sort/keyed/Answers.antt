use Rattle.graph_arena.specs.View.{view_pairs}
use Rattle.ice_encoding.proofs.Inserting.{join_none}
use Rattle.graph_arena.proofs.RisingPairs.{pair_moved}
use Rattle.graph_arena.proofs.sort.keyed.Goals as goal

pub loop-key-init : goal.loop-key-init
loop-key-init c = rw c.new-map.ensures.empty (join_none (view_pairs c.args.pairs))

pub loop-key-preserved : goal.loop-key-preserved
loop-key-preserved c =
    pair_moved (view_pairs c.args.pairs) c.loop-key.pairs c.pop.new.self c.in-Some.key c.in-Some.value c.loop-key.map.entries c.put.new.map.entries c.in_ok-_is_new._is_new
    c.requires c.in-Some.ensures c.loop-key.invariant c.in_ok-_is_new.ensures
