use Rattle.std.proofs.Common.{refl}
use Rattle.std.specs.Ordering.{on}
use Rattle.ice_encoding.specs.Order.{tree_cmp}
use Rattle.graph_arena.specs.View.{view}
use Rattle.graph_arena.proofs.Sorting.{puts}
use Rattle.graph_arena.proofs.sort.put.Goals as goal

pub returns : goal.returns
returns c =
    puts (on view tree_cmp) (λ a b. refl) c.args.key c.args.value c.args.map.now.entries c.insert.new.self.entries c.in_ok-before.before c.is_none-is_new.result c.in_ok-before.ensures.old c.in_ok-before.ensures.entries c.is_none-is_new.ensures
