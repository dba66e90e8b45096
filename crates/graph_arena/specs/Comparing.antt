-- The order of values is a total order.
use Rattle.std.proofs.Common.{refl, ap}
use Rattle.std.specs.Prelude.{Some}
use Rattle.std.specs.Cmp.{IsTotalOrder, IsPartialOrder, IsEquivalence, IsPartialEquivalence, eq_by_cmp_equiv, on_total, partial_equiv_from_equiv, po}
use Rattle.std.specs.Ordering.{eq_by_cmp, on}
use Rattle.ice_encoding.specs.Tree.{Tree}
use Rattle.ice_encoding.specs.Order.{tree_cmp}
use Rattle.ice_encoding.proofs.Order.{turns, less_then, equal_is}
use Rattle.graph_arena.specs.View.{view}

trees_total : IsTotalOrder tree_cmp
trees_total = record {
  antisymm = turns;
  trans = less_then;
  congr = λ a b c e. ap (λ (t : Tree). tree_cmp t c) (equal_is a b e);
}

-- the order of values is total, and equality is that of the order: what std's traits ask for
pub values_total : IsTotalOrder (on view tree_cmp)
values_total = on_total view trees_total

-- equality by the order is an equivalence
pub values_equal : IsEquivalence (eq_by_cmp (on view tree_cmp))
values_equal = eq_by_cmp_equiv values_total

pub values_alike : IsPartialEquivalence (eq_by_cmp (on view tree_cmp))
values_alike = partial_equiv_from_equiv values_equal

pub values_partial : IsPartialOrder (eq_by_cmp (on view tree_cmp)) (λ a b. Some (on view tree_cmp a b))
values_partial = po values_total (λ a b. refl)
