use Rattle.std.proofs.Common.{sym}
use Rattle.graph_arena.specs.View.{view}
use Rattle.value_writing.proofs.SortedLaws.{stays, differ}
use Rattle.value_writing.proofs.sort.sort_pairs.Goals as goal

pub returns-then-is_sorted-clause-sorts : goal.returns-then-is_sorted-clause-sorts
returns-then-is_sorted-clause-sorts c =
    let order = c.is_sorted.ensures.0 c.if-is_sorted.true in
    (differ (view c.args.value.now) order, sym (stays (view c.args.value.now) order))
