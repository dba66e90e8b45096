use Rattle.std.proofs.Common.{◌≡◌, ◌++◌, length}
use Rattle.graph_json.proofs.content_read.by_tag.Given as goal

abbrev pub invariant-loop-value : goal.invariant-loop-value
invariant-loop-value l = l.values ++ l.map.entries ≡ l.fn.map.entries

abbrev pub decreases-loop-value : goal.decreases-loop-value
decreases-loop-value l = length l.map.entries
