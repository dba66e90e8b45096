use Rattle.std.proofs.Common.{◌≡◌}
use Rattle.serde_json.specs.Data.{no_members}
use Rattle.graph_json.specs.View.{members_view, put_each}
use Rattle.graph_json.proofs.sorting.by_name.Given as goal

-- the entries so far
abbrev pub invariant-loop-name : goal.invariant-loop-name
invariant-loop-name l = members_view l.map.entries ≡ put_each l.yielded no_members
