use Rattle.std.proofs.Common.{◌≡◌, drop}
use Rattle.serde_json.specs.Find.{get_member}
use Rattle.graph_json.specs.View.{members_view}
use Rattle.graph_json.proofs.found.first_named.Given as goal

-- what is found is found among those that are left
abbrev pub invariant-loop-entry : goal.invariant-loop-entry
invariant-loop-entry l = get_member l.name (members_view (drop l.entry-index l.entries)) ≡ get_member l.name (members_view l.entries)
