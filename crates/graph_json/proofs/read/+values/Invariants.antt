use Rattle.std.proofs.Common.{◌≡◌, ◌+◌, ◌*◌, drop, option_map}
use Rattle.graph_json.specs.View.{items_view, members_view}
use Rattle.ice_encoding.specs.Tree.{no_entry}
use Rattle.graph_arena.specs.View.{view_all, view_pairs}
use Rattle.graph_json.specs.ReadingValues.{each_of, members_of, pairs_of, value_levels}
use Rattle.graph_json.proofs.WalkingValues.{join}
use Rattle.graph_json.proofs.read.+values.Given as goal

abbrev pub decreases-read_level : goal.decreases-read_level
decreases-read_level l = 6 * l.levels

abbrev pub decreases-read_parts : goal.decreases-read_parts
decreases-read_parts l = 6 * l.levels + 5

abbrev pub decreases-read_sequence : goal.decreases-read_sequence
decreases-read_sequence l = 6 * l.levels + 4

abbrev pub decreases-read_dictionary : goal.decreases-read_dictionary
decreases-read_dictionary l = 6 * l.levels + 4

abbrev pub decreases-read_struct : goal.decreases-read_struct
decreases-read_struct l = 6 * l.levels + 4

abbrev pub decreases-read_items : goal.decreases-read_items
decreases-read_items l = 6 * l.levels + 3

abbrev pub decreases-read_entries : goal.decreases-read_entries
decreases-read_entries l = 6 * l.levels + 3

abbrev pub decreases-read_whole : goal.decreases-read_whole
decreases-read_whole l = 6 * l.levels + 3

abbrev pub decreases-read_each : goal.decreases-read_each
decreases-read_each l = 6 * l.levels + 2

abbrev pub decreases-read_members : goal.decreases-read_members
decreases-read_members l = 6 * l.levels + 2

abbrev pub decreases-read_pairs : goal.decreases-read_pairs
decreases-read_pairs l = 6 * l.levels + 2

abbrev pub decreases-read_pair : goal.decreases-read_pair
decreases-read_pair l = 6 * l.levels + 1

-- the values so far, and those that are still read
abbrev pub invariant-read_each-loop-item : goal.invariant-read_each-loop-item
invariant-read_each-loop-item l =
    option_map (join (view_all l.values)) (each_of (value_levels l.schema l.levels l.kind) (items_view (drop l.item-index l.items)))
    ≡ each_of (value_levels l.schema l.levels l.kind) (items_view l.items)

abbrev pub invariant-read_members-loop-member : goal.invariant-read_members-loop-member
invariant-read_members-loop-member l =
    option_map (join (view_all l.values)) (members_of (value_levels l.schema l.levels) (drop l.member-index l.members) (members_view l.found.entries.now))
    ≡ members_of (value_levels l.schema l.levels) l.members (members_view l.found.entries.now)

-- the pairs so far, and those that are still read
abbrev pub invariant-read_pairs-loop-item : goal.invariant-read_pairs-loop-item
invariant-read_pairs-loop-item l =
    pairs_of (value_levels l.schema l.levels l.decl.key) (value_levels l.schema l.levels l.decl.value) (view_pairs l.pairs.entries) (items_view (drop l.item-index l.items))
    ≡ pairs_of (value_levels l.schema l.levels l.decl.key) (value_levels l.schema l.levels l.decl.value) no_entry (items_view l.items)
