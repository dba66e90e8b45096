use Rattle.std.proofs.Common.{◌+◌, ◌*◌}
use Rattle.json.specs.Written.{Written}
use Rattle.graph_arena.specs.View.{view_all, view_pairs}
use Rattle.graph_json.specs.CanonicalValues.{each_noted, notation_levels, pairs_noted}
use Rattle.graph_json.specs.Printing.{PrintsMembers, row_noted}
use Rattle.graph_json.proofs.Printing.{IsLeft}
use Rattle.graph_json.proofs.write.+notes.Given as goal

abbrev pub decreases-write_level : goal.decreases-write_level
decreases-write_level l = 4 * l.levels

abbrev pub decreases-write_parts : goal.decreases-write_parts
decreases-write_parts l = 4 * l.levels + 3

abbrev pub decreases-write_sequence : goal.decreases-write_sequence
decreases-write_sequence l = 4 * l.levels + 2

abbrev pub decreases-write_dictionary : goal.decreases-write_dictionary
decreases-write_dictionary l = 4 * l.levels + 2

abbrev pub decreases-write_struct : goal.decreases-write_struct
decreases-write_struct l = 4 * l.levels + 2

abbrev pub decreases-write_each : goal.decreases-write_each
decreases-write_each l = 4 * l.levels + 1

abbrev pub decreases-write_pairs : goal.decreases-write_pairs
decreases-write_pairs l = 4 * l.levels + 1

abbrev pub decreases-write_row : goal.decreases-write_row
decreases-write_row l = 4 * l.levels + 1

abbrev pub invariant-write_each-loop-value : goal.invariant-write_each-loop-value
invariant-write_each-loop-value l = IsLeft (λ vs. each_noted (notation_levels l.schema l.levels l.kind) (view_all vs)) l.values l.value-index l.initial.out l.out

abbrev pub invariant-write_pairs-loop-key : goal.invariant-write_pairs-loop-key
invariant-write_pairs-loop-key l =
    IsLeft (λ ps. pairs_noted (notation_levels l.schema l.levels l.decl.key) (notation_levels l.schema l.levels l.decl.value) (view_pairs ps)) l.pairs l.key-index l.initial.out l.out

abbrev pub invariant-write_row-loop-name : goal.invariant-write_row-loop-name
invariant-write_row-loop-name l = (end : Written) → PrintsMembers (row_noted (notation_levels l.schema l.levels) l.name-iterator) l.out end → PrintsMembers (row_noted (notation_levels l.schema l.levels) l.row.entries) l.initial.out end
