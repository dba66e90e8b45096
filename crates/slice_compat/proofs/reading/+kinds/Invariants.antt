use Rattle.std.proofs.Common.{drop, ◌+◌, ◌*◌}
use Rattle.std.specs.Prelude.{◌↔◌}
use Rattle.slice_compat.specs.Answers.{AreAnswers}
use Rattle.slice_compat.specs.Reading.{ReadsMembers, ReadsWithin}
use Rattle.slice_compat.proofs.reading.+kinds.Given as goal

abbrev pub decreases-reads_within : goal.decreases-reads_within
decreases-reads_within l = 5 * l.levels

abbrev pub decreases-reads_parts : goal.decreases-reads_parts
decreases-reads_parts l = 5 * l.levels + 4

abbrev pub decreases-reads_seq : goal.decreases-reads_seq
decreases-reads_seq l = 5 * l.levels + 3

abbrev pub decreases-reads_dict : goal.decreases-reads_dict
decreases-reads_dict l = 5 * l.levels + 3

abbrev pub decreases-reads_struct : goal.decreases-reads_struct
decreases-reads_struct l = 5 * l.levels + 3

abbrev pub decreases-compares_structs : goal.decreases-compares_structs
decreases-compares_structs l = 5 * l.levels + 2

abbrev pub decreases-read_members : goal.decreases-read_members
decreases-read_members l = 5 * l.levels + 1

-- those that are left decide
abbrev pub invariant-read_members-loop-at : goal.invariant-read_members-loop-at
invariant-read_members-loop-at l = record {
  decides : ReadsMembers l.old l.new (ReadsWithin l.old l.new l.levels) (drop l.at l.own) (drop l.at l.members) ↔ ReadsMembers l.old l.new (ReadsWithin l.old l.new l.levels) l.own l.members;
  answers : AreAnswers l.old l.new l.answers;
}
