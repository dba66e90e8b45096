use Rattle.value_writing.proofs.SortedKeys.{same_sorted}
use Rattle.value_writing.proofs.SortedLaws.{sorted_is}
use Rattle.value_writing.proofs.laws.sorting_keeps_the_value.Goals as goal

pub returns-clause-same : goal.returns-clause-same
returns-clause-same c = same_sorted

pub returns-clause-ordered : goal.returns-clause-ordered
returns-clause-ordered c = sorted_is
