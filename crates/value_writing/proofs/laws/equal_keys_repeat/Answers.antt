use Rattle.value_writing.proofs.SortedKeys.{repeats}
use Rattle.value_writing.proofs.laws.equal_keys_repeat.Goals as goal

pub returns : goal.returns
returns c = repeats
