use Rattle.slice_meaning.proofs.Files.{checked_means, checked_breaks}
use Rattle.slice_meaning.proofs.laws.answer_is_checked.Goals as goal

pub returns-clause-means : goal.returns-clause-means
returns-clause-means c = checked_means

pub returns-clause-breaks : goal.returns-clause-breaks
returns-clause-breaks c = checked_breaks
