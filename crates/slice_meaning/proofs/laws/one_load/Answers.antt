use Rattle.slice_meaning.proofs.Loads.{load_or_break, one_meaning, one_break, never_both}
use Rattle.slice_meaning.proofs.laws.one_load.Goals as goal

pub returns-clause-either : goal.returns-clause-either
returns-clause-either c = load_or_break

pub returns-clause-one_meaning : goal.returns-clause-one_meaning
returns-clause-one_meaning c = one_meaning

pub returns-clause-one_break : goal.returns-clause-one_break
returns-clause-one_break c = one_break

pub returns-clause-never_both : goal.returns-clause-never_both
returns-clause-never_both c = never_both
