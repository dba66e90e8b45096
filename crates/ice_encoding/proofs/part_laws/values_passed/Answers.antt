use Rattle.ice_encoding.proofs.Passed.{passed_found, passed_only}
use Rattle.ice_encoding.proofs.part_laws.values_passed.Goals as goal

pub returns-clause-found : goal.returns-clause-found
returns-clause-found c = passed_found

pub returns-clause-only : goal.returns-clause-only
returns-clause-only c = passed_only
