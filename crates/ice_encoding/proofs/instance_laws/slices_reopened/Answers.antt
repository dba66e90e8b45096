use Rattle.ice_encoding.proofs.Reopening.{reopened_found, reopened_only}
use Rattle.ice_encoding.proofs.instance_laws.slices_reopened.Goals as goal

pub returns-clause-found : goal.returns-clause-found
returns-clause-found c = reopened_found

pub returns-clause-only : goal.returns-clause-only
returns-clause-only c = reopened_only
