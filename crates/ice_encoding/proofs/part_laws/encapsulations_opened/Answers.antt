use Rattle.ice_encoding.proofs.Opened.{opened_found, opened_only}
use Rattle.ice_encoding.proofs.part_laws.encapsulations_opened.Goals as goal

pub returns-clause-found : goal.returns-clause-found
returns-clause-found c r x fits e = let h = opened_found r x fits e in (h.taken, h.place, h.large)

pub returns-clause-only : goal.returns-clause-only
returns-clause-only c = opened_only
