use Rattle.ice_proxy.proofs.Digits.{parts_found, no_parts}
use Rattle.ice_proxy.proofs.numbers.parted.Goals as goal

pub returns-in-Some : goal.returns-in-Some
returns-in-Some c = parts_found c.args.word.now c.in-Some.at c.in-Some.ensures

pub returns-in-None : goal.returns-in-None
returns-in-None c = no_parts c.args.word.now c.in-None.ensures
