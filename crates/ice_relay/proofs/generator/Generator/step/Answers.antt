use Rattle.std.proofs.Common.{refl}
use Rattle.ice_relay.proofs.generator.Generator.step.Goals as goal

pub returns-clause-answer : goal.returns-clause-answer
returns-clause-answer c = refl

pub returns-clause-number : goal.returns-clause-number
returns-clause-number c = refl
