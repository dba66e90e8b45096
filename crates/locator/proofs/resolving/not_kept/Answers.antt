use Rattle.std.proofs.Common.{[], refl}
use Rattle.locator.proofs.Made.{made_nothing}
use Rattle.locator.proofs.resolving.not_kept.Goals as goal

pub returns-in-Some-clause-told : goal.returns-in-Some-clause-told
returns-in-Some-clause-told g c =
    let told = c.look_up.ensures.told in
    rw c.in-Some.is (told.0, told.1, told.2)

pub returns-in-None-clause-told : goal.returns-in-None-clause-told
returns-in-None-clause-told g c = rw c.in-None.is ([], made_nothing (g.N.Net.told c.args.net.now) (g.N.Net.failures c.args.net.now), (refl, refl, refl))
