use Rattle.std.proofs.Common.{[]}
use Rattle.std.proofs.lemmas.Result.{err_from_is_err_and}
use Rattle.locator.proofs.Made.{made_nothing}
use Rattle.locator.proofs.asking.find.Goals as goal

pub returns-in_err-schema-clause-told : goal.returns-in_err-schema-clause-told
returns-in_err-schema-clause-told g c =
    let failed = err_from_is_err_and c.from_residual.result c.from_residual.ensures.1 in
    rw failed.1 ([], made_nothing (g.N.Net.told c.args.net.now) (g.N.Net.failures c.args.net.now), tt)
