use Rattle.std.proofs.lemmas.Result.{err_from_is_err_and}
use Rattle.locator.proofs.Questions.{asks_of, asks_nothing, failed_put, failed_told}
use Rattle.locator.proofs.asking.ask.Goals as goal

pub returns-in_err-invoked-clause-told : goal.returns-in_err-invoked-clause-told
returns-in_err-invoked-clause-told g c =
    let failed = err_from_is_err_and c.from_residual.result c.from_residual.ensures.1 in
    let told = c.in_err-invoked.ensures.told in
    rw failed.1 (told.0, told.1, told.2)

pub returns-in-Some-clause-told : goal.returns-in-Some-clause-told
returns-in-Some-clause-told g c =
    let told = c.in_ok-invoked.ensures.told in
    (told.0, told.1, asks_of c.args.locator.now c.args.retries c.args.key.now told.0 _ c.in-Some.invoked c.tell.result c.in-Some.is told.2 c.tell.ensures)

pub returns-in-Some-clause-fails : goal.returns-in-Some-clause-fails
returns-in-Some-clause-fails g c = failed_told _ c.in-Some.invoked c.tell.result c.tell.ensures (failed_put _ _ c.in-Some.invoked c.in-Some.is c.in_ok-invoked.ensures.fails)

pub returns-in-None-clause-told : goal.returns-in-None-clause-told
returns-in-None-clause-told g c =
    let told = c.in_ok-invoked.ensures.told in
    (told.0, told.1, asks_nothing c.args.locator.now c.args.retries c.args.key.now told.0 _ c.in-None.is told.2)
