use Rattle.std.proofs.lemmas.Result.{err_from_is_err_and}
use Rattle.locator.proofs.Questions.{follows_second, failed_second}
use Rattle.locator.proofs.asking.find_behind.Goals as goal

pub returns-in_err-told-clause-told : goal.returns-in_err-told-clause-told
returns-in_err-told-clause-told g c =
    let failed = err_from_is_err_and c.from_residual.result c.from_residual.ensures.1 in
    let one = c.in_err-told.ensures.told in
    rw failed.1 (one.0, one.1, one.2)

pub returns-clause-told : goal.returns-clause-told
returns-clause-told g c =
    let one = c.in_ok-told.ensures.told in
    (one.0, one.1, follows_second c.args.locator.now c.args.retries c.args.id one.0 c.in_ok-told.told c.settled.result one.2 c.settled.ensures)

pub returns-clause-fails : goal.returns-clause-fails
returns-clause-fails g c = λ failed. c.in_ok-told.ensures.fails (failed_second c.in_ok-told.told c.settled.result c.settled.ensures failed)
