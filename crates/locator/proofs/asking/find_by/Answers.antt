use Rattle.std.proofs.Common.{◌++◌, sym}
use Rattle.std.proofs.lemmas.Result.{err_from_is_err_and}
use Rattle.locator.proofs.Made.{made_then}
use Rattle.locator.proofs.Questions.{finds_once, finds_both, found_behind, failed_first}
use Rattle.locator.proofs.asking.find_by.Goals as goal

pub returns-in_err-told-clause-told : goal.returns-in_err-told-clause-told
returns-in_err-told-clause-told g c =
    let failed = err_from_is_err_and c.from_residual.result c.from_residual.ensures.1 in
    let one = c.in_err-told.ensures.told in
    rw failed.1 (one.0, one.1, one.2)

pub returns-in-Ask-clause-told : goal.returns-in-Ask-clause-told
returns-in-Ask-clause-told g c =
    let one = c.in_ok-told.ensures.told in
    let two = c.find_behind.ensures.told in (
      one.0 ++ two.0,
      made_then one.0 two.0 _ _ _ _ _ _ one.1 two.1,
      finds_both c.args.locator.now c.args.retries c.args.key.now one.0 two.0 c.in-Ask.id c.in_ok-told.told c.find_behind.result one.2 (sym c.in-Ask.ensures) two.2,
    )

pub returns-in-Ask-clause-fails : goal.returns-in-Ask-clause-fails
returns-in-Ask-clause-fails g c =
    let one = c.in_ok-told.ensures.told in
    found_behind one.0 _ _ _ _ _ c.find_behind.result one.1 c.find_behind.ensures.fails

pub returns-in-Over-clause-told : goal.returns-in-Over-clause-told
returns-in-Over-clause-told g c =
    let one = c.in_ok-told.ensures.told in
    (one.0, one.1, finds_once c.args.locator.now c.args.retries c.args.key.now one.0 c.in_ok-told.told c.in-Over.found one.2 (sym c.in-Over.ensures))

pub returns-in-Over-clause-fails : goal.returns-in-Over-clause-fails
returns-in-Over-clause-fails g c = λ failed. c.in_ok-told.ensures.fails (failed_first c.args.key.now c.in_ok-told.told c.in-Over.found (sym c.in-Over.ensures) failed)
