use Rattle.std.proofs.lemmas.Result.{err_from_is_err_and}
use Rattle.ice_messages.proofs.Nexts.{size_bad, is_counted}
use Rattle.ice_messages.proofs.next.is_counted.Goals as goal

pub returns-in_err-size : goal.returns-in_err-size
returns-in_err-size c =
    let p = err_from_is_err_and c.from_residual.result c.from_residual.ensures.1 in
    rw (p.1, p.2) (size_bad c.args.bytes.now c.requires c.in_err-size.field-0.0 c.in_err-size.ensures)

pub returns : goal.returns
returns c = is_counted c.args.bytes.now c.requires c.in_ok-size.size c.in_ok-size.ensures
