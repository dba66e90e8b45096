use Rattle.std.proofs.Common.{◌∙◌}
use Rattle.ice_encoding.proofs.Times.{some_left}
use Rattle.encaps_optionals.proofs.ending.end.Goals as goal

pub returns-else-left-eq0 : goal.returns-else-left-eq0
returns-else-left-eq0 c =
    let some = some_left c.args.cursor.now.bytes c.args.cursor.now.place (λ none. c.if-left-eq0.false (c.left.ensures ∙ none)) in
    (some.0, some.1, some.2, c.fault.ensures)
