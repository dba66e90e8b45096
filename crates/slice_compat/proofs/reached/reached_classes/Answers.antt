use Rattle.slice_compat.proofs.Searching.{begins, all_found}
use Rattle.slice_compat.proofs.reached.reached_classes.Goals as goal

pub go_through-requires-clause-start : goal.go_through-requires-clause-start
go_through-requires-clause-start c =
    begins c.args.schema.now c.rules.ensures c.args.kind c.in_ok-marks.marks c.in_ok-marks.ensures c.meet_kind.new.self c.in_ok-meet_kind.ensures

pub returns : goal.returns
returns c = all_found c.args.schema.now c.rules.ensures c.args.kind c.go_through.new.marks c.in_ok-go_through.ensures.way c.in_ok-go_through.ensures.all
