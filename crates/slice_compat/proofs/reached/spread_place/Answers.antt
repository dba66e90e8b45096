use Rattle.std.proofs.lemmas.Result.{on_ok_weaker}
use Rattle.slice_compat.proofs.Stepping.{place_met}
use Rattle.slice_compat.proofs.reached.spread_place.Goals as goal

pub returns : goal.returns
returns c = on_ok_weaker c.meet_children.result
    (λ met. place_met c.args.schema.now c.args.at c.args.marks.now c.meet.new.self c.meet_children.new.marks c.in_ok-meet.ensures met)
    c.meet_children.ensures
