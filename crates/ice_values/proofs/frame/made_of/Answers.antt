use Rattle.std.proofs.Common.{◌≡◌, sym, ap, ◌∙◌}
use Rattle.graph_arena.specs.View.{view, view_all}
use Rattle.ice_values.proofs.Frames.{view_all-push, last-add}
use Rattle.ice_values.proofs.frame.made_of.Goals as goal

pub returns-in-Some : goal.returns-in-Some
returns-in-Some c =
    let is : view_all c.args.parts ≡ _ = ap view_all c.in-Some.ensures ∙ view_all-push c.pop.new.self c.in-Some.value in
    rw (c.in-Whole.is, is) (sym (last-add (view_all c.pop.new.self) (view c.in-Some.value)))
