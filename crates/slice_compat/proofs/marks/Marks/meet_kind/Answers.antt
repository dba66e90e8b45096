use Rattle.std.proofs.Common.{sym, ◌∙◌}
use Rattle.std.proofs.lemmas.Result.{on_ok_weaker}
use Rattle.slice_compat.proofs.Stepping.{kind_met, no_node}
use Rattle.slice_compat.proofs.marks.Marks.meet_kind.Goals as goal

pub returns-in-Some : goal.returns-in-Some
returns-in-Some c = on_ok_weaker c.meet.result (λ met. kind_met c.args.kind c.in-Some.node c.args.self.now c.meet.new.self (sym c.of.ensures ∙ c.in-Some.is) met) c.meet.ensures

pub returns-in-None : goal.returns-in-None
returns-in-None c = no_node c.args.kind c.args.self.now (sym c.of.ensures ∙ c.in-None.is)
