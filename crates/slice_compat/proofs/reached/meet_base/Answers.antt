use Rattle.std.proofs.Common.{ℕ, Option, OnOk, sym, subst}
use Rattle.std.proofs.lemmas.Result.{on_ok_weaker}
use Rattle.slice_compat.specs.Nodes.{IsBase}
use Rattle.slice_compat.specs.Marks.{Spreads}
use Rattle.slice_compat.proofs.Stepping.{base_met, no_base}
use Rattle.slice_compat.proofs.reached.meet_base.Goals as goal

pub returns-in-Some : goal.returns-in-Some
returns-in-Some c = subst (λ (base : Option ℕ). OnOk c.meet.result (Spreads (IsBase base) c.args.marks.now c.meet.new.self)) (sym c.in-Some.is)
    (on_ok_weaker c.meet.result (λ met. base_met c.in-Some.at c.args.marks.now c.meet.new.self met) c.meet.ensures)

pub returns-in-None : goal.returns-in-None
returns-in-None c = subst (λ (base : Option ℕ). Spreads (IsBase base) c.args.marks.now c.args.marks.now) (sym c.in-None.is) (no_base c.args.marks.now)
