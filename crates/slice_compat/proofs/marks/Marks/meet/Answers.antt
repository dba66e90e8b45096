use Rattle.std.proofs.Common.{◌≡◌, true, sym, ◌∙◌, subst}
use Rattle.slice_compat.specs.Marks.{is_done}
use Rattle.slice_compat.specs.declared.node.Node.{Node}
use Rattle.slice_compat.proofs.Spreading.{nothing_met, met_put}
use Rattle.slice_compat.proofs.marks.Marks.meet.Goals as goal

pub returns-then-is_done : goal.returns-then-is_done
returns-then-is_done c = nothing_met (λ (n : Node). n ≡ c.args.node) c.args.self.now
    (λ n is. subst (λ (k : Node). is_done c.args.self.now k ≡ true) (sym is) (sym c.is_done.ensures ∙ c.if-is_done.true))

pub returns : goal.returns
returns c = met_put c.args.node c.args.self.now c.set.new.self c.push.new.self c.set.ensures c.in_ok-push.ensures.items
