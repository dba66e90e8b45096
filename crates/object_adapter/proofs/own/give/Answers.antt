use Rattle.std.proofs.Common.{List, ℕ, subst}
use Rattle.object_adapter.specs.Refusals.{Outcome}
use Rattle.object_adapter.specs.Admitting.{IsEnclosed, IsRefusedLength}
use Rattle.object_adapter.proofs.OwnGiven.{own_enclosed}
use Rattle.object_adapter.proofs.own.give.Goals as goal

pub returns : goal.returns
returns c =
    own_enclosed c.args.schema.now c.args.interface c.args.own c.args.arguments.now c.in_ok-content.content.items c.enclose.result c.in_ok-content.ensures
    (subst (λ (content : List ℕ). Outcome (IsEnclosed content) (IsRefusedLength content) c.enclose.result) c.as_slice.ensures.value c.enclose.ensures)
