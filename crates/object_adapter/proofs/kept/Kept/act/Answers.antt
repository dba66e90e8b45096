use Rattle.object_adapter.specs.Arguments.{sole_number}
use Rattle.object_adapter.proofs.Sole.{number_there}
use Rattle.object_adapter.proofs.kept.Kept.act.Goals as goal

pub returns-in_ok-add-in-Add-clause-does : goal.returns-in_ok-add-in-Add-clause-does
returns-in_ok-add-in-Add-clause-does c =
    rw c.in-Add.is (
      sole_number c.args.arguments.roots.required,
      number_there c.args.schema.now c.args.shape.now c.args.arguments c.requires.typed (c.requires.number c.in-Add.is),
      c.in_ok-add-in-Add.ensures.ok,
      c.in_ok-add-in-Add.ensures.added,
    )
