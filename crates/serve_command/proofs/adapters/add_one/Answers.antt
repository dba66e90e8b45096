use Rattle.serve_command.proofs.Adding.{adds_object}
use Rattle.std.proofs.Common.{List, ℕ, subst}
use Rattle.object_adapter.specs.Adapters.{Adds}
use Rattle.serve_command.proofs.adapters.add_one.Goals as goal

pub returns-in-Ok-clause-ok : goal.returns-in-Ok-clause-ok
returns-in-Ok-clause-ok c =
    adds_object c.added.result c.add.result c.args.text.now c.in-Ok.identity c.args.servant c.args.adapter.now c.add.new.self c.in-Ok.ensures.ok.0
    (subst (λ (z : List ℕ). Adds c.args.adapter.now (c.in-Ok.identity, z) c.args.servant c.add.result c.add.new.self) c.in-Ok.ensures.ok.1 c.add.ensures.adds) c.added.ensures.ok
