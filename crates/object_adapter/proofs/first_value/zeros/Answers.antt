use Rattle.std.proofs.Common.{List, [], ◌∷◌, ◌++◌, ap, ◌∙◌}
use Rattle.graph_arena.specs.declared.value.Value.{Value}
use Rattle.object_adapter.proofs.Zeros.{zeros_held}
use Rattle.object_adapter.proofs.first_value.zeros.Goals as goal

pub of-requires : goal.of-requires
of-requires c =
    zeros_held c.args.schema.now c.args.kind c.push.new.self c.new.result c.new-in-Ok.result.items c.in_ok-value.value
    (c.in-Ok.ensures.ok ∙ ap (λ (vs : List Value). vs ++ c.in_ok-value.value ∷ []) c.new-required.ensures)
    c.new.ensures c.new-in-Ok.ensures.items c.in_ok-value.ensures (c.zeros_have_types.ensures.inside c.args.schema.now c.args.kind [] c.rules.ensures c.requires)
