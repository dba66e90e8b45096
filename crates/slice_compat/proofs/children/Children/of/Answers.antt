use Rattle.std.proofs.Common.{ℕ, ◌≡◌, ◌<◌, ◌∙◌, sym, subst, List, Some, length}
use Rattle.ice_types.specs.declared.declarations.ClassDecl.{ClassDecl}
use Rattle.ice_types.specs.Inherited.{base_in}
use Rattle.slice_compat.proofs.Reaching.{base_within}
use Rattle.slice_compat.proofs.children.Children.of.Goals as goal

pub add-requires-clause-base : goal.add-requires-clause-base
add-requires-clause-base c =
    subst (λ (rows : List ClassDecl). (base : ℕ) → base_in rows c.loop-at.at ≡ Some base → base < length rows) (sym (c.as_slice-classes.ensures ∙ c.classes.ensures))
    (λ base e. base_within c.args.schema.now c.rules.ensures c.loop-at.at base e)
