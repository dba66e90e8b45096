use Rattle.std.proofs.Common.{◌≡◌, ℕ, ◌∙◌, ◌++◌, List, ap}
use Rattle.ice_encoding.specs.Names.{instance_names}
use Rattle.ice_encoding.specs.OptionalMembers.{with_optional}
use Rattle.ice_encoding.specs.UserExceptionWritten.{references_to}
use Rattle.graph_arena.specs.Seen.{view_present, view_slices}
use Rattle.class_slices.proofs.naming.roots_of.Goals as goal

pub returns : goal.returns
returns c =
    let names = instance_names (view_slices c.args.slices.now) in
    let named : c.as_slice.result.now ≡ names = c.as_slice.ensures ∙ (c.in_ok-push_slices.ensures ∙ ap (λ (l : List ℕ). l ++ names) c.new-names.ensures) in
    λ i. with_optional ((c.in_ok-references.ensures ∙ ap references_to named) i) (view_present (c.new.ensures i))
