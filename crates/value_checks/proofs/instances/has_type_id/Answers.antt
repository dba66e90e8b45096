use Rattle.std.proofs.Common.{◌↔◌, IsTrue, not, ap, sym, subst, ◌∙◌}
use Rattle.ice_encoding.specs.UserExceptionTyped.{HasTypeId}
use Rattle.graph_arena.specs.declared.instance.Slice.{Slice}
use Rattle.graph_arena.specs.declared.instance.UnknownSlice.{UnknownSlice}
use Rattle.graph_arena.specs.Seen.{view_slice}
use Rattle.value_checks.proofs.Sliced.{plain_told}
use Rattle.value_checks.proofs.instances.has_type_id.Goals as goal

pub returns-in-Unknown : goal.returns-in-Unknown
returns-in-Unknown c = subst (λ (s : Slice). IsTrue (not c.is_numbered.result) ↔ HasTypeId (view_slice s)) (sym c.in-Unknown.is) (plain_told c.in-Unknown.kept.value.id c.as_str.result.now c.is_numbered.result (c.as_str.ensures ∙ ap (λ (kept : UnknownSlice). kept.id) c.deref.ensures) c.is_numbered.ensures)
