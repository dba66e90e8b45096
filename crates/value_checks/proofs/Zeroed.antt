-- The value of zeros, as it is made.
use Rattle.std.proofs.Common.{◌≡◌, ℕ, zero, suc, List, map, sym, ap, ◌∙◌, arith, None}
use Rattle.std.specs.Prelude.{slice_get}
use Rattle.ice_types.specs.declared.kind.TypeRef.{TypeRef}
use Rattle.ice_types.specs.declared.kind.TypeRef.TheVariants as kinds
use Rattle.ice_types.specs.declared.declarations.Member.{Member}
use Rattle.ice_types.specs.Tables.{Tables}
use Rattle.ice_encoding.specs.Tree.{Tree, struct}
use Rattle.graph_arena.specs.declared.value.Value.{Value}
use Rattle.graph_arena.specs.declared.value.Value.TheVariants as variants
use Rattle.graph_arena.specs.declared.value.Value.TheVariants.{rolls-Reference}
use Rattle.graph_arena.specs.declared.value.Value.TheFolds.{fold-roll-Value}
use Rattle.graph_arena.specs.declared.value.Value.TheOpen.{Value-F}
use Rattle.graph_arena.specs.View.{trees_of, view, view_step}
use Rattle.graph_arena.proofs.Shapes.{view_members}
use Rattle.value_checks.specs.Zeros.{members_in, zero_of}

pub zero_struct : (t : Tables) (levels at : ℕ) (members : List Member) (values : List Value) → members ≡ members_in (slice_get t.structs at)
    → map view values ≡ map (λ m. zero_of t levels m.kind) members → view (variants.Members values) ≡ zero_of t (suc levels) (kinds.Struct at)
unfolding zero_of
zero_struct t levels at members values same all =
    view_members values ∙ ap (λ (l : List Tree). struct (trees_of l)) (all ∙ ap (λ (ms : List Member). map (λ m. zero_of t levels m.kind) ms) same)

-- no type nests less than one level
pub zero_nowhere : (t : Tables) (levels : ℕ) (kind : TypeRef) → levels ≡ 0 → view (variants.Reference None) ≡ zero_of t levels kind
unfolding zero_of
zero_nowhere t zero kind e = ap view (sym (rolls-Reference None)) ∙ fold-roll-Value Tree view_step (Value-F.Reference None)
zero_nowhere t (suc levels) kind e = absurd (omega (arith, e))
