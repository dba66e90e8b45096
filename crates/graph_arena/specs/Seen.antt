-- Members, slices and instances without where they lie in memory.
use Rattle.std.specs.Prelude.{ℕ, List, map}
use Rattle.ice_encoding.specs.Tree.{Tree}
use Rattle.ice_encoding.specs.OptionalMembers as members
use Rattle.ice_encoding.specs.Optionals.{Present}
use Rattle.ice_encoding.specs.Graph.{known, unknown}
use Rattle.ice_encoding.specs.Graph as graphs
use Rattle.graph_arena.specs.declared.value.Value.{Value}
use Rattle.graph_arena.specs.declared.instance.Members.{Members}
use Rattle.graph_arena.specs.declared.instance.Slice.{Slice}
use Rattle.graph_arena.specs.declared.instance.Slice.TheVariants.{Known, Unknown}
use Rattle.graph_arena.specs.declared.instance.Instance.{Instance}
use Rattle.graph_arena.specs.View.{view, view_all}

abbrev pub view_option : ℕ × Value → ℕ × Tree
view_option option = (option.0, view option.1)

abbrev pub view_present : List (ℕ × Value) → Present
view_present options = map view_option options

-- members, without where they lie in memory
abbrev pub view_content : Members → members.Members
view_content c = members.with_optional (view_all c.required) (view_present c.optional)

-- so a slice
abbrev pub view_slice : Slice → graphs.Slice
view_slice (Known class content) = known class (view_content content)
view_slice (Unknown kept) = unknown kept.value.id kept.value.bytes kept.value.optionals kept.value.table

abbrev pub view_slices : List Slice → List graphs.Slice
view_slices slices = map view_slice slices

-- so an instance
abbrev pub view_instance : Instance → List graphs.Slice
view_instance i = view_slices i.slices
