-- What JSON lists, without where it lies in memory, and the graph that it is.
use Rattle.std.specs.Prelude.{ℕ, ◌≡◌, ◌≤◌, List, [], ◌∷◌, length, map, Option, None, Some}
use Rattle.ice_encoding.specs.OptionalMembers.{Members}
use Rattle.ice_encoding.specs.Graph.{Slice, known, unknown, Graph}
use Rattle.ice_encoding.specs.Names.{instance_names}
use Rattle.ice_encoding.specs.Visiting.{most}
use Rattle.graph_arena.specs.Seen.{view_content, view_instance}
use Rattle.graph_arena.specs.Arena.{AreBelow, HasOrder, HaveOrder, IsSound}
use Rattle.graph_json.specs.declared.listing.Listed.{Listed}

abbrev pub view_listed : Listed → Graph
view_listed l = record { roots = view_content l.roots; instances = map view_instance l.instances.items }

-- each name in the instances is that of one of so many
abbrev pub AreNamed : ℕ → List (List Slice) → Type 0
AreNamed count [] = Unit {0}
AreNamed count (i ∷ is) = AreBelow count (instance_names i) × AreNamed count is

-- dictionaries stand in order in each of them
abbrev pub AllHaveOrder : List (List Slice) → Type 0
AllHaveOrder [] = Unit {0}
AllHaveOrder (i ∷ is) = HaveOrder i × AllHaveOrder is

-- not too many instances, and dictionaries in order, so that names alone may be wrong
pub record CanBeNamed (g : Graph) : Type 0 where
  pub few : length g.instances ≤ most
  pub roots : HasOrder g.roots
  pub instances : AllHaveOrder g.instances

-- the graph itself, or a name in it is that of no instance
abbrev pub Names : Graph → Option Graph → Type 0
Names g (Some named) = named ≡ g
Names g None = IsSound g → ⊥

-- the members of a known slice
abbrev pub MembersOf : Slice → Option Members → Type 0
MembersOf (known class content) o = o ≡ Some content
MembersOf (unknown id bytes optionals table) o = o ≡ None
