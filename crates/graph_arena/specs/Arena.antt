-- Graphs by place: what each keeps, and what changes one.
use Rattle.std.specs.Prelude.{ℕ, ◌<◌, ◌≤◌, List, [], ◌∷◌, ◌++◌, length}
use Rattle.ice_encoding.specs.Tree.{InEach, none}
use Rattle.ice_encoding.specs.Order.{KeysRise, IsOrdered}
use Rattle.ice_encoding.specs.Optionals.{Present}
use Rattle.ice_encoding.specs.OptionalMembers.{Members}
use Rattle.ice_encoding.specs.Graph.{Slice, known, unknown, Graph}
use Rattle.ice_encoding.specs.Names.{names_of, instance_names}
use Rattle.ice_encoding.specs.References.{replaced}
use Rattle.ice_encoding.specs.Visiting.{most}

-- each name is below the limit
abbrev pub AreBelow : ℕ → List ℕ → Type 0
AreBelow limit [] = Unit {0}
AreBelow limit (n ∷ ns) = (n < limit) × AreBelow limit ns

-- each dictionary in them stands in rising key order
abbrev pub AreOrdered : Present → Type 0
AreOrdered [] = Unit {0}
AreOrdered (o ∷ os) = IsOrdered o.1 × AreOrdered os

-- each dictionary in the members has its keys in rising order
abbrev pub HasOrder : Members → Type 0
HasOrder c = InEach KeysRise c.required × AreOrdered c.optional

abbrev pub SliceHasOrder : Slice → Type 0
SliceHasOrder (known class content) = HasOrder content
SliceHasOrder (unknown id bytes optionals table) = Unit {0}

abbrev pub HaveOrder : List Slice → Type 0
HaveOrder [] = Unit {0}
HaveOrder (s ∷ ss) = SliceHasOrder s × HaveOrder ss

-- members of a graph of so many instances
pub record ContentFits (count : ℕ) (c : Members) : Type 0 where
  pub names : AreBelow count (names_of c)
  pub order : HasOrder c

-- an instance of such a graph
pub record InstanceFits (count : ℕ) (slices : List Slice) : Type 0 where
  pub names : AreBelow count (instance_names slices)
  pub order : HaveOrder slices

abbrev pub EachFits : ℕ → List (List Slice) → Type 0
EachFits count [] = Unit {0}
EachFits count (i ∷ is) = InstanceFits count i × EachFits count is

-- what every graph keeps: each name is the place of an instance, and dictionaries stand in order
pub record IsSound (g : Graph) : Type 0 where
  pub few : length g.instances ≤ most
  pub roots : ContentFits (length g.instances) g.roots
  pub instances : EachFits (length g.instances) g.instances

-- no instances and no members
abbrev pub no_graph : Graph
no_graph = record { roots = record { required = none; optional = [] }; instances = [] }

-- with one more, which has no slices
abbrev pub with_reserved : Graph → Graph
with_reserved g = record { roots = g.roots; instances = g.instances ++ [] ∷ [] }

-- with these slices at a place
abbrev pub with_filled : ℕ → List Slice → Graph → Graph
with_filled at slices g = record { roots = g.roots; instances = replaced at slices g.instances }

-- with other roots
abbrev pub with_roots : Members → Graph → Graph
with_roots roots g = record { roots = roots; instances = g.instances }
