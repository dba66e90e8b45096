-- Encapsulations in which each class instance is sized. (Ice manual, "Data Encoding for Class and Exception Types".)
use Rattle.std.specs.Prelude.{ℕ, zero, suc, ◌≡◌, Bool, true, false, List, [], ◌∷◌}
use Rattle.ice_types.specs.declared.declarations.Shape.{Shape}
use Rattle.ice_types.specs.Tables.{Tables}
use Rattle.ice_encoding.specs.Port.{Port, nowhere}
use Rattle.ice_encoding.specs.Encapsulation.{Encapsulated}
use Rattle.ice_encoding.specs.OptionalMembers.{SpellsContent}
use Rattle.ice_encoding.specs.Graph.{Graph}
use Rattle.ice_encoding.specs.Flags.{flags_of, all_slices}
use Rattle.ice_encoding.specs.References.{State, opening, inline}
use Rattle.ice_encoding.specs.Slices.{SpellsInstance, instance_at}
use Rattle.ice_encoding.specs.Instances.{most_instances, AllFit}
use Rattle.ice_encoding.specs.SameGraph.{Same}

-- The flag of the size stands in the first byte of an instance, and then in each of its slices.
abbrev pub starts_sized : List ℕ → Bool
starts_sized [] = false
starts_sized (b ∷ bytes) = (flags_of b).has_size

-- so many instances may still begin, one inside the other, each of them sized
abbrev pub sized_instances : Tables → ℕ → ℕ → Port (State ℕ) (State (Unit {0}))
sized_instances t limit zero = inline limit (λ s r. nowhere r) (λ bytes slices from to. ⊥)
sized_instances t limit (suc more) = inline limit (instance_at (sized_instances t limit more).read t all_slices)
    (λ bytes slices from to. (starts_sized bytes ≡ true) × SpellsInstance (sized_instances t limit more) t all_slices bytes slices from to)

-- the members of a content and the instances that begin in it, all of them sized
unfoldable pub SpellsSizedGraph : Tables → Shape → List ℕ → Graph → Type 0
SpellsSizedGraph t shape bytes g = (end : State (Unit {0}))
    × SpellsContent (sized_instances t most_instances most_instances) t shape bytes g.roots opening end
    × (end.instances ≡ g.instances) × AllFit t end.instances end.met

-- an encapsulation that holds the graph alone
abbrev pub SpellsSizedNumbered : Tables → Shape → List ℕ → Graph → Type 0
SpellsSizedNumbered t shape = Encapsulated (SpellsSizedGraph t shape)

-- the bytes are an encapsulation of a graph that is the same, and each instance in them is sized
abbrev pub SpellsSized : Tables → Shape → List ℕ → Graph → Type 0
SpellsSized t shape bytes g = (k : Graph) × SpellsSizedNumbered t shape bytes k × Same k g
