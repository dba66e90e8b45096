-- The first fault of a graph, and of the input that has to be one encapsulation of it.
use Rattle.std.specs.Prelude.{ℕ, ◌≡◌, ◌≤◌, ◌⊎◌, false, List, [], ◌∷◌, Ok}
use Rattle.ice_types.specs.declared.declarations.Shape.{Shape}
use Rattle.ice_types.specs.Tables.{Tables}
use Rattle.ice_prims.specs.declared.fault.Kind.TheVariants.{WrongClass}
use Rattle.ice_prims.specs.Rest.{Rest}
use Rattle.ice_encoding.specs.Flags.{Reach}
use Rattle.ice_encoding.specs.Graph.{Slice}
use Rattle.ice_encoding.specs.Instances.{most_instances, references, fits, SpellsGraph}
use Rattle.ice_encoding.specs.OptionalMembers.{Members, content_at}
use Rattle.ice_encoding.specs.References.{Reference, State, opening}
use Rattle.graph_laws.specs.Defects.{Defect, At}
use Rattle.graph_laws.specs.Encapsulations.{InputBreaks}
use Rattle.graph_laws.specs.Members.{ContentBreaks}
use Rattle.graph_laws.specs.Slices.{InstancesBreak}

-- one of the references has this place, and its class does not fit
abbrev pub HasMisfit : Tables → List (List Slice) → List (Reference ℕ) → ℕ → Type 0
HasMisfit t is [] place = ⊥
HasMisfit t is (m ∷ ms) place = ((fits t is m ≡ false) × (m.place ≡ place)) ⊎ HasMisfit t is ms place

-- the first of them in the bytes
abbrev pub FirstMisfit : Tables → List (List Slice) → List (Reference ℕ) → ℕ → Type 0
FirstMisfit t is ms place = HasMisfit t is ms place × ((other : ℕ) → HasMisfit t is ms other → place ≤ other)

-- A class that does not fit is told where all else stands: at the first of the references, as they were met in reading it.
unfoldable pub GraphBreaks : Tables → Reach → Shape → Defect
GraphBreaks t reach shape = λ place bytes fault. ContentBreaks (references t reach) (InstancesBreak t reach most_instances most_instances) t shape opening place bytes fault
    ⊎ ((x : Members × State ℕ × Rest) × (content_at (references t reach).read t shape opening (record { place = place; bytes = bytes }) ≡ Ok x)
    × (wrong : ℕ) × FirstMisfit t x.1.instances x.1.met wrong × At wrong WrongClass fault)

-- of an encapsulation of a graph, as an input
abbrev pub GraphInputBreaks : Tables → Reach → Shape → Defect
GraphInputBreaks t reach shape = InputBreaks (SpellsGraph t reach shape) (GraphBreaks t reach shape)
