-- Instances where they begin: each in its slices, with further instances inside, and no more of them than the limit.
use Rattle.std.specs.Prelude.{ℕ, zero, suc, ◌≡◌, Bool, true, false, List, [], ◌∷◌, Option, None, Some, Result, Ok, min, get_or, if◌then◌else◌}
use Rattle.ice_types.specs.declared.declarations.Shape.{Shape}
use Rattle.ice_types.specs.Tables.{Tables}
use Rattle.ice_prims.specs.declared.fault.Fault.{Fault}
use Rattle.ice_prims.specs.declared.fault.Kind.TheVariants.{WrongClass}
use Rattle.ice_prims.specs.Rest.{Rest, fault, ◌>>=◌}
use Rattle.ice_encoding.specs.Bounds.{filled}
use Rattle.ice_encoding.specs.Port.{Port, nowhere}
use Rattle.ice_encoding.specs.Encapsulation.{Encapsulated, encapsulated_at}
use Rattle.ice_encoding.specs.OptionalMembers.{SpellsContent, content_at}
use Rattle.ice_encoding.specs.Classes.{is_a}
use Rattle.ice_encoding.specs.Graph.{Slice, known, unknown, Graph}
use Rattle.ice_encoding.specs.References.{State, Reference, opening, inline}
use Rattle.ice_encoding.specs.Flags.{Reach}
use Rattle.ice_encoding.specs.Slices.{SpellsInstance, instance_at}

-- so many instances may still begin, one inside the other
abbrev pub instances : Tables → Reach → ℕ → ℕ → Port (State ℕ) (State (Unit {0}))
instances t reach limit zero = inline limit (λ s r. nowhere r) (λ bytes slices from to. ⊥)
instances t reach limit (suc more) = inline limit (instance_at (instances t reach limit more).read t reach) (SpellsInstance (instances t reach limit more) t reach)

-- the limit of instances
unfoldable pub most_instances : ℕ
most_instances = 100000

-- how a reference stands in a content
abbrev pub references : Tables → Reach → Port (State ℕ) (State (Unit {0}))
references t reach = instances t reach most_instances most_instances

-- ---- classes that fit

-- the class of an instance is the first that is known, None for `Object`
abbrev pub class_of : List Slice → Option ℕ
class_of [] = None
class_of (known class content ∷ ss) = Some class
class_of (unknown id bytes optionals table ∷ ss) = class_of ss

-- an instance of no known class comes from `Object` alone
abbrev pub comes_from : Tables → ℕ → Option ℕ → Bool
comes_from t base None = false
comes_from t base (Some class) = is_a t class base

-- it has to be the declared class or one derived from it; where none is declared, any may stand
abbrev pub class_fits : Tables → Option ℕ → Option ℕ → Bool
class_fits t None class = true
class_fits t (Some base) class = comes_from t base class

-- the slices of a name
abbrev pub slices_of : List (List Slice) → ℕ → List Slice
slices_of is n = get_or is n []

-- the class of what is named fits its place
abbrev pub fits : {P : Type 0} → Tables → List (List Slice) → Reference P → Bool
fits t is m = class_fits t m.declared (class_of (slices_of is m.name))

-- each fits
abbrev pub AllFit : {P : Type 0} → Tables → List (List Slice) → List (Reference P) → Type 0
AllFit t is [] = Unit {0}
AllFit t is (m ∷ ms) = (fits t is m ≡ true) × AllFit t is ms

-- the lesser of two places
abbrev pub earlier : ℕ → Option ℕ → Option ℕ
earlier place None = Some place
earlier place (Some other) = Some (min place other)

-- the place of the first reference in the bytes whose class does not fit
abbrev pub misfit : Tables → List (List Slice) → List (Reference ℕ) → Option ℕ
misfit t is [] = None
misfit t is (m ∷ ms) = if fits t is m then misfit t is ms else earlier m.place (misfit t is ms)

-- a reference that does not fit is the fault
abbrev pub unless_misfit : {A : Type 0} → Option ℕ → A → Result A Fault
unless_misfit None x = Ok x
unless_misfit (Some place) x = fault place WrongClass

-- ---- a whole content

-- The members of a content and the instances that begin in it, each reference to a class that fits. The name of an instance
-- is its number, by the order in which they begin.
unfoldable pub SpellsGraph : Tables → Reach → Shape → List ℕ → Graph → Type 0
SpellsGraph t reach shape bytes g = (end : State (Unit {0})) × SpellsContent (references t reach) t shape bytes g.roots opening end
    × (end.instances ≡ g.instances) × AllFit t end.instances end.met

-- Whether classes fit is tested where all else is spelled.
unfoldable pub graph_at : Tables → Reach → Shape → Rest → Result (Graph × Rest) Fault
graph_at t reach shape r = content_at (references t reach).read t shape opening r >>= λ x.
    unless_misfit (misfit t x.1.instances x.1.met) (record { roots = x.0; instances = x.1.instances }, x.2)

-- an encapsulation that holds the graph alone
abbrev pub SpellsNumbered : Tables → Reach → Shape → List ℕ → Graph → Type 0
SpellsNumbered t reach shape = Encapsulated (SpellsGraph t reach shape)

-- one encapsulation of a graph, and nothing after it
abbrev pub numbered_at : Tables → Reach → Shape → Rest → Result Graph Fault
numbered_at t reach shape = filled (encapsulated_at (graph_at t reach shape))
