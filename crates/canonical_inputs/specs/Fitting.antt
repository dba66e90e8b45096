-- What stands where a class is declared, by the classes that the instances have.
use Rattle.std.specs.Prelude.{ℕ, ◌<◌, ◌≡◌, true, List, [], ◌∷◌, Option, None, Some}
use Rattle.ice_types.specs.Tables.{Tables}
use Rattle.ice_encoding.specs.declared.limits.TheConstants.{GREATEST}
use Rattle.ice_encoding.specs.Typed.{Refers}
use Rattle.ice_encoding.specs.Graph.{Slice}
use Rattle.ice_encoding.specs.Instances.{class_of, class_fits}
use Rattle.ice_encoding.specs.TypedGraph.{AreBases, IsInstance}
use Rattle.ice_encoding.specs.CanonicalGraph.{Pen, blank}
use Rattle.canonical_inputs.specs.Standing.{Instances, Then, NamesStand, SlicesStand, InstanceStands}

-- how deep instances are in one another at most: one level less than a visit goes
unfoldable pub deepest : ℕ
deepest = 99999999

-- the class of each instance, by number
abbrev pub Classes : Type 0
Classes = ℕ → Option ℕ

-- null, or an instance whose class fits
abbrev pub IsFitting : Tables → Classes → Option ℕ → Option ℕ → Type 0
IsFitting t classes declared None = Unit {0}
IsFitting t classes declared (Some n) = class_fits t declared (classes n) ≡ true

-- such references, and whatever proxy can be written
abbrev pub by_class : Tables → Classes → Refers
by_class t classes = record { Held = IsFitting t classes; most = GREATEST }

-- an instance, of the class of its number
abbrev pub IsOf : Tables → Classes → Instances
IsOf t classes n slices = (class_of slices ≡ classes n) × IsInstance t (by_class t classes) slices

-- a number above the one before it
abbrev pub IsAbove : Option ℕ → ℕ → Type 0
IsAbove None n = Unit {0}
IsAbove (Some last) n = last < n

-- The names are entries of a table, where these classes are declared: each fits, and is above the one before it.
abbrev pub AreEntries : Tables → Classes → List (Option ℕ) → Option ℕ → List ℕ → Type 0
AreEntries t classes [] last [] = Unit {0}
AreEntries t classes [] last (n ∷ ns) = ⊥
AreEntries t classes (declared ∷ needs) last [] = ⊥
AreEntries t classes (declared ∷ needs) last (n ∷ ns) = IsAbove last n × (class_fits t declared (classes n) ≡ true) × AreEntries t classes needs (Some n) ns

module _ (t : Tables) (classes : Classes) where
  -- references by names, within so many levels
  abbrev pub EntriesStand : ℕ → List ℕ → Pen → List ℕ → Pen → List (List Slice) → Type 0
  EntriesStand depth names = NamesStand (IsOf t classes) (InstanceStands t (IsOf t classes) depth) names

  -- slices, within so many levels
  abbrev pub BasesStand : ℕ → List Slice → Pen → List ℕ → Pen → List (List Slice) → Type 0
  BasesStand depth slices = SlicesStand (IsOf t classes) (InstanceStands t (IsOf t classes) depth) t slices

  -- entries where these classes are declared, above the last one, and then the slices of a class and its bases
  abbrev pub Rests : ℕ → List (Option ℕ) → Option ℕ → Option ℕ → Pen → List ℕ → Pen → Type 0
  Rests depth needs last base p bytes q = (names : List ℕ) × (slices : List Slice) × (news : List (List Slice)) × AreEntries t classes needs last names
      × AreBases t (by_class t classes) base slices × Then (EntriesStand depth names) (BasesStand depth slices) p bytes q news

-- the content is a reference where this class is declared
abbrev pub Whole : Tables → Option ℕ → Classes → List ℕ → Pen → Type 0
Whole t declared classes content q = Rests t classes deepest (declared ∷ []) None None blank content q
