-- The first part of a graph that is not of its type. (Ice manual, "Classes".)
use Rattle.std.specs.Prelude.{ℕ, ◌<◌, ◌≡◌, ◌⊎◌, Bool, true, false, List, [], ◌∷◌, length, Option, None, Some, slice_index, slice_index_or}
use Rattle.ice_types.specs.declared.declarations.Shape.{Shape}
use Rattle.ice_types.specs.Tables.{Tables}
use Rattle.ice_encoding.specs.Typed.{Refers}
use Rattle.ice_encoding.specs.Classes.{base_of}
use Rattle.ice_encoding.specs.Graph.{Graph, Slice, known, unknown}
use Rattle.ice_encoding.specs.Instances.{slices_of}
use Rattle.ice_encoding.specs.TypedGraph.{AreBases, AreMembers, IsInstance, IsUnknown, IsKnown, RefersIn}
use Rattle.ice_encoding.specs.Visiting.{order, place}

-- the one is listed before the other, or neither is listed and the one is less
abbrev pub IsEarlier : List ℕ → ℕ → ℕ → Type 0
IsEarlier ns m n = (place ns m < place ns n) ⊎ ((place ns m ≡ place ns n) × (m < n))

module _ (u : Tables) (Refer : Refers) where
  -- a slice of this class, which is known
  abbrev pub IsSlice : ℕ → Slice → Type 0
  IsSlice class (known other content) = (other ≡ class) × IsKnown u Refer class content
  IsSlice class (unknown id bytes optionals table) = ⊥

  -- a slice of a class that the tables lack
  abbrev pub IsUnknownSlice : Slice → Type 0
  IsUnknownSlice (known class content) = ⊥
  IsUnknownSlice (unknown id bytes optionals table) = IsUnknown u Refer id bytes table

  -- unknown slices, and then a known class with all its bases, or none
  abbrev pub AreSlices : List Slice → Type 0
  AreSlices [] = Unit {0}
  AreSlices (unknown id bytes optionals table ∷ ss) = IsUnknown u Refer id bytes table × AreSlices ss
  AreSlices (known class content ∷ ss) = IsKnown u Refer class content × AreBases u Refer (base_of u class) ss

module _ (t : Tables) (g : Graph) where
  -- the instance at a place is one
  abbrev pub IsFine : ℕ → Type 0
  IsFine n = IsInstance t (RefersIn t g.instances) (slices_of g.instances n)

  -- the instances at these places are
  abbrev pub AreFine : List ℕ → Type 0
  AreFine places = (k : ℕ) → k < length places → IsFine (slice_index places k)

  -- the first of these places whose instance is none, None where each is one
  abbrev pub IsFirstOf : List ℕ → Option ℕ → Type 0
  IsFirstOf places None = AreFine places
  IsFirstOf places (Some n) = (i : ℕ) × (i < length places) × (slice_index places i ≡ n) × (IsFine n → ⊥) × ((k : ℕ) → k < i → IsFine (slice_index places k))

  -- the instances at the places that are marked are
  abbrev pub AreMarkedFine : List Bool → Type 0
  AreMarkedFine marks = (n : ℕ) → n < length marks → slice_index_or marks n false ≡ true → IsFine n

  -- the least place whose instance is none, None where each is one
  abbrev pub IsLeast : Option ℕ → Type 0
  IsLeast None = (n : ℕ) → n < length g.instances → IsFine n
  IsLeast (Some n) = (n < length g.instances) × (IsFine n → ⊥) × ((m : ℕ) → m < n → IsFine m)

  -- the first instance that is none, in the order of their first visits, and then by place
  abbrev pub IsFirstInstance : Option ℕ → Type 0
  IsFirstInstance None = (n : ℕ) → n < length g.instances → IsFine n
  IsFirstInstance (Some n) = (n < length g.instances) × (IsFine n → ⊥) × ((m : ℕ) → m < length g.instances → IsEarlier (order g) m n → IsFine m)

  module _ (shape : Shape) where
    -- the roots, or the instance at a place, are of their types
    abbrev pub IsWell : Option ℕ → Type 0
    IsWell None = AreMembers t (RefersIn t g.instances) shape g.roots
    IsWell (Some n) = IsFine n

    -- the roots, or an instance of the graph
    abbrev pub IsPart : Option ℕ → Type 0
    IsPart None = Unit {0}
    IsPart (Some n) = n < length g.instances

    -- the roots come before all instances, the reached ones in the order of their first visits before the others
    abbrev pub ComesBefore : Option ℕ → Option ℕ → Type 0
    ComesBefore None None = ⊥
    ComesBefore (Some m) None = ⊥
    ComesBefore None (Some n) = Unit {0}
    ComesBefore (Some m) (Some n) = IsEarlier (order g) m n

    -- the first part that is not of its type
    pub record IsFirstIll (at : Option ℕ) : Type 0 where
      pub part : IsPart at
      pub ill : IsWell at → ⊥
      pub first : (other : Option ℕ) → IsPart other → ComesBefore other at → IsWell other
