-- Graphs of a type. (Ice manual, "Classes".)
use Rattle.std.specs.Prelude.{ℕ, ◌<◌, ◌^◌, ◌≡◌, true, IsTrue, List, [], ◌∷◌, length, None, Some, Option, slice_get}
use Rattle.ice_types.specs.declared.kind.TypeRef.{TypeRef}
use Rattle.ice_types.specs.declared.declarations.Member.{Member}
use Rattle.ice_types.specs.declared.declarations.Shape.{Shape}
use Rattle.ice_types.specs.declared.declarations.ClassDecl.{ClassDecl}
use Rattle.ice_types.specs.declared.schema.TheConstants.{MOST_DEPTH}
use Rattle.ice_types.specs.Tables.{Tables}
use Rattle.ice_types.specs.CompactIds.{IsSliceId}
use Rattle.ice_prims.specs.Rest.{IsBytes}
use Rattle.ice_encoding.specs.declared.limits.TheConstants.{GREATEST, LARGEST}
use Rattle.ice_encoding.specs.Tags.{rises}
use Rattle.ice_encoding.specs.Typed.{HasType, EachOf, Refers}
use Rattle.ice_encoding.specs.Optionals.{Present, kind_tagged}
use Rattle.ice_encoding.specs.OptionalMembers.{Members, required_kinds}
use Rattle.ice_encoding.specs.Classes.{class_by_id, base_of, own_members}
use Rattle.ice_encoding.specs.Graph.{Slice, known, unknown, Graph}
use Rattle.ice_encoding.specs.Instances.{class_of, slices_of, class_fits}

-- each name may stand where any class may
abbrev pub AreReferred : Refers → List ℕ → Type 0
AreReferred Refer [] = Unit {0}
AreReferred Refer (n ∷ ns) = Refer.Held None (Some n) × AreReferred Refer ns

module _ (t : Tables) where
  -- values by rising tag, each of the type of its member
  abbrev pub AreOptions : Refers → List Member → Option ℕ → Present → Type 0
  AreOptions Refer members last [] = Unit {0}
  AreOptions Refer members last (o ∷ os) = IsTrue (rises last o.0) × (o.0 < 2 ^ 31) × (kind : TypeRef) × (kind_tagged o.0 members ≡ Some kind) × HasType t Refer MOST_DEPTH kind o.1 × AreOptions Refer members (Some o.0) os

  -- values of these members
  pub record AreMembers (Refer : Refers) (shape : Shape) (c : Members) : Type 0 where
    pub required : EachOf (HasType t Refer MOST_DEPTH) (required_kinds shape) c.required
    pub optional : AreOptions Refer shape.optional None c.optional

  -- a class of the tables, and its members
  abbrev pub IsKnown : Refers → ℕ → Members → Type 0
  IsKnown Refer class content = (d : ClassDecl) × (slice_get t.classes class ≡ Some d) × AreMembers Refer (own_members t class) content

  -- the bases of a class in order, up to the one without a base
  abbrev pub AreBases : Refers → Option ℕ → List Slice → Type 0
  AreBases Refer None slices = slices ≡ []
  AreBases Refer (Some class) [] = ⊥
  AreBases Refer (Some class) (unknown id bytes optionals table ∷ ss) = ⊥
  AreBases Refer (Some class) (known other content ∷ ss) = (other ≡ class) × IsKnown Refer class content × AreBases Refer (base_of t class) ss

  -- an id that no class has, a table of names that may stand where any class may, and bytes
  abbrev pub IsUnknown : Refers → List ℕ → List ℕ → List ℕ → Type 0
  IsUnknown Refer id bytes table = (class_by_id t id ≡ None) × IsSliceId id × AreReferred Refer table × IsBytes bytes

  -- unknown slices and then a known class with all its bases, or unknown slices alone, and one at least
  abbrev pub IsInstance : Refers → List Slice → Type 0
  IsInstance Refer [] = ⊥
  IsInstance Refer (unknown id bytes optionals table ∷ []) = IsUnknown Refer id bytes table
  IsInstance Refer (unknown id bytes optionals table ∷ s ∷ ss) = IsUnknown Refer id bytes table × IsInstance Refer (s ∷ ss)
  IsInstance Refer (known class content ∷ ss) = IsKnown Refer class content × AreBases Refer (base_of t class) ss

  -- null, or a reference to an instance of the graph whose class fits
  abbrev pub IsHeldIn : List (List Slice) → Option ℕ → Option ℕ → Type 0
  IsHeldIn is declared None = Unit {0}
  IsHeldIn is declared (Some n) = (n < length is) × (class_fits t declared (class_of (slices_of is n)) ≡ true)

  -- such a reference, and endpoints up to this size
  abbrev pub RefersUpTo : ℕ → List (List Slice) → Refers
  RefersUpTo most is = record { Held = IsHeldIn is; most = most }

  -- such a reference, and whatever proxy can be written
  abbrev pub RefersIn : List (List Slice) → Refers
  RefersIn is = RefersUpTo GREATEST is

  -- the roots are of these members, and each instance is one, with endpoints up to this size
  pub record OfTypeTo (most : ℕ) (shape : Shape) (g : Graph) : Type 0 where
    pub roots : AreMembers (RefersUpTo most g.instances) shape g.roots
    pub instances : (n : ℕ) → n < length g.instances → IsInstance (RefersUpTo most g.instances) (slices_of g.instances n)

  -- a graph of the type, which can be written
  abbrev pub OfType : Shape → Graph → Type 0
  OfType shape g = OfTypeTo GREATEST shape g

  -- a graph of the type, in which each proxy can be read again
  abbrev pub OfReadType : Shape → Graph → Type 0
  OfReadType shape g = OfTypeTo LARGEST shape g
