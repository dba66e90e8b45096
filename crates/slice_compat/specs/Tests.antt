-- The tests of a class, in the order in which they are made.
use Rattle.std.specs.Prelude.{ℕ, ◌≡◌, ◌<◌, ◌≤◌, List, [], ◌∷◌, length, filter, map, MatchOption, Option, None, Some, slice_get}
use Rattle.std.specs.Option.{is_none}
use Rattle.ice_types.specs.declared.kind.TypeRef.{TypeRef}
use Rattle.ice_types.specs.declared.kind.RowRef.TheVariants as rows
use Rattle.ice_types.specs.declared.declarations.ClassDecl.{ClassDecl}
use Rattle.ice_types.specs.declared.declarations.Member.{Member}
use Rattle.ice_types.specs.Tables.{Tables}
use Rattle.ice_types.specs.Lacking.{BothAre, SameId, SameBase}
use Rattle.slice_compat.specs.declared.verdict.Why.{Why}
use Rattle.slice_compat.specs.declared.verdict.Why.TheVariants as causes
use Rattle.slice_compat.specs.Reading.{Reads}

-- the types of the class's own members that are always there
abbrev pub required_of : List Member → List TypeRef
required_of members = map (λ m. m.kind) (filter (λ m. is_none m.tag) members)

-- a compact id stays as it is; a class without one may get one
abbrev pub KeepsNumber : Option ℕ → Option ℕ → Type 0
KeepsNumber None other = Unit {0}
KeepsNumber (Some number) other = other ≡ Some number

-- both have this tag
abbrev pub HaveOneTag : Member → Member → Type 0
HaveOneTag m n = (tag : ℕ) × (m.tag ≡ Some tag) × (n.tag ≡ Some tag)

-- there is a tag that is not above this one
abbrev pub IsAtMost : Option ℕ → ℕ → Type 0
IsAtMost None tag = ⊥
IsAtMost (Some other) tag = other ≤ tag

module _ (t u : Tables) where
  -- ---- the tests

  abbrev pub KeepsBase : ClassDecl → ClassDecl → Type 0
  KeepsBase c d = SameBase t u rows.Class c.base d.base

  abbrev pub KeepsCompactId : ClassDecl → ClassDecl → Type 0
  KeepsCompactId c d = KeepsNumber c.compact d.compact

  abbrev pub HasAsMany : ClassDecl → ClassDecl → Type 0
  HasAsMany c d = length (required_of c.members) ≡ length (required_of d.members)

  -- types at this place of both lists, of which the first can be read
  abbrev pub ReadsAt : List TypeRef → List TypeRef → ℕ → Type 0
  ReadsAt ks ls place = BothAre (Reads t u) (slice_get ks place) (slice_get ls place)

  -- each
  abbrev pub ReadsEach : List TypeRef → List TypeRef → Type 0
  ReadsEach ks ls = (place : ℕ) → place < length ks → ReadsAt ks ls place

  -- each of those that have its tag can read it
  abbrev pub ReadsOption : Member → List Member → Type 0
  ReadsOption m [] = Unit {0}
  ReadsOption m (n ∷ ns) = (HaveOneTag m n → Reads t u m.kind n.kind) × ReadsOption m ns

  -- each before this place
  abbrev pub ReadsOptions : ℕ → List Member → List Member → Type 0
  ReadsOptions count ms ns = (place : ℕ) (m : Member) → place < count → slice_get ms place ≡ Some m → ReadsOption m ns

  -- u's class stands every test
  pub record ClassReads (c d : ClassDecl) : Type 0 where
    pub base : KeepsBase c d
    pub compact : KeepsCompactId c d
    pub as_many : HasAsMany c d
    pub required : ReadsEach (required_of c.members) (required_of d.members)
    pub optional : ReadsOptions (length c.members) c.members d.members

  -- ---- the first that fails

  -- the first place whose types cannot be read
  pub record FirstUnread (ks ls : List TypeRef) (place : ℕ) : Type 0 where
    pub within : place < length ks
    pub unread : ReadsAt ks ls place → ⊥
    pub earlier : (k : ℕ) → k < place → ReadsAt ks ls k

  -- a member before this place that has the tag and cannot be read
  abbrev pub IsUnreadTag : ℕ → List Member → List Member → ℕ → Type 0
  IsUnreadTag count ms ns tag = (place : ℕ) × (m : Member) × (place < count) × (slice_get ms place ≡ Some m) × (m.tag ≡ Some tag) × (ReadsOption m ns → ⊥)

  -- the least tag of them, None where each can be read
  abbrev pub IsLeastUnread : ℕ → List Member → List Member → Option ℕ → Type 0
  IsLeastUnread count ms ns least = MatchOption least (ReadsOptions count ms ns)
      (λ tag. IsUnreadTag count ms ns tag × ((other : ℕ) → IsUnreadTag count ms ns other → tag ≤ other))

  abbrev pub Fails : ClassDecl → ClassDecl → Why → Type 0
  Fails c d causes.Missing = ⊥
  Fails c d causes.Base = KeepsBase c d → ⊥
  Fails c d causes.CompactId = KeepsBase c d × (KeepsCompactId c d → ⊥)
  Fails c d causes.Members = KeepsBase c d × KeepsCompactId c d × (HasAsMany c d → ⊥)
  Fails c d (causes.Required place) = KeepsBase c d × KeepsCompactId c d × HasAsMany c d × FirstUnread (required_of c.members) (required_of d.members) place
  Fails c d (causes.Optional tag) = KeepsBase c d × KeepsCompactId c d × HasAsMany c d × ReadsEach (required_of c.members) (required_of d.members)
      × IsLeastUnread (length c.members) c.members d.members (Some tag)

  -- ---- a class of t

  -- u has the class by its type id, and that one stands every test
  abbrev pub ClassPasses : ℕ → Type 0
  ClassPasses a = (b : ℕ) × SameId t u (rows.Class a) (rows.Class b) × BothAre ClassReads (slice_get t.classes a) (slice_get u.classes b)

  -- the class of its type id fails this test first
  abbrev pub FailsThere : ℕ → Why → Type 0
  FailsThere a why = (b : ℕ) × SameId t u (rows.Class a) (rows.Class b) × BothAre (λ c d. Fails c d why) (slice_get t.classes a) (slice_get u.classes b)

  -- u lacks it, or it fails this test first
  abbrev pub ClassFails : ℕ → Why → Type 0
  ClassFails a causes.Missing = (b : ℕ) → SameId t u (rows.Class a) (rows.Class b) → ⊥
  ClassFails a causes.Base = FailsThere a causes.Base
  ClassFails a causes.CompactId = FailsThere a causes.CompactId
  ClassFails a causes.Members = FailsThere a causes.Members
  ClassFails a (causes.Required place) = FailsThere a (causes.Required place)
  ClassFails a (causes.Optional tag) = FailsThere a (causes.Optional tag)
