-- The types of optional members, by their tags.
use Rattle.std.specs.Prelude.{ℕ, ◌≡◌, ◌==◌, cond, List, [], ◌∷◌, MatchOption, Option, None, Some}
use Rattle.std.specs.Ordering.{nat_cmp}
use Rattle.std.specs.BTreeMap.{BTreeMap, get}
use Rattle.ice_types.specs.declared.kind.TypeRef.{TypeRef}
use Rattle.ice_types.specs.declared.declarations.Member.{Member}
use Rattle.ice_types.specs.Fits.{DifferFrom, tags_of}
use Rattle.ice_types.specs.Tables.{Tables}
use Rattle.slice_compat.specs.Reading.{Reads}

-- the type of the first member that has the tag
abbrev pub kind_tagged : ℕ → List Member → Option TypeRef
kind_tagged tag [] = None
kind_tagged tag (m ∷ ms) = elim m.tag [ None ↦ kind_tagged tag ms | Some own ↦ cond (own == tag) (Some m.kind) (kind_tagged tag ms) ]

-- no two optional members have one tag
abbrev pub HaveOwnTags : List Member → Type 0
HaveOwnTags ms = DifferFrom [] (tags_of ms)

-- the map has these types
abbrev pub HasKinds : BTreeMap ℕ TypeRef → List Member → Type 0
HasKinds kinds ms = (tag : ℕ) → get nat_cmp kinds tag ≡ kind_tagged tag ms

-- those of members of which no two have one tag
pub record AreKinds (kinds : BTreeMap ℕ TypeRef) (ms : List Member) : Type 0 where
  pub apart : HaveOwnTags ms
  pub found : HasKinds kinds ms

-- the type can be read as the other one, where there is one
abbrev pub ReadsWhere : Tables → Tables → TypeRef → Option TypeRef → Type 0
ReadsWhere t u kind other = MatchOption other (Unit {0}) (λ there. Reads t u kind there)
