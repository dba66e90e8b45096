-- Which bytes are put for values in a slice, where a reference is a place in the slice's table.
use Rattle.std.specs.Prelude.{ℕ, ◌≡◌, List, [], ◌++◌, length, drop, Option, None, Some, MatchOption, slice_get}
use Rattle.ice_types.specs.declared.kind.TypeRef.{TypeRef}
use Rattle.ice_types.specs.declared.declarations.Member.{Member}
use Rattle.ice_types.specs.declared.declarations.SeqDecl.{SeqDecl}
use Rattle.ice_types.specs.declared.schema.TheConstants.{MOST_DEPTH}
use Rattle.ice_types.specs.Tables.{Tables}
use Rattle.ice_encoding.specs.declared.limits.TheConstants.{LARGEST}
use Rattle.ice_encoding.specs.Tree.{Tree, Trees}
use Rattle.ice_encoding.specs.Typed.{HasType, EachOf, Refers}
use Rattle.ice_encoding.specs.Canonical.{canonical}
use Rattle.ice_encoding.specs.Names.{names, names_each}
use Rattle.ice_encoding.specs.OptionalMembers.{shape_of, required_kinds}
use Rattle.canonical_values.specs.Keys.{each_bytes}
use Rattle.canonical_inputs.specs.Tables.{by_first_use}

-- null, or a place at which this class is declared
abbrev pub IsPlace : List (Option ℕ) → Option ℕ → Option ℕ → Type 0
IsPlace needs declared None = Unit {0}
IsPlace needs declared (Some place) = slice_get needs place ≡ Some declared

-- places at which these classes are declared
abbrev pub by_place : List (Option ℕ) → Refers
by_place needs = record { Held = IsPlace needs; most = LARGEST }

-- The bytes are put for values of these types. So many places come before them, and so many are there behind them.
abbrev pub ArePut : Tables → List (Option ℕ) → ℕ → List TypeRef → ℕ → ℕ → List ℕ → Type 0
ArePut t needs levels kinds before behind bytes = (vs : Trees) × EachOf (HasType t (by_place needs) levels) kinds vs × (bytes ≡ each_bytes vs) × (by_first_use before (names_each vs) ≡ Some behind)

-- these places, and more behind them
abbrev pub Grown : List (Option ℕ) → List (Option ℕ) → Type 0
Grown before behind = (more : List (Option ℕ)) × (behind ≡ before ++ more)

-- the bytes are put for a value of the type, with these places before it and those behind it, whichever come then
abbrev pub ValuePut : Tables → ℕ → TypeRef → List (Option ℕ) → List (Option ℕ) → List ℕ → Type 0
ValuePut t levels kind before behind bytes = Grown before behind × ((all : List (Option ℕ)) → Grown behind all
    → (v : Tree) × HasType t (by_place all) levels kind v × (bytes ≡ canonical v) × (by_first_use (length before) (names v) ≡ Some (length behind)))

-- for values of these types, one after the other
abbrev pub ValuesPut : Tables → ℕ → List TypeRef → List (Option ℕ) → List (Option ℕ) → List ℕ → Type 0
ValuesPut t levels kinds before behind bytes = Grown before behind × ((all : List (Option ℕ)) → Grown behind all → ArePut t all levels kinds (length before) (length behind) bytes)

-- for those of these types that come before these others
abbrev pub FrontPut : Tables → ℕ → List TypeRef → List TypeRef → List (Option ℕ) → List (Option ℕ) → List ℕ → Type 0
FrontPut t levels kinds others before behind front = Grown before behind × ((all : List (Option ℕ)) → Grown behind all → (end : ℕ) (more : List ℕ)
    → ArePut t all levels others (length behind) end more → ArePut t all levels kinds (length before) end (front ++ more))

-- the types of the members from this one on that are always there
abbrev pub kinds_from : ℕ → List Member → List TypeRef
kinds_from next members = required_kinds (shape_of (drop next members))

-- for a member: one with a tag is absent
abbrev pub MemberPut : Tables → Member → List (Option ℕ) → List (Option ℕ) → List ℕ → Type 0
MemberPut t member before behind bytes = MatchOption member.tag (ValuePut t MOST_DEPTH member.kind before behind bytes) (λ number. (behind ≡ before) × (bytes ≡ []))

-- for the members that are always there
abbrev pub MembersPut : Tables → List Member → List (Option ℕ) → List (Option ℕ) → List ℕ → Type 0
MembersPut t members before behind bytes = ValuesPut t MOST_DEPTH (kinds_from 0 members) before behind bytes

-- the sequence at this place has elements of this type
abbrev pub IsSeqOf : Tables → ℕ → TypeRef → Type 0
IsSeqOf t at kind = (q : SeqDecl) × (slice_get t.seqs at ≡ Some q) × (q.element ≡ kind)
