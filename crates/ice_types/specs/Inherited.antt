-- What classes and interfaces have of their bases. (Ice manual, "Class Inheritance" and "Interface Inheritance".)
use Rattle.std.specs.Prelude.{ℕ, zero, suc, ◌≡◌, ◌≤◌, ◌<◌, ◌-◌, true, false, List, [], ◌∷◌, ◌++◌, Option, None, Some, slice_get, option_and_then, sum_by, find, bytes_eq, nat_le, Contains}
use Rattle.std.specs.List.{flat_map}
use Rattle.ice_types.specs.declared.declarations.ClassDecl.{ClassDecl}
use Rattle.ice_types.specs.declared.declarations.InterfaceDecl.{InterfaceDecl}
use Rattle.ice_types.specs.declared.declarations.OpDecl.{OpDecl}
use Rattle.ice_types.specs.declared.rows.Above.{Above}
use Rattle.ice_types.specs.declared.schema.TheConstants.{MOST_BASES}
use Rattle.ice_types.specs.Measures.{bases_in}
use Rattle.ice_types.specs.Kept.{above_of, counted}

-- a place itself, or one that is reached from it by steps
pub data Reaches (Step : ℕ → ℕ → Type 0) : ℕ → ℕ → Type 0 where
  Here : (at : ℕ) → Reaches Step at at
  Onward : (at next other : ℕ) → Step at next → Reaches Step next other → Reaches Step at other

-- the base of the class at this place
abbrev pub base_in : List ClassDecl → ℕ → Option ℕ
base_in classes at = option_and_then (λ c. c.base) (slice_get classes at)

-- a class itself, its base, the base of that ..
abbrev pub IsA : List ClassDecl → ℕ → ℕ → Type 0
IsA classes = Reaches (λ at base. base_in classes at ≡ Some base)

-- an interface itself, its bases, the bases of those ..
abbrev pub InterfaceIsA : List InterfaceDecl → ℕ → ℕ → Type 0
InterfaceIsA interfaces = Reaches (λ at base. Contains (bases_in interfaces at) base)

-- all bases, by those that each has: each base, and then its own bases, before the next; over at most so many levels
unfoldable pub all_bases : (ℕ → List ℕ) → ℕ → ℕ → List ℕ
all_bases bases zero at = []
all_bases bases (suc levels) at = flat_map (λ base. base ∷ all_bases bases levels base) (bases at)

-- all bases of an interface, which has at most a thousand
abbrev pub bases_by_path : List InterfaceDecl → ℕ → List ℕ
bases_by_path interfaces at = all_bases (bases_in interfaces) (suc MOST_BASES) at

-- the operations of the interface at this place itself
abbrev pub ops_in : List InterfaceDecl → ℕ → List OpDecl
ops_in interfaces at = elim (slice_get interfaces at) [ None ↦ [] | Some i ↦ i.ops ]

-- its own operations, and then those of its bases
abbrev pub operations : List InterfaceDecl → ℕ → List OpDecl
operations interfaces at = ops_in interfaces at ++ flat_map (ops_in interfaces) (bases_by_path interfaces at)

-- the first of the operations that has this name
abbrev pub first_named : List ℕ → List OpDecl → Option OpDecl
first_named name ops = find (λ op. bytes_eq op.name name) ops

-- ---- how bases are counted

-- a class has more bases than its base
abbrev pub CountsClassBases : List ClassDecl → List (Option Above) → Type 0
CountsClassBases classes beside = (at base : ℕ) → base_in classes at ≡ Some base → (above_of beside base).bases < (above_of beside at).bases

-- the far base of a class with this base: that base or one above it; a class without a base is its own
abbrev pub IsFarBase : List ClassDecl → ℕ → Option ℕ → ℕ → Type 0
IsFarBase classes at None far = far ≡ at
IsFarBase classes at (Some base) far = IsA classes base far

-- beside each class stands its far base
abbrev pub HasFarBases : List ClassDecl → List (Option Above) → Type 0
HasFarBases classes beside = (at : ℕ) → IsFarBase classes at (base_in classes at) (above_of beside at).far

-- each interface's bases are counted, each with its own bases
abbrev pub CountsBases : List InterfaceDecl → List (Option ℕ) → Type 0
CountsBases interfaces counts = (at : ℕ) → (counted counts at ≡ sum_by (λ b. suc (counted counts b)) (bases_in interfaces at)) × (counted counts at ≤ MOST_BASES)

-- Where a place falls among sections, one a base, each of one place more than is counted of it: whose section, and how far into it.
abbrev pub located : (ℕ → ℕ) → List ℕ → ℕ → Option (ℕ × ℕ)
located count [] place = None
located count (b ∷ bs) place = elim (nat_le place (count b)) [ true ↦ Some (b, place) | false ↦ located count bs (place - suc (count b)) ]
