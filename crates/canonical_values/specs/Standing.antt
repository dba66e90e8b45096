-- Which bytes are put for a value of a type. No way of reading is spoken of.
use Rattle.std.specs.Prelude.{ℕ, zero, suc, Bool, true, false, ◌+◌, ◌≡◌, List, [], ◌∷◌, ◌++◌, length, map, Option, None, Some}
use Rattle.ice_types.specs.declared.kind.TypeRef.{TypeRef}
use Rattle.ice_types.specs.declared.kind.TypeRef.TheVariants as kinds
use Rattle.ice_types.specs.declared.declarations.Member.{Member}
use Rattle.ice_types.specs.declared.declarations.StructDecl.{StructDecl}
use Rattle.ice_types.specs.declared.schema.TheConstants.{MOST_DEPTH}
use Rattle.ice_types.specs.Tables.{Tables}
use Rattle.ice_prims.specs.Rest.{IsBytes}
use Rattle.ice_encoding.specs.declared.limits.TheConstants.{LARGEST}
use Rattle.ice_encoding.specs.Tree.{Tree}
use Rattle.ice_encoding.specs.Typed.{HasType, Refers, no_reference}
use Rattle.ice_encoding.specs.Canonical.{canonical}
use Rattle.ice_encoding.specs.Order.{tree_cmp}
use Rattle.std.specs.declared.cmp.Ordering.TheVariants.{Less}

-- null alone may stand as a reference
abbrev pub only_null : Refers
only_null = record { Held = λ declared n. n ≡ None; most = LARGEST }

-- the types of members
abbrev pub kinds_of : List Member → List TypeRef
kinds_of members = map (λ m. m.kind) members

-- the types of a struct's members, where there is one
abbrev pub members_of : Option StructDecl → List TypeRef
members_of None = []
members_of (Some d) = kinds_of d.members

module _ (t : Tables) (Refer : Refers) where
  -- the bytes are put for a value of the type, which nests at most so deep, by what may stand as a reference
  abbrev pub IsPut : ℕ → TypeRef → List ℕ → Type 0
  IsPut levels kind bytes = (v : Tree) × HasType t Refer levels kind v × (bytes ≡ canonical v)

  -- for values of these types, one after the other
  abbrev pub ArePut : ℕ → List TypeRef → List ℕ → Type 0
  ArePut levels [] bytes = bytes ≡ []
  ArePut levels (kind ∷ kinds) bytes = (a b : List ℕ) × (bytes ≡ a ++ b) × IsPut levels kind a × ArePut levels kinds b

module _ (t : Tables) where
  -- where null alone may stand as a reference
  abbrev pub Stands : ℕ → TypeRef → List ℕ → Type 0
  Stands levels kind bytes = IsPut t only_null levels kind bytes

  -- where null alone may stand as a reference
  abbrev pub StandEach : ℕ → List TypeRef → List ℕ → Type 0
  StandEach levels kinds bytes = ArePut t only_null levels kinds bytes

  -- a key that is above the one for which these bytes are put
  abbrev pub IsAbove : ℕ → TypeRef → Option (List ℕ) → Tree → Type 0
  IsAbove levels kind None k = Unit {0}
  IsAbove levels kind (Some last) k = (l : Tree) → HasType t no_reference levels kind l → last ≡ canonical l → tree_cmp l k ≡ Less

  -- for so many pairs, each key above the one before it
  abbrev pub StandPairs : ℕ → TypeRef → TypeRef → ℕ → Option (List ℕ) → List ℕ → Type 0
  StandPairs levels key value zero last bytes = bytes ≡ []
  StandPairs levels key value (suc n) last bytes = (k : Tree) × (v rest : List ℕ) × (bytes ≡ canonical k ++ (v ++ rest))
      × HasType t no_reference levels key k × IsAbove levels key last k × Stands levels value v × StandPairs levels key value n (Some (canonical k)) rest

  -- for a value without parts
  abbrev pub LeafStands : TypeRef → List ℕ → Type 0
  LeafStands kind bytes = (levels : ℕ) → Stands (suc levels) kind bytes

  -- any so many bytes are put for a value
  abbrev pub IsPlain : ℕ → TypeRef → ℕ → Type 0
  IsPlain levels kind n = (bytes : List ℕ) → IsBytes bytes → length bytes ≡ n → Stands levels kind bytes

-- The bytes are the canonical ones of a value of the type, in which each reference is null.
unfoldable pub IsCanonical : Tables → TypeRef → List ℕ → Type 0
IsCanonical t kind bytes = Stands t MOST_DEPTH kind bytes

-- a type of values without parts
abbrev pub is_leaf : TypeRef → Bool
is_leaf kinds.Bool = true
is_leaf kinds.Byte = true
is_leaf kinds.Short = true
is_leaf kinds.Int = true
is_leaf kinds.Long = true
is_leaf kinds.Text = true
is_leaf (kinds.Seq at) = false
is_leaf (kinds.Dict at) = false
is_leaf (kinds.Struct at) = false
is_leaf (kinds.Enum at) = true
is_leaf (kinds.Proxy at) = true
is_leaf (kinds.Class at) = true

-- how many bytes each value has, where every byte may stand in it
abbrev pub number_length : TypeRef → Option ℕ
number_length kinds.Bool = None
number_length kinds.Byte = Some 1
number_length kinds.Short = Some 2
number_length kinds.Int = Some 4
number_length kinds.Long = Some 8
number_length kinds.Text = None
number_length (kinds.Seq at) = None
number_length (kinds.Dict at) = None
number_length (kinds.Struct at) = None
number_length (kinds.Enum at) = None
number_length (kinds.Proxy at) = None
number_length (kinds.Class at) = None

-- each is a type of numbers, and so long are they together
abbrev pub AreNumbers : List TypeRef → ℕ → Type 0
AreNumbers [] n = n ≡ 0
AreNumbers (kind ∷ kinds) n = (one others : ℕ) × (n ≡ one + others) × (number_length kind ≡ Some one) × AreNumbers kinds others
