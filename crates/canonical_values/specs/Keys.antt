-- Keys of dictionaries by their bytes.
use Rattle.std.specs.Prelude.{ℕ, ◌≡◌, ◌≤◌, Bool, true, false, List, ◌++◌, length, take}
use Rattle.std.specs.declared.cmp.Ordering.TheVariants.{Less}
use Rattle.ice_types.specs.declared.kind.TypeRef.{TypeRef}
use Rattle.ice_types.specs.declared.kind.TypeRef.TheVariants as kinds
use Rattle.ice_types.specs.Tables.{Tables}
use Rattle.ice_encoding.specs.Tree.{Tree, Trees}
use Rattle.ice_encoding.specs.Typed.{HasType, EachOf, no_reference}
use Rattle.ice_encoding.specs.Writing.{written_each, as_number}
use Rattle.ice_encoding.specs.Canonical.{canonical}
use Rattle.ice_encoding.specs.Order.{tree_cmp, trees_cmp}
use Rattle.canonical_values.specs.Standing.{IsPut, ArePut}

-- the bytes are put for a key of the type, which nests at most so deep
abbrev pub KeyStands : Tables → ℕ → TypeRef → List ℕ → Type 0
KeyStands t levels kind bytes = IsPut t no_reference levels kind bytes

-- for the members of one, one after the other
abbrev pub KeysStand : Tables → ℕ → List TypeRef → List ℕ → Type 0
KeysStand t levels kinds bytes = ArePut t no_reference levels kinds bytes

-- whichever keys of the type stand at the front of both: that of the first is below that of the second
abbrev pub AreRising : Tables → ℕ → TypeRef → List ℕ → List ℕ → Type 0
AreRising t levels kind first second = (k l : Tree) (rest more : List ℕ) → HasType t no_reference levels kind k → HasType t no_reference levels kind l
    → first ≡ canonical k ++ rest → second ≡ canonical l ++ more → tree_cmp k l ≡ Less

-- the bytes of values, one after the other
abbrev pub each_bytes : Trees → List ℕ
each_bytes vs = (written_each as_number vs tt).0

-- whichever keys of these types stand one after the other at the front of both: the first that differ rise
abbrev pub EachRising : Tables → ℕ → List TypeRef → List ℕ → List ℕ → Type 0
EachRising t levels kinds first second = (ks ls : Trees) (rest more : List ℕ) → EachOf (HasType t no_reference levels) kinds ks → EachOf (HasType t no_reference levels) kinds ls
    → first ≡ each_bytes ks ++ rest → second ≡ each_bytes ls ++ more → trees_cmp ks ls ≡ Less

-- both have so many bytes at the front, the same ones
abbrev pub HaveFront : ℕ → List ℕ → List ℕ → Type 0
HaveFront n first second = (n ≤ length first) × (n ≤ length second) × (take n first ≡ take n second)

-- a type of keys without parts
abbrev pub is_simple : TypeRef → Bool
is_simple kinds.Bool = true
is_simple kinds.Byte = true
is_simple kinds.Short = true
is_simple kinds.Int = true
is_simple kinds.Long = true
is_simple kinds.Text = true
is_simple (kinds.Seq at) = false
is_simple (kinds.Dict at) = false
is_simple (kinds.Struct at) = false
is_simple (kinds.Enum at) = true
is_simple (kinds.Proxy at) = false
is_simple (kinds.Class at) = false
