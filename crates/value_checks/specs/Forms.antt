-- What a type is that a value is of, by the form of the value.
use Rattle.std.specs.Prelude.{ℕ, ◌<◌, ◌^◌, ◌≡◌, FitsSigned, Option, Some, length, map, slice_get}
use Rattle.std.specs.Int.{w16, w32, w64}
use Rattle.std.specs.Str.{IsUtf8}
use Rattle.ice_types.specs.declared.kind.TypeRef.{TypeRef}
use Rattle.ice_types.specs.declared.kind.TypeRef.TheVariants as kinds
use Rattle.ice_types.specs.declared.declarations.SeqDecl.{SeqDecl}
use Rattle.ice_types.specs.declared.declarations.DictDecl.{DictDecl}
use Rattle.ice_types.specs.declared.declarations.StructDecl.{StructDecl}
use Rattle.ice_types.specs.declared.declarations.EnumDecl.{EnumDecl}
use Rattle.ice_types.specs.Tables.{Tables}
use Rattle.ice_encoding.specs.Proxy as parts
use Rattle.ice_encoding.specs.Enum.{HasNumber}
use Rattle.ice_encoding.specs.Order.{IsRising}
use Rattle.ice_encoding.specs.Tree.{Tree, boolean, byte, short, int, long, text, sequence, dictionary, struct, enumerator, proxy, reference, tree_count, entry_count}
use Rattle.ice_encoding.specs.Typed.{AllOf, EachOf, PairsOf, Refers, no_reference, HasType}

module _ (t : Tables) where
  -- the enum of this type has the number
  abbrev pub IsEnumerator : TypeRef → ℕ → Type 0
  IsEnumerator kind n = (at : ℕ) × (kind ≡ kinds.Enum at) × (e : EnumDecl) × (slice_get t.enums at ≡ Some e) × HasNumber e.entries n × (n < 2 ^ 31)

  -- of the type, whose parts nest at most so deep
  abbrev pub HasForm : Refers → ℕ → TypeRef → Tree → Type 0
  HasForm Refer levels kind (boolean b) = kind ≡ kinds.Bool
  HasForm Refer levels kind (byte n) = (kind ≡ kinds.Byte) × (n < 256)
  HasForm Refer levels kind (short z) = (kind ≡ kinds.Short) × FitsSigned w16 z
  HasForm Refer levels kind (int z) = (kind ≡ kinds.Int) × FitsSigned w32 z
  HasForm Refer levels kind (long z) = (kind ≡ kinds.Long) × FitsSigned w64 z
  HasForm Refer levels kind (text s) = (kind ≡ kinds.Text) × IsUtf8 s × (length s < 2 ^ 31)
  HasForm Refer levels kind (sequence items) = (at : ℕ) × (kind ≡ kinds.Seq at) × (q : SeqDecl) × (slice_get t.seqs at ≡ Some q)
      × (tree_count items < 2 ^ 31) × AllOf (HasType t Refer levels q.element) items
  HasForm Refer levels kind (dictionary pairs) = (at : ℕ) × (kind ≡ kinds.Dict at) × (d : DictDecl) × (slice_get t.dicts at ≡ Some d)
      × (entry_count pairs < 2 ^ 31) × IsRising pairs × PairsOf (HasType t no_reference levels d.key) (HasType t Refer levels d.value) pairs
  HasForm Refer levels kind (struct members) = (at : ℕ) × (kind ≡ kinds.Struct at) × (d : StructDecl) × (slice_get t.structs at ≡ Some d)
      × EachOf (HasType t Refer levels) (map (λ m. m.kind) d.members) members
  HasForm Refer levels kind (enumerator n) = IsEnumerator kind n
  HasForm Refer levels kind (proxy p) = (at : Option ℕ) × (kind ≡ kinds.Proxy at) × (parts.proxy_to Refer.most).Is p
  HasForm Refer levels kind (reference n) = (declared : Option ℕ) × (kind ≡ kinds.Class declared) × Refer.Held declared n
