-- Which types a type is made of.
use Rattle.std.specs.Prelude.{ℕ, ◌≡◌, ◌⊎◌, Some, slice_get}
use Rattle.ice_types.specs.declared.kind.TypeRef.{TypeRef}
use Rattle.ice_types.specs.declared.kind.TypeRef.TheVariants as kinds
use Rattle.ice_types.specs.declared.declarations.SeqDecl.{SeqDecl}
use Rattle.ice_types.specs.declared.declarations.DictDecl.{DictDecl}
use Rattle.ice_types.specs.declared.declarations.StructDecl.{StructDecl}
use Rattle.ice_types.specs.declared.declarations.Member.{Member}
use Rattle.ice_types.specs.Tables.{Tables}

-- the element of a sequence, the key and the value of a dictionary, the members of a struct
abbrev pub HasPart : Tables → TypeRef → TypeRef → Type 0
HasPart t (kinds.Seq at) part = (q : SeqDecl) × (slice_get t.seqs at ≡ Some q) × (q.element ≡ part)
HasPart t (kinds.Dict at) part = (d : DictDecl) × (slice_get t.dicts at ≡ Some d) × ((d.key ≡ part) ⊎ (d.value ≡ part))
HasPart t (kinds.Struct at) part = (d : StructDecl) × (slice_get t.structs at ≡ Some d) × (place : ℕ) × (m : Member) × (slice_get d.members place ≡ Some m) × (m.kind ≡ part)
HasPart t (kinds.Enum at) part = ⊥
HasPart t (kinds.Proxy at) part = ⊥
HasPart t (kinds.Class at) part = ⊥
HasPart t kinds.Bool part = ⊥
HasPart t kinds.Byte part = ⊥
HasPart t kinds.Short part = ⊥
HasPart t kinds.Int part = ⊥
HasPart t kinds.Long part = ⊥
HasPart t kinds.Text part = ⊥

-- from part to part, in one step or more
pub data Leads (t : Tables) : TypeRef → TypeRef → Type 0 where
  Part : (a b : TypeRef) → HasPart t a b → Leads t a b
  Through : (a b c : TypeRef) → HasPart t a b → Leads t b c → Leads t a c
