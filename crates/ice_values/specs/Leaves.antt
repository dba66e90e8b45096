-- Values without parts: what is read for one.
use Rattle.std.specs.Prelude.{◌≡◌, Result, Ok, Err, slice_get}
use Rattle.std.specs.Int.{w16, w32, w64}
use Rattle.ice_types.specs.declared.kind.TypeRef.{TypeRef}
use Rattle.ice_types.specs.declared.kind.TypeRef.TheVariants as kinds
use Rattle.ice_types.specs.Tables.{Tables}
use Rattle.ice_prims.specs.declared.fault.Fault.{Fault}
use Rattle.ice_prims.specs.declared.fault.ReadFault.{ReadFault}
use Rattle.ice_prims.specs.Rest.{Rest, ◌>>=◌}
use Rattle.ice_prims.specs.Number.{bool_at, byte_at, signed_at, text_at}
use Rattle.ice_prims.specs.Taking.{Fails}
use Rattle.ice_encoding.specs.Proxy as parts
use Rattle.ice_encoding.specs.Tree.{Tree, boolean, byte, short, int, long, text, enumerator, proxy}
use Rattle.ice_encoding.specs.Port.{nowhere}
use Rattle.ice_encoding.specs.Enum.{enumerator_at}
use Rattle.ice_encoding.specs.Reading.{listed}

-- Something was read. Where reading stands after a refusal is left open.
abbrev pub ReadsLeaf : {X Y : Type 0} → (X → Y) → Result X ReadFault → Rest → Result (Y × Rest) Fault → Type 0
ReadsLeaf view (Ok x) new read = read ≡ Ok (view x, new)
ReadsLeaf view (Err e) new read = Fails e read

-- the same of a call that takes no memory
abbrev pub Sees : {A : Type 0} → Result A Fault → Rest → Result (A × Rest) Fault → Type 0
Sees (Ok x) new read = read ≡ Ok (x, new)
Sees (Err e) new read = read ≡ Err e

-- types whose values have no parts and are no references
abbrev pub IsLeaf : TypeRef → Type 0
IsLeaf kinds.Bool = Unit {0}
IsLeaf kinds.Byte = Unit {0}
IsLeaf kinds.Short = Unit {0}
IsLeaf kinds.Int = Unit {0}
IsLeaf kinds.Long = Unit {0}
IsLeaf kinds.Text = Unit {0}
IsLeaf (kinds.Enum at) = Unit {0}
IsLeaf (kinds.Proxy at) = Unit {0}
IsLeaf (kinds.Seq at) = ⊥
IsLeaf (kinds.Dict at) = ⊥
IsLeaf (kinds.Struct at) = ⊥
IsLeaf (kinds.Class at) = ⊥

-- types whose values have parts
abbrev pub HasParts : TypeRef → Type 0
HasParts kinds.Bool = ⊥
HasParts kinds.Byte = ⊥
HasParts kinds.Short = ⊥
HasParts kinds.Int = ⊥
HasParts kinds.Long = ⊥
HasParts kinds.Text = ⊥
HasParts (kinds.Enum at) = ⊥
HasParts (kinds.Proxy at) = ⊥
HasParts (kinds.Seq at) = Unit {0}
HasParts (kinds.Dict at) = Unit {0}
HasParts (kinds.Struct at) = Unit {0}
HasParts (kinds.Class at) = ⊥

-- a tree made of something
abbrev pub seen : {A : Type 0} → (A → Tree) → Result (A × Rest) Fault → Result (Tree × Rest) Fault
seen make read = read >>= λ x. Ok (make x.0, x.1)

-- reading a value without parts
abbrev pub leaf_at : Tables → TypeRef → Rest → Result (Tree × Rest) Fault
leaf_at t kinds.Bool r = seen boolean (bool_at r)
leaf_at t kinds.Byte r = seen byte (byte_at r)
leaf_at t kinds.Short r = seen short (signed_at w16 r)
leaf_at t kinds.Int r = seen int (signed_at w32 r)
leaf_at t kinds.Long r = seen long (signed_at w64 r)
leaf_at t kinds.Text r = seen text (text_at r)
leaf_at t (kinds.Enum at) r = listed (slice_get t.enums at) r (λ e. seen enumerator (enumerator_at e.entries r))
leaf_at t (kinds.Proxy at) r = seen proxy (parts.proxy.read r)
leaf_at t (kinds.Seq at) r = nowhere r
leaf_at t (kinds.Dict at) r = nowhere r
leaf_at t (kinds.Struct at) r = nowhere r
leaf_at t (kinds.Class at) r = nowhere r
