-- A schema that lacks some classes of another one. Rows are found by their ids, wherever they stand in the tables.
use Rattle.std.specs.Prelude.{ℕ, ◌≡◌, ◌⊎◌, List, [], ◌∷◌, Option, None, Some, slice_get}
use Rattle.ice_types.specs.declared.kind.TypeRef.{TypeRef}
use Rattle.ice_types.specs.declared.kind.TypeRef.TheVariants as kinds
use Rattle.ice_types.specs.declared.kind.RowRef.{RowRef}
use Rattle.ice_types.specs.declared.kind.RowRef.TheVariants as rows
use Rattle.ice_types.specs.declared.declarations.SeqDecl.{SeqDecl}
use Rattle.ice_types.specs.declared.declarations.DictDecl.{DictDecl}
use Rattle.ice_types.specs.declared.declarations.StructDecl.{StructDecl}
use Rattle.ice_types.specs.declared.declarations.Entry.{Entry}
use Rattle.ice_types.specs.declared.declarations.EnumDecl.{EnumDecl}
use Rattle.ice_types.specs.declared.declarations.ClassDecl.{ClassDecl}
use Rattle.ice_types.specs.declared.declarations.ExceptionDecl.{ExceptionDecl}
use Rattle.ice_types.specs.declared.declarations.InterfaceDecl.{InterfaceDecl}
use Rattle.ice_types.specs.declared.declarations.Member.{Member}
use Rattle.ice_types.specs.declared.declarations.Shape.{Shape}
use Rattle.ice_types.specs.declared.declarations.OpDecl.{OpDecl}
use Rattle.ice_types.specs.Tables.{Tables, HasId, HasRowId, seq_ids, dict_ids, struct_ids, enum_ids, class_ids, exception_ids, interface_ids}

-- as many of the one as of the other, and each so with the one at its place
abbrev pub AreSame : {A : Type 0} → (A → A → Type 0) → List A → List A → Type 0
AreSame Same [] [] = Unit {0}
AreSame Same [] (y ∷ ys) = ⊥
AreSame Same (x ∷ xs) [] = ⊥
AreSame Same (x ∷ xs) (y ∷ ys) = Same x y × AreSame Same xs ys

-- something stands at both places, and is so
abbrev pub BothAre : {A : Type 0} → (A → A → Type 0) → Option A → Option A → Type 0
BothAre {A} Same a b = (x y : A) × (a ≡ Some x) × (b ≡ Some y) × Same x y

abbrev pub SameEntry : Entry → Entry → Type 0
SameEntry a b = (a.name ≡ b.name) × (a.number ≡ b.number)

module _ (t s : Tables) where
  -- rows of one id
  abbrev pub SameId : RowRef → RowRef → Type 0
  SameId a b = (id : List ℕ) × HasRowId t id a × HasRowId s id b

  -- a type of one sort, and of one id where it is a row
  abbrev pub SameKind : TypeRef → TypeRef → Type 0
  SameKind kinds.Bool kind = kind ≡ kinds.Bool
  SameKind kinds.Byte kind = kind ≡ kinds.Byte
  SameKind kinds.Short kind = kind ≡ kinds.Short
  SameKind kinds.Int kind = kind ≡ kinds.Int
  SameKind kinds.Long kind = kind ≡ kinds.Long
  SameKind kinds.Text kind = kind ≡ kinds.Text
  SameKind (kinds.Seq a) kind = (b : ℕ) × (kind ≡ kinds.Seq b) × SameId (rows.Seq a) (rows.Seq b)
  SameKind (kinds.Dict a) kind = (b : ℕ) × (kind ≡ kinds.Dict b) × SameId (rows.Dict a) (rows.Dict b)
  SameKind (kinds.Struct a) kind = (b : ℕ) × (kind ≡ kinds.Struct b) × SameId (rows.Struct a) (rows.Struct b)
  SameKind (kinds.Enum a) kind = (b : ℕ) × (kind ≡ kinds.Enum b) × SameId (rows.Enum a) (rows.Enum b)
  SameKind (kinds.Proxy None) kind = kind ≡ kinds.Proxy None
  SameKind (kinds.Proxy (Some a)) kind = (b : ℕ) × (kind ≡ kinds.Proxy (Some b)) × SameId (rows.Interface a) (rows.Interface b)
  SameKind (kinds.Class None) kind = kind ≡ kinds.Class None
  SameKind (kinds.Class (Some a)) kind = (b : ℕ) × (kind ≡ kinds.Class (Some b)) × SameId (rows.Class a) (rows.Class b)

  abbrev pub SameMember : Member → Member → Type 0
  SameMember a b = (a.name ≡ b.name) × SameKind a.kind b.kind × (a.tag ≡ b.tag)

  abbrev pub SameShape : Shape → Shape → Type 0
  SameShape a b = AreSame SameMember a.required b.required × AreSame SameMember a.optional b.optional

  abbrev pub SameThrow : ℕ → ℕ → Type 0
  SameThrow a b = SameId (rows.Exception a) (rows.Exception b)

  abbrev pub SameOp : OpDecl → OpDecl → Type 0
  SameOp a b = (a.name ≡ b.name) × (a.idempotent ≡ b.idempotent) × SameShape a.arguments b.arguments × SameShape a.results b.results
      × AreSame SameThrow a.throws b.throws

  -- no base, or bases of one id, where `row` is the row at a place
  abbrev pub SameBase : (ℕ → RowRef) → Option ℕ → Option ℕ → Type 0
  SameBase row None base = base ≡ None
  SameBase row (Some a) base = (b : ℕ) × (base ≡ Some b) × SameId (row a) (row b)

  abbrev pub SameSeq : SeqDecl → SeqDecl → Type 0
  SameSeq a b = SameKind a.element b.element

  abbrev pub SameDict : DictDecl → DictDecl → Type 0
  SameDict a b = SameKind a.key b.key × SameKind a.value b.value

  abbrev pub SameStruct : StructDecl → StructDecl → Type 0
  SameStruct a b = AreSame SameMember a.members b.members

  abbrev pub SameEnum : EnumDecl → EnumDecl → Type 0
  SameEnum a b = AreSame SameEntry a.entries b.entries

  abbrev pub SameClass : ClassDecl → ClassDecl → Type 0
  SameClass a b = SameBase rows.Class a.base b.base × AreSame SameMember a.members b.members × (a.compact ≡ b.compact)

  abbrev pub SameException : ExceptionDecl → ExceptionDecl → Type 0
  SameException a b = SameBase rows.Exception a.base b.base × AreSame SameMember a.members b.members

  abbrev pub SameInterfaceBase : ℕ → ℕ → Type 0
  SameInterfaceBase a b = SameId (rows.Interface a) (rows.Interface b)

  abbrev pub SameInterface : InterfaceDecl → InterfaceDecl → Type 0
  SameInterface a b = AreSame SameInterfaceBase a.bases b.bases × AreSame SameOp a.ops b.ops

  -- rows of one sort, in which all is equal and in the same order
  abbrev pub SameRow : RowRef → RowRef → Type 0
  SameRow (rows.Seq a) row = (b : ℕ) × (row ≡ rows.Seq b) × BothAre SameSeq (slice_get t.seqs a) (slice_get s.seqs b)
  SameRow (rows.Dict a) row = (b : ℕ) × (row ≡ rows.Dict b) × BothAre SameDict (slice_get t.dicts a) (slice_get s.dicts b)
  SameRow (rows.Struct a) row = (b : ℕ) × (row ≡ rows.Struct b) × BothAre SameStruct (slice_get t.structs a) (slice_get s.structs b)
  SameRow (rows.Enum a) row = (b : ℕ) × (row ≡ rows.Enum b) × BothAre SameEnum (slice_get t.enums a) (slice_get s.enums b)
  SameRow (rows.Class a) row = (b : ℕ) × (row ≡ rows.Class b) × BothAre SameClass (slice_get t.classes a) (slice_get s.classes b)
  SameRow (rows.Exception a) row = (b : ℕ) × (row ≡ rows.Exception b) × BothAre SameException (slice_get t.exceptions a) (slice_get s.exceptions b)
  SameRow (rows.Interface a) row = (b : ℕ) × (row ≡ rows.Interface b) × BothAre SameInterface (slice_get t.interfaces a) (slice_get s.interfaces b)

  -- a row of this id that is the same
  abbrev pub HasRow : List ℕ → RowRef → Type 0
  HasRow id row = (own : RowRef) × HasRowId t id own × SameRow own row

abbrev pub IsClass : RowRef → Type 0
IsClass row = (at : ℕ) × (row ≡ rows.Class at)

-- some row has the id
abbrev pub IsTaken : Tables → List ℕ → Type 0
IsTaken t id = (row : RowRef) × HasRowId t id row

-- s is t without some classes
pub record Lacks (t s : Tables) : Type 0 where
  -- each row of s is one of t
  pub kept : (id : List ℕ) (row : RowRef) → HasRowId s id row → HasRow t s id row
  -- and a row of t that is none of s is a class
  pub lost : (id : List ℕ) (row : RowRef) → HasRowId t id row → IsClass row ⊎ IsTaken s id

-- ---- the same, table by table

-- what stands in s at each place of a table with these ids
unfoldable pub HasRows : Tables → Tables → List (List ℕ) → (ℕ → RowRef) → Type 0
HasRows t s ids row = (at : ℕ) (id : List ℕ) → HasId ids id at → HasRow t s id (row at)

abbrev pub KeepsTypes : Tables → Tables → Type 0
KeepsTypes t s = HasRows t s (seq_ids s) rows.Seq × HasRows t s (dict_ids s) rows.Dict × HasRows t s (struct_ids s) rows.Struct × HasRows t s (enum_ids s) rows.Enum

abbrev pub KeepsRows : Tables → Tables → Type 0
KeepsRows t s = KeepsTypes t s × HasRows t s (class_ids s) rows.Class × HasRows t s (exception_ids s) rows.Exception × HasRows t s (interface_ids s) rows.Interface

-- each of the ids is in s
unfoldable pub AreTaken : Tables → List (List ℕ) → Type 0
AreTaken s ids = (at : ℕ) (id : List ℕ) → HasId ids id at → IsTaken s id

abbrev pub KeepsTypeIds : Tables → Tables → Type 0
KeepsTypeIds t s = AreTaken s (seq_ids t) × AreTaken s (dict_ids t) × AreTaken s (struct_ids t) × AreTaken s (enum_ids t)

abbrev pub KeepsIds : Tables → Tables → Type 0
KeepsIds t s = KeepsTypeIds t s × AreTaken s (exception_ids t) × AreTaken s (interface_ids t)
