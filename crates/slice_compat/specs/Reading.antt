-- Whether what was spelled of a type under one schema can be read of a type under another: of t what was spelled, of u what is read.
use Rattle.std.specs.Prelude.{ℕ, zero, suc, ◌≡◌, ◌==◌, Bool, true, List, [], ◌∷◌, Option, None, Some, slice_get}
use Rattle.std.specs.List.{list_any}
use Rattle.ice_types.specs.declared.kind.TypeRef.{TypeRef}
use Rattle.ice_types.specs.declared.kind.TypeRef.TheVariants as kinds
use Rattle.ice_types.specs.declared.kind.RowRef.TheVariants as rows
use Rattle.ice_types.specs.declared.declarations.SeqDecl.{SeqDecl}
use Rattle.ice_types.specs.declared.declarations.DictDecl.{DictDecl}
use Rattle.ice_types.specs.declared.declarations.StructDecl.{StructDecl}
use Rattle.ice_types.specs.declared.declarations.Entry.{Entry}
use Rattle.ice_types.specs.declared.declarations.EnumDecl.{EnumDecl}
use Rattle.ice_types.specs.declared.declarations.Member.{Member}
use Rattle.ice_types.specs.declared.schema.TheConstants.{MOST_DEPTH}
use Rattle.ice_types.specs.Tables.{Tables}
use Rattle.ice_types.specs.Inherited.{IsA}
use Rattle.ice_types.specs.Lacking.{AreSame, BothAre, SameId}

-- whether some entry has the number
abbrev pub has_entry : List Entry → ℕ → Bool
has_entry entries number = list_any (λ e. e.number == number) entries

-- each number of the first is one of the second
abbrev pub HaveEntries : List Entry → List Entry → Type 0
HaveEntries [] others = Unit {0}
HaveEntries (e ∷ es) others = (has_entry others e.number ≡ true) × HaveEntries es others

abbrev pub ReadsEnum : EnumDecl → EnumDecl → Type 0
ReadsEnum d e = HaveEntries d.entries e.entries

module _ (t u : Tables) where
  -- a class that u has by its type id, and there it is the other or derived from it
  abbrev pub IsBelow : ℕ → ℕ → Type 0
  IsBelow class base = (c : ℕ) × SameId t u (rows.Class class) (rows.Class c) × IsA u.classes c base

  -- a place where a class is declared, None where any class may stand
  abbrev pub ReadsClass : Option ℕ → Option ℕ → Type 0
  ReadsClass declared None = Unit {0}
  ReadsClass None (Some other) = ⊥
  ReadsClass (Some declared) (Some other) = IsBelow declared other

  -- two types, by whether the types inside them are so
  module _ (One : TypeRef → TypeRef → Type 0) where
    abbrev pub ReadsSeq : SeqDecl → SeqDecl → Type 0
    ReadsSeq q r = One q.element r.element

    abbrev pub ReadsDict : DictDecl → DictDecl → Type 0
    ReadsDict d e = One d.key e.key × One d.value e.value

    abbrev pub ReadsMember : Member → Member → Type 0
    ReadsMember m n = One m.kind n.kind

    abbrev pub ReadsMembers : List Member → List Member → Type 0
    ReadsMembers ms ns = AreSame ReadsMember ms ns

    abbrev pub ReadsStruct : StructDecl → StructDecl → Type 0
    ReadsStruct d e = ReadsMembers d.members e.members

    abbrev pub ReadsParts : TypeRef → TypeRef → Type 0
    ReadsParts kinds.Bool other = other ≡ kinds.Bool
    ReadsParts kinds.Byte other = other ≡ kinds.Byte
    ReadsParts kinds.Short other = other ≡ kinds.Short
    ReadsParts kinds.Int other = other ≡ kinds.Int
    ReadsParts kinds.Long other = other ≡ kinds.Long
    ReadsParts kinds.Text other = other ≡ kinds.Text
    ReadsParts (kinds.Seq a) other = (b : ℕ) × (other ≡ kinds.Seq b) × BothAre ReadsSeq (slice_get t.seqs a) (slice_get u.seqs b)
    ReadsParts (kinds.Dict a) other = (b : ℕ) × (other ≡ kinds.Dict b) × BothAre ReadsDict (slice_get t.dicts a) (slice_get u.dicts b)
    ReadsParts (kinds.Struct a) other = (b : ℕ) × (other ≡ kinds.Struct b) × BothAre ReadsStruct (slice_get t.structs a) (slice_get u.structs b)
    ReadsParts (kinds.Enum a) other = (b : ℕ) × (other ≡ kinds.Enum b) × BothAre ReadsEnum (slice_get t.enums a) (slice_get u.enums b)
    ReadsParts (kinds.Proxy a) other = (b : Option ℕ) × (other ≡ kinds.Proxy b)
    ReadsParts (kinds.Class a) other = (b : Option ℕ) × (other ≡ kinds.Class b) × ReadsClass a b

  -- types that nest at most so deep
  abbrev pub ReadsWithin : ℕ → TypeRef → TypeRef → Type 0
  ReadsWithin zero kind other = ⊥
  ReadsWithin (suc levels) kind other = ReadsParts (ReadsWithin levels) kind other

-- No type of a schema nests deeper.
unfoldable pub Reads : Tables → Tables → TypeRef → TypeRef → Type 0
Reads t u kind other = ReadsWithin t u MOST_DEPTH kind other
