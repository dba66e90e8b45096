-- The first fault of a value of a type, by that of a reference. (Ice manual, "Data Encoding".)
use Rattle.std.specs.Prelude.{ℕ, zero, suc, ◌≡◌, ◌+◌, ◌⊎◌, List, [], ◌∷◌, ◌++◌, length, map, replicate, Option, Some, slice_get}
use Rattle.ice_types.specs.declared.kind.TypeRef.{TypeRef}
use Rattle.ice_types.specs.declared.kind.TypeRef.TheVariants as kinds
use Rattle.ice_types.specs.declared.declarations.SeqDecl.{SeqDecl}
use Rattle.ice_types.specs.declared.declarations.DictDecl.{DictDecl}
use Rattle.ice_types.specs.declared.declarations.StructDecl.{StructDecl}
use Rattle.ice_types.specs.declared.declarations.EnumDecl.{EnumDecl}
use Rattle.ice_types.specs.declared.schema.TheConstants.{MOST_DEPTH}
use Rattle.ice_types.specs.Tables.{Tables}
use Rattle.ice_prims.specs.declared.fault.Kind.TheVariants.{EqualKey}
use Rattle.ice_encoding.specs.Order.{LacksKey, insert}
use Rattle.ice_encoding.specs.Parts.{size}
use Rattle.ice_encoding.specs.Port.{Port, Speller, by_number}
use Rattle.ice_encoding.specs.Spelling.{SpellsValue}
use Rattle.ice_encoding.specs.Tree.{Tree, Entries, no_entry}
use Rattle.graph_laws.specs.Defects.{Defect, At, Never, Lacks, Then, Followed, SizeBreaks, TextBreaks}
use Rattle.graph_laws.specs.Proxies.{BoolBreaks, EnumeratorBreaks, ProxyBreaks}

-- one of these types has it, those before which stand
abbrev pub EachBreaks : {S : Type 0} → (TypeRef → Speller S Tree) → (TypeRef → S → Defect) → List TypeRef → S → Defect
EachBreaks One Breaks [] = λ from. Never
EachBreaks One Breaks (kind ∷ others) = Followed (One kind) (Breaks kind) (λ v. EachBreaks One Breaks others)

-- Of so many pairs behind these: a key has it, or is one of those before, which is told before its value; or the value, or a
-- later pair has it.
abbrev pub PairsBreak : {S : Type 0} → Speller S Tree → (S → Defect) → Speller S Tree → (S → Defect) → ℕ → Entries → S → Defect
PairsBreak Key KeyBreaks Held HeldBreaks zero before = λ from. Never
PairsBreak {S} Key KeyBreaks Held HeldBreaks (suc n) before = λ from place bytes fault. KeyBreaks from place bytes fault
    ⊎ ((k : Tree) × (mid : S) × (a rest : List ℕ) × (bytes ≡ a ++ rest) × Key a k from mid
    × ((¬ LacksKey k before × At place EqualKey fault)
    ⊎ (LacksKey k before × Followed Held HeldBreaks (λ v. PairsBreak Key KeyBreaks Held HeldBreaks n (insert k v before)) mid (place + length a) rest fault)))

module _ {R S : Type 0} (port : Port R S) (ReferenceBreaks : Option ℕ → S → Defect) (t : Tables) where
  -- a type, by what is wrong with the types inside it
  abbrev pub PartsBreak : (TypeRef → Speller S Tree) → (TypeRef → S → Defect) → TypeRef → S → Defect
  PartsBreak One Breaks kinds.Bool = λ from. BoolBreaks
  PartsBreak One Breaks kinds.Byte = λ from. Lacks 1
  PartsBreak One Breaks kinds.Short = λ from. Lacks 2
  PartsBreak One Breaks kinds.Int = λ from. Lacks 4
  PartsBreak One Breaks kinds.Long = λ from. Lacks 8
  PartsBreak One Breaks kinds.Text = λ from. TextBreaks
  PartsBreak One Breaks (kinds.Seq at) = λ from place bytes fault. (q : SeqDecl) × (slice_get t.seqs at ≡ Some q)
      × Then size SizeBreaks (λ n. EachBreaks One Breaks (replicate n q.element) from) place bytes fault
  PartsBreak One Breaks (kinds.Dict at) = λ from place bytes fault. (d : DictDecl) × (slice_get t.dicts at ≡ Some d)
      × Then size SizeBreaks (λ n. PairsBreak (One d.key) (Breaks d.key) (One d.value) (Breaks d.value) n no_entry from) place bytes fault
  PartsBreak One Breaks (kinds.Struct at) = λ from place bytes fault. (d : StructDecl) × (slice_get t.structs at ≡ Some d) × EachBreaks One Breaks (map (λ m. m.kind) d.members) from place bytes fault
  PartsBreak One Breaks (kinds.Enum at) = λ from place bytes fault. (e : EnumDecl) × (slice_get t.enums at ≡ Some e) × EnumeratorBreaks e.entries place bytes fault
  PartsBreak One Breaks (kinds.Proxy at) = λ from. ProxyBreaks
  PartsBreak One Breaks (kinds.Class at) = ReferenceBreaks at

  -- what is wrong with a value of a type that nests at most so deep
  abbrev pub ValueBreaks : ℕ → TypeRef → S → Defect
  ValueBreaks zero kind = λ from. Never
  ValueBreaks (suc levels) kind = PartsBreak (SpellsValue port t levels) (ValueBreaks levels) kind

-- of a value by itself, each reference by its number
unfoldable pub PlainValueBreaks : Tables → TypeRef → Defect
PlainValueBreaks t kind = ValueBreaks by_number (λ at from. SizeBreaks) t MOST_DEPTH kind tt
