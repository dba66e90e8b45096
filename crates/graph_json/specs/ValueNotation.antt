-- Which JSON notes a value of a type. JSON is what `serde_json` reads a text as: of a name that comes twice in an object, the
-- last value stays.
use Rattle.std.specs.Prelude.{ℕ, ℤ, pos, zero, suc, ◌<◌, ◌^◌, ◌≡◌, Bool, List, [], ◌∷◌, length, Option, None, Some, Ok, slice_get, codes, FitsSigned}
use Rattle.std.specs.Int.{Width, w16, w32, w64}
use Rattle.std.specs.List.{Any}
use Rattle.std.specs.Str.{IsUtf8}
use Rattle.serde_json.specs.Data.{Num, unsigned, Data, null, boolean, number, string, array, object, Items, no_items, item, Members, no_members, member}
use Rattle.serde_json.specs.Find.{as_integer, get_member}
use Rattle.serde_json.specs.Events.{items_len, members_len}
use Rattle.ice_types.specs.declared.kind.TypeRef.{TypeRef}
use Rattle.ice_types.specs.declared.kind.TypeRef.TheVariants as kinds
use Rattle.ice_types.specs.declared.declarations.SeqDecl.{SeqDecl}
use Rattle.ice_types.specs.declared.declarations.DictDecl.{DictDecl}
use Rattle.ice_types.specs.declared.declarations.StructDecl.{StructDecl}
use Rattle.ice_types.specs.declared.declarations.EnumDecl.{EnumDecl}
use Rattle.ice_types.specs.declared.declarations.Entry.{Entry}
use Rattle.ice_types.specs.declared.declarations.Member.{Member}
use Rattle.ice_types.specs.declared.proxy.Proxy.{Proxy}
use Rattle.ice_types.specs.declared.schema.TheConstants.{MOST_DEPTH}
use Rattle.ice_types.specs.Tables.{Tables}
use Rattle.ice_encoding.specs.Tree as tree
use Rattle.ice_encoding.specs.Tree.{Tree, Trees, none, Entries, no_entry}
use Rattle.ice_encoding.specs.Order.{LacksKey, insert}
use Rattle.ice_encoding.specs.Port.{size_of}
use Rattle.ice_proxy.specs.Grammar.{proxy_text}

-- JSON that is to stand for something
abbrev pub Noting : Type 0 → Type 1
Noting A = Data → A → Type 0

-- ---- numbers, enumerators, proxies, references

-- a number that is no float
abbrev pub NotesInteger : Noting ℤ
NotesInteger d z = (n : Num) × (d ≡ number n) × (as_integer n ≡ Some z)

abbrev pub NotesSigned : Width → (ℤ → Tree) → Noting Tree
NotesSigned w make d v = (z : ℤ) × NotesInteger d z × FitsSigned w z × (v ≡ make z)

-- some enumerator has this name and this number
abbrev pub IsEnumerator : List Entry → List ℕ → ℕ → Type 0
IsEnumerator entries name n = Any (λ e. (e.name ≡ name) × (e.number ≡ n)) entries

-- its name
abbrev pub NotesEnumerator : List Entry → Noting ℕ
NotesEnumerator entries d n = (name : List ℕ) × (d ≡ string name) × IsEnumerator entries name n

-- a text of it, which is shorter than 1,073,741,824 bytes; null for the null proxy
abbrev pub NotesProxy : Noting (Option Proxy)
NotesProxy d None = d ≡ null
NotesProxy d (Some p) = (text : List ℕ) × (d ≡ string text) × (length text < 2 ^ 30) × (proxy_text text ≡ Ok p)

-- an object whose one name is `$`, with a number that is two more
abbrev pub name_noted : ℕ → Data
name_noted n = object (member (codes "$") (number (unsigned (suc (suc n)))) no_members)

-- the name of an instance, counted from 0, where it can be written as a size
abbrev pub NotesName : Noting ℕ
NotesName d n = (size_of (Some n) < 2 ^ 31) × (d ≡ name_noted n)

-- `{"$":N}` for the instance whose number, from 0, is N - 2 and can be written as a size; null for null
abbrev pub NotesReference : Noting (Option ℕ)
NotesReference d None = d ≡ null
NotesReference d (Some n) = NotesName d n

-- ---- several values

-- each item stands for a value, in order
abbrev pub NotesEach : Noting Tree → Items → Trees → Type 0
NotesEach One no_items values = values ≡ none
NotesEach One (item d ds) values = (v : Tree) × (vs : Trees) × (values ≡ tree.tree v vs) × One d v × NotesEach One ds vs

-- each member's value stands at its name
abbrev pub NotesMembers : (TypeRef → Noting Tree) → List Member → Members → Trees → Type 0
NotesMembers One [] found values = values ≡ none
NotesMembers One (m ∷ ms) found values = (d : Data) × (v : Tree) × (vs : Trees) × (values ≡ tree.tree v vs)
    × (get_member m.name found ≡ Some d) × One m.kind d v × NotesMembers One ms found vs

abbrev pub pair : Data → Data → Data
pair key held = array (item key (item held no_items))

-- Each item is a pair, whose key is none of those before; each comes to its place in the order of the keys.
abbrev pub NotesPairs : Noting Tree → Noting Tree → Entries → Items → Entries → Type 0
NotesPairs Key Held before no_items pairs = pairs ≡ before
NotesPairs Key Held before (item d ds) pairs = (a b : Data) × (k v : Tree) × (d ≡ pair a b) × Key a k × LacksKey k before × Held b v × NotesPairs Key Held (insert k v before) ds pairs

-- ---- a value

module _ (t : Tables) where
  -- A type, by what notes the types inside it. A struct's object has the names of its members and no more.
  abbrev pub NotesParts : (TypeRef → Noting Tree) → TypeRef → Noting Tree
  NotesParts One kinds.Bool d v = (b : Bool) × (d ≡ boolean b) × (v ≡ tree.boolean b)
  NotesParts One kinds.Byte d v = (n : ℕ) × NotesInteger d (pos n) × (n < 256) × (v ≡ tree.byte n)
  NotesParts One kinds.Short d v = NotesSigned w16 tree.short d v
  NotesParts One kinds.Int d v = NotesSigned w32 tree.int d v
  NotesParts One kinds.Long d v = NotesSigned w64 tree.long d v
  NotesParts One kinds.Text d v = (s : List ℕ) × (d ≡ string s) × IsUtf8 s × (length s < 2 ^ 31) × (v ≡ tree.text s)
  NotesParts One (kinds.Seq at) d v = (q : SeqDecl) × (slice_get t.seqs at ≡ Some q) × (ds : Items) × (d ≡ array ds) × (items_len ds < 2 ^ 31)
      × (vs : Trees) × (v ≡ tree.sequence vs) × NotesEach (One q.element) ds vs
  NotesParts One (kinds.Dict at) d v = (r : DictDecl) × (slice_get t.dicts at ≡ Some r) × (ds : Items) × (d ≡ array ds) × (items_len ds < 2 ^ 31)
      × (ps : Entries) × (v ≡ tree.dictionary ps) × NotesPairs (One r.key) (One r.value) no_entry ds ps
  NotesParts One (kinds.Struct at) d v = (r : StructDecl) × (slice_get t.structs at ≡ Some r) × (found : Members) × (d ≡ object found) × (members_len found ≡ length r.members)
      × (vs : Trees) × (v ≡ tree.struct vs) × NotesMembers One r.members found vs
  NotesParts One (kinds.Enum at) d v = (e : EnumDecl) × (slice_get t.enums at ≡ Some e) × (n : ℕ) × NotesEnumerator e.entries d n × (v ≡ tree.enumerator n)
  NotesParts One (kinds.Proxy at) d v = (p : Option Proxy) × NotesProxy d p × (v ≡ tree.proxy p)
  NotesParts One (kinds.Class declared) d v = (n : Option ℕ) × NotesReference d n × (v ≡ tree.reference n)

  -- of a type that nests at most so deep
  abbrev pub NotesLevels : ℕ → TypeRef → Noting Tree
  NotesLevels zero kind d v = ⊥
  NotesLevels (suc levels) kind d v = NotesParts (NotesLevels levels) kind d v

-- this JSON notes this value of the type: truth values, strings, numbers that are no floats and within the range of
-- the type, arrays for sequences, arrays of pairs in any order with no key twice for dictionaries, objects with
-- exactly the names of the members for structs
unfoldable pub Notes : Tables → TypeRef → Noting Tree
Notes t kind d v = NotesLevels t MOST_DEPTH kind d v
