-- What may be added to a schema's tables.
use Rattle.std.specs.Prelude.{ℕ, suc, ◌≡◌, ◌≢◌, ◌≤◌, ◌<◌, ◌-◌, Bool, true, IsTrue, List, [], ◌∷◌, ◌++◌, map, length, All, Option, None, Some, nat_le, sum_by, if◌then◌else◌}
use Rattle.ice_types.specs.declared.kind.TypeRef.{TypeRef}
use Rattle.ice_types.specs.declared.declarations.Member.{Member}
use Rattle.ice_types.specs.declared.declarations.Entry.{Entry}
use Rattle.ice_types.specs.declared.declarations.Shape.{Shape}
use Rattle.ice_types.specs.declared.declarations.OpDecl.{OpDecl}
use Rattle.ice_types.specs.declared.measure.Measure.{Measure}
use Rattle.ice_types.specs.declared.schema.TheConstants.{MOST_DEPTH, MOST_SMALLEST, MOST_BASES, MOST_NUMBER}
use Rattle.ice_types.specs.Tables.{Tables, IsNewCompactId, is_defined}
use Rattle.ice_types.specs.Measures.{measure, measured, measure_members, paths_of}
use Rattle.ice_types.specs.Names.{AreNew}

-- ---- sequences, dictionaries, structs: no type nests deeper than a hundred levels

-- a sequence may be added: its element is a type of the tables, and it nests at most 100 deep
abbrev pub SeqFits : Tables → TypeRef → Type 0
SeqFits t element = (m : Measure) × (measure t (MOST_DEPTH - 1) element ≡ Some m)

-- a dictionary may be added: its key may be one, and no part nests too deep
abbrev pub DictFits : Tables → TypeRef → TypeRef → Type 0
DictFits t key value = (k v : Measure) × (measure t (MOST_DEPTH - 2) key ≡ Some k) × (k.is_key ≡ true) × (measure t (MOST_DEPTH - 2) value ≡ Some v)

-- the names of members
abbrev pub names_of : List Member → List (List ℕ)
names_of members = map (λ m. m.name) members

-- and no struct's smallest spelling is longer than 1,048,576 bytes
abbrev pub is_small : Measure → Bool
is_small m = nat_le m.smallest MOST_SMALLEST

-- members together, where a struct may have them by the length of their smallest spelling
abbrev pub small_members : Tables → List Member → Option Measure
small_members t members = measured (measure_members (measure t (MOST_DEPTH - 1)) members) (λ m. if is_small m then Some m else None)

-- none of the members is optional
abbrev pub AreRequired : List Member → Type 0
AreRequired members = All (λ m. m.tag ≡ None) members

-- at least one member, none optional, each with a name of its own, and together they are small
abbrev pub StructFits : Tables → List Member → Type 0
StructFits t members = (m : Measure) × (measure_members (measure t (MOST_DEPTH - 1)) members ≡ Some m) × (m.smallest ≤ MOST_SMALLEST) × (members ≢ []) × AreNew [] (names_of members) × AreRequired members

-- ---- numbers

-- each number is none of those before it
abbrev pub DifferFrom : List ℕ → List ℕ → Type 0
DifferFrom before [] = Unit {0}
DifferFrom before (n ∷ ns) = All (λ other. other ≢ n) before × DifferFrom (n ∷ before) ns

-- no two of the numbers are equal, and each is at most 2,147,483,647
abbrev pub NumbersFit : List ℕ → Type 0
NumbersFit numbers = All (λ n. n ≤ MOST_NUMBER) numbers × DifferFrom [] numbers

-- ---- enums

-- at least one entry, with names and numbers of their own
abbrev pub EnumFits : List Entry → Type 0
EnumFits entries = (entries ≢ []) × AreNew [] (map (λ e. e.name) entries) × NumbersFit (map (λ e. e.number) entries)

-- ---- classes and exceptions

-- a type of the tables
abbrev pub IsOf : Tables → TypeRef → Type 0
IsOf t kind = (m : Measure) × (measure t MOST_DEPTH kind ≡ Some m)

-- each member is of a type of the tables
abbrev pub AreOf : Tables → List Member → Type 0
AreOf t members = All (λ m. IsOf t m.kind) members

-- the tags of the optional ones, in order
abbrev pub tags_of : List Member → List ℕ
tags_of [] = []
tags_of (m ∷ ms) = elim m.tag [ None ↦ tags_of ms | Some tag ↦ tag ∷ tags_of ms ]

-- types of the tables, with names and tags of their own
abbrev pub MembersFit : Tables → List Member → Type 0
MembersFit t members = AreOf t members × AreNew [] (names_of members) × NumbersFit (tags_of members)

-- a base is there and defined
abbrev pub ClassBaseFits : Tables → Option ℕ → Type 0
ClassBaseFits t None = Unit {0}
ClassBaseFits t (Some base) = IsTrue (is_defined t.defined_classes base)

-- the base is there and defined, and the members fit
abbrev pub ClassFits : Tables → Option ℕ → List Member → Type 0
ClassFits t base members = ClassBaseFits t base × MembersFit t members

-- a compact id is at most 2,147,483,647, and no class has it
abbrev pub CompactIdFits : Tables → Option ℕ → Type 0
CompactIdFits t None = Unit {0}
CompactIdFits t (Some number) = (number ≤ MOST_NUMBER) × IsNewCompactId t number

-- the base of an exception is there
abbrev pub ExceptionBaseFits : Tables → Option ℕ → Type 0
ExceptionBaseFits t None = Unit {0}
ExceptionBaseFits t (Some base) = base < length t.exceptions

-- the base is there, and the members fit
abbrev pub ExceptionFits : Tables → Option ℕ → List Member → Type 0
ExceptionFits t base members = ExceptionBaseFits t base × MembersFit t members

-- ---- interfaces

-- optional ones by rising tag, from the least that the first may have
abbrev pub AreRising : ℕ → List Member → Type 0
AreRising least [] = Unit {0}
AreRising least (m ∷ ms) = (tag : ℕ) × (m.tag ≡ Some tag) × (least ≤ tag) × (tag ≤ MOST_NUMBER) × AreRising (suc tag) ms

-- required members without a tag, then optional ones by rising tag
abbrev pub ShapeFits : Tables → Shape → Type 0
ShapeFits t s = AreOf t s.required × AreRequired s.required × AreOf t s.optional × AreRising 0 s.optional

-- arguments and results, the value that is returned among them
abbrev pub members_of_op : OpDecl → List Member
members_of_op op = op.arguments.required ++ (op.arguments.optional ++ (op.results.required ++ op.results.optional))

-- the names of all arguments and results differ, and it throws exceptions of the tables
abbrev pub OpFits : Tables → OpDecl → Type 0
OpFits t op = ShapeFits t op.arguments × ShapeFits t op.results × AreNew [] (names_of (members_of_op op)) × All (λ at. at < length t.exceptions) op.throws

-- how many bases there are, counted by the paths that lead to them, where these are the next ones
abbrev pub paths_over : Tables → List ℕ → ℕ
paths_over t bases = sum_by (λ base. suc (paths_of t (suc MOST_BASES) base)) bases

-- each base is there and defined, none is named twice, and by paths they are at most a thousand
abbrev pub BasesFit : Tables → List ℕ → Type 0
BasesFit t bases = All (λ base. IsTrue (is_defined t.defined_interfaces base)) bases × DifferFrom [] bases × (paths_over t bases ≤ MOST_BASES)

-- and the operations have names of their own
abbrev pub InterfaceFits : Tables → List ℕ → List OpDecl → Type 0
InterfaceFits t bases ops = BasesFit t bases × All (OpFits t) ops × AreNew [] (map (λ op. op.name) ops)
