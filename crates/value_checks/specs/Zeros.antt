-- The value of a type that is all zeros: what a member has to which nothing was assigned. (Ice manual, "Structures", "Classes".)
use Rattle.std.specs.Prelude.{ℕ, zero, suc, pos, false, List, [], ◌∷◌, map, Option, None, Some, slice_get}
use Rattle.ice_types.specs.declared.kind.TypeRef.{TypeRef}
use Rattle.ice_types.specs.declared.kind.TypeRef.TheVariants as kinds
use Rattle.ice_types.specs.declared.declarations.Entry.{Entry}
use Rattle.ice_types.specs.declared.declarations.EnumDecl.{EnumDecl}
use Rattle.ice_types.specs.declared.declarations.Member.{Member}
use Rattle.ice_types.specs.declared.declarations.StructDecl.{StructDecl}
use Rattle.ice_types.specs.Tables.{Tables}
use Rattle.ice_encoding.specs.Tree.{Tree, boolean, byte, short, int, long, text, sequence, dictionary, struct, enumerator, proxy, reference, none, no_entry}
use Rattle.graph_arena.specs.View.{trees_of}

-- the number of the first entry
abbrev pub first_number : List Entry → ℕ
first_number [] = 0
first_number (e ∷ es) = e.number

-- the entries of an enum that is there
abbrev pub entries_in : Option EnumDecl → List Entry
entries_in None = []
entries_in (Some e) = e.entries

-- the members of a struct that is there
abbrev pub members_in : Option StructDecl → List Member
members_in None = []
members_in (Some d) = d.members

-- of a type that nests at most so deep
unfoldable pub zero_of : Tables → ℕ → TypeRef → Tree
zero_of t zero kind = reference None
zero_of t (suc levels) kinds.Bool = boolean false
zero_of t (suc levels) kinds.Byte = byte 0
zero_of t (suc levels) kinds.Short = short (pos 0)
zero_of t (suc levels) kinds.Int = int (pos 0)
zero_of t (suc levels) kinds.Long = long (pos 0)
zero_of t (suc levels) kinds.Text = text []
zero_of t (suc levels) (kinds.Seq at) = sequence none
zero_of t (suc levels) (kinds.Dict at) = dictionary no_entry
zero_of t (suc levels) (kinds.Struct at) = struct (trees_of (map (λ m. zero_of t levels m.kind) (members_in (slice_get t.structs at))))
zero_of t (suc levels) (kinds.Enum at) = enumerator (first_number (entries_in (slice_get t.enums at)))
zero_of t (suc levels) (kinds.Proxy at) = proxy None
zero_of t (suc levels) (kinds.Class declared) = reference None
