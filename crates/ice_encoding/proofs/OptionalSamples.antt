-- What the definitions answer at bytes that are written out.
use Rattle.std.proofs.Common.{◌≡◌, ℕ, true, false, List, [], ◌∷◌, codes, None, Some, Result, Ok, refl}
use Rattle.std.specs.Prelude.{pos}
use Rattle.std.specs.Str.{is_utf8, chars}
use lib.Utf8.{encode}
use Rattle.ice_types.specs.declared.kind.TypeRef.{TypeRef}
use Rattle.ice_types.specs.declared.kind.TypeRef.TheVariants as kinds
use Rattle.ice_types.specs.declared.declarations.Member.{Member}
use Rattle.ice_types.specs.declared.declarations.Shape.{Shape}
use Rattle.ice_types.specs.Tables.{Tables, no_types, with_seq, with_struct}
use Rattle.ice_types.specs.Measures.{measure}
use Rattle.ice_prims.specs.declared.fault.Fault.{Fault}
use Rattle.ice_prims.specs.declared.fault.Kind.{Kind}
use Rattle.ice_prims.specs.declared.fault.Kind.TheVariants.{Short, BadSize, BadBool, BadTag, BadFormat, LeftOver}
use Rattle.ice_prims.specs.Rest.{Rest, fault, whole}
use Rattle.ice_encoding.specs.Tree.{boolean, byte, short, int, text, sequence, struct, reference, Trees, none, tree}
use Rattle.ice_encoding.specs.Port.{by_number}
use Rattle.ice_encoding.specs.Optionals.{Present}
use Rattle.ice_encoding.specs.OptionalMembers.{Members, with_optional, content_at, slice_members_at}

-- a sequence of bytes, a sequence of texts, and a struct of two shorts
abbrev tables : Tables
tables = with_struct (with_seq (with_seq no_types (record { id = codes "::M::Bytes"; element = kinds.Byte })) (record { id = codes "::M::Texts"; element = kinds.Text }))
    (record { id = codes "::M::Two"; members = (record { name = codes "a"; kind = kinds.Short; tag = None }) ∷ (record { name = codes "b"; kind = kinds.Short; tag = None }) ∷ [] })

-- an optional member, and a required one
abbrev tagged : ℕ → TypeRef → Member
tagged number kind = record { name = codes "m"; kind = kind; tag = Some number }

abbrev always : TypeRef → Member
always kind = record { name = codes "r"; kind = kind; tag = None }

-- one optional member
abbrev one : ℕ → TypeRef → Shape
one number kind = record { required = []; optional = tagged number kind ∷ [] }

-- a required short, and optional members with the tags 1 and 3
abbrev some : Shape
some = record { required = always kinds.Short ∷ []; optional = tagged 1 kinds.Int ∷ tagged 3 kinds.Text ∷ [] }

abbrev content : Shape → List ℕ → Result (Members × (Unit {0}) × Rest) Fault
content shape bytes = content_at by_number.read tables shape tt (whole bytes)

abbrev slice : Shape → List ℕ → Result (Members × (Unit {0}) × Rest) Fault
slice shape bytes = slice_members_at by_number.read tables true shape tt (whole bytes)

-- all of the bytes, and so many they were
abbrev reads : Result (Members × (Unit {0}) × Rest) Fault → ℕ → Trees → Present → Type 0
reads read length required optional = read ≡ Ok (with_optional required optional, tt, record { place = length; bytes = [] })

-- the first fault
abbrev breaks : Result (Members × (Unit {0}) × Rest) Fault → ℕ → Kind → Type 0
breaks read place kind = read ≡ fault place kind

-- ---- known tags

an_int : reads (content (one 1 kinds.Int) (10 ∷ 5 ∷ 0 ∷ 0 ∷ 0 ∷ [])) 5 none ((1, int (pos 5)) ∷ [])
unfolding measure is_utf8 chars encode
an_int = refl

-- none is present
no_member : reads (content (one 1 kinds.Int) []) 0 none []
unfolding measure is_utf8 chars encode
no_member = refl

another_format : breaks (content (one 1 kinds.Int) (8 ∷ 5 ∷ [])) 0 BadFormat
unfolding measure is_utf8 chars encode
another_format = refl

required_first : reads (content some (7 ∷ 0 ∷ 10 ∷ 5 ∷ 0 ∷ 0 ∷ 0 ∷ 29 ∷ 2 ∷ 97 ∷ 98 ∷ [])) 11 (tree (short (pos 7)) none) ((1, int (pos 5)) ∷ (3, text (codes "ab")) ∷ [])
unfolding measure is_utf8 chars encode
required_first = refl

required_lacks : breaks (content some (7 ∷ [])) 0 Short
unfolding measure is_utf8 chars encode
required_lacks = refl

-- a null reference is present
a_reference : reads (content (one 30 (kinds.Class None)) (247 ∷ 30 ∷ 0 ∷ [])) 3 none ((30, reference None) ∷ [])
unfolding measure is_utf8 chars encode
a_reference = refl

-- ---- tags that rise

falling : breaks (content some (7 ∷ 0 ∷ 29 ∷ 1 ∷ 97 ∷ 10 ∷ 5 ∷ 0 ∷ 0 ∷ 0 ∷ [])) 5 BadTag
unfolding measure is_utf8 chars encode
falling = refl

-- an unknown tag has to rise, too
unknown_falls : breaks (content some (7 ∷ 0 ∷ 29 ∷ 1 ∷ 97 ∷ 16 ∷ 5 ∷ [])) 5 BadTag
unfolding measure is_utf8 chars encode
unknown_falls = refl

-- ---- unknown tags

unknown : reads (content (one 2 kinds.Int) (8 ∷ 5 ∷ [])) 2 none []
unfolding measure is_utf8 chars encode
unknown = refl

-- two bytes behind their size, with the tag 2, between known ones
unknown_sized : reads (content some (7 ∷ 0 ∷ 10 ∷ 5 ∷ 0 ∷ 0 ∷ 0 ∷ 21 ∷ 2 ∷ 1 ∷ 1 ∷ 29 ∷ 1 ∷ 97 ∷ [])) 14 (tree (short (pos 7)) none) ((1, int (pos 5)) ∷ (3, text (codes "a")) ∷ [])
unfolding measure is_utf8 chars encode
unknown_sized = refl

-- a reference is read as one and not kept
unknown_reference : reads (content (one 2 kinds.Int) (15 ∷ 255 ∷ 0 ∷ 1 ∷ 0 ∷ 0 ∷ [])) 6 none []
unfolding measure is_utf8 chars encode
unknown_reference = refl

unknown_cut : breaks (content (one 2 kinds.Int) (11 ∷ 1 ∷ 2 ∷ [])) 1 Short
unfolding measure is_utf8 chars encode
unknown_cut = refl

-- ---- lengths before values

-- two shorts behind their length, 4
a_struct : reads (content (one 1 (kinds.Struct 0)) (13 ∷ 4 ∷ 1 ∷ 0 ∷ 2 ∷ 0 ∷ [])) 6 none ((1, struct (tree (short (pos 1)) (tree (short (pos 2)) none))) ∷ [])
unfolding measure is_utf8 chars encode
a_struct = refl

length_passes_bound : breaks (content (one 1 (kinds.Struct 0)) (13 ∷ 5 ∷ 1 ∷ 0 ∷ 2 ∷ 0 ∷ [])) 1 Short
unfolding measure is_utf8 chars encode
length_passes_bound = refl

value_passes_length : breaks (content (one 1 (kinds.Struct 0)) (13 ∷ 3 ∷ 1 ∷ 0 ∷ 2 ∷ 0 ∷ [])) 4 Short
unfolding measure is_utf8 chars encode
value_passes_length = refl

length_passes_value : breaks (content (one 1 (kinds.Struct 0)) (13 ∷ 5 ∷ 1 ∷ 0 ∷ 2 ∷ 0 ∷ 9 ∷ [])) 6 LeftOver
unfolding measure is_utf8 chars encode
length_passes_value = refl

-- texts stand behind an int
some_texts : reads (content (one 1 (kinds.Seq 1)) (14 ∷ 3 ∷ 0 ∷ 0 ∷ 0 ∷ 1 ∷ 1 ∷ 97 ∷ [])) 8 none ((1, sequence (tree (text (codes "a")) none)) ∷ [])
unfolding measure is_utf8 chars encode
some_texts = refl

negative_length : breaks (content (one 1 (kinds.Seq 1)) (14 ∷ 255 ∷ 255 ∷ 255 ∷ 255 ∷ [])) 1 BadSize
unfolding measure is_utf8 chars encode
negative_length = refl

-- bytes have no length but their own size
some_bytes : reads (content (one 1 (kinds.Seq 0)) (13 ∷ 2 ∷ 7 ∷ 8 ∷ [])) 4 none ((1, sequence (tree (byte 7) (tree (byte 8) none))) ∷ [])
unfolding measure is_utf8 chars encode
some_bytes = refl

-- the place is that of the size, and not that of the third byte
bytes_pass_bound : breaks (content (one 1 (kinds.Seq 0)) (13 ∷ 3 ∷ 7 ∷ 8 ∷ [])) 1 Short
unfolding measure is_utf8 chars encode
bytes_pass_bound = refl

text_passes_bound : breaks (content (one 1 kinds.Text) (13 ∷ 3 ∷ 97 ∷ 98 ∷ [])) 1 Short
unfolding measure is_utf8 chars encode
text_passes_bound = refl

-- ---- the end

marker_in_content : breaks (content (one 1 kinds.Int) (255 ∷ [])) 0 BadTag
unfolding measure is_utf8 chars encode
marker_in_content = refl

marked : slice (one 1 kinds.Bool) (8 ∷ 1 ∷ 255 ∷ 9 ∷ []) ≡ Ok (with_optional none ((1, boolean true) ∷ []), tt, record { place = 3; bytes = 9 ∷ [] })
unfolding measure is_utf8 chars encode
marked = refl

marker_lacks : breaks (slice (one 1 kinds.Bool) (8 ∷ 1 ∷ [])) 2 Short
unfolding measure is_utf8 chars encode
marker_lacks = refl

a_fault_inside : breaks (slice (one 1 kinds.Bool) (8 ∷ 2 ∷ 255 ∷ [])) 1 BadBool
unfolding measure is_utf8 chars encode
a_fault_inside = refl

-- without the flag nothing follows the required members
not_flagged : slice_members_at by_number.read tables false some tt (whole (7 ∷ 0 ∷ 255 ∷ [])) ≡ Ok (with_optional (tree (short (pos 7)) none) [], tt, record { place = 2; bytes = 255 ∷ [] })
unfolding measure is_utf8 chars encode
not_flagged = refl
