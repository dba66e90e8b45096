-- What the definitions answer at inputs that are written out, byte by byte.
use Rattle.std.proofs.Common.{◌≡◌, ℕ, zero, suc, true, false, List, [], ◌∷◌, ◌++◌, replicate, Option, None, Some, Ok, refl, sym, ap, subst, inl, inr}
use Rattle.std.specs.Prelude.{pos, negsuc, Result}
use Rattle.std.specs.declared.cmp.Ordering.TheVariants.{Less}
use Rattle.std.specs.Str.{is_utf8, chars}
use lib.Utf8.{encode}
use Rattle.ice_types.specs.declared.kind.TypeRef.{TypeRef}
use Rattle.ice_types.specs.declared.kind.TypeRef.TheVariants as kinds
use Rattle.ice_types.specs.declared.declarations.SeqDecl.{SeqDecl}
use Rattle.ice_types.specs.declared.declarations.Member.{Member}
use Rattle.ice_types.specs.declared.declarations.Entry.{Entry}
use Rattle.ice_types.specs.declared.proxy.Proxy.{Proxy}
use Rattle.ice_types.specs.Tables.{Tables, no_types}
use Rattle.ice_prims.specs.declared.fault.Fault.{Fault}
use Rattle.ice_prims.specs.declared.fault.Kind.TheVariants.{Short, TooLarge, BadSize, BadVersion, BadBool, BadText, BadEnum, EqualKey, BadIdentity, LeftOver}
use Rattle.ice_prims.specs.Rest.{fault, whole}
use Rattle.ice_prims.specs.Bytes.{size_bytes}
use Rattle.ice_encoding.specs.Tree.{Tree, boolean, byte, short, int, long, text, sequence, dictionary, struct, enumerator, proxy, none, tree, Entries, no_entry, entry, entry_count}
use Rattle.ice_encoding.specs.Order.{tree_cmp, IsRising}
use Rattle.ice_encoding.specs.Same.{Same, AreAmong}
use Rattle.ice_encoding.specs.Value.{plain_value_at}
use Rattle.ice_encoding.specs.Encapsulation.{encapsulation_at, encapsulation_bytes}

-- a member of a struct
abbrev member : TypeRef → Member
member kind = record { name = []; kind = kind; tag = None }

-- an entry of an enum
abbrev numbered : ℕ → Entry
numbered number = record { name = []; number = number }

-- A sequence of bytes, one of ints, and one of strings. A struct of two bytes, one of a short, that struct and a string.
-- An enum of the numbers 0, 1 and 300. A dictionary of bytes by the struct of two bytes, and one by the enum.
abbrev tables : Tables
tables = record no_types { seqs = record { id = []; element = kinds.Byte } ∷ record { id = []; element = kinds.Int } ∷ record { id = []; element = kinds.Text } ∷ []; dicts = record { id = []; key = kinds.Struct 0; value = kinds.Byte } ∷ record { id = []; key = kinds.Enum 0; value = kinds.Byte } ∷ []; enums = record { id = []; entries = numbered 0 ∷ numbered 1 ∷ numbered 300 ∷ [] } ∷ []; structs = record { id = []; members = member kinds.Byte ∷ member kinds.Byte ∷ [] } ∷ record { id = []; members = member kinds.Short ∷ member (kinds.Struct 0) ∷ member kinds.Text ∷ [] } ∷ [] }

-- what an input is read as
abbrev reads : TypeRef → List ℕ → Result Tree Fault
reads kind bytes = encapsulation_at tables kind (whole bytes)

-- an encapsulation's size below 256, its version, and what the input has after them
abbrev headed : ℕ → List ℕ → List ℕ
headed size bytes = size ∷ 0 ∷ 0 ∷ 0 ∷ 1 ∷ 1 ∷ bytes

-- ---- values

no_bytes : reads (kinds.Seq 0) (headed 7 (0 ∷ [])) ≡ Ok (sequence none)
unfolding plain_value_at
no_bytes = refl

two_ints : reads (kinds.Seq 1) (headed 15 (2 ∷ 1 ∷ 2 ∷ 0 ∷ 0 ∷ 254 ∷ 255 ∷ 255 ∷ 255 ∷ [])) ≡ Ok (sequence (tree (int (pos 513)) (tree (int (negsuc 1)) none)))
unfolding plain_value_at
two_ints = refl

written : encapsulation_bytes (sequence (tree (int (pos 513)) (tree (int (negsuc 1)) none))) ≡ headed 15 (2 ∷ 1 ∷ 2 ∷ 0 ∷ 0 ∷ 254 ∷ 255 ∷ 255 ∷ 255 ∷ [])
written = refl

least_short : reads kinds.Short (headed 8 (0 ∷ 128 ∷ [])) ≡ Ok (short (negsuc 32767))
unfolding plain_value_at
least_short = refl

greatest_long : reads kinds.Long (headed 14 (255 ∷ 255 ∷ 255 ∷ 255 ∷ 255 ∷ 255 ∷ 255 ∷ 127 ∷ [])) ≡ Ok (long (pos 9223372036854775807))
unfolding plain_value_at
greatest_long = refl

-- three bytes that are one character
euro : reads kinds.Text (headed 10 (3 ∷ 226 ∷ 130 ∷ 172 ∷ [])) ≡ Ok (text (226 ∷ 130 ∷ 172 ∷ []))
unfolding plain_value_at is_utf8 chars encode
euro = refl

struct_in_struct : reads (kinds.Struct 1) (headed 12 (1 ∷ 2 ∷ 7 ∷ 8 ∷ 1 ∷ 104 ∷ [])) ≡ Ok (struct (tree (short (pos 513)) (tree (struct (tree (byte 7) (tree (byte 8) none))) (tree (text (104 ∷ [])) none))))
unfolding plain_value_at is_utf8 chars encode
struct_in_struct = refl

-- keys that differ in their last members, in falling order
struct_keys : reads (kinds.Dict 0) (headed 13 (2 ∷ 1 ∷ 9 ∷ 70 ∷ 1 ∷ 3 ∷ 80 ∷ [])) ≡ Ok (dictionary (entry (struct (tree (byte 1) (tree (byte 3) none))) (byte 80) (entry (struct (tree (byte 1) (tree (byte 9) none))) (byte 70) no_entry)))
unfolding plain_value_at
struct_keys = refl

-- the place is that of the key's first byte
equal_struct_keys : reads (kinds.Dict 0) (headed 12 (2 ∷ 1 ∷ 9 ∷ 70 ∷ 1 ∷ 9 ∷ [])) ≡ fault 10 EqualKey
unfolding plain_value_at
equal_struct_keys = refl

-- the second member is cut short
struct_cut_short : reads (kinds.Struct 0) (headed 7 (1 ∷ [])) ≡ fault 7 Short
unfolding plain_value_at
struct_cut_short = refl

enumerator_in_a_byte : reads (kinds.Enum 0) (headed 7 (1 ∷ [])) ≡ Ok (enumerator 1)
unfolding plain_value_at
enumerator_in_a_byte = refl

enumerator_in_five : reads (kinds.Enum 0) (headed 11 (255 ∷ 44 ∷ 1 ∷ 0 ∷ 0 ∷ [])) ≡ Ok (enumerator 300)
unfolding plain_value_at
enumerator_in_five = refl

enumerator_written : encapsulation_bytes (enumerator 300) ≡ headed 11 (255 ∷ 44 ∷ 1 ∷ 0 ∷ 0 ∷ [])
enumerator_written = refl

unknown_number : reads (kinds.Enum 0) (headed 7 (2 ∷ [])) ≡ fault 6 BadEnum
unfolding plain_value_at
unknown_number = refl

-- the place is that of the first of five bytes
unknown_in_five : reads (kinds.Enum 0) (headed 11 (255 ∷ 45 ∷ 1 ∷ 0 ∷ 0 ∷ [])) ≡ fault 6 BadEnum
unfolding plain_value_at
unknown_in_five = refl

-- 1 in five bytes: the size is at fault
enumerator_long_form : reads (kinds.Enum 0) (headed 11 (255 ∷ 1 ∷ 0 ∷ 0 ∷ 0 ∷ [])) ≡ fault 6 BadSize
unfolding plain_value_at
enumerator_long_form = refl

enumerator_cut_short : reads (kinds.Enum 0) (headed 6 []) ≡ fault 6 Short
unfolding plain_value_at
enumerator_cut_short = refl

-- keys in falling order
enum_keys : reads (kinds.Dict 1) (headed 15 (2 ∷ 255 ∷ 44 ∷ 1 ∷ 0 ∷ 0 ∷ 70 ∷ 1 ∷ 80 ∷ [])) ≡ Ok (dictionary (entry (enumerator 1) (byte 80) (entry (enumerator 300) (byte 70) no_entry)))
unfolding plain_value_at
enum_keys = refl

equal_enum_keys : reads (kinds.Dict 1) (headed 11 (2 ∷ 1 ∷ 70 ∷ 1 ∷ 80 ∷ [])) ≡ fault 9 EqualKey
unfolding plain_value_at
equal_enum_keys = refl

no_such_enum : reads (kinds.Enum 1) (headed 7 (0 ∷ [])) ≡ fault 6 LeftOver
unfolding plain_value_at
no_such_enum = refl

null_proxy : reads (kinds.Proxy None) (headed 8 (0 ∷ 0 ∷ [])) ≡ Ok (proxy None)
unfolding plain_value_at is_utf8 chars encode
null_proxy = refl

-- the object `a` of the adapter `A`: twoway, protocol 1.0, encoding 1.1
abbrev object : Option Proxy
object = Some (record { identity = record { name = 97 ∷ []; category = [] }; facet = []; mode = 0; secure = false; protocol = (1, 0); encoding = (1, 1); endpoints = []; adapter = 65 ∷ [] })

-- of an interface that is not in the tables, which is not looked at
some_proxy : reads (kinds.Proxy (Some 0)) (headed 19 (1 ∷ 97 ∷ 0 ∷ 0 ∷ 0 ∷ 0 ∷ 1 ∷ 0 ∷ 1 ∷ 1 ∷ 0 ∷ 1 ∷ 65 ∷ [])) ≡ Ok (proxy object)
unfolding plain_value_at is_utf8 chars encode
some_proxy = refl

-- the same with its facet as one empty text, which is written as none
empty_facet : reads (kinds.Proxy None) (headed 20 (1 ∷ 97 ∷ 0 ∷ 1 ∷ 0 ∷ 0 ∷ 0 ∷ 1 ∷ 0 ∷ 1 ∷ 1 ∷ 0 ∷ 1 ∷ 65 ∷ [])) ≡ Ok (proxy object)
unfolding plain_value_at is_utf8 chars encode
empty_facet = refl

proxy_written : encapsulation_bytes (proxy object) ≡ headed 19 (1 ∷ 97 ∷ 0 ∷ 0 ∷ 0 ∷ 0 ∷ 1 ∷ 0 ∷ 1 ∷ 1 ∷ 0 ∷ 1 ∷ 65 ∷ [])
proxy_written = refl

-- a category without a name
bad_identity : reads (kinds.Proxy None) (headed 9 (0 ∷ 1 ∷ 97 ∷ [])) ≡ fault 6 BadIdentity
unfolding plain_value_at is_utf8 chars encode
bad_identity = refl

one_byte : size_bytes 254 ≡ 254 ∷ []
one_byte = refl

five_bytes : size_bytes 255 ≡ 255 ∷ 255 ∷ 0 ∷ 0 ∷ 0 ∷ []
five_bytes = refl

-- ---- the size of the encapsulation

no_input : reads kinds.Bool [] ≡ fault 0 Short
no_input = refl

cut_short : reads kinds.Bool (7 ∷ 0 ∷ 0 ∷ []) ≡ fault 0 Short
cut_short = refl

below_six : reads kinds.Bool (headed 5 (1 ∷ [])) ≡ fault 0 BadSize
below_six = refl

-- below 6, and past the end of the input
below_six_and_past : reads kinds.Bool (5 ∷ 0 ∷ 0 ∷ 0 ∷ []) ≡ fault 0 Short
below_six_and_past = refl

negative : reads kinds.Bool (255 ∷ 255 ∷ 255 ∷ 255 ∷ []) ≡ fault 0 BadSize
negative = refl

-- 1,048,576, and past the end of the input
largest : reads kinds.Bool (0 ∷ 0 ∷ 16 ∷ 0 ∷ 1 ∷ 1 ∷ []) ≡ fault 0 Short
largest = refl

-- 1,048,577, and past the end of the input
too_large : reads kinds.Bool (1 ∷ 0 ∷ 16 ∷ 0 ∷ 1 ∷ 1 ∷ []) ≡ fault 0 TooLarge
too_large = refl

-- ---- the content

-- the second version byte is wrong, and the place is that of the first
other_version : reads kinds.Bool (7 ∷ 0 ∷ 0 ∷ 0 ∷ 1 ∷ 0 ∷ 1 ∷ []) ≡ fault 4 BadVersion
other_version = refl

-- a wrong bool, and a byte after the encapsulation
bad_bool : reads kinds.Bool (headed 7 (2 ∷ 1 ∷ [])) ≡ fault 6 BadBool
unfolding plain_value_at
bad_bool = refl

-- an int that goes past its encapsulation, and not past the input
past_the_bound : reads kinds.Int (headed 9 (1 ∷ 2 ∷ 3 ∷ 4 ∷ [])) ≡ fault 6 Short
unfolding plain_value_at
past_the_bound = refl

second_int : reads (kinds.Seq 1) (headed 13 (2 ∷ 1 ∷ 0 ∷ 0 ∷ 0 ∷ 2 ∷ 0 ∷ [])) ≡ fault 11 Short
unfolding plain_value_at
second_int = refl

long_size_cut_short : reads (kinds.Seq 0) (headed 10 (255 ∷ 5 ∷ 0 ∷ 0 ∷ [])) ≡ fault 6 Short
unfolding plain_value_at
long_size_cut_short = refl

-- 254 in five bytes
long_form : reads (kinds.Seq 0) (headed 11 (255 ∷ 254 ∷ 0 ∷ 0 ∷ 0 ∷ [])) ≡ fault 6 BadSize
unfolding plain_value_at
long_form = refl

negative_size : reads kinds.Text (headed 11 (255 ∷ 0 ∷ 0 ∷ 0 ∷ 128 ∷ [])) ≡ fault 6 BadSize
unfolding plain_value_at
negative_size = refl

-- the place is that of the string's bytes, after its size
text_cut_short : reads kinds.Text (headed 8 (5 ∷ 104 ∷ [])) ≡ fault 7 Short
unfolding plain_value_at
text_cut_short = refl

bad_text : reads kinds.Text (headed 9 (2 ∷ 104 ∷ 200 ∷ [])) ≡ fault 7 BadText
unfolding plain_value_at is_utf8 chars encode
bad_text = refl

-- ---- bytes that are left

left_inside : reads kinds.Bool (headed 8 (1 ∷ 1 ∷ [])) ≡ fault 7 LeftOver
unfolding plain_value_at
left_inside = refl

left_behind : reads kinds.Bool (headed 7 (1 ∷ 1 ∷ [])) ≡ fault 7 LeftOver
unfolding plain_value_at
left_behind = refl

-- ---- the order of keys

false_first : tree_cmp (boolean false) (boolean true) ≡ Less
false_first = refl

bytes_unsigned : tree_cmp (byte 127) (byte 128) ≡ Less
bytes_unsigned = refl

negative_first : tree_cmp (int (negsuc 0)) (int (pos 0)) ≡ Less
negative_first = refl

by_bytes : tree_cmp (text (97 ∷ 98 ∷ [])) (text (98 ∷ [])) ≡ Less
by_bytes = refl

front_first : tree_cmp (text (97 ∷ [])) (text (97 ∷ 97 ∷ [])) ≡ Less
front_first = refl

null_first : tree_cmp (proxy None) (proxy object) ≡ Less
null_first = refl

least_number_first : tree_cmp (enumerator 1) (enumerator 300) ≡ Less
least_number_first = refl

first_member_first : tree_cmp (struct (tree (byte 0) (tree (byte 1) none))) (struct (tree (byte 1) (tree (byte 0) none))) ≡ Less
first_member_first = refl

key_before_value : encapsulation_bytes (dictionary (entry (byte 1) (byte 70) (entry (byte 2) (byte 60) no_entry))) ≡ headed 11 (2 ∷ 1 ∷ 70 ∷ 2 ∷ 60 ∷ [])
key_before_value = refl

-- ---- the same value

in_any_order : Same (dictionary (entry (byte 1) (byte 70) (entry (byte 2) (byte 60) no_entry))) (dictionary (entry (byte 2) (byte 60) (entry (byte 1) (byte 70) no_entry)))
in_any_order = (_, refl, refl, (inr (inl (refl, refl)), (inl (refl, refl), tt)))

abbrev pairs_in : Tree → Entries
pairs_in (dictionary pairs) = pairs
pairs_in v = no_entry

abbrev number_in : Tree → ℕ
number_in (byte n) = n
number_in v = 0

same_pairs : (a b : Entries) → Same (dictionary a) (dictionary b) → (entry_count a ≡ entry_count b) × AreAmong a b
same_pairs a b (c, is, count, among) = let same : b ≡ c = ap pairs_in is in subst (λ (ps : Entries). (entry_count a ≡ entry_count ps) × AreAmong a ps) (sym same) (count, among)

not_both : (n : ℕ) → n ≡ 0 → n ≡ 1 → ⊥
not_both n p q = absurd cc

another_value : Same (dictionary (entry (byte 1) (byte 0) no_entry)) (dictionary (entry (byte 1) (byte 1) no_entry)) → ⊥
another_value h = elim (same_pairs (entry (byte 1) (byte 0) no_entry) (entry (byte 1) (byte 1) no_entry) h).1.0 [
  | inl same ↦ not_both 0 refl (sym (ap number_in same.1))
  | inr same ↦ same
]

a_pair_more : Same (dictionary no_entry) (dictionary (entry (byte 1) (byte 60) no_entry)) → ⊥
a_pair_more h = not_both 0 refl (same_pairs no_entry (entry (byte 1) (byte 60) no_entry) h).0

no_key_twice : IsRising (entry (byte 1) (byte 70) (entry (byte 1) (byte 70) no_entry)) → ⊥
no_key_twice h = absurd cc

-- ---- a hundred levels

-- sequences one in another, the first of bytes
abbrev nested : ℕ → List SeqDecl
nested zero = record { id = []; element = kinds.Byte } ∷ []
nested (suc n) = nested n ++ record { id = []; element = kinds.Seq n } ∷ []

abbrev deep : ℕ → Tree
deep zero = sequence (tree (byte 7) none)
deep (suc n) = sequence (tree (deep n) none)

hundred_levels : plain_value_at (record no_types { seqs = nested 98 }) (kinds.Seq 98) (whole (replicate 99 1 ++ 7 ∷ [])) ≡ Ok (deep 98, record { place = 100; bytes = [] })
unfolding plain_value_at
hundred_levels = refl
