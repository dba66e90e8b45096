-- What texts read as and which values they note, written out.
use Rattle.std.proofs.Common.{◌≡◌, ℕ, List, [], ◌∷◌, Some, None, false, refl, pos, negsuc}
use Rattle.std.specs.Prelude.{codes, option_and_then}
use Rattle.std.specs.Fmt.{digits}
use Rattle.serde_json.specs.Data.{number, unsigned, object, member, no_members}
use Rattle.serde_json.specs.Read.{read}
use Rattle.serde_json.specs.Written.{compact_text}
use Rattle.serde_json.proofs.OnLiterals.{serde_json_on_literals}
use Rattle.ice_types.specs.declared.kind.TypeRef.{TypeRef}
use Rattle.ice_types.specs.declared.kind.TypeRef.TheVariants as kinds
use Rattle.ice_types.specs.declared.proxy.Proxy.{Proxy}
use Rattle.ice_types.specs.Tables.{Tables, no_types}
use Rattle.ice_encoding.specs.Tree.{Tree, int, dictionary, struct, enumerator, proxy, none, tree, no_entry, entry}
use Rattle.graph_json.specs.ReadingValues.{integer_of, reference_of, value_levels}
use Rattle.graph_json.specs.CanonicalValues.{reference_noted, notation_levels}

-- ---- names and numbers

-- of a name that comes twice the last value stays
twice : read (codes "{\"a\":1,\"a\":2}") ≡ Some (object (member (codes "a") (number (unsigned 2)) no_members))
unfolding serde_json_on_literals
twice = refl

-- names are kept in rising order of their bytes
rising : read (codes "{\"b\":1,\"B\":2}") ≡ Some (object (member (codes "B") (number (unsigned 2)) (member (codes "b") (number (unsigned 1)) no_members)))
unfolding serde_json_on_literals
rising = refl

large : option_and_then integer_of (read (codes "9223372036854775808")) ≡ Some (pos 9223372036854775808)
unfolding serde_json_on_literals
large = refl

-- which is no long
too_large : option_and_then (value_levels no_types 1 kinds.Long) (read (codes "9223372036854775808")) ≡ None
unfolding serde_json_on_literals
too_large = refl

least : option_and_then integer_of (read (codes "-9223372036854775808")) ≡ Some (negsuc 9223372036854775807)
unfolding serde_json_on_literals
least = refl

past_64_bits : option_and_then integer_of (read (codes "18446744073709551616")) ≡ None
unfolding serde_json_on_literals
past_64_bits = refl

minus_zero : option_and_then integer_of (read (codes "-0")) ≡ None
unfolding serde_json_on_literals
minus_zero = refl

point : option_and_then integer_of (read (codes "1.0")) ≡ None
unfolding serde_json_on_literals
point = refl

exponent : option_and_then integer_of (read (codes "1e0")) ≡ None
unfolding serde_json_on_literals
exponent = refl

-- ---- values

-- enum E { b = 5, a }; struct S { int b; E a; }; dictionary<int, E> D;
abbrev tables : Tables
tables = record no_types {
  enums = record { id = codes "::E"; entries = record { name = codes "b"; number = 5 } ∷ record { name = codes "a"; number = 6 } ∷ [] } ∷ [];
  structs = record { id = codes "::S"; members = record { name = codes "b"; kind = kinds.Int; tag = None } ∷ record { name = codes "a"; kind = kinds.Enum 0; tag = None } ∷ [] } ∷ [];
  dicts = record { id = codes "::D"; key = kinds.Int; value = kinds.Enum 0 } ∷ [];
}

abbrev reads : TypeRef → List ℕ → Tree → Type 0
reads kind bytes v = option_and_then (value_levels tables 3 kind) (read bytes) ≡ Some v

abbrev refuses : TypeRef → List ℕ → Type 0
refuses kind bytes = option_and_then (value_levels tables 3 kind) (read bytes) ≡ None

abbrev prints : TypeRef → Tree → List ℕ → Type 0
prints kind v bytes = compact_text (notation_levels tables 3 kind v) ≡ bytes

abbrev two : Tree
two = struct (tree (int (pos 7)) (tree (enumerator 6) none))

struct_read : reads (kinds.Struct 0) (codes "{\"b\":7,\"a\":\"a\"}") two
unfolding serde_json_on_literals
struct_read = refl

struct_printed : prints (kinds.Struct 0) two (codes "{\"a\":\"a\",\"b\":7}")
unfolding serde_json_on_literals digits
struct_printed = refl

name_too_many : refuses (kinds.Struct 0) (codes "{\"a\":\"a\",\"b\":7,\"c\":0}")
unfolding serde_json_on_literals
name_too_many = refl

other_case : refuses (kinds.Enum 0) (codes "\"A\"")
unfolding serde_json_on_literals
other_case = refl

abbrev both : Tree
both = dictionary (entry (int (negsuc 0)) (enumerator 5) (entry (int (pos 2)) (enumerator 6) no_entry))

dictionary_read : reads (kinds.Dict 0) (codes "[[2,\"a\"],[-1,\"b\"]]") both
unfolding serde_json_on_literals
dictionary_read = refl

dictionary_printed : prints (kinds.Dict 0) both (codes "[[-1,\"b\"],[2,\"a\"]]")
unfolding serde_json_on_literals digits
dictionary_printed = refl

key_twice : refuses (kinds.Dict 0) (codes "[[2,\"a\"],[2,\"b\"]]")
unfolding serde_json_on_literals
key_twice = refl

-- ---- references and proxies

first : option_and_then reference_of (read (codes "{\"$\":2}")) ≡ Some (Some 0)
unfolding serde_json_on_literals
first = refl

below_the_first : option_and_then reference_of (read (codes "{\"$\":1}")) ≡ None
unfolding serde_json_on_literals
below_the_first = refl

first_printed : compact_text (reference_noted (Some 0)) ≡ codes "{\"$\":2}"
unfolding serde_json_on_literals digits
first_printed = refl

no_instance : option_and_then reference_of (read (codes "null")) ≡ Some None
unfolding serde_json_on_literals
no_instance = refl

no_proxy : reads (kinds.Proxy None) (codes "null") (proxy None)
unfolding serde_json_on_literals
no_proxy = refl

abbrev hello : Proxy
hello = record {
  identity = record { name = codes "hello"; category = [] };
  facet = [];
  mode = 0;
  secure = false;
  protocol = (1, 0);
  encoding = (1, 1);
  endpoints = [];
  adapter = [];
}

proxy_printed : prints (kinds.Proxy None) (proxy (Some hello)) (codes "\"hello -t -e 1.1\"")
unfolding serde_json_on_literals digits
proxy_printed = refl
