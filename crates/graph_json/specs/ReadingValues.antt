-- The value that JSON stands for, None where it stands for none.
use Rattle.std.specs.Prelude.{ℕ, ℤ, pos, negsuc, zero, suc, ◌-◌, ◌^◌, ◌&&◌, ◌==◌, Bool, List, [], ◌∷◌, length, Option, None, Some, Ok, Err, slice_get, codes, option_map, option_and_then, nat_lt, nat_le, if◌then◌else◌}
use Rattle.std.specs.Int.{Width, w16, w32, w64}
use mir.Val.{hbits}
use Rattle.std.specs.Str.{bytes_eq, is_utf8}
use Rattle.serde_json.specs.Data.{Num, unsigned, negative, float, Data, null, boolean, number, string, array, object, Items, no_items, item, Members}
use Rattle.serde_json.specs.Find.{as_bool, as_number, as_str, as_array, as_object, as_integer, get_member}
use Rattle.serde_json.specs.Events.{items_len, members_len}
use Rattle.ice_types.specs.declared.kind.TypeRef.{TypeRef}
use Rattle.ice_types.specs.declared.kind.TypeRef.TheVariants as kinds
use Rattle.ice_types.specs.declared.declarations.Entry.{Entry}
use Rattle.ice_types.specs.declared.declarations.Member.{Member}
use Rattle.ice_types.specs.declared.proxy.Proxy.{Proxy}
use Rattle.ice_types.specs.declared.schema.TheConstants.{MOST_DEPTH}
use Rattle.ice_types.specs.Tables.{Tables}
use Rattle.ice_encoding.specs.Tree as tree
use Rattle.ice_encoding.specs.Tree.{Tree, Trees, none, Entries, no_entry}
use Rattle.ice_encoding.specs.Order.{has_key, insert}
use Rattle.ice_proxy.specs.Looking.{Parsed}
use Rattle.ice_proxy.specs.Grammar.{proxy_text}

abbrev pub Read : Type 0 → Type 0
Read A = Data → Option A

abbrev pub where_true : {A : Type 0} → Bool → A → Option A
where_true b x = if b then Some x else None

-- ---- numbers, enumerators, proxies, references

-- the number is one of the width
abbrev pub fits : Width → ℤ → Bool
fits w (pos n) = nat_lt n (2 ^ hbits w)
fits w (negsuc n) = nat_lt n (2 ^ hbits w)

abbrev pub integer_of : Read ℤ
integer_of d = option_and_then as_integer (as_number d)

abbrev pub signed_of : Width → (ℤ → Tree) → Read Tree
signed_of w make d = option_and_then (λ z. where_true (fits w z) (make z)) (integer_of d)

abbrev pub byte_from : ℤ → Option Tree
byte_from (pos n) = where_true (nat_lt n 256) (tree.byte n)
byte_from (negsuc n) = None

abbrev pub text_from : List ℕ → Option Tree
text_from s = where_true (is_utf8 s && nat_lt (length s) (2 ^ 31)) (tree.text s)

-- the number of the first enumerator of this name
abbrev pub number_named : List ℕ → List Entry → Option ℕ
number_named name [] = None
number_named name (e ∷ es) = if bytes_eq e.name name then Some e.number else number_named name es

abbrev pub enumerator_of : List Entry → Read Tree
enumerator_of entries d = option_map tree.enumerator (option_and_then (λ name. number_named name entries) (as_str d))

abbrev pub parsed : {A : Type 0} → Parsed A → Option A
parsed (Ok x) = Some x
parsed (Err place) = None

-- the proxy of a text that is not too long
abbrev pub text_proxy : List ℕ → Option Proxy
text_proxy text = if nat_lt (length text) (2 ^ 30) then parsed (proxy_text text) else None

abbrev pub some : {A : Type 0} → A → Option A
some x = Some x

abbrev pub some_proxy_of : Read (Option Proxy)
some_proxy_of d = option_map some (option_and_then text_proxy (as_str d))

abbrev pub proxy_of : Read (Option Proxy)
proxy_of null = Some None
proxy_of (boolean b) = None
proxy_of (number n) = None
proxy_of (string s) = some_proxy_of (string s)
proxy_of (array ds) = None
proxy_of (object ms) = None

-- the name of the instance with this number, from 2 to 2,147,483,648
abbrev pub name_from : Num → Option ℕ
name_from (unsigned n) = where_true (nat_le 2 n && nat_le n (2 ^ 31)) (n - 2)
name_from (negative z) = None
name_from (float x) = None

abbrev pub name_in : Members → Option ℕ
name_in found = if members_len found == 1 then option_and_then (λ d. option_and_then name_from (as_number d)) (get_member (codes "$") found) else None

abbrev pub name_of : Read ℕ
name_of d = option_and_then name_in (as_object d)

abbrev pub reference_of : Read (Option ℕ)
reference_of null = Some None
reference_of (boolean b) = None
reference_of (number n) = None
reference_of (string s) = None
reference_of (array ds) = None
reference_of (object ms) = option_map some (name_of (object ms))

-- ---- several values

abbrev pub each_of : Read Tree → Items → Option Trees
each_of read no_items = Some none
each_of read (item d ds) = option_and_then (λ v. option_map (tree.tree v) (each_of read ds)) (read d)

abbrev pub members_of : (TypeRef → Read Tree) → List Member → Members → Option Trees
members_of read [] found = Some none
members_of read (m ∷ ms) found = option_and_then (λ v. option_map (tree.tree v) (members_of read ms found)) (option_and_then (read m.kind) (get_member m.name found))

abbrev pub second_of : Data → Items → Option (Data × Data)
second_of key no_items = None
second_of key (item held no_items) = Some (key, held)
second_of key (item held (item other ds)) = None

abbrev pub pair_from : Items → Option (Data × Data)
pair_from no_items = None
pair_from (item key ds) = second_of key ds

-- the two items of an array of two
abbrev pub pair_of : Read (Data × Data)
pair_of d = option_and_then pair_from (as_array d)

-- a key and its value
abbrev pub both_of : Read Tree → Read Tree → Read (Tree × Tree)
both_of key held d = option_and_then (λ p. option_and_then (λ k. option_map (λ v. (k, v)) (held p.1)) (key p.0)) (pair_of d)

-- where no pair has the key
abbrev pub where_new : {A : Type 0} → Bool → Option A → Option A
where_new old next = if old then None else next

abbrev pub pairs_of : Read Tree → Read Tree → Entries → Items → Option Entries
pairs_of key held before no_items = Some before
pairs_of key held before (item d ds) = option_and_then (λ p. where_new (has_key p.0 before) (pairs_of key held (insert p.0 p.1 before) ds)) (both_of key held d)

-- where there are not too many
abbrev pub few : {A : Type 0} → (Items → Option A) → Items → Option A
few read ds = if nat_lt (items_len ds) (2 ^ 31) then read ds else None

-- where there are so many names
abbrev pub whole : {A : Type 0} → ℕ → (Members → Option A) → Members → Option A
whole count read found = if members_len found == count then read found else None

-- ---- a value

module _ (t : Tables) where
  -- the value of a type, over the types inside it
  abbrev pub value_step : (TypeRef → Read Tree) → TypeRef → Read Tree
  value_step read kinds.Bool d = option_map tree.boolean (as_bool d)
  value_step read kinds.Byte d = option_and_then byte_from (integer_of d)
  value_step read kinds.Short d = signed_of w16 tree.short d
  value_step read kinds.Int d = signed_of w32 tree.int d
  value_step read kinds.Long d = signed_of w64 tree.long d
  value_step read kinds.Text d = option_and_then text_from (as_str d)
  value_step read (kinds.Seq at) d = option_and_then (λ q. option_and_then (few (λ ds. option_map tree.sequence (each_of (read q.element) ds))) (as_array d)) (slice_get t.seqs at)
  value_step read (kinds.Dict at) d = option_and_then (λ r. option_and_then (few (λ ds. option_map tree.dictionary (pairs_of (read r.key) (read r.value) no_entry ds))) (as_array d)) (slice_get t.dicts at)
  value_step read (kinds.Struct at) d = option_and_then (λ r. option_and_then (whole (length r.members) (λ found. option_map tree.struct (members_of read r.members found))) (as_object d)) (slice_get t.structs at)
  value_step read (kinds.Enum at) d = option_and_then (λ e. enumerator_of e.entries d) (slice_get t.enums at)
  value_step read (kinds.Proxy at) d = option_map tree.proxy (proxy_of d)
  value_step read (kinds.Class declared) d = option_map tree.reference (reference_of d)

  -- over so many levels
  abbrev pub value_levels : ℕ → TypeRef → Read Tree
  value_levels zero kind d = None
  value_levels (suc levels) kind d = value_step (value_levels levels) kind d

-- the value that JSON notes, None where it notes none
unfoldable pub noted_value : Tables → TypeRef → Read Tree
noted_value t kind d = value_levels t MOST_DEPTH kind d
