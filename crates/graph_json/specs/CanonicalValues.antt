-- The canonical notation of a value: dictionaries in rising order of their keys, names of objects in rising order.
use Rattle.std.specs.Prelude.{ℕ, zero, suc, List, [], ◌∷◌, Option, None, Some, slice_get, nat_eq, if◌then◌else◌}
use Rattle.serde_json.specs.Data.{Data, null, boolean, number, string, array, object, unsigned, Items, no_items, item, Members, no_members, put}
use Rattle.serde_json.specs.Find.{of_integer}
use Rattle.ice_types.specs.declared.kind.TypeRef.{TypeRef}
use Rattle.ice_types.specs.declared.kind.TypeRef.TheVariants as kinds
use Rattle.ice_types.specs.declared.declarations.Entry.{Entry}
use Rattle.ice_types.specs.declared.declarations.Member.{Member}
use Rattle.ice_types.specs.declared.proxy.Proxy.{Proxy}
use Rattle.ice_types.specs.declared.schema.TheConstants.{MOST_DEPTH}
use Rattle.ice_types.specs.Tables.{Tables}
use Rattle.ice_encoding.specs.Tree as tree
use Rattle.ice_encoding.specs.Tree.{Tree, Trees, none, Entries, no_entry, entry}
use Rattle.ice_proxy.specs.Printed.{printed_proxy}
use Rattle.graph_json.specs.ValueNotation.{name_noted, pair}

abbrev pub Write : Type 0
Write = Tree → Data

-- ---- enumerators, proxies, references

-- the name of the first enumerator of this number
abbrev pub name_numbered : ℕ → List Entry → Option (List ℕ)
name_numbered n [] = None
name_numbered n (e ∷ es) = if nat_eq e.number n then Some e.name else name_numbered n es

abbrev pub proxy_noted : Option Proxy → Data
proxy_noted None = null
proxy_noted (Some p) = string (printed_proxy p)

abbrev pub reference_noted : Option ℕ → Data
reference_noted None = null
reference_noted (Some n) = name_noted n

-- ---- several values

abbrev pub each_noted : Write → Trees → Items
each_noted write none = no_items
each_noted write (tree.tree v vs) = item (write v) (each_noted write vs)

abbrev pub pairs_noted : Write → Write → Entries → Items
pairs_noted key held no_entry = no_items
pairs_noted key held (entry k v rest) = item (pair (key k) (held v)) (pairs_noted key held rest)

-- the values of members, put at their names beside what is there
abbrev pub members_noted : (TypeRef → Write) → Members → List Member → Trees → Members
members_noted write found [] values = found
members_noted write found (m ∷ ms) none = found
members_noted write found (m ∷ ms) (tree.tree v vs) = members_noted write (put m.name (write m.kind v) found) ms vs

-- ---- a value

-- null where nothing is
abbrev pub noted : {A : Type 0} → Option A → (A → Data) → Data
noted None make = null
noted (Some x) make = make x

module _ (t : Tables) where
  -- A value that is not of the type has no notation, and null stands for it.
  abbrev pub notation_step : (TypeRef → Write) → TypeRef → Write
  notation_step write kinds.Bool (tree.boolean b) = boolean b
  notation_step write kinds.Byte (tree.byte n) = number (unsigned n)
  notation_step write kinds.Short (tree.short z) = number (of_integer z)
  notation_step write kinds.Int (tree.int z) = number (of_integer z)
  notation_step write kinds.Long (tree.long z) = number (of_integer z)
  notation_step write kinds.Text (tree.text s) = string s
  notation_step write (kinds.Seq at) (tree.sequence vs) = noted (slice_get t.seqs at) (λ q. array (each_noted (write q.element) vs))
  notation_step write (kinds.Dict at) (tree.dictionary ps) = noted (slice_get t.dicts at) (λ r. array (pairs_noted (write r.key) (write r.value) ps))
  notation_step write (kinds.Struct at) (tree.struct vs) = noted (slice_get t.structs at) (λ r. object (members_noted write no_members r.members vs))
  notation_step write (kinds.Enum at) (tree.enumerator n) = noted (slice_get t.enums at) (λ e. noted (name_numbered n e.entries) string)
  notation_step write (kinds.Proxy at) (tree.proxy p) = proxy_noted p
  notation_step write (kinds.Class declared) (tree.reference n) = reference_noted n
  notation_step write kind v = null

  -- over so many levels
  abbrev pub notation_levels : ℕ → TypeRef → Write
  notation_levels zero kind v = null
  notation_levels (suc levels) kind v = notation_step (notation_levels levels) kind v

-- the canonical notation of a value: pairs in the order of the dictionary, names in rising order of their bytes,
-- proxies as they are printed; null in the place of a part that is not of its type
unfoldable pub notation : Tables → TypeRef → Write
notation t kind v = notation_levels t MOST_DEPTH kind v
