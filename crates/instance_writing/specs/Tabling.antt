-- The table of a slice while its members are written: a reference is put as its place, and a name that is new is listed last.
use Rattle.std.specs.Prelude.{ℕ, zero, suc, ◌≡◌, ◌+◌, ◌≤◌, Bool, true, false, IsTrue, List, [], ◌∷◌, ◌++◌, length, Option, None, Some, slice_get, slice_index_or, nat_lt, nat_eq, refl}
use Rattle.std.specs.Option.{is_some}
use Rattle.std.specs.Coded.{Coded, code_by, coded×, coded_ℕ, coded_list}
use Rattle.ice_types.specs.declared.declarations.Member.{Member}
use Rattle.ice_prims.specs.Bytes.{size_bytes}
use Rattle.ice_encoding.specs.Pausing.{Put}
use Rattle.ice_encoding.specs.Tree.{Tree, boolean, byte, short, int, long, text, sequence, dictionary, struct, enumerator, proxy, reference, Entries, no_entry, entry, InEach, Everywhere}
use Rattle.ice_encoding.specs.Optionals.{Present, kind_tagged}
use Rattle.ice_encoding.specs.OptionalMembers.{Members}
use Rattle.ice_encoding.specs.Names.{names}
use Rattle.ice_encoding.specs.Visiting.{place, is_listed, most}

-- the names of a table, all below the count
pub record Listed : Type 0 where
  pub count : ℕ
  pub names : List ℕ

abbrev pub listed_code : Coded Listed
listed_code = code_by (ℕ × List ℕ) (coded× coded_ℕ (coded_list coded_ℕ)) (λ l. (l.count, l.names)) (λ p. record { count = p.0; names = p.1 }) (λ _. refl)

abbrev pub no_names : ℕ → Listed
no_names count = record { count = count; names = [] }

-- listed last, where it is new
abbrev pub with_name : ℕ → List ℕ → List ℕ
with_name n table = elim (is_listed table n) [ true ↦ table | false ↦ table ++ n ∷ [] ]

abbrev pub also : ℕ → Listed → Listed
also n l = record { count = l.count; names = with_name n l.names }

-- one more than its place, where it is a name of an instance
abbrev pub name_put : ℕ → Listed → Put Listed
name_put n l = record { bytes = size_bytes (suc (place l.names n)); begun = None; after = l }

abbrev pub null_put : Listed → Put Listed
null_put l = record { bytes = size_bytes 0; begun = None; after = l }

-- 0 for null, else one more than the place; what names no instance is null
abbrev pub place_put : Option ℕ → Listed → Put Listed
place_put None l = null_put l
place_put (Some n) l = elim (nat_lt n l.count) [ true ↦ name_put n (also n l) | false ↦ null_put l ]

-- ---- an index by name

-- whether it is this name
abbrev pub is_name : ℕ → Option ℕ → Bool
is_name n None = false
is_name n (Some m) = nat_eq m n

-- the place, if the name stands there; else the place past the end
abbrev pub place_at : List ℕ → ℕ → ℕ → ℕ
place_at table n at = elim (is_name n (slice_get table at)) [ true ↦ at | false ↦ length table ]

abbrev pub is_missing : Bool → ℕ
is_missing true = 0
is_missing false = 1

-- how many below a count are not listed
abbrev pub missing : ℕ → List ℕ → ℕ
missing zero table = 0
missing (suc n) table = is_missing (is_listed table n) + missing n table

-- the index by name leads to each name's place
pub record IsIndexed (places : List ℕ) (table : List ℕ) : Type 0 where
  pub few : length places ≤ most
  pub room : length table + missing (length places) table ≤ length places
  pub found : (n : ℕ) → place_at table n (slice_index_or places n 0) ≡ place table n

-- ---- keys, in which no reference is put as a place

abbrev pub KeysNameNothing : Entries → Type 0
KeysNameNothing no_entry = Unit {0}
KeysNameNothing (entry k v rest) = (names k ≡ []) × KeysNameNothing rest

-- no key of it has a reference
abbrev pub HasPlainKeys : Tree → Type 0
HasPlainKeys (boolean b) = Unit {0}
HasPlainKeys (byte n) = Unit {0}
HasPlainKeys (short z) = Unit {0}
HasPlainKeys (int z) = Unit {0}
HasPlainKeys (long z) = Unit {0}
HasPlainKeys (text s) = Unit {0}
HasPlainKeys (sequence items) = Unit {0}
HasPlainKeys (dictionary pairs) = KeysNameNothing pairs
HasPlainKeys (struct members) = Unit {0}
HasPlainKeys (enumerator n) = Unit {0}
HasPlainKeys (proxy p) = Unit {0}
HasPlainKeys (reference n) = Unit {0}

-- each has the tag of a member, and no key of it has a reference
abbrev pub AreOptions : List Member → Present → Type 0
AreOptions members [] = Unit {0}
AreOptions members (o ∷ os) = IsTrue (is_some (kind_tagged o.0 members)) × Everywhere HasPlainKeys o.1 × AreOptions members os

-- values of which places can be written: no key has a reference, and each optional one has the tag of a member
abbrev pub HasPlaces : List Member → Members → Type 0
HasPlaces members c = InEach HasPlainKeys c.required × AreOptions members c.optional
