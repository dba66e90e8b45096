-- The names in values and slices, and other names in their place. No key has a reference.
use Rattle.std.specs.Prelude.{ℕ, List, [], ◌∷◌, ◌++◌, map, Option, None, Some}
use Rattle.ice_encoding.specs.Tree.{Tree, boolean, byte, short, int, long, text, sequence, dictionary, struct, enumerator, proxy, reference, Trees, none, tree, Entries, no_entry, entry}
use Rattle.ice_encoding.specs.Optionals.{Present}
use Rattle.ice_encoding.specs.OptionalMembers.{Members, with_optional}
use Rattle.ice_encoding.specs.Graph.{Slice, known, unknown}

-- null names nothing
abbrev pub listed_name : Option ℕ → List ℕ
listed_name None = []
listed_name (Some n) = n ∷ []

-- the names that occur, in order
abbrev mutual
  -- the names that occur in a value, in members, in a slice, in an instance, in order: required members before
  -- optional ones, of pairs the values alone, of an unknown slice its table
  pub names : Tree → List ℕ
  names (boolean b) = []
  names (byte n) = []
  names (short z) = []
  names (int z) = []
  names (long z) = []
  names (text s) = []
  names (sequence items) = names_each items
  names (dictionary pairs) = names_pairs pairs
  names (struct members) = names_each members
  names (enumerator n) = []
  names (proxy p) = []
  names (reference n) = listed_name n

  pub names_each : Trees → List ℕ
  names_each none = []
  names_each (tree v vs) = names v ++ names_each vs

  pub names_pairs : Entries → List ℕ
  names_pairs no_entry = []
  names_pairs (entry k v rest) = names v ++ names_pairs rest

-- of optional members
abbrev pub names_present : Present → List ℕ
names_present [] = []
names_present (m ∷ ms) = names m.1 ++ names_present ms

-- of the required members first
abbrev pub names_of : Members → List ℕ
names_of c = names_each c.required ++ names_present c.optional

-- what a slice names, in order of occurrence
abbrev pub slice_names : Slice → List ℕ
slice_names (known class content) = names_of content
slice_names (unknown id bytes optionals table) = table

-- slice by slice
abbrev pub instance_names : List Slice → List ℕ
instance_names [] = []
instance_names (s ∷ ss) = slice_names s ++ instance_names ss

-- ---- other names

-- null stays null
abbrev pub renamed_name : (ℕ → ℕ) → Option ℕ → Option ℕ
renamed_name f None = None
renamed_name f (Some n) = Some (f n)

abbrev mutual
  -- the same with other names in their place; null stays null
  pub renamed : (ℕ → ℕ) → Tree → Tree
  renamed f (boolean b) = boolean b
  renamed f (byte n) = byte n
  renamed f (short z) = short z
  renamed f (int z) = int z
  renamed f (long z) = long z
  renamed f (text s) = text s
  renamed f (sequence items) = sequence (renamed_each f items)
  renamed f (dictionary pairs) = dictionary (renamed_pairs f pairs)
  renamed f (struct members) = struct (renamed_each f members)
  renamed f (enumerator n) = enumerator n
  renamed f (proxy p) = proxy p
  renamed f (reference n) = reference (renamed_name f n)

  pub renamed_each : (ℕ → ℕ) → Trees → Trees
  renamed_each f none = none
  renamed_each f (tree v vs) = tree (renamed f v) (renamed_each f vs)

  pub renamed_pairs : (ℕ → ℕ) → Entries → Entries
  renamed_pairs f no_entry = no_entry
  renamed_pairs f (entry k v rest) = entry k (renamed f v) (renamed_pairs f rest)

abbrev pub renamed_present : (ℕ → ℕ) → Present → Present
renamed_present f [] = []
renamed_present f (m ∷ ms) = (m.0, renamed f m.1) ∷ renamed_present f ms

abbrev pub renamed_members : (ℕ → ℕ) → Members → Members
renamed_members f c = with_optional (renamed_each f c.required) (renamed_present f c.optional)

abbrev pub renamed_slice : (ℕ → ℕ) → Slice → Slice
renamed_slice f (known class content) = known class (renamed_members f content)
renamed_slice f (unknown id bytes optionals table) = unknown id bytes optionals (map f table)
