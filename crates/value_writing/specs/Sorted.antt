-- Dictionaries put into rising order of their keys, at every depth.
use Rattle.std.specs.Prelude.{Bool, false, ◌||◌}
use Rattle.std.specs.Ordering.{is_eq}
use Rattle.ice_encoding.specs.Order.{tree_cmp, insert}
use Rattle.ice_encoding.specs.Tree.{Tree, boolean, byte, short, int, long, text, sequence, dictionary, struct, enumerator, proxy, reference, Trees, none, tree, Entries, no_entry, entry}

-- each dictionary's pairs, put at their places one after the other, and so inside them
abbrev mutual
  -- each dictionary's pairs put at their places one after the other, keys and values sorted first
  pub sorted : Tree → Tree
  sorted (boolean b) = boolean b
  sorted (byte n) = byte n
  sorted (short z) = short z
  sorted (int z) = int z
  sorted (long z) = long z
  sorted (text s) = text s
  sorted (sequence items) = sequence (sorted_each items)
  sorted (dictionary pairs) = dictionary (sorted_onto no_entry pairs)
  sorted (struct members) = struct (sorted_each members)
  sorted (enumerator n) = enumerator n
  sorted (proxy p) = proxy p
  sorted (reference n) = reference n

  pub sorted_each : Trees → Trees
  sorted_each none = none
  sorted_each (tree v vs) = tree (sorted v) (sorted_each vs)

  pub sorted_onto : Entries → Entries → Entries
  sorted_onto before no_entry = before
  sorted_onto before (entry k v rest) = sorted_onto (insert (sorted k) (sorted v) before) rest

-- some pair's key is this one, once it is sorted
abbrev pub has_sorted_key : Tree → Entries → Bool
has_sorted_key key no_entry = false
has_sorted_key key (entry k v rest) = is_eq (tree_cmp key (sorted k)) || has_sorted_key key rest

-- two pairs of one dictionary inside have the same key, once their keys are sorted
abbrev mutual
  -- two pairs of one dictionary have the same key, once sorted
  pub has_equal_keys : Tree → Bool
  has_equal_keys (boolean b) = false
  has_equal_keys (byte n) = false
  has_equal_keys (short z) = false
  has_equal_keys (int z) = false
  has_equal_keys (long z) = false
  has_equal_keys (text s) = false
  has_equal_keys (sequence items) = some_has_equal_keys items
  has_equal_keys (dictionary pairs) = have_equal_keys pairs
  has_equal_keys (struct members) = some_has_equal_keys members
  has_equal_keys (enumerator n) = false
  has_equal_keys (proxy p) = false
  has_equal_keys (reference n) = false

  pub some_has_equal_keys : Trees → Bool
  some_has_equal_keys none = false
  some_has_equal_keys (tree v vs) = has_equal_keys v || some_has_equal_keys vs

  pub have_equal_keys : Entries → Bool
  have_equal_keys no_entry = false
  have_equal_keys (entry k v rest) = has_sorted_key (sorted k) rest || (has_equal_keys k || (has_equal_keys v || have_equal_keys rest))
