-- Keys that stand twice in a dictionary, apart from how they are found. (Ice manual, "Dictionaries": each key stands once.)
use Rattle.std.specs.Prelude.{◌≡◌, ◌⊎◌}
use Rattle.ice_encoding.specs.Tree.{Tree, boolean, byte, short, int, long, text, sequence, dictionary, struct, enumerator, proxy, reference, Trees, none, tree, Entries, no_entry, entry}
use Rattle.ice_encoding.specs.Order.{IsOrdered}

-- the value is so, or some value in it is, the keys among them
abbrev mutual
  -- the value is so, or some value in it is, the keys among them
  pub Somewhere : (Tree → Type 0) → Tree → Type 0
  Somewhere P (boolean b) = P (boolean b)
  Somewhere P (byte n) = P (byte n)
  Somewhere P (short z) = P (short z)
  Somewhere P (int z) = P (int z)
  Somewhere P (long z) = P (long z)
  Somewhere P (text s) = P (text s)
  Somewhere P (sequence items) = P (sequence items) ⊎ InSome P items
  Somewhere P (dictionary pairs) = P (dictionary pairs) ⊎ InSomePair P pairs
  Somewhere P (struct members) = P (struct members) ⊎ InSome P members
  Somewhere P (enumerator n) = P (enumerator n)
  Somewhere P (proxy p) = P (proxy p)
  Somewhere P (reference n) = P (reference n)

  pub InSome : (Tree → Type 0) → Trees → Type 0
  InSome P none = ⊥
  InSome P (tree v vs) = Somewhere P v ⊎ InSome P vs

  pub InSomePair : (Tree → Type 0) → Entries → Type 0
  InSomePair P no_entry = ⊥
  InSomePair P (entry k v rest) = Somewhere P k ⊎ (Somewhere P v ⊎ InSomePair P rest)

-- some pair has the key
abbrev pub HasKey : Tree → Entries → Type 0
HasKey k no_entry = ⊥
HasKey k (entry l v rest) = (k ≡ l) ⊎ HasKey k rest

-- two pairs have the same key
abbrev pub HasKeyTwice : Entries → Type 0
HasKeyTwice no_entry = ⊥
HasKeyTwice (entry k v rest) = HasKey k rest ⊎ HasKeyTwice rest

-- a dictionary in which a key stands twice
abbrev pub RepeatsKey : Tree → Type 0
RepeatsKey (boolean b) = ⊥
RepeatsKey (byte n) = ⊥
RepeatsKey (short z) = ⊥
RepeatsKey (int z) = ⊥
RepeatsKey (long z) = ⊥
RepeatsKey (text s) = ⊥
RepeatsKey (sequence items) = ⊥
RepeatsKey (dictionary pairs) = HasKeyTwice pairs
RepeatsKey (struct members) = ⊥
RepeatsKey (enumerator n) = ⊥
RepeatsKey (proxy p) = ⊥
RepeatsKey (reference n) = ⊥

-- no key has a dictionary out of order inside
abbrev pub AreOrderedKeys : Entries → Type 0
AreOrderedKeys no_entry = Unit {0}
AreOrderedKeys (entry k v rest) = IsOrdered k × AreOrderedKeys rest

-- No key has a dictionary out of order inside. The keys of a schema have none at all.
abbrev pub HasOrderedKeys : Tree → Type 0
HasOrderedKeys (boolean b) = Unit {0}
HasOrderedKeys (byte n) = Unit {0}
HasOrderedKeys (short z) = Unit {0}
HasOrderedKeys (int z) = Unit {0}
HasOrderedKeys (long z) = Unit {0}
HasOrderedKeys (text s) = Unit {0}
HasOrderedKeys (sequence items) = Unit {0}
HasOrderedKeys (dictionary pairs) = AreOrderedKeys pairs
HasOrderedKeys (struct members) = Unit {0}
HasOrderedKeys (enumerator n) = Unit {0}
HasOrderedKeys (proxy p) = Unit {0}
HasOrderedKeys (reference n) = Unit {0}
