-- Other names by two functions that agree on the names that occur.
use Rattle.std.proofs.Common.{◌≡◌, ℕ, ◌<◌, List, [], ◌∷◌, ◌++◌, map, Option, Some, None, refl, ap}
use Rattle.ice_encoding.specs.Tree.{Tree, boolean, byte, short, int, long, text, sequence, dictionary, struct, enumerator, proxy, reference, Trees, none, tree, Entries, no_entry, entry}
use Rattle.ice_encoding.specs.Optionals.{Present}
use Rattle.ice_encoding.specs.OptionalMembers.{Members, with_optional}
use Rattle.ice_encoding.specs.Graph.{Slice, known, unknown}
use Rattle.ice_encoding.specs.Names.{listed_name, names, names_each, names_pairs, names_present, names_of, slice_names, instance_names, renamed_name, renamed, renamed_each, renamed_pairs, renamed_present, renamed_members, renamed_slice}
use Rattle.graph_arena.specs.Arena.{AreBelow}

pub below-left : (limit : ℕ) (a b : List ℕ) → AreBelow limit (a ++ b) → AreBelow limit a
below-left limit [] b below = tt
below-left limit (n ∷ a) b below = (below.0, below-left limit a b below.1)

pub below-right : (limit : ℕ) (a b : List ℕ) → AreBelow limit (a ++ b) → AreBelow limit b
below-right limit [] b below = below
below-right limit (n ∷ a) b below = below-right limit a b below.1

module _ (limit : ℕ) (f g : ℕ → ℕ) (agree : (n : ℕ) → n < limit → f n ≡ g n) where
  name-agrees : (n : Option ℕ) → AreBelow limit (listed_name n) → renamed_name f n ≡ renamed_name g n
  name-agrees None below = refl
  name-agrees (Some n) below = ap Some (agree n below.0)

  mutual
    agrees : (v : Tree) → AreBelow limit (names v) → renamed f v ≡ renamed g v
    agrees (boolean b) below = refl
    agrees (byte n) below = refl
    agrees (short z) below = refl
    agrees (int z) below = refl
    agrees (long z) below = refl
    agrees (text s) below = refl
    agrees (sequence items) below = ap sequence (each-agrees items below)
    agrees (dictionary pairs) below = ap dictionary (pairs-agree pairs below)
    agrees (struct members) below = ap struct (each-agrees members below)
    agrees (enumerator n) below = refl
    agrees (proxy p) below = refl
    agrees (reference n) below = ap reference (name-agrees n below)

    each-agrees : (vs : Trees) → AreBelow limit (names_each vs) → renamed_each f vs ≡ renamed_each g vs
    each-agrees none below = refl
    each-agrees (tree v vs) below = λ i. tree (agrees v (below-left limit (names v) (names_each vs) below) i) (each-agrees vs (below-right limit (names v) (names_each vs) below) i)

    pairs-agree : (ps : Entries) → AreBelow limit (names_pairs ps) → renamed_pairs f ps ≡ renamed_pairs g ps
    pairs-agree no_entry below = refl
    pairs-agree (entry k v ps) below = λ i. entry k (agrees v (below-left limit (names v) (names_pairs ps) below) i) (pairs-agree ps (below-right limit (names v) (names_pairs ps) below) i)

  present-agrees : (os : Present) → AreBelow limit (names_present os) → renamed_present f os ≡ renamed_present g os
  present-agrees [] below = refl
  present-agrees (o ∷ os) below = λ i. (o.0, agrees o.1 (below-left limit (names o.1) (names_present os) below) i) ∷ present-agrees os (below-right limit (names o.1) (names_present os) below) i

  pub members-agree : (c : Members) → AreBelow limit (names_of c) → renamed_members f c ≡ renamed_members g c
  members-agree c below = λ i. with_optional
      (each-agrees c.required (below-left limit (names_each c.required) (names_present c.optional) below) i)
      (present-agrees c.optional (below-right limit (names_each c.required) (names_present c.optional) below) i)

  table-agrees : (ns : List ℕ) → AreBelow limit ns → map f ns ≡ map g ns
  table-agrees [] below = refl
  table-agrees (n ∷ ns) below = λ i. agree n below.0 i ∷ table-agrees ns below.1 i

  slice-agrees : (s : Slice) → AreBelow limit (slice_names s) → renamed_slice f s ≡ renamed_slice g s
  slice-agrees (known class content) below = ap (known class) (members-agree content below)
  slice-agrees (unknown id bytes optionals table) below = ap (unknown id bytes optionals) (table-agrees table below)

  pub slices-agree : (ss : List Slice) → AreBelow limit (instance_names ss) → map (renamed_slice f) ss ≡ map (renamed_slice g) ss
  slices-agree [] below = refl
  slices-agree (s ∷ ss) below = λ i. slice-agrees s (below-left limit (slice_names s) (instance_names ss) below) i ∷ slices-agree ss (below-right limit (slice_names s) (instance_names ss) below) i
