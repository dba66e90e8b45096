-- What stays where names are replaced: the names themselves, renamed, and the order of keys.
use Rattle.std.proofs.Common.{◌≡◌, ℕ, List, [], ◌∷◌, ◌++◌, map, Option, Some, None, refl, sym, ◌∙◌}
use Rattle.std.proofs.lemmas.List.{map-append}
use Rattle.ice_encoding.specs.Tree.{Tree, boolean, byte, short, int, long, text, sequence, dictionary, struct, enumerator, proxy, reference, Trees, none, tree, Entries, no_entry, entry, InEach, InPairs}
use Rattle.ice_encoding.specs.Order.{IsRising, KeysRise, IsOrdered}
use Rattle.ice_encoding.specs.Optionals.{Present}
use Rattle.ice_encoding.specs.OptionalMembers.{Members}
use Rattle.ice_encoding.specs.Graph.{Slice, known, unknown}
use Rattle.ice_encoding.specs.Names.{listed_name, names, names_each, names_pairs, names_present, names_of, slice_names, instance_names, renamed_name, renamed, renamed_each, renamed_pairs, renamed_present, renamed_members, renamed_slice}
use Rattle.graph_arena.specs.Arena.{AreOrdered, HasOrder, SliceHasOrder, HaveOrder}

module _ (f : ℕ → ℕ) where
  both : (a b c d : List ℕ) → a ≡ map f c → b ≡ map f d → a ++ b ≡ map f (c ++ d)
  both a b c d p q = (λ i. p i ++ q i) ∙ sym (map-append f c d)

  name-renamed : (n : Option ℕ) → listed_name (renamed_name f n) ≡ map f (listed_name n)
  name-renamed None = refl
  name-renamed (Some n) = refl

  mutual
    names-renamed : (v : Tree) → names (renamed f v) ≡ map f (names v)
    names-renamed (boolean b) = refl
    names-renamed (byte n) = refl
    names-renamed (short z) = refl
    names-renamed (int z) = refl
    names-renamed (long z) = refl
    names-renamed (text s) = refl
    names-renamed (sequence vs) = each-renamed vs
    names-renamed (dictionary ps) = pairs-renamed ps
    names-renamed (struct vs) = each-renamed vs
    names-renamed (enumerator n) = refl
    names-renamed (proxy p) = refl
    names-renamed (reference n) = name-renamed n

    each-renamed : (vs : Trees) → names_each (renamed_each f vs) ≡ map f (names_each vs)
    each-renamed none = refl
    each-renamed (tree v vs) = both (names (renamed f v)) (names_each (renamed_each f vs)) (names v) (names_each vs) (names-renamed v) (each-renamed vs)

    pairs-renamed : (ps : Entries) → names_pairs (renamed_pairs f ps) ≡ map f (names_pairs ps)
    pairs-renamed no_entry = refl
    pairs-renamed (entry k v ps) = both (names (renamed f v)) (names_pairs (renamed_pairs f ps)) (names v) (names_pairs ps) (names-renamed v) (pairs-renamed ps)

  present-renamed : (os : Present) → names_present (renamed_present f os) ≡ map f (names_present os)
  present-renamed [] = refl
  present-renamed (o ∷ os) = both (names (renamed f o.1)) (names_present (renamed_present f os)) (names o.1) (names_present os) (names-renamed o.1) (present-renamed os)

  pub members-renamed : (c : Members) → names_of (renamed_members f c) ≡ map f (names_of c)
  members-renamed c =
      both (names_each (renamed_each f c.required)) (names_present (renamed_present f c.optional)) (names_each c.required) (names_present c.optional) (each-renamed c.required) (present-renamed c.optional)

  slice-renamed : (s : Slice) → slice_names (renamed_slice f s) ≡ map f (slice_names s)
  slice-renamed (known class content) = members-renamed content
  slice-renamed (unknown id bytes optionals table) = refl

  pub instance-renamed : (ss : List Slice) → instance_names (map (renamed_slice f) ss) ≡ map f (instance_names ss)
  instance-renamed [] = refl
  instance-renamed (s ∷ ss) = both (slice_names (renamed_slice f s)) (instance_names (map (renamed_slice f) ss)) (slice_names s) (instance_names ss) (slice-renamed s) (instance-renamed ss)

  -- ---- keys

  rising-renamed : (ps : Entries) → IsRising ps → IsRising (renamed_pairs f ps)
  rising-renamed no_entry h = tt
  rising-renamed (entry k v no_entry) h = tt
  rising-renamed (entry k v (entry l w rest)) h = (h.0, rising-renamed (entry l w rest) h.1)

  mutual
    ordered-renamed : (v : Tree) → IsOrdered v → IsOrdered (renamed f v)
    ordered-renamed (boolean b) h = h
    ordered-renamed (byte n) h = h
    ordered-renamed (short z) h = h
    ordered-renamed (int z) h = h
    ordered-renamed (long z) h = h
    ordered-renamed (text s) h = h
    ordered-renamed (sequence vs) h = (tt, ordered-each vs h.1)
    ordered-renamed (dictionary ps) h = (rising-renamed ps h.0, ordered-pairs ps h.1)
    ordered-renamed (struct vs) h = (tt, ordered-each vs h.1)
    ordered-renamed (enumerator n) h = h
    ordered-renamed (proxy p) h = h
    ordered-renamed (reference n) h = tt

    ordered-each : (vs : Trees) → InEach KeysRise vs → InEach KeysRise (renamed_each f vs)
    ordered-each none h = tt
    ordered-each (tree v vs) h = (ordered-renamed v h.0, ordered-each vs h.1)

    ordered-pairs : (ps : Entries) → InPairs KeysRise ps → InPairs KeysRise (renamed_pairs f ps)
    ordered-pairs no_entry h = tt
    ordered-pairs (entry k v ps) h = (h.0, ordered-renamed v h.1, ordered-pairs ps h.2)

  ordered-present : (os : Present) → AreOrdered os → AreOrdered (renamed_present f os)
  ordered-present [] h = tt
  ordered-present (o ∷ os) h = (ordered-renamed o.1 h.0, ordered-present os h.1)

  pub order-renamed : (c : Members) → HasOrder c → HasOrder (renamed_members f c)
  order-renamed c h = (ordered-each c.required h.0, ordered-present c.optional h.1)

  slice-ordered : (s : Slice) → SliceHasOrder s → SliceHasOrder (renamed_slice f s)
  slice-ordered (known class content) h = order-renamed content h
  slice-ordered (unknown id bytes optionals table) h = tt

  pub orders-renamed : (ss : List Slice) → HaveOrder ss → HaveOrder (map (renamed_slice f) ss)
  orders-renamed [] h = tt
  orders-renamed (s ∷ ss) h = (slice-ordered s h.0, orders-renamed ss h.1)
