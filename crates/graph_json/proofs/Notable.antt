-- What can be noted stays so under other names.
use Rattle.std.proofs.Common.{ℕ, List, [], ◌∷◌, map}
use Rattle.ice_encoding.specs.Tree.{Tree, boolean, byte, short, int, long, text, sequence, dictionary, struct, enumerator, proxy, reference, Trees, none, tree, Entries, no_entry, entry, InEach, InPairs}
use Rattle.ice_encoding.specs.Optionals.{Present}
use Rattle.ice_encoding.specs.OptionalMembers.{Members}
use Rattle.ice_encoding.specs.Graph.{Slice, known, unknown}
use Rattle.ice_encoding.specs.Names.{renamed, renamed_each, renamed_pairs, renamed_present, renamed_members, renamed_slice}
use Rattle.graph_json.specs.TypedValues.{IsShort, HasShortTexts}
use Rattle.graph_json.specs.Contents.{AreShort, ContentIsShort}
use Rattle.graph_json.specs.Typed.{InstanceNotable}

module _ (f : ℕ → ℕ) where
  mutual
    short_renamed : (v : Tree) → HasShortTexts v → HasShortTexts (renamed f v)
    short_renamed (boolean b) h = h
    short_renamed (byte n) h = h
    short_renamed (short z) h = h
    short_renamed (int z) h = h
    short_renamed (long z) h = h
    short_renamed (text s) h = h
    short_renamed (sequence vs) h = (tt, short_each vs h.1)
    short_renamed (dictionary ps) h = (tt, short_pairs ps h.1)
    short_renamed (struct vs) h = (tt, short_each vs h.1)
    short_renamed (enumerator n) h = h
    short_renamed (proxy p) h = h
    short_renamed (reference n) h = tt

    short_each : (vs : Trees) → InEach IsShort vs → InEach IsShort (renamed_each f vs)
    short_each none h = tt
    short_each (tree v vs) h = (short_renamed v h.0, short_each vs h.1)

    short_pairs : (ps : Entries) → InPairs IsShort ps → InPairs IsShort (renamed_pairs f ps)
    short_pairs no_entry h = tt
    short_pairs (entry k v ps) h = (h.0, short_renamed v h.1, short_pairs ps h.2)

  short_present : (os : Present) → AreShort os → AreShort (renamed_present f os)
  short_present [] h = tt
  short_present (o ∷ os) h = (short_renamed o.1 h.0, short_present os h.1)

  pub members_renamed : (c : Members) → ContentIsShort c → ContentIsShort (renamed_members f c)
  members_renamed c h = (short_each c.required h.0, short_present c.optional h.1)

  pub instance_renamed : (ss : List Slice) → InstanceNotable ss → InstanceNotable (map (renamed_slice f) ss)
  instance_renamed [] h = tt
  instance_renamed (known class content ∷ ss) h = (members_renamed content h.0, instance_renamed ss h.1)
  instance_renamed (unknown id bytes optionals table ∷ ss) h = (h.0, instance_renamed ss h.1)
