-- A slice of a known class whose places stand by first use is written as it stands.
use Rattle.std.proofs.Common.{◌≡◌, ℕ, List, [], ◌∷◌, ◌++◌, None, Some, refl, ap, ◌∙◌}
use Rattle.ice_types.specs.Tables.{Tables}
use Rattle.ice_encoding.specs.Tree.{Tree, boolean, byte, short, int, long, text, sequence, dictionary, struct, enumerator, proxy, reference, Trees, none, tree, Entries, no_entry, entry}
use Rattle.ice_encoding.specs.Optionals.{Present}
use Rattle.ice_encoding.specs.OptionalMembers.{Members, with_optional}
use Rattle.ice_encoding.specs.Graph.{known}
use Rattle.ice_encoding.specs.Classes.{own_members}
use Rattle.ice_encoding.specs.Members.{written_slice_members}
use Rattle.ice_encoding.specs.Names.{names, names_each, names_pairs, names_present, names_of, renamed, renamed_each, renamed_pairs, renamed_present, renamed_members}
use Rattle.ice_encoding.specs.References.{entry_in}
use Rattle.ice_encoding.specs.Visiting.{place}
use Rattle.ice_encoding.specs.CanonicalGraph.{each_once, table_of, by_size, sized_bytes}
use Rattle.graph_arena.proofs.Keeping as keeping
use Rattle.canonical_inputs.specs.Tables.{IsTableOf}
use Rattle.canonical_inputs.proofs.Tables.{AllBack, all_back, table_stands}

module _ (f g : ℕ → ℕ) where
  back_front : (a b : List ℕ) → AllBack f g (a ++ b) → AllBack f g a
  back_front [] b h = tt
  back_front (x ∷ a) b h = (h.0, back_front a b h.1)

  back_rest : (a b : List ℕ) → AllBack f g (a ++ b) → AllBack f g b
  back_rest [] b h = h
  back_rest (x ∷ a) b h = back_rest a b h.1

  mutual
    back : (v : Tree) → AllBack f g (names v) → renamed g (renamed f v) ≡ v
    back (boolean b) h = refl
    back (byte n) h = refl
    back (short z) h = refl
    back (int z) h = refl
    back (long z) h = refl
    back (text s) h = refl
    back (sequence items) h = ap sequence (back_each items h)
    back (dictionary pairs) h = ap dictionary (back_pairs pairs h)
    back (struct members) h = ap struct (back_each members h)
    back (enumerator n) h = refl
    back (proxy p) h = refl
    back (reference None) h = refl
    back (reference (Some n)) h = ap (λ (m : ℕ). reference (Some m)) h.0

    back_each : (vs : Trees) → AllBack f g (names_each vs) → renamed_each g (renamed_each f vs) ≡ vs
    back_each none h = refl
    back_each (tree v vs) h =
        ap (λ (w : Tree). tree w (renamed_each g (renamed_each f vs))) (back v (back_front (names v) (names_each vs) h)) ∙ ap (tree v) (back_each vs (back_rest (names v) (names_each vs) h))

    back_pairs : (ps : Entries) → AllBack f g (names_pairs ps) → renamed_pairs g (renamed_pairs f ps) ≡ ps
    back_pairs no_entry h = refl
    back_pairs (entry k v ps) h =
        ap (λ (w : Tree). entry k w (renamed_pairs g (renamed_pairs f ps))) (back v (back_front (names v) (names_pairs ps) h)) ∙ ap (entry k v) (back_pairs ps (back_rest (names v) (names_pairs ps) h))

  back_present : (os : Present) → AllBack f g (names_present os) → renamed_present g (renamed_present f os) ≡ os
  back_present [] h = refl
  back_present (o ∷ os) h =
      ap (λ (w : Tree). (o.0, w) ∷ renamed_present g (renamed_present f os)) (back o.1 (back_front (names o.1) (names_present os) h))
      ∙ ap (λ (l : Present). (o.0, o.1) ∷ l) (back_present os (back_rest (names o.1) (names_present os) h))

  back_members : (c : Members) → AllBack f g (names_of c) → renamed_members g (renamed_members f c) ≡ c
  back_members c h =
      ap (λ (vs : Trees). with_optional vs (renamed_present g (renamed_present f c.optional))) (back_each c.required (back_front (names_each c.required) (names_present c.optional) h))
      ∙ ap (λ (os : Present). with_optional c.required os) (back_present c.optional (back_rest (names_each c.required) (names_present c.optional) h))

-- the table of the slice is the one that was read, and its members are written with the places that were read
pub slice_stands : (t : Tables) (class : ℕ) (table : List ℕ) (c : Members) → IsTableOf (names_of c) table
    → (table_of (known class (renamed_members (entry_in table) c)) ≡ table)
    × (sized_bytes t (known class (renamed_members (entry_in table) c)) ≡ (written_slice_members by_size t (own_members t class) c tt).0)
slice_stands t class table c h =
    let s = known class (renamed_members (entry_in table) c) in
    let is : table_of s ≡ table = ap (each_once []) (keeping.members-renamed (entry_in table) c) ∙ table_stands table (names_of c) h in (
      is,
      ap (λ (l : List ℕ). (written_slice_members by_size t (own_members t class) (renamed_members (place l) (renamed_members (entry_in table) c)) tt).0) is
          ∙ ap (λ (m : Members). (written_slice_members by_size t (own_members t class) m tt).0) (back_members (entry_in table) (place table) c (all_back table h.once 0 (names_of c) h.all)),
    )
