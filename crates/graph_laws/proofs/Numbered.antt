-- What is seen of a graph is seen of it under other names.
use Rattle.std.proofs.Common.{ℕ, zero, suc, ◌≡◌, ◌<◌, Bool, true, List, [], ◌∷◌, ◌++◌, length, map, get_or, refl, sym, ap, ◌∙◌, subst, inl, inr, arith}
use Rattle.std.proofs.lemmas.List.{length-map, get_or-map}
use Rattle.ice_types.specs.Tables.{Tables}
use Rattle.ice_encoding.specs.OptionalMembers.{Members, SpellsSliceMembers}
use Rattle.ice_encoding.specs.Classes.{own_members}
use Rattle.ice_encoding.specs.Graph.{Slice, known, unknown, Graph}
use Rattle.ice_encoding.specs.Names.{names_of, slice_names, instance_names, renamed_members, renamed_slice}
use Rattle.ice_encoding.specs.References.{in_table, entry_in, resolved, AreWithin}
use Rattle.ice_encoding.specs.Slices.{unknown_bytes}
use Rattle.ice_encoding.specs.Instances.{class_of, slices_of, class_fits, AllFit}
use Rattle.ice_encoding.specs.Visiting.{place}
use Rattle.ice_encoding.specs.SameGraph.{AreListed, Holds, Same, numbered}
use Rattle.ice_encoding.specs.CanonicalGraph.{is_there}
use Rattle.graph_arena.specs.Arena.{AreBelow}
use Rattle.graph_arena.proofs.Keeping as keeping
use Rattle.graph_laws.proofs.Places.{AreListed-append, AreListed-left, AreListed-right}
use Rattle.graph_laws.proofs.Renumbered.{instance-numbered, renumbered}
use Rattle.graph_laws.proofs.Sameness.{place-get, listed-within}
use Rattle.graph_laws.proofs.Upto.{upto}
use Rattle.graph_laws.proofs.Formed.{class-renamed, places-upto, once-upto, upto-listed, listed-upto, placed-below}
use Rattle.graph_laws.specs.Seeing.{OpensAs, SeenAs, AllSeen, EachSeen, Seen}
use Rattle.graph_laws.proofs.Stays.{Uses}
use Rattle.graph_laws.proofs.RelayedRelated.{each_slices}
use Rattle.graph_laws.proofs.Entries.{places_within, entry_renamed, by_table_renamed}
use Rattle.graph_laws.proofs.Standing.{Stands, stands_renamed}

-- ---- a graph of listed instances is the same

-- the instance of a number
pub numbered-at : (ns : List ℕ) (g : Graph) (n : ℕ) → n < length ns → slices_of (numbered ns g).instances n ≡ map (renamed_slice (place ns)) (slices_of g.instances (get_or ns n 0))
numbered-at ns g n lt = get_or-map (λ m. map (renamed_slice (place ns)) (slices_of g.instances m)) ns n 0 [] lt

pub numbered-length : (ns : List ℕ) (g : Graph) → length (numbered ns g).instances ≡ length ns
numbered-length ns g = length-map ns (λ m. map (renamed_slice (place ns)) (slices_of g.instances m))

numbered-holds : (ns : List ℕ) (g : Graph) → Holds ns g → Holds (upto (length (numbered ns g).instances)) (numbered ns g)
numbered-holds ns g holds =
    let k : Graph = numbered ns g in
    let size : length k.instances ≡ length ns = numbered-length ns g in
    record {
      once = once-upto (length k.instances);
      roots = upto-listed (length k.instances) (names_of k.roots) (placed-below ns (names_of k.roots) (names_of g.roots) (length k.instances) size (keeping.members-renamed (place ns) g.roots) holds.roots);
      instances = λ n lt.
          let inside : n < length ns = omega (arith, listed-upto (length k.instances) n lt, size) in
          let m : ℕ = get_or ns n 0 in
          let listed : place ns m < length ns = omega (arith, place-get ns n holds.once inside, inside) in
          upto-listed (length k.instances) (instance_names (slices_of k.instances n))
          (placed-below ns (instance_names (slices_of k.instances n)) (instance_names (slices_of g.instances m)) (length k.instances) size
          (ap instance_names (numbered-at ns g n inside) ∙ keeping.instance-renamed (place ns) (slices_of g.instances m)) (holds.instances m listed));
    }

pub numbered-same : (ns : List ℕ) (g : Graph) → Holds ns g → Same (numbered ns g) g
numbered-same ns g holds =
    let k : Graph = numbered ns g in
    let are : upto (length k.instances) ≡ map (place ns) ns = ap upto (numbered-length ns g) ∙ sym (places-upto ns holds.once) in
    record {
      left = upto (length k.instances);
      right = ns;
      left_holds = numbered-holds ns g holds;
      right_holds = holds;
      equal = ap (λ (l : List ℕ). numbered l k) are ∙ renumbered ns g holds ns (listed-within ns ns (λ n lt. lt));
    }

-- ---- instances stand so under other names

below-at : (limit : ℕ) (ns : List ℕ) (n : ℕ) → AreBelow limit ns → n < length ns → get_or ns n 0 < limit
below-at limit [] n h lt = absurd (omega (arith, lt))
below-at limit (m ∷ ns) zero h lt = h.0
below-at limit (m ∷ ns) (suc n) h lt = below-at limit ns n h.1 (omega (arith, lt))

pub numbered-stands : (t : Tables) (ns : List ℕ) (g : Graph) → AreBelow (length g.instances) ns → ((n : ℕ) → n < length g.instances → Stands t (slices_of g.instances n))
    → (n : ℕ) → n < length (numbered ns g).instances → Stands t (slices_of (numbered ns g).instances n)
numbered-stands t ns g below stands n lt =
    let inside : n < length ns = omega (arith, lt, numbered-length ns g) in
    subst (Stands t) (sym (numbered-at ns g n inside)) (stands_renamed t (place ns) (slices_of g.instances (get_or ns n 0)) (stands (get_or ns n 0) (below-at (length g.instances) ns n below inside)))

-- ---- what is seen of it

content_is : {C : Type 0} (a : ℕ) (x y : Members) → known a x ≡ known a y → (x ≡ y → C) → C
content_is a x y e go = go cc

entries_listed : (ns table ps : List ℕ) → AreBelow (length table) ps → AreListed ns table → AreListed ns (map (entry_in table) ps)
entries_listed ns table [] below listed = tt
entries_listed ns table (p ∷ ps) below listed = (one table p below.0 listed, entries_listed ns table ps below.1 listed)
  where
    one : (table : List ℕ) (p : ℕ) → p < length table → AreListed ns table → place ns (entry_in table p) < length ns
    one [] p lt listed = absurd (omega (arith, lt))
    one (m ∷ ms) zero lt listed = listed.0
    one (m ∷ ms) (suc p) lt listed = one ms p (omega (arith, lt)) listed.1

there-renamed : (f : ℕ → ℕ) (table : List ℕ) → is_there (map f table) ≡ is_there table
there-renamed f [] = refl
there-renamed f (m ∷ table) = refl

module _ (t u : Tables) (g h : Graph) (seen : Seen t u g h) (ns : List ℕ) (holds : Holds ns h) where
  abbrev ks : List (List Slice)
  ks = g.instances

  abbrev f : ℕ → ℕ
  f = place ns

  slice_listed : (s r : Slice) → SeenAs t u ks s r → AreListed ns (slice_names r) → AreListed ns (slice_names s)
  slice_listed (unknown id bytes optionals table) r (is, hidden) listed = subst (λ (s : Slice). AreListed ns (slice_names s)) is listed
  slice_listed (known a content) r (inl (b, is, tied)) listed = subst (λ (s : Slice). AreListed ns (slice_names s)) is listed
  slice_listed (known a content) r (inr (id, bytes, optionals, table, is, named, hidden, (raw, uses, members, within, fits, equal))) listed =
      content_is a content (renamed_members (entry_in table) raw) equal λ e.
      let in_table_listed : AreListed ns table = subst (λ (s : Slice). AreListed ns (slice_names s)) is listed in
      let below = places_within t (is_there table) optionals (own_members t a) (unknown_bytes optionals bytes) raw uses (length table) members within in
      subst (λ (c : Members). AreListed ns (names_of c)) (sym e) (subst (AreListed ns) (sym (keeping.members-renamed (entry_in table) raw)) (entries_listed ns table (names_of raw) below in_table_listed))

  slices_listed : (ss rs : List Slice) → AllSeen t u ks ss rs → AreListed ns (instance_names rs) → AreListed ns (instance_names ss)
  slices_listed [] rs e listed = tt
  slices_listed (s ∷ ss) rs (r, others, is, one, rest) listed =
      let both : AreListed ns (slice_names r ++ instance_names others) = subst (λ (l : List Slice). AreListed ns (instance_names l)) is listed in
      AreListed-append ns (slice_names s) (instance_names ss) (slice_listed s r one (AreListed-left ns (slice_names r) (instance_names others) both)) (slices_listed ss others rest (AreListed-right ns (slice_names r) (instance_names others) both))

  -- the names that are listed of the one are those of the other
  pub seen-holds : Holds ns g
  seen-holds = record {
    once = holds.once;
    roots = subst (λ (c : Members). AreListed ns (names_of c)) seen.roots holds.roots;
    instances = λ n lt. slices_listed (slices_of g.instances n) (slices_of h.instances n) (each_slices t u ks g.instances h.instances n seen.instances) (holds.instances n lt);
  }

  abbrev ks' : List (List Slice)
  ks' = (numbered ns g).instances

  class_at : (m : ℕ) → place ns m < length ns → class_of (slices_of ks' (f m)) ≡ class_of (slices_of ks m)
  class_at m lt = ap class_of (instance-numbered ns g m lt) ∙ class-renamed f (slices_of ks m)

  entry_listed : (table : List ℕ) (p : ℕ) → p < length table → AreListed ns table → place ns (entry_in table p) < length ns
  entry_listed [] p lt listed = absurd (omega (arith, lt))
  entry_listed (m ∷ ms) zero lt listed = listed.0
  entry_listed (m ∷ ms) (suc p) lt listed = entry_listed ms p (omega (arith, lt)) listed.1

  fits_renamed : (table : List ℕ) → AreListed ns table → (uses : Uses) → AreWithin (length table) uses → AllFit t ks (resolved table uses) → AllFit t ks' (resolved (map f table) uses)
  fits_renamed table listed [] within fits = tt
  fits_renamed table listed (m ∷ ms) within fits = (
    subst (λ (k : ℕ). class_fits t m.declared (class_of (slices_of ks' k)) ≡ true) (sym (entry_renamed f table m.name within.0))
        (ap (class_fits t m.declared) (class_at (entry_in table m.name) (entry_listed table m.name within.0 listed)) ∙ fits.0),
    fits_renamed table listed ms within.1 fits.1,
  )

  opens_renamed : (a : ℕ) (bytes : List ℕ) (optionals : Bool) (table : List ℕ) (content : Members) → AreListed ns table → OpensAs t ks a bytes optionals table content → OpensAs t ks' a bytes optionals (map f table) (renamed_members f content)
  opens_renamed a bytes optionals table content listed (raw, uses, members, within, fits, equal) =
      let below = places_within t (is_there table) optionals (own_members t a) (unknown_bytes optionals bytes) raw uses (length table) members within in (
        raw,
        uses,
        subst (λ (b : Bool). SpellsSliceMembers (in_table b) t optionals (own_members t a) (unknown_bytes optionals bytes) raw [] uses) (sym (there-renamed f table)) members,
        subst (λ (n : ℕ). AreWithin n uses) (sym (length-map {A = ℕ} {B = ℕ} table f)) within,
        fits_renamed table listed uses within fits,
        ap (renamed_slice f) equal ∙ by_table_renamed f table a raw below,
      )

  slice_renamed : (s r : Slice) → AreListed ns (slice_names r) → SeenAs t u ks s r → SeenAs t u ks' (renamed_slice f s) (renamed_slice f r)
  slice_renamed (unknown id bytes optionals table) r listed (is, hidden) = (ap (renamed_slice f) is, hidden)
  slice_renamed (known a content) r listed (inl (b, is, tied)) = inl (b, ap (renamed_slice f) is, tied)
  slice_renamed (known a content) r listed (inr (id, bytes, optionals, table, is, named, hidden, opens)) =
      inr (id, bytes, optionals, map f table, ap (renamed_slice f) is, named, hidden, opens_renamed a bytes optionals table content (subst (λ (s : Slice). AreListed ns (slice_names s)) is listed) opens)

  slices_renamed : (ss rs : List Slice) → AreListed ns (instance_names rs) → AllSeen t u ks ss rs → AllSeen t u ks' (map (renamed_slice f) ss) (map (renamed_slice f) rs)
  slices_renamed [] rs listed e = ap (map (renamed_slice f)) e
  slices_renamed (s ∷ ss) rs listed (r, others, is, one, rest) =
      let both : AreListed ns (slice_names r ++ instance_names others) = subst (λ (l : List Slice). AreListed ns (instance_names l)) is listed in (
        renamed_slice f r,
        map (renamed_slice f) others,
        ap (map (renamed_slice f)) is,
        slice_renamed s r (AreListed-left ns (slice_names r) (instance_names others) both) one,
        slices_renamed ss others (AreListed-right ns (slice_names r) (instance_names others) both) rest,
      )

  each_renamed : (ms : List ℕ) → AreListed ns ms → EachSeen t u ks' (map (λ n. map (renamed_slice f) (slices_of g.instances n)) ms) (map (λ n. map (renamed_slice f) (slices_of h.instances n)) ms)
  each_renamed [] listed = refl
  each_renamed (m ∷ ms) listed = (
    map (renamed_slice f) (slices_of h.instances m),
    map (λ n. map (renamed_slice f) (slices_of h.instances n)) ms,
    refl,
    slices_renamed (slices_of g.instances m) (slices_of h.instances m) (holds.instances m listed.0) (each_slices t u ks g.instances h.instances m seen.instances),
    each_renamed ms listed.1,
  )

  pub seen-numbered : Seen t u (numbered ns g) (numbered ns h)
  seen-numbered = record { roots = ap (renamed_members f) seen.roots; instances = each_renamed ns (listed-within ns ns (λ n lt. lt)) }
