-- The canonical notation of a graph of the type notes it.
use Rattle.std.proofs.Common.{◌++◌, ◌≡◌, ◌<◌, ◌≤◌, ◌^◌, ℕ, suc, List, [], ◌∷◌, length, map, Option, Some, None, refl, sym, ap, ◌∙◌, subst, arith}
use Rattle.std.specs.Prelude.{codes}
use Rattle.std.proofs.lemmas.List.{length-map}
use Rattle.hex.specs.Hex.{encode_lower}
use Rattle.hex.proofs.HexLemmas.{decode_of-encode_lower}
use Rattle.serde_json.specs.Data.{Data, boolean, string, no_members, put}
use Rattle.ice_types.specs.declared.declarations.ClassDecl.{ClassDecl}
use Rattle.ice_types.specs.declared.declarations.Shape.{Shape}
use Rattle.ice_types.specs.Fits.{names_of}
use Rattle.ice_types.specs.Tables.{Tables}
use Rattle.ice_types.specs.Rules.{IsSchema}
use Rattle.ice_prims.specs.Rest.{IsBytes}
use Rattle.ice_encoding.specs.declared.limits.TheConstants.{GREATEST}
use Rattle.ice_encoding.specs.Port.{size_of}
use Rattle.ice_encoding.specs.Typed.{Refers}
use Rattle.ice_encoding.specs.Classes.{class_named, base_of, own_members}
use Rattle.ice_encoding.specs.Graph.{Slice, known, unknown, Graph}
use Rattle.ice_encoding.specs.CanonicalGraph.{sliced, id_in, id_of}
use Rattle.ice_encoding.specs.Flags.{all_slices}
use Rattle.ice_encoding.specs.Instances.{slices_of}
use Rattle.ice_encoding.specs.Names.{renamed_slice}
use Rattle.ice_encoding.specs.SameGraph.{AreListed, form}
use Rattle.ice_encoding.specs.TypedGraph.{AreReferred, IsKnown, AreBases, IsInstance, IsHeldIn, RefersIn, OfType}
use Rattle.ice_encoding.specs.Visiting.{place, order, most}
use Rattle.graph_laws.proofs.Formed.{Reached, form-typed, form-same-graph}
use Rattle.graph_laws.proofs.Named.{are_named}
use Rattle.graph_laws.proofs.Reached.{reached-small}
use Rattle.graph_laws.proofs.Sameness.{listed-within}
use Rattle.graph_laws.proofs.Schemas.{utf8_texts}
use Rattle.graph_json.specs.ValueNotation.{Noting, NotesName, name_noted}
use Rattle.graph_json.specs.Contents.{content_noted, HasOwnNames, ContentIsShort}
use Rattle.graph_json.proofs.ContentCanon.{content_canon, tags_apart}
use Rattle.graph_json.proofs.Names.{are_apart}
use Rattle.graph_json.specs.Notation.{NotesEach, NotesList, NotesSlice, NotesInstance, NotesListed, NotesGraph}
use Rattle.graph_json.specs.Canonical.{items_noted, list_noted, slice_noted, instance_noted, graph_noted, canonical_noted}
use Rattle.graph_json.specs.Typed.{SliceNotable, InstanceNotable, IsNotable}
use Rattle.graph_json.proofs.Fitting.{class_fits}
use Rattle.graph_json.proofs.Notable.{members_renamed, instance_renamed}

-- ---- lists

abbrev pub AllAre : {A : Type 0} → (A → Type 0) → List A → Type 0
AllAre Of [] = Unit {0}
AllAre Of (x ∷ xs) = Of x × AllAre Of xs

module _ {A : Type 0} (Of : A → Type 0) (One : Noting A) (write : A → Data) (one : (x : A) → Of x → One (write x) x) where
  items_canon : (xs : List A) → AllAre Of xs → NotesEach One (items_noted write xs) xs
  items_canon [] all = refl
  items_canon (x ∷ xs) all = (x, xs, refl, one x all.0, items_canon xs all.1)

  list_canon : (xs : List A) → AllAre Of xs → NotesList One (list_noted write xs) xs
  list_canon xs all = (items_noted write xs, refl, items_canon xs all)

-- each instance, by its place
by_place : (P : List Slice → Type 0) (is : List (List Slice)) → ((n : ℕ) → n < length is → P (slices_of is n)) → AllAre P is
by_place P [] all = tt
by_place P (s ∷ is) all = (all 0 (omega arith), by_place P is (λ n lt. all (suc n) (omega (arith, lt))))

both_are : {A : Type 0} (P Q : A → Type 0) (xs : List A) → AllAre P xs → AllAre Q xs → AllAre (λ x. P x × Q x) xs
both_are P Q [] p q = tt
both_are P Q (x ∷ xs) p q = ((p.0, q.0), both_are P Q xs p.1 q.1)

-- ---- slices and instances

module _ (t : Tables) (rules : IsSchema t) (Refer : Refers) (sizes : (declared n : Option ℕ) → Refer.Held declared n → size_of n < 2 ^ 31) where
  -- a slice of its type
  abbrev IsSlice : Slice → Type 0
  IsSlice (known class content) = IsKnown t Refer class content
  IsSlice (unknown id bytes optionals table) = AreReferred Refer table × IsBytes bytes

  abbrev IsFine : Slice → Type 0
  IsFine s = IsSlice s × SliceNotable s

  names_small : (table : List ℕ) → AreReferred Refer table → AllAre (λ n. size_of (Some n) < 2 ^ 31) table
  names_small [] h = tt
  names_small (n ∷ ns) h = (sizes None (Some n) h.0, names_small ns h.1)

  slice_canon : (s : Slice) → IsFine s → NotesSlice t (slice_noted t s) s
  slice_canon (known class content) h =
      let d = h.0.0 in
      let is = h.0.1 in
      let id = id_of t (known class content) in
      let inside = content_noted t (own_members t class) content in
      let fits = class_fits t rules class d is in
      let found = put (codes "members") inside (put (codes "class") (string id) no_members) in
      let named : class_named t id ≡ Some class = ap (λ (row : Option ClassDecl). class_named t (id_in row)) is ∙ are_named t rules class d is in
      (found, (refl, refl), id, refl, named, inside, refl, content_canon t rules Refer sizes (own_members t class) fits.names fits.apart content h.0.2 h.1.0 h.1.1)
  slice_canon (unknown id bytes optionals table) h =
      let names = list_noted name_noted table in
      let found = put (codes "table") names (put (codes "optionals") (boolean optionals) (put (codes "kept") (string id) (put (codes "bytes") (string (encode_lower bytes)) no_members))) in (
        found,
        (refl, refl),
        refl,
        refl,
        string (encode_lower bytes),
        refl,
        (encode_lower bytes, refl, decode_of-encode_lower bytes h.0.1),
        names,
        refl,
        list_canon (λ n. size_of (Some n) < 2 ^ 31) NotesName name_noted (λ n small. (small, refl)) table (names_small table h.0.0),
      )

  base_slices : (base : Option ℕ) (ss : List Slice) → AreBases t Refer base ss → AllAre IsSlice ss
  base_slices None ss h = subst (AllAre IsSlice) (sym h) tt
  base_slices (Some class) [] h = absurd h
  base_slices (Some class) (unknown id bytes optionals table ∷ ss) h = absurd h
  base_slices (Some class) (known other content ∷ ss) h = (subst (λ (c : ℕ). IsKnown t Refer c content) (sym h.0) h.1, base_slices (base_of t class) ss h.2)

  are_slices : (ss : List Slice) → IsInstance t Refer ss → AllAre IsSlice ss
  are_slices [] h = absurd h
  are_slices (unknown id bytes optionals table ∷ []) h = ((h.2, h.3), tt)
  are_slices (unknown id bytes optionals table ∷ s ∷ ss) h = ((h.0.2, h.0.3), are_slices (s ∷ ss) h.1)
  are_slices (known class content ∷ ss) h = (h.0, base_slices (base_of t class) ss h.1)

  notable_slices : (ss : List Slice) → InstanceNotable ss → AllAre SliceNotable ss
  notable_slices [] h = tt
  notable_slices (s ∷ ss) h = (h.0, notable_slices ss h.1)

  abbrev IsFineInstance : List Slice → Type 0
  IsFineInstance ss = IsInstance t Refer ss × InstanceNotable ss

  instance_canon : (ss : List Slice) → IsFineInstance ss → NotesInstance t (instance_noted t ss) ss
  instance_canon ss h =
      let ds = list_noted (slice_noted t) ss in
      (put (codes "slices") ds no_members, (refl, refl), ds, refl, list_canon IsFine (NotesSlice t) (slice_noted t) slice_canon ss (both_are IsSlice SliceNotable ss (are_slices ss h.0) (notable_slices ss h.1)))

-- ---- graphs

-- a reference to one of so many instances can be written as a size
sizes_in : (t : Tables) (is : List (List Slice)) → length is ≤ most → (declared n : Option ℕ) → IsHeldIn t is declared n → size_of n < 2 ^ 31
unfolding most
sizes_in t is few declared None h = omega arith
sizes_in t is few declared (Some n) h = let lt = h.0 in omega (arith, lt, few)

pub listed_canon : (t : Tables) → IsSchema t → (shape : Shape) → HasOwnNames shape → (k : Graph) → length k.instances ≤ most → OfType t shape k → ContentIsShort k.roots → AllAre InstanceNotable k.instances → NotesListed t shape (graph_noted t shape k) k
listed_canon t rules shape named k few typed roots instances =
    let Refer : Refers = RefersIn t k.instances in
    let sizes = sizes_in t k.instances few in
    let fine = both_are (IsInstance t Refer) InstanceNotable k.instances (by_place (IsInstance t Refer) k.instances typed.instances) instances in
    let ds = list_noted (instance_noted t) k.instances in
    let inside = content_noted t shape k.roots in
    let names = are_apart [] (names_of (shape.required ++ shape.optional)) named.names in
    let found = put (codes "roots") inside (put (codes "instances") ds no_members) in (
      found,
      (refl, refl),
      ds,
      refl,
      list_canon (IsFineInstance t rules Refer sizes) (NotesInstance t) (instance_noted t) (instance_canon t rules Refer sizes) k.instances fine,
      inside,
      refl,
      content_canon t rules Refer sizes shape names (tags_apart [] shape.optional named.tags.1) k.roots typed.roots roots.0 roots.1,
    )

-- the instances that are listed, each under its other names
notable_form : (g : Graph) (ns : List ℕ) → ((n : ℕ) → place ns n < length ns → InstanceNotable (slices_of g.instances n)) → (ms : List ℕ) → AreListed ns ms
    → AllAre InstanceNotable (map (λ n. map (renamed_slice (place ns)) (slices_of g.instances n)) ms)
notable_form g ns notable [] listed = tt
notable_form g ns notable (m ∷ ms) listed = (instance_renamed (place ns) (slices_of g.instances m) (notable m listed.0), notable_form g ns notable ms listed.1)

pub form_of_type : (t : Tables) → IsSchema t → (shape : Shape) (g : Graph) → Reached g → OfType t shape g → OfType t shape (form g)
unfolding form
form_of_type t rules shape g reached typed = (form-typed t GREATEST shape all_slices sliced g reached typed (λ n lt. (tt, utf8_texts t rules (slices_of g.instances n)))).typed

pub form_listed : (t : Tables) → IsSchema t → (shape : Shape) → HasOwnNames shape → (g : Graph) → Reached g → OfType t shape (form g) → IsNotable g → NotesListed t shape (canonical_noted t shape g) (form g)
unfolding form
form_listed t rules shape named g reached typed notable =
    let ns : List ℕ = order g in
    let few : length (form g).instances ≤ most = omega (arith, length-map ns (λ n. map (renamed_slice (place ns)) (slices_of g.instances n)), reached.few) in
    listed_canon t rules shape named (form g) few typed (members_renamed (place ns) g.roots notable.roots) (notable_form g ns notable.instances ns (listed-within ns ns (λ n lt. lt)))

pub graph_canon : (t : Tables) (shape : Shape) (g : Graph) → IsSchema t → HasOwnNames shape → OfType t shape g → IsNotable g → length g.instances ≤ most → NotesGraph t shape (canonical_noted t shape g) g
graph_canon t shape g rules named typed notable few =
    let reached = reached-small t shape g typed few in
    let form_typed = form_of_type t rules shape g reached typed in
    (form g, form_listed t rules shape named g reached form_typed notable, form_typed, form-same-graph g reached)
