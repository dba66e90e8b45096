-- JSON is read as the graph that it lists, and as no other.
use Rattle.std.proofs.Common.{◌≡◌, ℕ, ◌==◌, ◌⊎◌, Bool, true, false, cond, List, [], ◌∷◌, Option, Some, Result, Ok, Err, refl, sym, ap, ◌∙◌, subst, inl, inr}
use Rattle.std.specs.Prelude.{codes, option_map, option_and_then}
use Rattle.std.proofs.lemmas.Bool.{eqb-true, eq-eqb}
use Rattle.std.proofs.lemmas.Option.{none-some, same_Some}
use Rattle.hex.specs.Hex.{decode_of}
use Rattle.serde_json.specs.Data as json
use Rattle.serde_json.specs.Data.{Data, boolean, string, Items, no_items, item}
use Rattle.serde_json.specs.Find.{as_bool, as_str, as_array, as_object, get_member}
use Rattle.serde_json.specs.Events.{members_len}
use Rattle.ice_types.specs.declared.declarations.Shape.{Shape}
use Rattle.ice_types.specs.Tables.{Tables}
use Rattle.ice_types.specs.Rules.{IsSchema}
use Rattle.ice_encoding.specs.Classes.{class_named, own_members}
use Rattle.ice_encoding.specs.Graph.{Slice, known, unknown, Graph}
use Rattle.graph_json.specs.ValueNotation.{Noting, NotesName}
use Rattle.graph_json.specs.ReadingValues.{Read, name_of, whole}
use Rattle.graph_json.specs.Contents.{NotesContent, noted_content}
use Rattle.graph_json.proofs.Shapes.{then_some, map_some, true_then, str_is, bool_is, array_is, object_is}
use Rattle.graph_json.proofs.NotedValues.{Found, Only, name_found, name_only}
use Rattle.graph_json.specs.Notation.{HasNames, Has, NotesEach, NotesList, NotesBytes, NotesSlice, NotesInstance, NotesListed}
use Rattle.graph_json.specs.Reading.{of_object, at_name, items_of, list_of, decoded, bytes_of, class_of, known_in, unknown_in, slice_in, slice_of, instance_of, with_roots, graph_in, listed_graph}
use Rattle.graph_json.proofs.ContentNoted.{content_found, content_only}

-- ---- objects and arrays

whole_found : {A : Type 0} (count : ℕ) (read : json.Members → Option A) (d : Data) (found : json.Members) (x : A) → as_object d ≡ Some found → whole count read found ≡ Some x → HasNames count d found × (read found ≡ Some x)
whole_found count read d found x is e =
    let size = true_then (members_len found == count) (read found) x e in
    ((object_is d found is, eqb-true (members_len found) count size.0), size.1)

object_found : {A : Type 0} (count : ℕ) (read : json.Members → Option A) (d : Data) (x : A) → of_object count read d ≡ Some x → (found : json.Members) × HasNames count d found × (read found ≡ Some x)
object_found count read d x e =
    let o = then_some (as_object d) (whole count read) x e in
    let w = whole_found count read d o.0 x o.1 o.2 in
    (o.0, w.0, w.1)

object_only : {A : Type 0} (count : ℕ) (read : json.Members → Option A) (d : Data) (found : json.Members) (x : A) → HasNames count d found → read found ≡ Some x → of_object count read d ≡ Some x
object_only count read d found x has e = rw (has.0, eq-eqb (members_len found) count has.1) e

at_found : {A : Type 0} (name : List ℕ) (read : Read A) (One : Noting A) → Found read One → (found : json.Members) (x : A) → at_name name read found ≡ Some x → (d : Data) × Has found name d × One d x
at_found name read One one found x e = let d = then_some (get_member name found) read x e in (d.0, d.1, one d.0 x d.2)

at_only : {A : Type 0} (name : List ℕ) (read : Read A) (One : Noting A) → Only read One → (found : json.Members) (d : Data) (x : A) → Has found name d → One d x → at_name name read found ≡ Some x
at_only name read One one found d x has h = rw has (one d x h)

-- what stands at a name, where what is read is all of it
read_at : {A : Type 0} (name : List ℕ) (read : Read A) (make : A → Data) → ((d : Data) (x : A) → read d ≡ Some x → d ≡ make x) → (found : json.Members) (x : A) → at_name name read found ≡ Some x → Has found name (make x)
read_at name read make is found x e = let d = then_some (get_member name found) read x e in d.1 ∙ ap some (is d.0 x d.2)
  where
    some : Data → Option Data
    some y = Some y

items_found : {A : Type 0} (read : Read A) (One : Noting A) → Found read One → (ds : Items) (xs : List A) → items_of read ds ≡ Some xs → NotesEach One ds xs
items_found read One one no_items xs e = sym (same_Some [] xs e)
items_found read One one (item d ds) xs e =
    let x = then_some (read d) (λ x. option_map (λ xs. x ∷ xs) (items_of read ds)) xs e in
    let rest = map_some (items_of read ds) (λ xs. x.0 ∷ xs) xs x.2 in
    (x.0, rest.0, sym rest.2, one d x.0 x.1, items_found read One one ds rest.0 rest.1)

items_only : {A : Type 0} (read : Read A) (One : Noting A) → Only read One → (ds : Items) (xs : List A) → NotesEach One ds xs → items_of read ds ≡ Some xs
items_only read One one no_items xs h = rw h refl
items_only read One one (item d ds) xs h = rw (h.2, one d h.0 h.3, items_only read One one ds h.1 h.4) refl

list_found : {A : Type 0} (read : Read A) (One : Noting A) → Found read One → Found (list_of read) (NotesList One)
list_found read One one d xs e = let ds = then_some (as_array d) (items_of read) xs e in (ds.0, array_is d ds.0 ds.1, items_found read One one ds.0 xs ds.2)

list_only : {A : Type 0} (read : Read A) (One : Noting A) → Only read One → Only (list_of read) (NotesList One)
list_only read One one d xs h = rw h.1 (items_only read One one h.0 xs h.2)

-- ---- bytes

decoded_is : {E : Type 0} (r : Result (List ℕ) E) (bytes : List ℕ) → decoded r ≡ Some bytes → r ≡ Ok bytes
decoded_is {E} (Ok x) bytes e = ap (λ (y : List ℕ). ok y) (same_Some x bytes e)
  where
    ok : List ℕ → Result (List ℕ) E
    ok y = Ok y
decoded_is (Err x) bytes e = absurd (none-some bytes e)

bytes_found : Found bytes_of NotesBytes
bytes_found d bytes e = let s = then_some (as_str d) (λ text. decoded (decode_of text)) bytes e in (s.0, str_is d s.0 s.1, decoded_is (decode_of s.0) bytes s.2)

bytes_only : Only bytes_of NotesBytes
bytes_only d bytes h = rw (h.1, h.2) refl

-- ---- graphs

either : {A : Type 0} (b : Bool) (o p : Option A) (x : A) → cond b o p ≡ Some x → ((b ≡ true) × (o ≡ Some x)) ⊎ (p ≡ Some x)
either true o p x e = inl (refl, e)
either false o p x e = inr e

module _ (t : Tables) where
  known_found : (d : Data) (found : json.Members) (s : Slice) → HasNames 2 d found → known_in t found ≡ Some s → NotesSlice t d s
  known_found d found s has e =
      let class = then_some (at_name (codes "class") (class_of t) found) (λ class. option_map (known class) (at_name (codes "members") (noted_content t (own_members t class)) found)) s e in
      let at = then_some (get_member (codes "class") found) (class_of t) class.0 class.1 in
      let id = then_some (as_str at.0) (class_named t) class.0 at.2 in
      let content = map_some (at_name (codes "members") (noted_content t (own_members t class.0)) found) (known class.0) s class.2 in
      let inside = at_found (codes "members") (noted_content t (own_members t class.0)) (NotesContent t (own_members t class.0)) (content_found t (own_members t class.0)) found content.0 content.1 in
      let there : Has found (codes "class") (string id.0) = at.1 ∙ ap (λ (x : Data). some x) (str_is at.0 id.0 id.1) in
      subst (NotesSlice t d) content.2 (found, has, id.0, there, id.2, inside.0, inside.1, inside.2)
    where
      some : Data → Option Data
      some x = Some x

  unknown_found : (d : Data) (found : json.Members) (s : Slice) → HasNames 4 d found → unknown_in found ≡ Some s → NotesSlice t d s
  unknown_found d found s has e =
      let bytes = then_some (at_name (codes "bytes") bytes_of found) (λ bytes. option_and_then (λ id. option_and_then (λ optionals. option_map (unknown id bytes optionals)
      (at_name (codes "table") (list_of name_of) found)) (at_name (codes "optionals") as_bool found)) (at_name (codes "kept") as_str found)) s e in
      let id = then_some (at_name (codes "kept") as_str found) (λ id. option_and_then (λ optionals. option_map (unknown id bytes.0 optionals)
      (at_name (codes "table") (list_of name_of) found)) (at_name (codes "optionals") as_bool found)) s bytes.2 in
      let optionals = then_some (at_name (codes "optionals") as_bool found) (λ optionals. option_map (unknown id.0 bytes.0 optionals) (at_name (codes "table") (list_of name_of) found)) s id.2 in
      let table = map_some (at_name (codes "table") (list_of name_of) found) (unknown id.0 bytes.0 optionals.0) s optionals.2 in
      let digits = at_found (codes "bytes") bytes_of NotesBytes bytes_found found bytes.0 bytes.1 in
      let names = at_found (codes "table") (list_of name_of) (NotesList NotesName) (list_found name_of NotesName name_found) found table.0 table.1 in
      let text = read_at (codes "kept") as_str string str_is found id.0 id.1 in
      let flag = read_at (codes "optionals") as_bool boolean bool_is found optionals.0 optionals.1 in
      let all : NotesSlice t d (unknown id.0 bytes.0 optionals.0 table.0) = (found, has, text, flag, digits.0, digits.1, digits.2, names.0, names.1, names.2) in
      subst (NotesSlice t d) {x = unknown id.0 bytes.0 optionals.0 table.0} table.2 all

  slice_found : Found (slice_of t) (NotesSlice t)
  slice_found d s e =
      let o = then_some (as_object d) (slice_in t) s e in
      elim (either (members_len o.0 == 2) (known_in t o.0) (whole 4 unknown_in o.0) s o.2) [
        | inl h ↦ known_found d o.0 s (object_is d o.0 o.1, eqb-true (members_len o.0) 2 h.0) h.1
        | inr h ↦ (let w = whole_found 4 unknown_in d o.0 s o.1 h in unknown_found d o.0 s w.0 w.1)
      ]

  instance_found : Found (instance_of t) (NotesInstance t)
  instance_found d slices e =
      let o = object_found 1 (at_name (codes "slices") (list_of (slice_of t))) d slices e in
      let ds = at_found (codes "slices") (list_of (slice_of t)) (NotesList (NotesSlice t)) (list_found (slice_of t) (NotesSlice t) slice_found) o.0 slices o.2 in
      (o.0, o.1, ds.0, ds.1, ds.2)

  pub graph_found : (shape : Shape) (d : Data) (g : Graph) → listed_graph t shape d ≡ Some g → NotesListed t shape d g
  graph_found shape d g e =
      let o = object_found 2 (graph_in t shape) d g e in
      let is = then_some (at_name (codes "instances") (list_of (instance_of t)) o.0) (λ instances. option_map (with_roots instances) (at_name (codes "roots") (noted_content t shape) o.0)) g o.2 in
      let roots = map_some (at_name (codes "roots") (noted_content t shape) o.0) (with_roots is.0) g is.2 in
      let first = at_found (codes "instances") (list_of (instance_of t)) (NotesList (NotesInstance t)) (list_found (instance_of t) (NotesInstance t) instance_found) o.0 is.0 is.1 in
      let inside = at_found (codes "roots") (noted_content t shape) (NotesContent t shape) (content_found t shape) o.0 roots.0 roots.1 in
      subst (NotesListed t shape d) roots.2 (o.0, o.1, first.0, first.1, first.2, inside.0, inside.1, inside.2)

  module _ (rules : IsSchema t) where
    slice_only : Only (slice_of t) (NotesSlice t)
    slice_only d (known class content) h =
        let inside = at_only (codes "members") (noted_content t (own_members t class)) (NotesContent t (own_members t class)) (content_only t (own_members t class) rules) h.0 h.5 content h.6 h.7 in
        rw (h.1.0, h.1.1, h.3, h.4, inside) refl
    slice_only d (unknown id bytes optionals table) h =
        let first = at_only (codes "bytes") bytes_of NotesBytes bytes_only h.0 h.4 bytes h.5 h.6 in
        let last = at_only (codes "table") (list_of name_of) (NotesList NotesName) (list_only name_of NotesName name_only) h.0 h.7 table h.8 h.9 in
        rw (h.1.0, h.1.1, first, h.2, h.3, last) refl

    instance_only : Only (instance_of t) (NotesInstance t)
    instance_only d slices h =
        object_only 1 (at_name (codes "slices") (list_of (slice_of t))) d h.0 slices h.1
        (at_only (codes "slices") (list_of (slice_of t)) (NotesList (NotesSlice t)) (list_only (slice_of t) (NotesSlice t) slice_only) h.0 h.2 slices h.3 h.4)

    pub graph_only : (shape : Shape) (d : Data) (g : Graph) → NotesListed t shape d g → listed_graph t shape d ≡ Some g
    graph_only shape d g h =
        let first = at_only (codes "instances") (list_of (instance_of t)) (NotesList (NotesInstance t)) (list_only (instance_of t) (NotesInstance t) instance_only) h.0 h.2 g.instances h.3 h.4 in
        let inside = at_only (codes "roots") (noted_content t shape) (NotesContent t shape) (content_only t shape rules) h.0 h.5 g.roots h.6 h.7 in
        object_only 2 (graph_in t shape) d h.0 g h.1 (rw (first, inside) refl)
