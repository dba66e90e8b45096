-- How deep the notation of a graph nests: at most six levels around values, which nest at most as deep as their types.
use Rattle.std.proofs.Common.{◌≡◌, ◌≤◌, ℕ, zero, suc, max, true, false, List, [], ◌∷◌, Option, None, Some, Ordering, Less, Equal, Greater, refl, arith}
use Rattle.std.specs.Prelude.{slice_get, nat_eq, ◌&&◌}
use Rattle.std.specs.List.{AllByRecursion}
use Rattle.std.specs.Option.{is_none, is_some}
use Rattle.std.specs.Ordering.{nat_cmp, match_ordering}
use Rattle.std.specs.Cmp.Lexicographic.{slice_cmp}
use Rattle.std.proofs.lemmas.Option.{none-some}
use Rattle.std.proofs.lemmas.List.Elements.{All-nil, All-filter, recursion_from_All}
use Rattle.serde_json.specs.Data as json
use Rattle.serde_json.specs.Data.{Data, string, array, no_members, member, put, depth, members_depth}
use Rattle.ice_types.specs.declared.kind.TypeRef.{TypeRef}
use Rattle.ice_types.specs.declared.kind.TypeRef.TheVariants as kinds
use Rattle.ice_types.specs.declared.declarations.ClassDecl.{ClassDecl}
use Rattle.ice_types.specs.declared.declarations.Member.{Member}
use Rattle.ice_types.specs.declared.declarations.Shape.{Shape}
use Rattle.ice_types.specs.declared.measure.Measure.{Measure}
use Rattle.ice_types.specs.declared.schema.TheConstants.{MOST_DEPTH}
use Rattle.ice_types.specs.Fits.{IsOf, AreOf}
use Rattle.ice_types.specs.Measures.{measure, measured, measure_members, with_member, sequence_of, dictionary_of, struct_of, structure, container}
use Rattle.ice_types.specs.Rules.{IsSchema}
use Rattle.ice_types.specs.Tables.{Tables}
use Rattle.ice_types.proofs.Levels.{found_by}
use Rattle.ice_encoding.specs.Tree as tree
use Rattle.ice_encoding.specs.Tree.{Tree, Trees, none, Entries, no_entry, entry}
use Rattle.ice_encoding.specs.Optionals.{Present}
use Rattle.ice_encoding.specs.OptionalMembers.{Members}
use Rattle.ice_encoding.specs.Classes.{members_in, own_members}
use Rattle.ice_encoding.specs.Graph.{Slice, known, unknown, Graph}
use Rattle.ice_encoding.specs.SameGraph.{form}
use Rattle.graph_json.specs.ValueNotation.{name_noted}
use Rattle.graph_json.specs.CanonicalValues.{Write, name_numbered, each_noted, pairs_noted, members_noted, noted, notation_step, notation_levels, notation}
use Rattle.graph_json.specs.Contents.{member_tagged, put_member, options_noted, content_noted}
use Rattle.graph_json.specs.Canonical.{list_noted, slice_noted, instance_noted, graph_noted, canonical_noted}
use Rattle.graph_json.specs.Texts.{AreNotable}

-- ---- parts of a value

flat_deep : (n : ℕ) → 0 ≤ n
flat_deep n = omega arith

-- what holds of all three holds of the one that is taken
whichever : (P : json.Members → Type 0) (o : Ordering) (a b c : json.Members) → P a → P b → P c
    → P (match_ordering o a b c)
whichever P Less a b c p q r = p
whichever P Equal a b c p q r = q
whichever P Greater a b c p q r = r

put_deep : (n : ℕ) (name : List ℕ) (d : Data) (ms : json.Members) → depth d ≤ n → members_depth ms ≤ n → members_depth (put name d ms) ≤ n
put_deep n name d no_members one all = omega arith
put_deep n name d (member other e ms) one all =
    let later = put_deep n name d ms one (omega arith) in
    whichever (λ found. members_depth found ≤ n) (slice_cmp nat_cmp name other) (member name d (member other e ms)) (member other d ms)
    (member other e (put name d ms)) (omega arith) (omega arith) (omega arith)

each_deep : (n : ℕ) (write : Write) → ((v : Tree) → depth (write v) ≤ n) → (vs : Trees) → depth (array (each_noted write vs)) ≤ suc n
each_deep n write one none = omega arith
each_deep n write one (tree.tree v vs) = omega (arith, one v, each_deep n write one vs)

-- a dictionary is two levels, of its type as of JSON
pairs_deep : (n : ℕ) (key held : Write) → ((v : Tree) → depth (key v) ≤ n) → ((v : Tree) → depth (held v) ≤ n) → (ps : Entries)
    → depth (array (pairs_noted key held ps)) ≤ suc (suc n)
pairs_deep n key held one two no_entry = omega arith
pairs_deep n key held one two (entry k v rest) = omega (arith, one k, two v, pairs_deep n key held one two rest)

-- where nothing is, null stands
noted_deep : {A : Type 0} (n : ℕ) (o : Option A) (make : A → Data) → ((x : A) → depth (make x) ≤ n) → depth (noted o make) ≤ n
noted_deep n None make one = omega arith
noted_deep n (Some x) make one = one x

-- where the whole has a measure, something is there
there_deep : {A : Type 0} (n : ℕ) (o : Option A) (next : A → Option Measure) (m : Measure) (make : A → Data) → measured o next ≡ Some m
    → ((x : A) → next x ≡ Some m → depth (make x) ≤ n) → depth (noted o make) ≤ n
there_deep n None next m make e goes = absurd (none-some m e)
there_deep n (Some x) next m make e goes = goes x e

-- ---- values of types that have a measure

module _ (t : Tables) where
  abbrev IsMeasured : ℕ → TypeRef → Type 0
  IsMeasured levels kind = (m : Measure) × (measure t levels kind ≡ Some m)

  abbrev AreMeasured : ℕ → List Member → Type 0
  AreMeasured levels ms = AllByRecursion (λ m. IsMeasured levels m.kind) ms

  are_measured : (levels : ℕ) (ms : List Member) (all : Measure) → measure_members (measure t levels) ms ≡ Some all → AreMeasured levels ms
  are_measured levels [] all e = tt
  are_measured levels (m ∷ ms) all e =
      found_by (measure t levels m.kind) (λ a. measured (measure_members (measure t levels) ms) (λ b. Some (with_member a b))) all e (λ a is rest.
      found_by (measure_members (measure t levels) ms) (λ b. Some (with_member a b)) all rest (λ b are same.
      ((a, is), are_measured levels ms b are)))

  -- what is written nests at most as deep as the type
  abbrev IsWithin : (TypeRef → Write) → Type 0
  IsWithin write = (levels : ℕ) (kind : TypeRef) → IsMeasured levels kind → (v : Tree) → depth (write kind v) ≤ levels

  module _ (write : TypeRef → Write) (within : IsWithin write) where
    members_deep : (n : ℕ) (found : json.Members) (ms : List Member) (vs : Trees) → AreMeasured n ms → members_depth found ≤ n
        → members_depth (members_noted write found ms vs) ≤ n
    members_deep n found [] vs are all = all
    members_deep n found (m ∷ ms) none are all = all
    members_deep n found (m ∷ ms) (tree.tree v vs) are all =
        let more = put_deep n m.name (write m.kind v) found (within n m.kind are.0 v) all in
        members_deep n (put m.name (write m.kind v) found) ms vs are.1 more

    step_deep : IsWithin (notation_step t write)
    unfolding measure
    step_deep zero kind (m, e) v = absurd (none-some m e)
    step_deep (suc n) kinds.Bool is (tree.boolean b) = flat_deep (suc n)
    step_deep (suc n) kinds.Byte is (tree.byte k) = flat_deep (suc n)
    step_deep (suc n) kinds.Short is (tree.short z) = flat_deep (suc n)
    step_deep (suc n) kinds.Int is (tree.int z) = flat_deep (suc n)
    step_deep (suc n) kinds.Long is (tree.long z) = flat_deep (suc n)
    step_deep (suc n) kinds.Text is (tree.text s) = flat_deep (suc n)
    step_deep (suc n) (kinds.Seq at) (m, e) (tree.sequence vs) =
        there_deep (suc n) (slice_get t.seqs at) (λ q. sequence_of (measure t n q.element)) m _ e (λ q rest.
        found_by (measure t n q.element) (λ x. Some (container (suc x.depth) x.is_built)) m rest (λ x is same.
        each_deep n (write q.element) (within n q.element (x, is)) vs))
    step_deep (suc zero) (kinds.Dict at) (m, e) (tree.dictionary ps) = absurd (none-some m e)
    step_deep (suc (suc n)) (kinds.Dict at) (m, e) (tree.dictionary ps) =
        let both = λ (k v : Measure). Some (container (suc (suc (max k.depth v.depth))) (k.is_built && v.is_built)) in
        there_deep (suc (suc n)) (slice_get t.dicts at) (λ d. dictionary_of (measure t n d.key) (measure t n d.value)) m _ e (λ d rest.
        found_by (measure t n d.key) (λ k. measured (measure t n d.value) (both k)) m rest (λ k key more.
        found_by (measure t n d.value) (both k) m more (λ v value same.
        pairs_deep n (write d.key) (write d.value) (within n d.key (k, key)) (within n d.value (v, value)) ps)))
    step_deep (suc n) (kinds.Struct at) (m, e) (tree.struct vs) =
        there_deep (suc n) (slice_get t.structs at) (λ d. struct_of (measure_members (measure t n) d.members)) m _ e (λ d rest.
        found_by (measure_members (measure t n) d.members) (λ x. Some (structure x)) m rest (λ x are same.
        (let inside = members_deep n no_members d.members vs (are_measured n d.members x are) (flat_deep n) in omega (arith, inside))))
    step_deep (suc n) (kinds.Enum at) is (tree.enumerator k) =
        noted_deep (suc n) (slice_get t.enums at) _ (λ e. noted_deep (suc n) (name_numbered k e.entries) string (λ name. flat_deep (suc n)))
    step_deep (suc n) (kinds.Proxy at) is (tree.proxy None) = flat_deep (suc n)
    step_deep (suc n) (kinds.Proxy at) is (tree.proxy (Some p)) = flat_deep (suc n)
    step_deep (suc n) (kinds.Class declared) is (tree.reference None) = flat_deep (suc n)
    step_deep (suc n) (kinds.Class declared) is (tree.reference (Some k)) = omega arith
    step_deep (suc n) kind is v = flat_deep (suc n)

  value_deep : (levels : ℕ) → IsWithin (notation_levels t levels)
  value_deep zero n kind is v = flat_deep n
  value_deep (suc levels) n kind is v = step_deep (notation_levels t levels) (value_deep levels) n kind is v

  notation_deep : IsWithin (notation t)
  unfolding notation
  notation_deep n kind is v = value_deep MOST_DEPTH n kind is v

  -- ---- members of a class, an exception or an operation

  -- the member with a tag is one of the members, if any is
  tagged_deep : (tag : ℕ) (v : Tree) (found : json.Members) (ms : List Member) → AreMeasured MOST_DEPTH ms → members_depth found ≤ MOST_DEPTH
      → members_depth (put_member (notation t) (member_tagged tag ms) v found) ≤ MOST_DEPTH
  tagged_deep tag v found [] are all = all
  tagged_deep tag v found (m ∷ ms) are all =
      let Fits : Option Member → Type 0 = λ x. members_depth (put_member (notation t) x v found) ≤ MOST_DEPTH in
      let rest = member_tagged tag ms in
      let here : Fits (Some m) = put_deep MOST_DEPTH m.name (notation t m.kind v) found (notation_deep MOST_DEPTH m.kind are.0 v) all in
      let later : Fits rest = tagged_deep tag v found ms are.1 all in
      elim m.tag as (λ o. Fits (elim o [ None ↦ rest | Some other ↦ elim (nat_eq tag other) [ true ↦ Some m | false ↦ rest ] ])) [
        | None ↦ later
        | Some other ↦ elim (nat_eq tag other) as (λ b. Fits (elim b [ true ↦ Some m | false ↦ rest ])) [ true ↦ here | false ↦ later ]
      ]

  options_deep : (found : json.Members) (ms : List Member) (os : Present) → AreMeasured MOST_DEPTH ms → members_depth found ≤ MOST_DEPTH
      → members_depth (options_noted (notation t) found ms os) ≤ MOST_DEPTH
  options_deep found ms [] are all = all
  options_deep found ms (o ∷ os) are all =
      options_deep (put_member (notation t) (member_tagged o.0 ms) o.1 found) ms os are (tagged_deep o.0 o.1 found ms are all)

  content_deep : (shape : Shape) → AreNotable t shape → (c : Members) → depth (content_noted t shape c) ≤ 101
  content_deep shape are c =
      let each = recursion_from_All (λ (m : Member). IsOf t m.kind) in
      let first = members_deep (notation t) notation_deep MOST_DEPTH no_members shape.required c.required (each _ are.0) (flat_deep MOST_DEPTH) in
      omega (arith, options_deep _ shape.optional c.optional (each _ are.1) first)

-- ---- graphs

module _ (t : Tables) (rules : IsSchema t) where
  class_notable : (class : ℕ) (o : Option ClassDecl) → slice_get t.classes class ≡ o → AreOf t (members_in o)
  class_notable class None is = All-nil (λ m. IsOf t m.kind)
  class_notable class (Some d) is = (rules.classes class d is).1.0

  own_notable : (class : ℕ) → AreNotable t (own_members t class)
  own_notable class =
      let all = class_notable class (slice_get t.classes class) refl in
      (All-filter (λ m. is_none m.tag) (λ m. IsOf t m.kind) _ all, All-filter (λ m. is_some m.tag) (λ m. IsOf t m.kind) _ all)

  list_deep : {A : Type 0} (n : ℕ) (write : A → Data) → ((x : A) → depth (write x) ≤ n) → (xs : List A) → depth (list_noted write xs) ≤ suc n
  list_deep n write one [] = omega arith
  list_deep n write one (x ∷ xs) = omega (arith, one x, list_deep n write one xs)

  slice_deep : (s : Slice) → depth (slice_noted t s) ≤ 102
  slice_deep (known class content) = omega (arith, content_deep t (own_members t class) (own_notable class) content)
  slice_deep (unknown id bytes optionals table) = omega (arith, list_deep 1 name_noted (λ n. omega arith) table)

  instance_deep : (slices : List Slice) → depth (instance_noted t slices) ≤ 104
  instance_deep slices = omega (arith, list_deep 102 (slice_noted t) slice_deep slices)

  -- whatever the order of the instances
  listed_deep : (shape : Shape) → AreNotable t shape → (g : Graph) → depth (graph_noted t shape g) ≤ 106
  listed_deep shape are g =
      omega (arith, content_deep t shape are g.roots, list_deep 104 (instance_noted t) instance_deep g.instances)

-- so within the 127 levels that a text of JSON may nest
pub graph_deep : (t : Tables) (shape : Shape) (g : Graph) → IsSchema t → AreOf t shape.required → AreOf t shape.optional
    → depth (canonical_noted t shape g) ≤ 127
graph_deep t shape g rules required optional = omega (arith, listed_deep t rules shape (required, optional) (form g))
