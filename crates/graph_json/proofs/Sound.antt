-- What JSON lists is a graph where its names are those of instances.
use Rattle.std.proofs.Common.{◌≡◌, ◌↔◌, ℕ, zero, suc, ◌+◌, ◌<◌, ◌≤◌, Bool, IsTrue, true, false, List, [], ◌∷◌, length, get_or, take, map, Option, Some, None, refl, sym, ap, ◌∙◌, subst, inl, inr, arith}
use Rattle.std.proofs.lemmas.Bool.{cases_lt, lt-ltb, ltb-true}
use Rattle.std.proofs.lemmas.Option.{same_Some}
use Rattle.serde_json.specs.Data.{Data, Items, no_items, item}
use Rattle.std.specs.Prelude.{IfSome, nat_lt}
use Rattle.std.specs.Option.{is_some}
use Rattle.serde_json.specs.Events.{items_len}
use Rattle.graph_json.specs.View.{items_view}
use Rattle.graph_json.specs.declared.tree.Json.{Json}
use Rattle.graph_json.proofs.Views.{items_len-items_view}
use Rattle.ice_types.specs.declared.kind.TypeRef.{TypeRef}
use Rattle.ice_types.specs.declared.declarations.Member.{Member}
use Rattle.ice_types.specs.declared.declarations.Shape.{Shape}
use Rattle.ice_types.specs.declared.schema.TheConstants.{MOST_DEPTH}
use Rattle.ice_types.specs.Tables.{Tables}
use Rattle.ice_types.specs.Rules.{IsSchema}
use Rattle.ice_encoding.specs.Tree.{Trees, InEach}
use Rattle.ice_encoding.specs.Order.{KeysRise}
use Rattle.ice_encoding.specs.Typed.{by_size, HasType, EachOf}
use Rattle.ice_encoding.proofs.Typed.{typed_ordered}
use Rattle.ice_encoding.specs.OptionalMembers.{Members, required_kinds}
use Rattle.ice_encoding.specs.Optionals.{Present}
use Rattle.ice_encoding.specs.Classes.{own_members}
use Rattle.ice_encoding.specs.Graph.{Slice, known, unknown, Graph}
use Rattle.ice_encoding.specs.Instances.{slices_of, most_instances}
use Rattle.ice_encoding.specs.Names.{instance_names, names_of}
use Rattle.ice_encoding.specs.TypedGraph.{AreMembers, AreOptions, OfType}
use Rattle.ice_encoding.specs.Visiting.{most}
use Rattle.graph_laws.proofs.Ranged as ranged
use Rattle.graph_arena.specs.declared.instance.Instance.{Instance}
use Rattle.graph_arena.specs.declared.instance.Members as arena
use Rattle.graph_arena.specs.Seen.{view_content, view_instance}
use Rattle.graph_arena.specs.Arena.{AreBelow, AreOrdered, EachFits, HasOrder, HaveOrder, IsSound}
use Rattle.graph_json.specs.Contents.{HasOwnNames}
use Rattle.graph_json.specs.ValueNotation.{Noting}
use Rattle.graph_json.specs.Notation.{NotesEach, NotesInstance, NotesListed}
use Rattle.graph_json.specs.Reading.{listed_graph}
use Rattle.graph_json.specs.Typed.{InstanceHasValues, HaveValues}
use Rattle.graph_json.specs.declared.listing.Listed.{Listed}
use Rattle.graph_json.specs.Listed.{AllHaveOrder, AreNamed, CanBeNamed, view_listed}
use Rattle.graph_json.specs.Texts.{ListsTooMany, listed_in}
use Rattle.graph_json.proofs.Listed.{graph_found}
use Rattle.graph_json.proofs.Values.{listed_values}

-- ---- dictionaries stand in order in what is of its types

module _ (t : Tables) where
  each_ordered : (ks : List TypeRef) (vs : Trees) → EachOf (HasType t by_size MOST_DEPTH) ks vs → InEach KeysRise vs
  each_ordered [] vs h = subst (InEach KeysRise) (sym h) tt
  each_ordered (kind ∷ ks) vs (v, others, is, h, more) = subst (InEach KeysRise) (sym is) (typed_ordered t by_size MOST_DEPTH kind v h, each_ordered ks others more)

  options_ordered : (ms : List Member) (last : Option ℕ) (os : Present) → AreOptions t by_size ms last os → AreOrdered os
  options_ordered ms last [] h = tt
  options_ordered ms last (o ∷ os) h = (typed_ordered t by_size MOST_DEPTH h.2 o.1 h.4, options_ordered ms (Some o.0) os h.5)

  members_ordered : (shape : Shape) (c : Members) → AreMembers t by_size shape c → HasOrder c
  members_ordered shape c h = (each_ordered (required_kinds shape) c.required h.required, options_ordered shape.optional None c.optional h.optional)

  slices_ordered : (ss : List Slice) → InstanceHasValues t ss → HaveOrder ss
  slices_ordered [] h = tt
  slices_ordered (known class content ∷ ss) h = (members_ordered (own_members t class) content h.0.2, slices_ordered ss h.1)
  slices_ordered (unknown id bytes optionals table ∷ ss) h = (tt, slices_ordered ss h.1)

  all_ordered : (is : List (List Slice)) → HaveValues t is → AllHaveOrder is
  all_ordered [] h = tt
  all_ordered (i ∷ is) h = (slices_ordered i h.0, all_ordered is h.1)

-- ---- how many are listed

pub noted_len : {A : Type 0} (One : Noting A) (ds : Items) (xs : List A) → NotesEach One ds xs → length xs ≡ items_len ds
noted_len One no_items xs h = ap length h
noted_len One (item d ds) xs h = ap length h.2 ∙ ap suc (noted_len One ds h.1 h.4)

listed_few : (t : Tables) (shape : Shape) (d : Data) (g : Graph) → NotesListed t shape d g → (ListsTooMany d → ⊥) → length g.instances ≤ most_instances
listed_few t shape d g h few =
    let is : listed_in d ≡ Some h.4.0 = rw (h.1.0, h.3, h.4.1) refl in
    let many = noted_len (NotesInstance t) h.4.0 g.instances h.4.2 in
    elim (cases_lt most_instances (items_len h.4.0)) [ inl lt ↦ absurd (few (h.4.0, is, lt)) | inr le ↦ omega (arith, le, many) ]

pub few_enough : (n : ℕ) → n ≤ most_instances → n ≤ most
unfolding most_instances most
few_enough n le = omega (arith, le)

pub listed_within : (t : Tables) (shape : Shape) (d : Data) (g : Graph) → listed_graph t shape d ≡ Some g → (ListsTooMany d → ⊥) → length g.instances ≤ most
listed_within t shape d g is few = few_enough (length g.instances) (listed_few t shape d g (graph_found t shape d g is) few)

pub can_be_named : (t : Tables) (shape : Shape) (d : Data) (g : Graph) → IsSchema t → HasOwnNames shape → listed_graph t shape d ≡ Some g → (ListsTooMany d → ⊥) → CanBeNamed g
can_be_named t shape d g rules own is few =
    let notes = graph_found t shape d g is in
    let values = listed_values t shape d g rules own notes in
    record {
      few = listed_within t shape d g is few;
      roots = members_ordered t shape g.roots values.0;
      instances = all_ordered t g.instances values.1;
    }

-- ---- named

each_fits : (count : ℕ) (is : List (List Slice)) → AreNamed count is → AllHaveOrder is → EachFits count is
each_fits count [] named order = tt
each_fits count (i ∷ is) named order = (record { names = named.0; order = order.0 }, each_fits count is named.1 order.1)

pub named_sound : (g : Graph) → CanBeNamed g → AreBelow (length g.instances) (names_of g.roots) → AreNamed (length g.instances) g.instances → IsSound g
named_sound g can roots named = record {
  few = can.few;
  roots = record { names = roots; order = can.roots };
  instances = each_fits (length g.instances) g.instances named can.instances;
}

pub fits_named : (count : ℕ) (is : List (List Slice)) → EachFits count is → AreNamed count is
fits_named count [] h = tt
fits_named count (i ∷ is) h = (h.0.names, fits_named count is h.1)

-- so is a graph of the type
below : (limit : ℕ) (ns : List ℕ) → ranged.AreBelow limit ns → AreBelow limit ns
below limit [] h = tt
below limit (n ∷ ns) h = (h.0, below limit ns h.1)

all_named : (count : ℕ) (is : List (List Slice)) → ((n : ℕ) → n < length is → AreBelow count (instance_names (slices_of is n))) → AreNamed count is
all_named count [] one = tt
all_named count (i ∷ is) one = (one zero (omega arith), all_named count is (λ n lt. one (suc n) (omega (arith, lt))))

pub typed_sound : (t : Tables) (shape : Shape) (g : Graph) → CanBeNamed g → OfType t shape g → IsSound g
typed_sound t shape g can typed =
    let range = ranged.in_range t shape g typed in
    let count = length g.instances in
    named_sound g can (below count _ range.roots) (all_named count g.instances (λ n lt. below count _ (range.instances n lt)))

-- ---- names one after the other, as a loop looks at them

below_suc : (count : ℕ) (ns : List ℕ) (i : ℕ) → i < length ns → AreBelow count (take i ns) → get_or ns i 0 < count → AreBelow count (take (suc i) ns)
below_suc count [] i lt h is = absurd (omega (arith, lt))
below_suc count (n ∷ ns) zero lt h is = (is, tt)
below_suc count (n ∷ ns) (suc i) lt h is = (h.0, below_suc count ns i (omega (arith, lt)) h.1 is)

pub below_next : (count : ℕ) (ns : List ℕ) (i : ℕ) → i < length ns → AreBelow count (take i ns) → get_or ns i 0 < count → AreBelow count (take (i + 1) ns)
below_next count ns i lt h is = subst (λ (k : ℕ). AreBelow count (take k ns)) (one_more i) (below_suc count ns i lt h is)
  where
    one_more : (k : ℕ) → suc k ≡ k + 1
    one_more k = omega arith

pub all_below : (count : ℕ) (ns : List ℕ) (i : ℕ) → length ns ≤ i → AreBelow count (take i ns) → AreBelow count ns
all_below count [] i le h = tt
all_below count (n ∷ ns) zero le h = absurd (omega (arith, le))
all_below count (n ∷ ns) (suc i) le h = (h.0, all_below count ns i (omega (arith, le)) h.1)

pub one_not_below : (count : ℕ) (ns : List ℕ) (i : ℕ) → i < length ns → count ≤ get_or ns i 0 → AreBelow count ns → ⊥
one_not_below count [] i lt le h = omega (arith, lt)
one_not_below count (n ∷ ns) zero lt le h = omega (arith, le, h.0)
one_not_below count (n ∷ ns) (suc i) lt le h = one_not_below count ns i (omega (arith, lt)) le h.1

-- ---- how many are listed, as it is tested

pub many_listed : (js : List Json) (d : Data) (n : ℕ) → Some (items_view js) ≡ listed_in d → n ≡ length js → IsTrue (nat_lt 100000 n) ↔ ListsTooMany d
unfolding most_instances
many_listed js d n is len =
    let size : items_len (items_view js) ≡ length js = items_len-items_view js in
    (λ lt. (items_view js, sym is, omega (arith, ltb-true 100000 n lt, size, len)), λ many. above size many)
  where
    above : items_len (items_view js) ≡ length js → ListsTooMany d → nat_lt 100000 n ≡ true
    above size (ds, is', lt) =
        let same : items_view js ≡ ds = same_Some (items_view js) ds (is ∙ is') in
        lt-ltb 100000 n (omega (arith, lt, size, len, ap items_len same))

-- ---- instances one after the other

named_suc : (count : ℕ) (is : List Instance) (i : ℕ) (x : Instance) → i < length is → x ≡ get_or is i x → AreNamed count (map view_instance (take i is)) → AreBelow count (instance_names (view_instance x)) → AreNamed count (map view_instance (take (suc i) is))
named_suc count [] i x lt same h one = absurd (omega (arith, lt))
named_suc count (y ∷ is) zero x lt same h one = (subst (λ (z : Instance). AreBelow count (instance_names (view_instance z))) same one, tt)
named_suc count (y ∷ is) (suc i) x lt same h one = (h.0, named_suc count is i x (omega (arith, lt)) same h.1 one)

pub named_next : (count : ℕ) (is : List Instance) (i : ℕ) (x : Instance) → i < length is → x ≡ get_or is i x → AreNamed count (map view_instance (take i is)) → AreBelow count (instance_names (view_instance x)) → AreNamed count (map view_instance (take (i + 1) is))
named_next count is i x lt same h one = subst (λ (k : ℕ). AreNamed count (map view_instance (take k is))) (one_more i) (named_suc count is i x lt same h one)
  where
    one_more : (k : ℕ) → suc k ≡ k + 1
    one_more k = omega arith

pub one_not_named : (count : ℕ) (is : List Instance) (i : ℕ) (x : Instance) → i < length is → x ≡ get_or is i x → (AreBelow count (instance_names (view_instance x)) → ⊥) → AreNamed count (map view_instance is) → ⊥
one_not_named count [] i x lt same never h = omega (arith, lt)
one_not_named count (y ∷ is) zero x lt same never h = never (subst (λ (z : Instance). AreBelow count (instance_names (view_instance z))) (sym same) h.0)
one_not_named count (y ∷ is) (suc i) x lt same never h = one_not_named count is i x (omega (arith, lt)) same never h.1

pub named_whole : (count : ℕ) (is : List Instance) (i : ℕ) → length is ≤ i → AreNamed count (map view_instance (take i is)) → AreNamed count (map view_instance is)
named_whole count [] i le h = tt
named_whole count (y ∷ is) zero le h = absurd (omega (arith, le))
named_whole count (y ∷ is) (suc i) le h = (h.0, named_whole count is i (omega (arith, le)) h.1)

-- ---- what is listed, and whether its names are found

abbrev seen : Members → Listed → Graph
seen c l = record { roots = c; instances = map view_instance l.instances.items }

seen_length : (is : List Instance) → length (map view_instance is) ≡ length is
seen_length [] = refl
seen_length (i ∷ is) = ap suc (seen_length is)

true_is_false : {P : Type 0} → true ≡ false → P
true_is_false e = absurd cc

pub some_holds : {A : Type 0} (P : A → Type 0) (o : Option A) (x : A) → o ≡ Some x → IfSome o P → P x
some_holds P o x is h = subst (λ (p : Option _). IfSome p P) is h

module _ (l : Listed) (count : ℕ) (js : List Instance) (same : js ≡ l.instances.items) (len : count ≡ length l.instances.items) (all : Bool) (told : IsTrue all ↔ AreNamed count (map view_instance js)) where
  size : count ≡ length (map view_instance l.instances.items)
  size = len ∙ sym (seen_length l.instances.items)

  abbrev Whole : Type 0
  Whole = AreNamed (length (map view_instance l.instances.items)) (map view_instance l.instances.items)

  all_here : AreNamed count (map view_instance js) → Whole
  all_here h = subst (λ (k : ℕ). AreNamed k (map view_instance l.instances.items)) size (subst (λ (is : List Instance). AreNamed count (map view_instance is)) same h)

  all_back : Whole → AreNamed count (map view_instance js)
  all_back h = subst (λ (is : List Instance). AreNamed count (map view_instance is)) (sym same) (subst (λ (k : ℕ). AreNamed k (map view_instance l.instances.items)) (sym size) h)

  pub unsound : all ≡ false → IsSound (view_listed l) → ⊥
  unsound e sound = true_is_false (sym (told.1 (all_back (fits_named _ _ sound.instances))) ∙ e)

  module _ (o : Option arena.Members) (roots : IsTrue (is_some o) ↔ AreBelow count (names_of (view_content l.roots))) where
    pub unsound_roots : o ≡ None → IsSound (view_listed l) → ⊥
    unsound_roots e sound = true_is_false (sym (roots.1 (subst (λ (k : ℕ). AreBelow k (names_of (view_content l.roots))) (sym size) sound.roots.names)) ∙ ap is_some e)

    module _ (m : arena.Members) (e : o ≡ Some m) (is : view_content m ≡ view_content l.roots) where
      pub graph_is : seen (view_content m) l ≡ view_listed l
      graph_is = ap (λ (c : Members). seen c l) is

      pub sound_named : CanBeNamed (view_listed l) → all ≡ true → IsSound (seen (view_content m) l)
      sound_named can every =
          let below = subst (λ (k : ℕ). AreBelow k (names_of (view_content l.roots))) size (roots.0 (ap is_some e)) in
          subst IsSound (sym graph_is) (named_sound (view_listed l) can below (all_here (told.0 every)))
