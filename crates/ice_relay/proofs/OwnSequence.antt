-- What the canonical encapsulation of a sequence holds, and the line that tells it.
use Rattle.std.proofs.Common.{◌≡◌, ℕ, suc, ◌<◌, ◌≤◌, ◌^◌, List, [], ◌∷◌, ◌++◌, length, codes, Option, Some, Result, Ok, Err, sym, ap, ◌∙◌, subst, append_assoc, false}
use Rattle.std.specs.Prelude.{slice_get}
use Rattle.json.specs.Print.{escape_byte}
use Rattle.serde_json.specs.Data.{Data, array, object, Items, no_items, no_members, put}
use Rattle.serde_json.specs.Written.{compact_text, items_text}
use Rattle.ice_types.specs.declared.kind.TypeRef.{TypeRef}
use Rattle.ice_types.specs.declared.kind.TypeRef.TheVariants as kinds
use Rattle.ice_types.specs.declared.declarations.SeqDecl.{SeqDecl}
use Rattle.ice_types.specs.Tables.{Tables}
use Rattle.ice_types.specs.Rules.{IsSchema}
use Rattle.ice_types.proofs.Levels.{some_is}
use Rattle.ice_encoding.specs.declared.limits.TheConstants.{LARGEST}
use Rattle.ice_encoding.specs.Opening.{encapsulated_bytes}
use Rattle.ice_encoding.specs.Tree.{Tree, Trees, sequence, tree_count}
use Rattle.ice_encoding.specs.Typed.{HasType, AllOf}
use Rattle.ice_encoding.specs.Canonical.{canonical}
use Rattle.ice_encoding.specs.Graph.{Graph}
use Rattle.ice_encoding.specs.SameGraph.{form}
use Rattle.canonical_values.specs.Standing.{only_null, IsCanonical}
use Rattle.canonical_inputs.proofs.Alone.{alone}
use Rattle.graph_json.specs.Canonical.{graph_noted}
use Rattle.graph_json.specs.CanonicalValues.{each_noted, notation, notation_levels, noted}
use Rattle.ice_relay.specs.Dumping.{DumpsTo, dump_line}
use Rattle.ice_relay.specs.Items.{IsItem, IsSequence, item_noted, sequence_text}
use Rattle.ice_relay.specs.Pages.{Stops, TellsAll, of_tell}
use Rattle.ice_relay.specs.Relaying.{Holds, one_value}
use Rattle.ice_ports.specs.declared.ports.PortFault.{PortFault}
use Rattle.ice_ports.specs.declared.ports.PortFault.TheVariants as faults
use Rattle.ice_relay.proofs.AloneHeld.{alone_held, form_alone}

-- ---- the text

-- the data of a value alone
abbrev alone_data : Data → Data
alone_data d = object (put (codes "roots") (object (put (codes "$value") d no_members)) (put (codes "instances") (array no_items) no_members))

-- behind the items
ends_so : (items : List ℕ) → ((items ++ 125 ∷ []) ++ 125 ∷ []) ++ 10 ∷ [] ≡ items ++ 125 ∷ 125 ∷ 10 ∷ []
ends_so items = append_assoc (items ++ 125 ∷ []) (125 ∷ []) (10 ∷ []) ∙ append_assoc items (125 ∷ []) (125 ∷ 10 ∷ [])

array_line : (ds : Items) → compact_text (alone_data (array ds)) ++ codes "\n" ≡ codes "{\"instances\":[],\"roots\":{\"$value\":[" ++ (items_text false ds ++ codes "}}\n")
unfolding escape_byte
array_line ds = ap (λ (l : List ℕ). codes "{\"instances\":[],\"roots\":{\"$value\":[" ++ l) (ends_so (items_text false ds))

noted_items : (t : Tables) (at : ℕ) (row : SeqDecl) (items : Trees) → slice_get t.seqs at ≡ Some row → notation t (kinds.Seq at) (sequence items) ≡ array (each_noted (item_noted t row.element) items)
unfolding notation item_noted
noted_items t at row items declared = ap (λ (o : Option SeqDecl). noted o (λ q. array (each_noted (notation_levels t 99 q.element) items))) declared

module _ (t : Tables) (at : ℕ) (row : SeqDecl) (items : Trees) (declared : slice_get t.seqs at ≡ Some row) where
  alone_line : compact_text (graph_noted t (one_value (kinds.Seq at)) (alone (sequence items))) ++ codes "\n" ≡ sequence_text t row.element items
  alone_line = ap (λ (d : Data). compact_text (alone_data d) ++ codes "\n") (noted_items t at row items declared) ∙ array_line (each_noted (item_noted t row.element) items)

  line_is : form (alone (sequence items)) ≡ alone (sequence items) → dump_line t (kinds.Seq at) (alone (sequence items)) ≡ sequence_text t row.element items
  line_is same = ap (λ (g : Graph). compact_text (graph_noted t (one_value (kinds.Seq at)) g) ++ codes "\n") same ∙ alone_line

-- ---- what the input holds

-- the items of a sequence of this declaration
pub record Parts (t : Tables) (levels : ℕ) (row : SeqDecl) (v : Tree) : Type 0 where
  pub items : Trees
  pub is : v ≡ sequence items
  pub few : tree_count items < 2 ^ 31
  pub all : AllOf (HasType t only_null levels row.element) items

parts_of : (t : Tables) (levels at : ℕ) (row : SeqDecl) → slice_get t.seqs at ≡ Some row → (v : Tree) → HasType t only_null (suc levels) (kinds.Seq at) v → Parts t levels row v
parts_of t levels at row declared v (q, found, items, is, few, all) = record {
  items = items;
  is = is;
  few = few;
  all = some_is (λ (x : SeqDecl). AllOf (HasType t only_null levels x.element) items) q row (sym found ∙ declared) all;
}

-- the items that stand in the content, and the line that tells the graph
pub record Own (t : Tables) (kind : TypeRef) (input : List ℕ) (element : TypeRef) (content : List ℕ) : Type 0 where
  pub items : Trees
  pub typed : AllOf (IsItem t element) items
  pub few : tree_count items < 2 ^ 31
  pub are : content ≡ canonical (sequence items)
  pub graph : Graph
  pub holds : Holds t kind input graph
  pub line : dump_line t kind graph ≡ sequence_text t element items

module _ (t : Tables) (input content : List ℕ) (rules : IsSchema t) (whole : input ≡ encapsulated_bytes content) (short : length input ≤ LARGEST) where
  own_items : (at : ℕ) (row : SeqDecl) → slice_get t.seqs at ≡ Some row → (items : Trees) → AllOf (HasType t only_null 99 row.element) items → tree_count items < 2 ^ 31
      → HasType t only_null 100 (kinds.Seq at) (sequence items) → content ≡ canonical (sequence items) → Own t (kinds.Seq at) input row.element content
  unfolding IsItem
  own_items at row declared items all few typed are = record {
    items = items;
    typed = all;
    few = few;
    are = are;
    graph = alone (sequence items);
    holds = alone_held t (kinds.Seq at) (sequence items) typed input rules (whole ∙ ap encapsulated_bytes are) short;
    line = line_is t at row items declared (form_alone t (kinds.Seq at) (sequence items) typed);
  }

  own_value : (at : ℕ) (row : SeqDecl) → slice_get t.seqs at ≡ Some row → (v : Tree) → HasType t only_null 100 (kinds.Seq at) v → content ≡ canonical v → Own t (kinds.Seq at) input row.element content
  own_value at row declared v typed are =
      let parts = parts_of t 99 at row declared v typed in
      own_items at row declared parts.items parts.all parts.few (subst (λ (w : Tree). HasType t only_null 100 (kinds.Seq at) w) parts.is typed) (are ∙ ap canonical parts.is)

  own_sequence : (at : ℕ) (row : SeqDecl) → slice_get t.seqs at ≡ Some row → IsCanonical t (kinds.Seq at) content → Own t (kinds.Seq at) input row.element content
  unfolding IsCanonical
  own_sequence at row declared (v, typed, are) = own_value at row declared v typed are

pub sequence_dumped : (t : Tables) (kind : TypeRef) (input : List ℕ) (element : TypeRef) (content : List ℕ) → IsSchema t → IsSequence t kind input element content → Own t kind input element content
sequence_dumped t kind input element content rules s =
    let of = s.items in
    let canonical_is : IsCanonical t (kinds.Seq of.at) content = subst (λ (k : TypeRef). IsCanonical t k content) of.is s.canonical in
    let own = own_sequence t input content rules s.whole s.short of.at of.row of.declared canonical_is in
    subst (λ (k : TypeRef). Own t k input element content) (sym of.is) (subst (λ (e : TypeRef). Own t (kinds.Seq of.at) input e content) (sym of.of) own)

-- ---- what comes of telling it

module _ (t : Tables) (kind : TypeRef) (input : List ℕ) (element : TypeRef) (content : List ℕ) (rules : IsSchema t) (is : IsSequence t kind input element content)
    (old new : Option (List ℕ)) (before after : ℕ) where
  -- told so, whichever the items are
  abbrev IsTold : Result (Unit {0}) PortFault → Type 0
  IsTold r = (items : Trees) → AllOf (IsItem t element) items → tree_count items < 2 ^ 31 → content ≡ canonical (sequence items) → TellsAll (sequence_text t element items) old new before after r

  told_so : (own : Own t kind input element content) (r : Result (Unit {0}) PortFault) → IsTold r → TellsAll (dump_line t kind own.graph) old new before after r
  told_so own r told = subst (λ (l : List ℕ). TellsAll l old new before after r) (sym own.line) (told own.items own.typed own.few own.are)

  pub sequence_told : (done : Unit {0}) → IsTold (Ok done) → DumpsTo t kind input old new before after (Ok tt)
  sequence_told done told =
      let own = sequence_dumped t kind input element content rules is in
      let tells = told_so own (Ok done) told in
      (own.graph, own.holds, tells.0, tells.1)

  stopped : (own : Own t kind input element content) (fault : PortFault) → Stops (dump_line t kind own.graph) old new before after fault → DumpsTo t kind input old new before after (Err (of_tell fault))
  stopped own faults.Failed stops = (own.graph, own.holds, stops.0, stops.1)
  stopped own faults.Memory stops = (own.graph, own.holds, stops.0, stops.1)

  pub sequence_stopped : (fault : PortFault) → IsTold (Err fault) → DumpsTo t kind input old new before after (Err (of_tell fault))
  sequence_stopped fault told =
      let own = sequence_dumped t kind input element content rules is in
      stopped own fault (told_so own (Err fault) told)
