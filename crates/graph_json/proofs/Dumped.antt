-- A graph that was read is noted by what is written for it, and that is read as its form.
use Rattle.std.proofs.Common.{◌≡◌, ◌≤◌, ℕ, List, length, Some, refl, sym, ap, ◌∙◌, arith}
use Rattle.std.proofs.lemmas.Option.{same_Some}
use Rattle.serde_json.specs.Data.{Data}
use Rattle.serde_json.specs.Events.{items_len}
use Rattle.ice_types.specs.declared.declarations.Shape.{Shape}
use Rattle.ice_types.specs.Tables.{Tables}
use Rattle.ice_types.specs.Rules.{IsSchema}
use Rattle.ice_prims.specs.Rest.{IsBytes}
use Rattle.ice_encoding.specs.Graph.{Graph}
use Rattle.ice_encoding.specs.Flags.{Reach}
use Rattle.ice_encoding.specs.Instances.{most_instances, SpellsNumbered}
use Rattle.ice_encoding.specs.SameGraph.{form}
use Rattle.ice_encoding.specs.TypedGraph.{OfType}
use Rattle.ice_encoding.specs.CanonicalGraph.{Format, graph_bytes}
use Rattle.ice_encoding.specs.Visiting.{most, order}
use Rattle.graph_arena.proofs.Closed.{few}
use Rattle.graph_laws.proofs.Canonicity.{same_bytes}
use Rattle.graph_laws.proofs.Formed.{Reached, form-same-graph}
use Rattle.graph_laws.proofs.Reached.{reached-small}
use Rattle.graph_laws.proofs.Sound.{numbered_typed}
use Rattle.graph_json.specs.declared.text.TheConstants.{MOST_TEXT}
use Rattle.graph_json.specs.Canonical.{canonical_noted}
use Rattle.graph_json.specs.Contents.{HasOwnNames}
use Rattle.graph_json.specs.Notation.{NotesInstance, NotesListed, NotesGraph}
use Rattle.graph_json.specs.Texts.{IsJson, Lists, ListsTooMany, listed_in}
use Rattle.graph_json.specs.Typed.{IsNotable}
use Rattle.graph_json.proofs.GraphCanon.{form_of_type, form_listed, graph_canon}
use Rattle.graph_json.proofs.Noted.{canonical_again, form_count}
use Rattle.graph_json.proofs.ReadNotable.{read_notable}
use Rattle.graph_json.proofs.Sound.{few_enough, noted_len}
use Rattle.graph_json.proofs.TextsApart.{one_listed}

-- a graph within the limit is not listed with too many instances
not_many : (t : Tables) (shape : Shape) (d : Data) (k : Graph) → NotesListed t shape d k → length k.instances ≤ most_instances → ListsTooMany d → ⊥
not_many t shape d k h within (ds, is, many) =
    let there : listed_in d ≡ Some h.4.0 = rw (h.1.0, h.3, h.4.1) refl in
    let same : ds ≡ h.4.0 = same_Some ds h.4.0 (sym is ∙ there) in
    let count = noted_len (NotesInstance t) h.4.0 k.instances h.4.2 in
    absurd (omega (arith, many, ap items_len same, count, within))

module _ (t : Tables) (reach : Reach) (shape : Shape) (rules : IsSchema t) (named : HasOwnNames shape) (bytes : List ℕ) (g : Graph) (fits : IsBytes bytes) (read : SpellsNumbered t reach shape bytes g) where
  typed : OfType t shape g
  typed = (numbered_typed t reach shape rules bytes g fits read).0

  few_there : length g.instances ≤ most_instances
  few_there = (numbered_typed t reach shape rules bytes g fits read).1

  not_most : length g.instances ≤ most
  not_most = few_enough (length g.instances) few_there

  reached : Reached g
  reached = reached-small t shape g typed not_most

  notable : IsNotable g
  notable = read_notable t reach shape bytes g fits read

  pub dump_notes : NotesGraph t shape (canonical_noted t shape g) g
  dump_notes = graph_canon t shape g rules named typed notable not_most

  form_typed : OfType t shape (form g)
  form_typed = form_of_type t rules shape g reached typed

  form_noted : NotesListed t shape (canonical_noted t shape g) (form g)
  form_noted = form_listed t rules shape named g reached form_typed notable

  few_listed : ListsTooMany (canonical_noted t shape g) → ⊥
  few_listed =
      let once = few (length g.instances) (order g) reached.is.holds.once reached.is.below in
      not_many t shape (canonical_noted t shape g) (form g) form_noted (omega (arith, form_count g, once, few_there))

  pub dump_lists : (text : List ℕ) → IsJson text (canonical_noted t shape g) → length text ≤ MOST_TEXT → Lists t shape text (form g)
  dump_lists text is short = (short, canonical_noted t shape g, is, (few_listed, canonical_again t shape g rules named typed notable not_most, form_typed))

  pub dump_encodes : (format : Format) (text : List ℕ) (k : Graph) → IsJson text (canonical_noted t shape g) → Lists t shape text k → graph_bytes t shape format k ≡ graph_bytes t shape format g
  dump_encodes format text k is lists =
      let one : k ≡ form g = one_listed t shape text k (form g) lists (dump_lists text is lists.0) in
      ap (graph_bytes t shape format) one ∙ same_bytes t shape format (form g) g (form-same-graph g reached)
