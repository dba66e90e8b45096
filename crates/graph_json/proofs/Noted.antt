-- JSON notes one graph at most but for the names of instances, and of that the reached instances are of the type.
use Rattle.std.proofs.Common.{◌≡◌, Some, ◌≤◌, ◌<◌, length, map, sym, ap, ◌∙◌, subst, arith}
use Rattle.std.proofs.lemmas.List.{length-map}
use Rattle.std.proofs.lemmas.Option.{same_Some}
use Rattle.serde_json.specs.Data.{Data}
use Rattle.ice_types.specs.declared.declarations.Shape.{Shape}
use Rattle.ice_types.specs.Tables.{Tables}
use Rattle.ice_types.specs.Rules.{IsSchema}
use Rattle.ice_encoding.specs.Graph.{Graph}
use Rattle.ice_encoding.specs.Instances.{slices_of, most_instances}
use Rattle.ice_encoding.specs.Names.{renamed_slice}
use Rattle.ice_encoding.specs.SameGraph.{form, Same}
use Rattle.ice_encoding.specs.TypedGraph.{OfType}
use Rattle.ice_encoding.specs.Visiting.{place, order, most}
use Rattle.graph_laws.proofs.Formed.{form-same-graph}
use Rattle.graph_laws.proofs.Reached.{reached-small, reached-few}
use Rattle.graph_laws.proofs.Renumbered.{form-same}
use Rattle.graph_laws.proofs.Sameness.{same_both}
use Rattle.graph_laws.proofs.Schemas.{few-enough}
use Rattle.graph_json.specs.Notation.{NotesListed, NotesGraph}
use Rattle.graph_json.specs.Reading.{listed_graph}
use Rattle.graph_json.specs.Canonical.{graph_noted, canonical_noted}
use Rattle.graph_json.specs.Contents.{HasOwnNames}
use Rattle.graph_json.specs.Typed.{IsNotable}
use Rattle.graph_json.proofs.Listed.{graph_found, graph_only}
use Rattle.graph_json.proofs.GraphCanon.{form_of_type, form_listed, graph_canon}

pub listed_once : (t : Tables) (shape : Shape) (d : Data) (g h : Graph) → IsSchema t → NotesListed t shape d g → NotesListed t shape d h → g ≡ h
listed_once t shape d g h rules one two = same_Some g h (sym (graph_only t rules shape d g one) ∙ graph_only t rules shape d h two)

pub noted_same : (t : Tables) (shape : Shape) (d : Data) (g h : Graph) → IsSchema t → NotesGraph t shape d g → NotesGraph t shape d h → Same g h
noted_same t shape d g h rules (k, k_is, k_typed, p) (l, l_is, l_typed, q) =
    same_both k g h p (subst (λ (x : Graph). Same x h) (sym (listed_once t shape d k l rules k_is l_is)) q)

pub form_count : (g : Graph) → length (form g).instances ≡ length (order g)
unfolding form
form_count g = length-map (order g) (λ n. map (renamed_slice (place (order g))) (slices_of g.instances n))

pub noted_form : (t : Tables) (shape : Shape) (d : Data) (g : Graph) → IsSchema t → NotesGraph t shape d g → length (order g) ≤ most_instances → OfType t shape (form g)
noted_form t shape d g rules (k, k_is, typed, same) few =
    let is : form k ≡ form g = form-same k g same in
    let count : length (order k) ≡ length (order g) = sym (form_count k) ∙ ap (λ (x : Graph). length x.instances) is ∙ form_count g in
    let fewer : length (order k) < most = few-enough (length (order k)) (omega (arith, count, few)) in
    subst (OfType t shape) is (form_of_type t rules shape k (reached-few t shape k typed fewer) typed)

-- ---- what is read

pub read_found : (t : Tables) (shape : Shape) (d : Data) (k : Graph) → listed_graph t shape d ≡ Some k → OfType t shape k → length k.instances ≤ most → NotesGraph t shape d k
read_found t shape d k is typed few =
    let same = form-same-graph k (reached-small t shape k typed few) in
    (k, graph_found t shape d k is, typed, same_both (form k) k k same same)

pub read_only : (t : Tables) (shape : Shape) (d : Data) (g : Graph) → IsSchema t → NotesGraph t shape d g → (k : Graph) × (listed_graph t shape d ≡ Some k) × OfType t shape k × Same k g
read_only t shape d g rules (k, is, typed, same) = (k, graph_only t rules shape d k is, typed, same)

-- ---- the canonical notation

pub canonical_again : (t : Tables) (shape : Shape) (g : Graph) → IsSchema t → HasOwnNames shape → OfType t shape g → IsNotable g → length g.instances ≤ most → listed_graph t shape (canonical_noted t shape g) ≡ Some (form g)
canonical_again t shape g rules named typed notable few =
    let reached = reached-small t shape g typed few in
    graph_only t rules shape (canonical_noted t shape g) (form g) (form_listed t rules shape named g reached (form_of_type t rules shape g reached typed) notable)

pub same_notation : (t : Tables) (shape : Shape) (g h : Graph) → Same g h → canonical_noted t shape g ≡ canonical_noted t shape h
same_notation t shape g h same = ap (graph_noted t shape) (form-same g h same)

pub equal_notations : (t : Tables) (shape : Shape) (g h : Graph) → IsSchema t → HasOwnNames shape → OfType t shape g → OfType t shape h → IsNotable g → IsNotable h → length g.instances ≤ most → length h.instances ≤ most
    → canonical_noted t shape g ≡ canonical_noted t shape h → Same g h
equal_notations t shape g h rules named g_typed h_typed g_notable h_notable g_few h_few equal =
    noted_same t shape (canonical_noted t shape h) g h rules
    (subst (λ (d : Data). NotesGraph t shape d g) equal (graph_canon t shape g rules named g_typed g_notable g_few)) (graph_canon t shape h rules named h_typed h_notable h_few)
