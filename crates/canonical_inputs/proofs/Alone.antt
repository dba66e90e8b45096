-- A value without instances as a graph.
use Rattle.std.proofs.Common.{◌≡◌, ℕ, ◌≤◌, List, [], ◌++◌, length, Option, None, refl, sym, ap, ◌∙◌, subst, arith}
use Rattle.std.proofs.lemmas.List.{append-nil}
use Rattle.ice_types.specs.declared.kind.TypeRef.{TypeRef}
use Rattle.ice_types.specs.declared.declarations.Shape.{Shape}
use Rattle.ice_types.specs.Tables.{Tables}
use Rattle.ice_types.specs.Rules.{IsSchema}
use Rattle.ice_prims.specs.Bytes.{size_bytes}
use Rattle.ice_encoding.specs.Opening.{encapsulated_bytes}
use Rattle.ice_encoding.specs.declared.limits.TheConstants.{LARGEST}
use Rattle.ice_encoding.specs.Tree.{Tree, none, tree}
use Rattle.ice_encoding.specs.Typed.{HasType}
use Rattle.ice_encoding.specs.Canonical.{canonical}
use Rattle.ice_encoding.specs.Writing.{Writer, written}
use Rattle.ice_encoding.specs.Pausing.{written_in_place}
use Rattle.ice_encoding.specs.OptionalMembers.{with_optional}
use Rattle.ice_encoding.specs.Graph.{Graph}
use Rattle.ice_encoding.specs.Flags.{all_slices}
use Rattle.ice_encoding.specs.Instances.{most_instances, SpellsNumbered}
use Rattle.ice_encoding.specs.Members.{written_content}
use Rattle.ice_encoding.specs.Names.{names_of}
use Rattle.ice_encoding.specs.SameGraph.{form}
use Rattle.ice_encoding.specs.TypedGraph.{IsHeldIn, RefersIn}
use Rattle.ice_encoding.specs.Visiting.{order, visit_each, visit_at, most, place}
use Rattle.ice_encoding.specs.CanonicalGraph.{Pen, sliced, put_inline, written_instance, blank, canonical_graph, graph_bytes}
use Rattle.graph_laws.proofs.Canonicity.{same_bytes}
use Rattle.graph_laws.proofs.Schemas.{canonical_spelled}
use Rattle.canonical_values.specs.Standing.{only_null, IsCanonical}
use Rattle.canonical_inputs.specs.Inputs.{IsOwnForm}
use Rattle.ice_encoding.proofs.Wider.{typed_wider}
use Rattle.canonical_inputs.specs.Written.{IsWritten, one_member}
use Rattle.canonical_inputs.proofs.Plain.{NullAlone, value_plain}

-- the graph of a value without instances
abbrev pub alone : Tree → Graph
alone v = record { roots = with_optional (tree v none) []; instances = [] }

pub null_alone : NullAlone only_null
null_alone declared n h = h

abbrev pub inline : Tables → Graph → Writer Pen (Option ℕ)
inline t g = written_in_place put_inline (written_instance t sliced g most)

pub null_inline : (t : Tables) (g : Graph) (p : Pen) → inline t g None p ≡ (size_bytes 0, p)
null_inline t g p = refl

pub may_refer : (t : Tables) (declared n : Option ℕ) → only_null.Held declared n → IsHeldIn t [] declared n
may_refer t declared n e = subst (λ (m : Option ℕ). IsHeldIn t [] declared m) (sym e) tt

pub no_order : (v : Tree) → names_of (alone v).roots ≡ [] → order (alone v) ≡ []
unfolding order
no_order v e = ap (λ (ns : List ℕ). visit_each (visit_at most (alone v)) ns []) e

pub few_listed : (ns : List ℕ) → ns ≡ [] → length ns ≤ most_instances
unfolding most_instances
few_listed ns e = subst (λ (xs : List ℕ). length xs ≤ 100000) (sym e) (omega arith)

content_of : (t : Tables) (name : List ℕ) (kind : TypeRef) (refer : Writer Pen (Option ℕ)) (v : Tree) (p : Pen) → written refer v p ≡ (canonical v, p)
    → (written_content refer t (one_member name kind) (with_optional (tree v none) []) p).0 ≡ canonical v
content_of t name kind refer v p e = ap (λ (a : List ℕ × Pen). (a.0 ++ []) ++ []) e ∙ append-nil (canonical v ++ []) ∙ append-nil (canonical v)

written_alone : (t : Tables) (name : List ℕ) (kind : TypeRef) (v : Tree) → HasType t only_null 100 kind v → canonical_graph t (one_member name kind) sliced (alone v) ≡ canonical v
unfolding canonical_graph form
written_alone t name kind v typed =
    let g = form (alone v) in
    let p = value_plain (inline t g) (null_inline t g) (place (order (alone v))) t only_null null_alone 100 kind v typed in
    ap (λ (w : Tree). (written_content (inline t g) t (one_member name kind) (with_optional (tree w none) []) blank).0) p.same ∙ content_of t name kind (inline t g) v blank (p.bytes blank)

-- a value without instances is written for the graph whose only member it is
pub value_written : (t : Tables) (name : List ℕ) (kind : TypeRef) (content : List ℕ) → IsCanonical t kind content → IsWritten t (one_member name kind) content
unfolding IsCanonical
value_written t name kind content (v, typed, is) =
    let p = value_plain (inline t (alone v)) (null_inline t (alone v)) (λ n. n) t only_null null_alone 100 kind v typed in
    let free : names_of (alone v).roots ≡ [] = append-nil _ ∙ append-nil _ ∙ p.free in
    record {
      graph = alone v;
      typed = record { roots = record { required = (v, none, refl, typed_wider t only_null (RefersIn t []) (omega arith) (may_refer t) 100 kind v typed, refl); optional = tt }; instances = λ n lt. absurd (omega (arith, lt)) };
      few = few_listed (order (alone v)) (no_order v free);
      are = is ∙ sym (written_alone t name kind v typed);
    }

-- what is written for some graph is read as a graph whose canonical bytes they are
pub written_stays : (t : Tables) (shape : Shape) (input content : List ℕ) → IsSchema t → input ≡ encapsulated_bytes content → length input ≤ LARGEST → IsWritten t shape content → IsOwnForm t shape input
written_stays t shape input content rules is short w =
    let are : input ≡ graph_bytes t shape sliced w.graph = is ∙ ap encapsulated_bytes w.are in
    let read = canonical_spelled t shape sliced w.graph rules w.typed (λ n lt. tt) w.few (subst (λ (l : List ℕ). length l ≤ LARGEST) are short) in
    (read.0, subst (λ (l : List ℕ). SpellsNumbered t all_slices shape l read.0) (sym are) read.1, are ∙ sym (same_bytes t shape sliced read.0 w.graph read.2), short)
