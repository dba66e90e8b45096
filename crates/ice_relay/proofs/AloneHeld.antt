-- The canonical encapsulation of a value without instances holds the graph of the value alone.
use Rattle.std.proofs.Common.{◌≡◌, ℕ, ◌≤◌, List, [], ◌++◌, length, map, Option, refl, sym, ap, ◌∙◌, subst, arith}
use Rattle.std.proofs.lemmas.List.{append-nil}
use Rattle.ice_types.specs.declared.kind.TypeRef.{TypeRef}
use Rattle.ice_types.specs.Tables.{Tables}
use Rattle.ice_types.specs.Rules.{IsSchema}
use Rattle.ice_encoding.specs.Opening.{encapsulated_bytes}
use Rattle.ice_encoding.specs.declared.limits.TheConstants.{LARGEST}
use Rattle.ice_encoding.specs.Tree.{Tree, none, tree}
use Rattle.ice_encoding.specs.Typed.{HasType}
use Rattle.ice_encoding.specs.Canonical.{canonical}
use Rattle.ice_encoding.specs.Writing.{Writer, written}
use Rattle.ice_encoding.specs.OptionalMembers.{with_optional}
use Rattle.ice_encoding.specs.Graph.{Graph}
use Rattle.ice_encoding.specs.Flags.{all_slices}
use Rattle.ice_encoding.specs.Instances.{slices_of, SpellsNumbered}
use Rattle.ice_encoding.specs.Members.{written_content}
use Rattle.ice_encoding.specs.Names.{names_of, renamed, renamed_slice}
use Rattle.ice_encoding.specs.SameGraph.{form}
use Rattle.ice_encoding.specs.TypedGraph.{RefersIn, OfType}
use Rattle.ice_encoding.specs.Visiting.{order, place}
use Rattle.ice_encoding.specs.CanonicalGraph.{Pen, sliced, blank, canonical_graph, graph_bytes}
use Rattle.ice_encoding.proofs.Wider.{typed_wider}
use Rattle.graph_laws.proofs.Schemas.{form_spelled}
use Rattle.canonical_values.specs.Standing.{only_null}
use Rattle.canonical_inputs.proofs.Alone.{alone, null_alone, inline, null_inline, may_refer, no_order, few_listed}
use Rattle.canonical_inputs.proofs.Plain.{value_plain}
use Rattle.ice_relay.specs.Relaying.{Holds, one_value}

-- with its instances by first visit, of which there are none, it is as it was
form_is : (v : Tree) → order (alone v) ≡ [] → renamed (place (order (alone v))) v ≡ v → form (alone v) ≡ alone v
unfolding form
form_is v nothing same = λ i. record {
  roots = with_optional (tree (same i) none) [];
  instances = map (λ n. map (renamed_slice (place (order (alone v)))) (slices_of (alone v).instances n)) (nothing i);
}

content_is : (t : Tables) (kind : TypeRef) (refer : Writer Pen (Option ℕ)) (v : Tree) (p : Pen) → written refer v p ≡ (canonical v, p)
    → (written_content refer t (one_value kind) (with_optional (tree v none) []) p).0 ≡ canonical v
content_is t kind refer v p e = ap (λ (a : List ℕ × Pen). (a.0 ++ []) ++ []) e ∙ append-nil (canonical v ++ []) ∙ append-nil (canonical v)

module _ (t : Tables) (kind : TypeRef) (v : Tree) (typed : HasType t only_null 100 kind v) where
  no_names : names_of (alone v).roots ≡ []
  no_names = append-nil _ ∙ append-nil _ ∙ (value_plain (inline t (alone v)) (null_inline t (alone v)) (λ n. n) t only_null null_alone 100 kind v typed).free

  unordered : order (alone v) ≡ []
  unordered = no_order v no_names

  pub form_alone : form (alone v) ≡ alone v
  form_alone = form_is v unordered (value_plain (inline t (alone v)) (null_inline t (alone v)) (place (order (alone v))) t only_null null_alone 100 kind v typed).same

  written_alone : canonical_graph t (one_value kind) sliced (alone v) ≡ canonical v
  unfolding canonical_graph form
  written_alone =
      let g = form (alone v) in
      let p = value_plain (inline t g) (null_inline t g) (place (order (alone v))) t only_null null_alone 100 kind v typed in
      ap (λ (w : Tree). (written_content (inline t g) t (one_value kind) (with_optional (tree w none) []) blank).0) p.same ∙ content_is t kind (inline t g) v blank (p.bytes blank)

  of_type : OfType t (one_value kind) (alone v)
  of_type = record { roots = record { required = (v, none, refl, typed_wider t only_null (RefersIn t []) (omega arith) (may_refer t) 100 kind v typed, refl); optional = tt }; instances = λ n lt. absurd (omega (arith, lt)) }

  pub alone_held : (input : List ℕ) → IsSchema t → input ≡ encapsulated_bytes (canonical v) → length input ≤ LARGEST → Holds t kind input (alone v)
  alone_held input rules is short =
      let are : input ≡ graph_bytes t (one_value kind) sliced (alone v) = is ∙ ap encapsulated_bytes (sym written_alone) in
      let read = form_spelled t (one_value kind) sliced (alone v) rules of_type (λ n lt. tt) (few_listed (order (alone v)) unordered) (subst (λ (l : List ℕ). length l ≤ LARGEST) are short) in
      subst (λ (g : Graph). SpellsNumbered t all_slices (one_value kind) input g) form_alone
      (subst (λ (l : List ℕ). SpellsNumbered t all_slices (one_value kind) l (form (alone v))) (sym are) read)
