-- The values of required members, of which those with a tag are none, as a loop finds them.
use Rattle.std.proofs.Common.{◌≡◌, ℕ, zero, suc, ◌+◌, ◌<◌, ◌≤◌, ◌^◌, Bool, true, false, IsTrue, ◌↔◌, List, [], ◌∷◌, length, map, drop, nat_eq, slice_index_or, refl, sym, ap, ◌∙◌, subst, arith, Option, None, Some}
use Rattle.std.specs.Option.{is_some, is_none}
use Rattle.std.proofs.Math.Seq.{drop-cons}
use Rattle.std.proofs.lemmas.Bool.{eqb-true, eq-eqb}
use Rattle.ice_types.specs.declared.kind.TypeRef.{TypeRef}
use Rattle.ice_types.specs.declared.declarations.Member.{Member}
use Rattle.ice_encoding.specs.Tree.{Tree, Trees, none, tree}
use Rattle.ice_types.specs.declared.schema.TheConstants.{MOST_DEPTH}
use Rattle.ice_types.specs.Tables.{Tables}
use Rattle.ice_encoding.specs.Tags.{rises}
use Rattle.ice_encoding.specs.Typed.{EachOf, HasType, Refers}
use Rattle.ice_encoding.specs.Optionals.{kind_tagged}
use Rattle.ice_encoding.specs.TypedGraph.{AreOptions}
use Rattle.graph_arena.specs.Seen.{view_present}
use Rattle.graph_arena.specs.declared.value.Value.{Value}
use Rattle.graph_arena.specs.View.{view, view_all}
use Rattle.value_parts.specs.Shapes.{without_tag}

-- ---- lists from a place on

pub from_here : {A : Type 0} (xs : List A) (i : ℕ) (x : A) → i < length xs → x ≡ slice_index_or xs i x → drop i xs ≡ x ∷ drop (i + 1) xs
from_here {A} xs i x lt is =
    let after : suc i ≡ i + 1 = omega arith in
    drop-cons xs i x lt ∙ (ap (λ (j : ℕ). slice_index_or xs i x ∷ drop j xs) after ∙ ap (λ (y : A). y ∷ drop (i + 1) xs) (sym is))

at_end : {A : Type 0} (xs : List A) (i : ℕ) → length xs ≤ i → drop i xs ≡ []
at_end [] zero le = refl
at_end [] (suc i) le = refl
at_end (x ∷ xs) zero le = absurd (omega (arith, le))
at_end (x ∷ xs) (suc i) le = at_end xs i (omega (arith, le))

none_left : (vs : List Value) (at : ℕ) → at ≤ length vs → (at ≡ length vs) ↔ (view_all (drop at vs) ≡ none)
none_left [] zero le = (λ e. refl, λ e. refl)
none_left [] (suc at) le = absurd (omega (arith, le))
none_left (v ∷ vs) zero le = (λ e. absurd (omega (arith, e)), λ e. absurd cc)
none_left (v ∷ vs) (suc at) le =
    let h = none_left vs at (omega (arith, le)) in
    (λ e. h.0 (omega (arith, e)), λ e. ap suc (h.1 e))

-- ---- the next member

untagged : (tag : Option ℕ) → is_some tag ≡ false → is_none tag ≡ true
untagged None e = refl
untagged (Some n) e = absurd cc

same_tree : (v w : Tree) (vs ws : Trees) → tree v vs ≡ tree w ws → w ≡ v
same_tree v w vs ws e = cc

same_trees : (v w : Tree) (vs ws : Trees) → tree v vs ≡ tree w ws → ws ≡ vs
same_trees v w vs ws e = cc

module _ (One : TypeRef → Tree → Type 0) where
  abbrev pub AreRequired : List Member → List Value → Type 0
  AreRequired members values = EachOf One (map (λ m. m.kind) (without_tag members)) (view_all values)

  taken : (m : Member) (ms : List Member) (v : Value) (vs : List Value) → is_some m.tag ≡ false → AreRequired (m ∷ ms) (v ∷ vs) ↔ (One m.kind (view v) × AreRequired ms vs)
  taken m ms v vs e =
      let h : is_none m.tag ≡ true = untagged m.tag e in
      rw h (
        (λ (w, ws, is, one, more). (
          subst (One m.kind) (same_tree (view v) w (view_all vs) ws is) one,
          subst (EachOf One (map (λ x. x.kind) (without_tag ms))) (same_trees (view v) w (view_all vs) ws is) more,
        )),
        (λ both. (view v, view_all vs, refl, both.0, both.1)),
      )

  module _ {X : Type 0} (ms : List Member) (vs : List Value) (i at : ℕ) where
    module _ (m : Member) (v : Value) (first : drop i ms ≡ m ∷ drop (i + 1) ms) (value : drop at vs ≡ v ∷ drop (at + 1) vs) (required : is_some m.tag ≡ false)
        (rest : X ↔ AreRequired (drop i ms) (drop at vs)) where
      here : X ↔ (One m.kind (view v) × AreRequired (drop (i + 1) ms) (drop (at + 1) vs))
      here =
          let at_it : X ↔ AreRequired (m ∷ drop (i + 1) ms) (v ∷ drop (at + 1) vs) =
          subst (λ (l : List Value). X ↔ AreRequired (m ∷ drop (i + 1) ms) l) value (subst (λ (l : List Member). X ↔ AreRequired l (drop at vs)) first rest) in
          let h = taken m (drop (i + 1) ms) v (drop (at + 1) vs) required in
          (λ x. h.0 (at_it.0 x), λ both. at_it.1 (h.1 both))

      pub goes_on : One m.kind (view v) → X ↔ AreRequired (drop (i + 1) ms) (drop (at + 1) vs)
      goes_on one = (λ x. (here.0 x).1, λ more. here.1 (one, more))

      pub fails : (One m.kind (view v) → ⊥) → X → ⊥
      fails other x = other (here.0 x).0

    pub required_end : length ms ≤ i → at ≤ length vs → (X ↔ AreRequired (drop i ms) (drop at vs)) → IsTrue (nat_eq at (length vs)) ↔ X
    required_end past within rest =
        let at_it : X ↔ (view_all (drop at vs) ≡ none) = subst (λ (l : List Member). X ↔ AreRequired l (drop at vs)) (at_end ms i past) rest in
        let h = none_left vs at within in
        (λ b. at_it.1 (h.0 (eqb-true at (length vs) b)), λ x. eq-eqb at (length vs) (h.1 (at_it.0 x)))

-- ---- an optional member

same_kind : (a b : TypeRef) → Some a ≡ Some b → b ≡ a
same_kind a b e = cc

pub option_told : (P : TypeRef → Type 0) (Few : Type 0) (found : Option TypeRef) (kind : TypeRef) (tells : Bool) → found ≡ Some kind → Few → (IsTrue tells ↔ P kind)
    → IsTrue tells ↔ (Few × (other : TypeRef) × (found ≡ Some other) × P other)
option_told P Few found kind tells is few h = (
  (λ b. (few, kind, is, h.0 b)),
  (λ x. h.1 (subst P (same_kind kind x.1 (sym is ∙ x.2)) x.3)),
)

-- the next one, whose tag is above the last
module _ (t : Tables) (Refer : Refers) (members : List Member) {X : Type 0} (options : List (ℕ × Value)) (i : ℕ) (last : Option ℕ) (o : ℕ × Value)
    (first : drop i options ≡ o ∷ drop (i + 1) options) (rest : X ↔ AreOptions t Refer members last (view_present (drop i options))) where
  abbrev IsOption : Type 0
  IsOption = (o.0 < 2 ^ 31) × (kind : TypeRef) × (kind_tagged o.0 members ≡ Some kind) × HasType t Refer MOST_DEPTH kind (view o.1)

  at_option : X ↔ AreOptions t Refer members last (view_present (o ∷ drop (i + 1) options))
  at_option = subst (λ (l : List (ℕ × Value)). X ↔ AreOptions t Refer members last (view_present l)) first rest

  pub no_rise : (IsTrue (rises last o.0) → ⊥) → X → ⊥
  no_rise falls x = falls (at_option.0 x).0

  pub no_option : (IsOption → ⊥) → X → ⊥
  no_option other x = let h = at_option.0 x in other (h.1, h.2, h.3, h.4)

  pub next_option : IsTrue (rises last o.0) → IsOption → X ↔ AreOptions t Refer members (Some o.0) (view_present (drop (i + 1) options))
  next_option above is = ((λ x. (at_option.0 x).5), (λ more. at_option.1 (above, is.0, is.1, is.2, is.3, more)))
