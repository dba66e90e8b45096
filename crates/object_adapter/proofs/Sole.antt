-- The only argument.
use Rattle.std.specs.Prelude.{slice_get}
use Rattle.std.proofs.Common.{ℕ, zero, suc, pos, ◌≡◌, ◌≤◌, List, [], ◌∷◌, length, None, Some, map, refl, sym, subst, ap, ◌∙◌, arith}
use Rattle.ice_types.specs.declared.kind.TypeRef.{TypeRef}
use Rattle.ice_types.specs.declared.kind.TypeRef.TheVariants as kinds
use Rattle.ice_types.specs.declared.declarations.Member.{Member}
use Rattle.ice_types.specs.declared.declarations.Shape.{Shape}
use Rattle.ice_types.specs.Tables.{Tables}
use Rattle.ice_types.specs.declared.schema.TheConstants.{MOST_DEPTH}
use Rattle.ice_encoding.specs.Tree.{Tree, int, text, Trees, none, tree}
use Rattle.ice_encoding.specs.Typed.{EachOf, HasType, Refers}
use Rattle.ice_encoding.specs.Graph.{Graph}
use Rattle.ice_encoding.specs.TypedGraph.{OfType, RefersIn}
use Rattle.value_parts.specs.Shapes.{told_apart, without_tag}
use Rattle.graph_arena.specs.declared.value.Value.{Value}
use Rattle.graph_arena.specs.View.{view, view_all}
use Rattle.object_adapter.specs.Arguments.{sole_members, sole_number, sole_text, text_at, text_of}
use Rattle.object_adapter.specs.Deeds.{IsOne}

-- several
pub no_sole_number : (values : List Value) (all : Trees) → 2 ≤ length values → view_all values ≡ all → pos 0 ≡ sole_number all
no_sole_number [] all many is = absurd (omega (arith, many))
no_sole_number (v ∷ []) all many is = absurd (omega (arith, many))
no_sole_number (v ∷ w ∷ vs) all many is = subst (λ (a : Trees). pos 0 ≡ sole_number a) is refl

pub no_sole_text : (values : List Value) (all : Trees) → 2 ≤ length values → view_all values ≡ all → [] ≡ sole_text all
no_sole_text [] all many is = absurd (omega (arith, many))
no_sole_text (v ∷ []) all many is = absurd (omega (arith, many))
no_sole_text (v ∷ w ∷ vs) all many is = subst (λ (a : Trees). [] ≡ sole_text a) is refl

pub no_sole_members : (values : List Value) (all : Trees) → 2 ≤ length values → view_all values ≡ all → none ≡ sole_members all
no_sole_members [] all many is = absurd (omega (arith, many))
no_sole_members (v ∷ []) all many is = absurd (omega (arith, many))
no_sole_members (v ∷ w ∷ vs) all many is = subst (λ (a : Trees). none ≡ sole_members a) is refl

-- the text at a place, and past the end
pub text_there_at : (values : List Value) (at : ℕ) (v : Value) → Some v ≡ slice_get values at → text_of (view v) ≡ text_at (view_all values) at
text_there_at [] at v is = absurd cc
text_there_at (w ∷ ws) zero v is = let same : v ≡ w = cc in ap (λ (x : Value). text_of (view x)) same
text_there_at (w ∷ ws) (suc at) v is = text_there_at ws at v is

pub no_text_at : (values : List Value) (at : ℕ) → None ≡ slice_get values at → [] ≡ text_at (view_all values) at
no_text_at [] at is = refl
no_text_at (w ∷ ws) zero is = absurd cc
no_text_at (w ∷ ws) (suc at) is = no_text_at ws at is

-- the type of the only one
pub one_required : (members : List Member) (m : Member) → members ≡ m ∷ [] → m.tag ≡ None → without_tag members ≡ m ∷ []
one_required members m is tag = rw is (rw tag refl)

module _ (t : Tables) (Refer : Refers) where
  -- the only one is a number
  int_there : (all : Trees) → EachOf (HasType t Refer MOST_DEPTH) (kinds.Int ∷ []) all → all ≡ tree (int (sole_number all)) none
  int_there all (v, vs, is, (z, fits, number), end) =
      let whole : all ≡ tree (int z) none = is ∙ (ap (λ (w : Tree). tree w vs) number ∙ ap (tree (int z)) end) in
      subst (λ (a : Trees). a ≡ tree (int (sole_number a)) none) (sym whole) refl

  text_there : (all : Trees) → EachOf (HasType t Refer MOST_DEPTH) (kinds.Text ∷ []) all → all ≡ tree (text (sole_text all)) none
  text_there all (v, vs, is, (s, valid, few, words), end) =
      let whole : all ≡ tree (text s) none = is ∙ (ap (λ (w : Tree). tree w vs) words ∙ ap (tree (text s)) end) in
      subst (λ (a : Trees). a ≡ tree (text (sole_text a)) none) (sym whole) refl

pub text_is_there : (t : Tables) (shape : Shape) (g : Graph) → OfType t (told_apart shape) g → IsOne shape kinds.Text → g.roots.required ≡ tree (text (sole_text g.roots.required)) none
text_is_there t shape g typed (m, members, tag, kind, alone) =
    text_there t (RefersIn t g.instances) g.roots.required
    (subst (λ (ks : List TypeRef). EachOf (HasType t (RefersIn t g.instances) MOST_DEPTH) ks g.roots.required)
    (ap (λ (ms : List Member). map (λ (k : Member). k.kind) ms) (one_required shape.required m members tag) ∙ ap (λ (k : TypeRef). k ∷ []) kind) typed.roots.required)

pub number_there : (t : Tables) (shape : Shape) (g : Graph) → OfType t (told_apart shape) g → IsOne shape kinds.Int → g.roots.required ≡ tree (int (sole_number g.roots.required)) none
number_there t shape g typed (m, members, tag, kind, alone) =
    int_there t (RefersIn t g.instances) g.roots.required
    (subst (λ (ks : List TypeRef). EachOf (HasType t (RefersIn t g.instances) MOST_DEPTH) ks g.roots.required)
    (ap (λ (ms : List Member). map (λ (k : Member). k.kind) ms) (one_required shape.required m members tag) ∙ ap (λ (k : TypeRef). k ∷ []) kind) typed.roots.required)
