-- What a schema keeps of an interface and of an operation that it finds by name.
use Rattle.std.proofs.Common.{◌≡◌, ◌≤◌, ◌<◌, ◌≢◌, ℕ, suc, Bool, true, false, cond, List, [], ◌∷◌, ◌++◌, Option, Some, None, refl, sym, ap, subst, ◌∙◌, append_assoc, arith}
use Rattle.std.specs.Prelude.{All, find, slice_get, bytes_eq}
use Rattle.std.specs.List.{flat_map}
use Rattle.std.specs.Option.{is_none, is_some}
use Rattle.std.proofs.lemmas.List.{map-append}
use Rattle.std.proofs.lemmas.List.Elements.{All-nil, All-cons, All-head, All-tail, All-append, All-weaker}
use Rattle.ice_types.specs.declared.declarations.Member.{Member}
use Rattle.ice_types.specs.declared.declarations.InterfaceDecl.{InterfaceDecl}
use Rattle.ice_types.specs.declared.declarations.OpDecl.{OpDecl}
use Rattle.ice_types.specs.declared.declarations.Shape.{Shape}
use Rattle.ice_types.specs.declared.schema.TheConstants.{MOST_NUMBER}
use Rattle.ice_types.specs.Tables.{Tables}
use Rattle.ice_types.specs.Rules.{IsSchema}
use Rattle.ice_types.specs.Names.{AreNew}
use Rattle.ice_types.specs.Fits.{names_of, tags_of, AreRequired, AreRising, DifferFrom, ShapeFits, OpFits}
use Rattle.ice_types.specs.Inherited.{ops_in, bases_by_path, operations, first_named}
use Rattle.value_parts.specs.Shapes.{without_tag, with_tag, told_apart}
use Rattle.graph_json.specs.Contents.{HasOwnNames}
use Rattle.call_command.specs.Operations.{Operation, IsDeclared}

-- ---- the first that is found

found_step : {X : Type 0} (P : X → Type 0) (x y : X) (o : Option X) → P y → (o ≡ Some x → P x) → (b : Bool) → cond b (Some y) o ≡ Some x → P x
found_step P x y o here more true e = let same : y ≡ x = cc in subst P same here
found_step P x y o here more false e = more e

found : {X : Type 0} (P : X → Type 0) (test : X → Bool) (xs : List X) (x : X) → All P xs → find test xs ≡ Some x → P x
found P test [] x all e = absurd cc
found P test (y ∷ ys) x all e = found_step P x y (find test ys) (All-head P y ys all) (found P test ys x (All-tail P y ys all)) (test y) e

all_flat : {X A : Type 0} (P : A → Type 0) (f : X → List A) → ((x : X) → All P (f x)) → (xs : List X) → All P (flat_map f xs)
all_flat P f each [] = All-nil P
all_flat P f each (x ∷ xs) = All-append P (f x) (flat_map f xs) (each x) (all_flat P f each xs)

module _ (t : Tables) (rules : IsSchema t) where
  ops_by_row : (at : ℕ) (o : Option InterfaceDecl) → slice_get t.interfaces at ≡ o → All (OpFits t) (elim o [ None ↦ [] | Some i ↦ i.ops ])
  ops_by_row at None e = All-nil (OpFits t)
  ops_by_row at (Some i) e = (rules.interfaces at i e).1

  ops_fit : (at : ℕ) → All (OpFits t) (ops_in t.interfaces at)
  ops_fit at = ops_by_row at (slice_get t.interfaces at) refl

  pub op_fits : (at : ℕ) (name : List ℕ) (op : OpDecl) → first_named name (operations t.interfaces at) ≡ Some op → OpFits t op
  op_fits at name op e =
      let own = ops_fit at in
      let inherited = all_flat (OpFits t) (ops_in t.interfaces) ops_fit (bases_by_path t.interfaces at) in
      found (OpFits t) (λ o. bytes_eq o.name name) (operations t.interfaces at) op
      (All-append (OpFits t) (ops_in t.interfaces at) (flat_map (ops_in t.interfaces) (bases_by_path t.interfaces at)) own inherited) e

-- ---- its shapes

no_tags : (ms : List Member) → AreRequired ms → without_tag ms ≡ ms
no_tags [] all = refl
no_tags (m ∷ ms) all =
    ap (λ (o : Option ℕ). cond (is_none o) (m ∷ without_tag ms) (without_tag ms)) (All-head (λ x. x.tag ≡ None) m ms all)
    ∙ ap (λ (l : List Member). m ∷ l) (no_tags ms (All-tail (λ x. x.tag ≡ None) m ms all))

all_tags : (least : ℕ) (ms : List Member) → AreRising least ms → with_tag ms ≡ ms
all_tags least [] rising = refl
all_tags least (m ∷ ms) (tag, is, from, most, rest) =
    ap (λ (o : Option ℕ). cond (is_some o) (m ∷ with_tag ms) (with_tag ms)) is ∙ ap (λ (l : List Member). m ∷ l) (all_tags (suc tag) ms rest)

-- those without a tag are the required ones, and those with one the optional ones
pub whole_shape : (t : Tables) (s : Shape) → ShapeFits t s → told_apart s ≡ s
whole_shape t s fits = λ i. record { required = no_tags s.required fits.1 i; optional = all_tags 0 s.optional fits.3 i }

-- ---- its names and tags

front_new : (before xs ys : List (List ℕ)) → AreNew before (xs ++ ys) → AreNew before xs
front_new before [] ys h = tt
front_new before (x ∷ xs) ys h = (h.0, front_new (x ∷ before) xs ys h.1)

tags_some : (m : Member) (ms : List Member) (k : ℕ) → m.tag ≡ Some k → tags_of (m ∷ ms) ≡ k ∷ tags_of ms
tags_some m ms k is = rw is refl

rising_tags : (least : ℕ) (before : List ℕ) (ms : List Member) → AreRising least ms → All (λ other. other < least) before
    → All (λ n. n ≤ MOST_NUMBER) (tags_of ms) × DifferFrom before (tags_of ms)
rising_tags least before [] rising below = (All-nil (λ n. n ≤ MOST_NUMBER), tt)
rising_tags least before (m ∷ ms) (tag, is, from, most, rest) below =
    let under : All (λ other. other < suc tag) (tag ∷ before) =
    All-cons (λ other. other < suc tag) tag before (omega arith) (All-weaker (λ other. other < least) (λ other. other < suc tag) (λ other lt. omega (arith, lt, from)) before below) in
    let more = rising_tags (suc tag) (tag ∷ before) ms rest under in
    let apart : All (λ other. other ≢ tag) before = All-weaker (λ other. other < least) (λ other. other ≢ tag) (λ other lt same. omega (arith, lt, from, same)) before below in
    subst (λ (ns : List ℕ). All (λ n. n ≤ MOST_NUMBER) ns × DifferFrom before ns) (sym (tags_some m ms tag is)) (All-cons (λ n. n ≤ MOST_NUMBER) tag (tags_of ms) most more.0, (apart, more.1))

own_names : (t : Tables) (op : OpDecl) → OpFits t op → HasOwnNames op.arguments
own_names t op fits =
    let a = op.arguments in
    let r = op.results.required ++ op.results.optional in
    let joined : a.required ++ (a.optional ++ r) ≡ (a.required ++ a.optional) ++ r = sym (append_assoc a.required a.optional r) in
    let parts : names_of (a.required ++ (a.optional ++ r)) ≡ names_of (a.required ++ a.optional) ++ names_of r = ap names_of joined ∙ map-append (λ (m : Member). m.name) (a.required ++ a.optional) r in
    record {
      names = front_new [] (names_of (a.required ++ a.optional)) (names_of r) (subst (AreNew []) parts fits.2);
      tags = rising_tags 0 [] a.optional fits.0.3 (All-nil (λ other. other < 0));
    }

pub declared : (o : Operation) → IsSchema o.tables → OpFits o.tables o.declared → o.mode ≤ 2 → IsDeclared o
declared o rules fits mode = record { arguments = fits.0; results = fits.1; names = own_names o.tables o.declared fits; mode = mode }

-- the members that are handed over are those of the shape
pub asked_shape : (t : Tables) (s : Shape) (required optional : List Member) → ShapeFits t s → required ≡ s.required → optional ≡ s.optional → told_apart (record { required = required; optional = optional }) ≡ s
asked_shape t s required optional fits a b = (λ i. told_apart (record { required = a i; optional = b i })) ∙ whole_shape t s fits
