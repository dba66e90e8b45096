-- The value of zeros as the only argument is of its type, and sound.
use Rattle.std.proofs.Common.{ℕ, ◌≡◌, Bool, true, false, cond, List, [], ◌∷◌, map, Option, None, Some, All, refl, sym, ap, subst, ◌∙◌, arith}
use Rattle.std.specs.Prelude.{slice_get}
use Rattle.std.specs.List.{find, flat_map}
use Rattle.std.proofs.lemmas.List.Elements.{All-append, All-nil, All-tail}
use Rattle.ice_types.specs.declared.kind.TypeRef.{TypeRef}
use Rattle.ice_types.specs.declared.declarations.Member.{Member}
use Rattle.ice_types.specs.declared.declarations.Shape.{Shape}
use Rattle.ice_types.specs.declared.declarations.OpDecl.{OpDecl}
use Rattle.ice_types.specs.declared.declarations.InterfaceDecl.{InterfaceDecl}
use Rattle.ice_types.specs.declared.schema.TheConstants.{MOST_DEPTH}
use Rattle.ice_types.specs.Fits.{IsOf, OpFits, ShapeFits}
use Rattle.ice_types.specs.Inherited.{bases_by_path, first_named, operations, ops_in}
use Rattle.ice_types.specs.Rules.{IsSchema}
use Rattle.ice_types.specs.Tables.{Tables}
use Rattle.ice_encoding.specs.Tree.{none, tree}
use Rattle.ice_encoding.specs.Typed.{EachOf, HasType}
use Rattle.ice_encoding.specs.Instances.{most_instances}
use Rattle.ice_encoding.specs.TypedGraph.{OfType, RefersIn}
use Rattle.value_parts.specs.Shapes.{told_apart}
use Rattle.value_checks.specs.Zeros.{zero_of}
use Rattle.graph_arena.specs.Arena.{IsSound}
use Rattle.graph_arena.specs.Seen.{view_content, view_instance}
use Rattle.graph_arena.specs.View.{view}
use Rattle.graph_arena.specs.declared.value.Value.{Value}
use Rattle.graph_arena.specs.declared.instance.Instance.{Instance}
use Rattle.class_slices.proofs.Sound.{typed-sound}
use Rattle.object_adapter.specs.Deeds.{IsOne}
use Rattle.object_adapter.specs.FirstValue.{zeros}
use Rattle.object_adapter.proofs.Sole.{one_required}

-- what holds of each holds of the one that is found
found_at : {A : Type 0} (P : A → Type 0) (test : A → Bool) (y : A) (ys : List A) (x : A) → P y → (find test ys ≡ Some x → P x) → (b : Bool) → cond b (Some y) (find test ys) ≡ Some x → P x
found_at P test y ys x first behind true e = let same : y ≡ x = cc in subst P same first
found_at P test y ys x first behind false e = behind e

found_one : {A : Type 0} (P : A → Type 0) (test : A → Bool) (xs : List A) (x : A) → All P xs → find test xs ≡ Some x → P x
found_one P test [] x all e = absurd cc
found_one P test (y ∷ ys) x all e = found_at P test y ys x (all 0 y (omega arith)) (found_one P test ys x (All-tail P y ys all)) (test y) e

all_flat : {A B : Type 0} (P : B → Type 0) (f : A → List B) → ((x : A) → All P (f x)) → (xs : List A) → All P (flat_map f xs)
all_flat P f each [] = All-nil P
all_flat P f each (x ∷ xs) = All-append P (f x) (flat_map f xs) (each x) (all_flat P f each xs)

module _ (t : Tables) (rules : IsSchema t) where
  ops_fit : (at : ℕ) → All (OpFits t) (ops_in t.interfaces at)
  ops_fit at = by (slice_get t.interfaces at) refl
    where
      by : (o : Option InterfaceDecl) → slice_get t.interfaces at ≡ o → All (OpFits t) (elim o [ None ↦ [] | Some i ↦ i.ops ])
      by None e = All-nil (OpFits t)
      by (Some i) e = (rules.interfaces at i e).1

  -- the operation that is found fits
  pub op_fits : (interface : ℕ) (name : List ℕ) (op : OpDecl) → first_named name (operations t.interfaces interface) ≡ Some op → OpFits t op
  op_fits interface name op e =
      found_one (OpFits t) _ (operations t.interfaces interface) op
      (All-append (OpFits t) (ops_in t.interfaces interface) (flat_map (ops_in t.interfaces) (bases_by_path t.interfaces interface)) (ops_fit interface) (all_flat (OpFits t) (ops_in t.interfaces) ops_fit (bases_by_path t.interfaces interface)))
      e

  -- the only argument is of a type of the tables
  pub kind_fits : (shape : Shape) (kind : TypeRef) → ShapeFits t shape → IsOne shape kind → IsOf t kind
  kind_fits shape kind fits (m, members, tag, is, alone) =
      let all : All (λ (k : Member). IsOf t k.kind) (m ∷ []) = subst (λ (ms : List Member). All (λ (k : Member). IsOf t k.kind) ms) members fits.0 in
      subst (IsOf t) is (all 0 m (omega arith))

-- one value, and no instances
pub zeros_typed : (t : Tables) (shape : Shape) (kind : TypeRef) → IsOne shape kind → HasType t (RefersIn t []) MOST_DEPTH kind (zero_of t MOST_DEPTH kind) → OfType t (told_apart shape) (zeros t kind)
zeros_typed t shape kind (m, members, tag, is, alone) typed = record {
  roots = record {
    required =
        subst (λ (ks : List TypeRef). EachOf (HasType t (RefersIn t []) MOST_DEPTH) ks (tree (zero_of t MOST_DEPTH kind) none))
        (sym (ap (λ (ms : List Member). map (λ (k : Member). k.kind) ms) (one_required shape.required m members tag) ∙ ap (λ (k : TypeRef). k ∷ []) is))
        (zero_of t MOST_DEPTH kind, none, refl, typed, refl);
    optional = tt;
  };
  instances = λ n lt. absurd (omega (arith, lt));
}

-- an argument of this type, by no name
abbrev unnamed : TypeRef → Shape
unnamed kind = record { required = record { name = []; kind = kind; tag = None } ∷ []; optional = [] }

pub zeros_sound : (t : Tables) (kind : TypeRef) → HasType t (RefersIn t []) MOST_DEPTH kind (zero_of t MOST_DEPTH kind) → IsSound (zeros t kind)
unfolding most_instances
zeros_sound t kind typed = typed-sound t (told_apart (unnamed kind)) (zeros t kind) (zeros_typed t (unnamed kind) kind (record { name = []; kind = kind; tag = None }, refl, refl, refl, refl) typed) (omega arith)

-- the same of values in memory
pub zeros_held : (t : Tables) (kind : TypeRef) (values : List Value) (options : List (ℕ × Value)) (instances : List Instance) (value : Value) → values ≡ value ∷ [] → options ≡ [] → instances ≡ []
    → view value ≡ zero_of t MOST_DEPTH kind → HasType t (RefersIn t []) MOST_DEPTH kind (zero_of t MOST_DEPTH kind)
    → IsSound (record { roots = view_content (record { required = values; optional = options }); instances = map view_instance instances })
zeros_held t kind values options instances value one none-optional none-begun is typed = rw (one, none-optional, none-begun, is) (zeros_sound t kind typed)
