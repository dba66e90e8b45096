-- What each node leads to is met.
use Rattle.std.proofs.Common.{ℕ, ◌≡◌, ◌⊎◌, Option, None, Some, refl, sym, ◌∙◌, ap, subst, inl, inr}
use Rattle.std.specs.Prelude.{slice_get}
use Rattle.std.proofs.lemmas.Option.{same_Some}
use Rattle.ice_types.specs.declared.kind.TypeRef.{TypeRef}
use Rattle.ice_types.specs.declared.declarations.SeqDecl.{SeqDecl}
use Rattle.ice_types.specs.declared.declarations.DictDecl.{DictDecl}
use Rattle.ice_types.specs.declared.declarations.StructDecl.{StructDecl}
use Rattle.ice_types.specs.declared.declarations.ClassDecl.{ClassDecl}
use Rattle.ice_types.specs.Tables.{Tables}
use Rattle.slice_compat.specs.declared.marks.Marks.{Marks}
use Rattle.slice_compat.specs.declared.node.Node.{Node}
use Rattle.slice_compat.specs.declared.node.Node.TheVariants as nodes
use Rattle.slice_compat.specs.Nodes.{node_of, IsNodeOf, AmongMembers, IsBase, IsChild, IsClass, Steps}
use Rattle.slice_compat.specs.Marks.{Spreads}
use Rattle.slice_compat.proofs.Spreading.{nothing_met, both_met, met_as}

some_same : {A : Type 0} (o : Option A) (x y : A) → o ≡ Some x → o ≡ Some y → x ≡ y
some_same o x y e f = same_Some x y (sym e ∙ f)

none_some : {A C : Type 0} (o : Option A) (x : A) → o ≡ None → o ≡ Some x → C
none_some o x e f = let both : None ≡ Some x = sym e ∙ f in absurd cc

-- ---- a type

pub kind_met : (kind : TypeRef) (node : Node) (a b : Marks) → node_of kind ≡ Some node → Spreads (λ n. n ≡ node) a b → Spreads (IsNodeOf kind) a b
kind_met kind node a b is = met_as (λ n. n ≡ node) (IsNodeOf kind) a b
    (λ n same. is ∙ ap Some (sym same))
    (λ n e. some_same (node_of kind) n node e is)

pub no_node : (kind : TypeRef) (m : Marks) → node_of kind ≡ None → Spreads (IsNodeOf kind) m m
no_node kind m none = nothing_met (IsNodeOf kind) m (λ n e. none_some (node_of kind) n none e)

-- ---- a base

pub base_met : (at : ℕ) (a b : Marks) → Spreads (λ n. n ≡ nodes.Class at) a b → Spreads (IsBase (Some at)) a b
base_met at a b = met_as (λ n. n ≡ nodes.Class at) (IsBase (Some at)) a b
    (λ n same. (at, refl, same))
    (λ n h. h.2 ∙ ap nodes.Class (sym (same_Some at h.0 h.1)))

pub no_base : (m : Marks) → Spreads (IsBase None) m m
no_base m = nothing_met (IsBase None) m (λ n h. let e : None ≡ Some h.0 = h.1 in absurd cc)

module _ (t : Tables) where
  -- ---- rows of types

  pub seq_met : (at : ℕ) (q : SeqDecl) (a b : Marks) → slice_get t.seqs at ≡ Some q → Spreads (IsNodeOf q.element) a b → Spreads (Steps t (nodes.Seq at)) a b
  seq_met at q a b row = met_as (IsNodeOf q.element) (Steps t (nodes.Seq at)) a b
      (λ n is. (q, row, is))
      (λ n h. subst (λ (x : SeqDecl). IsNodeOf x.element n) (some_same (slice_get t.seqs at) h.0 q h.1 row) h.2)

  pub no_seq : (at : ℕ) (m : Marks) → slice_get t.seqs at ≡ None → Spreads (Steps t (nodes.Seq at)) m m
  no_seq at m none = nothing_met (Steps t (nodes.Seq at)) m (λ n h. none_some (slice_get t.seqs at) h.0 none h.1)

  pub dict_met : (at : ℕ) (d : DictDecl) (a b : Marks) → slice_get t.dicts at ≡ Some d → Spreads (IsNodeOf d.value) a b → Spreads (Steps t (nodes.Dict at)) a b
  dict_met at d a b row = met_as (IsNodeOf d.value) (Steps t (nodes.Dict at)) a b
      (λ n is. (d, row, is))
      (λ n h. subst (λ (x : DictDecl). IsNodeOf x.value n) (some_same (slice_get t.dicts at) h.0 d h.1 row) h.2)

  pub no_dict : (at : ℕ) (m : Marks) → slice_get t.dicts at ≡ None → Spreads (Steps t (nodes.Dict at)) m m
  no_dict at m none = nothing_met (Steps t (nodes.Dict at)) m (λ n h. none_some (slice_get t.dicts at) h.0 none h.1)

  pub struct_met : (at : ℕ) (d : StructDecl) (a b : Marks) → slice_get t.structs at ≡ Some d → Spreads (AmongMembers d.members) a b → Spreads (Steps t (nodes.Struct at)) a b
  struct_met at d a b row = met_as (AmongMembers d.members) (Steps t (nodes.Struct at)) a b
      (λ n among. (d, row, among))
      (λ n h. subst (λ (x : StructDecl). AmongMembers x.members n) (some_same (slice_get t.structs at) h.0 d h.1 row) h.2)

  pub no_struct : (at : ℕ) (m : Marks) → slice_get t.structs at ≡ None → Spreads (Steps t (nodes.Struct at)) m m
  no_struct at m none = nothing_met (Steps t (nodes.Struct at)) m (λ n h. none_some (slice_get t.structs at) h.0 none h.1)

  -- ---- classes

  pub place_met : (at : ℕ) (a b c : Marks) → Spreads (λ n. n ≡ nodes.Class at) a b → Spreads (IsChild t at) b c → Spreads (Steps t (nodes.Place at)) a c
  place_met at a b c = both_met (λ n. n ≡ nodes.Class at) (IsChild t at) (Steps t (nodes.Place at)) a b c
      (λ n h. h)
      (λ n is. inl is)
      (λ n child. inr child)

  pub anywhere_met : (a b : Marks) → Spreads (IsClass t) a b → Spreads (Steps t nodes.Anywhere) a b
  anywhere_met a b h = h

  either_of : (at : ℕ) (d : ClassDecl) (n : Node) → slice_get t.classes at ≡ Some d → Steps t (nodes.Class at) n → IsBase d.base n ⊎ AmongMembers d.members n
  either_of at d n row (x, its, h) = subst (λ (c : ClassDecl). IsBase c.base n ⊎ AmongMembers c.members n) (some_same (slice_get t.classes at) x d its row) h

  pub class_met : (at : ℕ) (d : ClassDecl) (a b c : Marks) → slice_get t.classes at ≡ Some d → Spreads (IsBase d.base) a b → Spreads (AmongMembers d.members) b c
      → Spreads (Steps t (nodes.Class at)) a c
  class_met at d a b c row = both_met (IsBase d.base) (AmongMembers d.members) (Steps t (nodes.Class at)) a b c
      (λ n h. either_of at d n row h)
      (λ n base. (d, row, inl base))
      (λ n among. (d, row, inr among))

  pub no_class_row : (at : ℕ) (m : Marks) → slice_get t.classes at ≡ None → Spreads (Steps t (nodes.Class at)) m m
  no_class_row at m none = nothing_met (Steps t (nodes.Class at)) m (λ n h. none_some (slice_get t.classes at) h.0 none h.1)
