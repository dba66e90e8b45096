-- The first part of a graph that is not of its type.
use Rattle.std.proofs.Common.{◌≡◌, ℕ, ◌↔◌, Bool, true, false, IsTrue, subst, sym, ◌∙◌, Option, None, Some, Result, Ok, Err}
use Rattle.std.specs.Prelude.{OnErr}
use Rattle.std.proofs.lemmas.Bool.{false≢true}
use Rattle.ice_types.specs.declared.declarations.Shape.{Shape}
use Rattle.ice_types.specs.Tables.{Tables}
use Rattle.ice_encoding.specs.OptionalMembers.{Members}
use Rattle.ice_encoding.specs.Graph.{Graph}
use Rattle.ice_encoding.specs.TypedGraph.{AreMembers, RefersIn, OfType}
use Rattle.value_checks.specs.First.{IsFine, IsFirstInstance, IsFirstIll, IsPart, ComesBefore, IsWell}

-- what holds anyway holds at a refusal
pub on_err : {T E P : Type 0} (r : Result T E) → P → OnErr r P
on_err (Ok x) p = tt
on_err (Err e) p = p

module _ (t : Tables) (g : Graph) (shape : Shape) where
  none_before : (other : Option ℕ) → IsPart t g shape other → ComesBefore t g shape other None → IsWell t g shape other
  none_before None part before = absurd before
  none_before (Some m) part before = absurd before

  pub roots_first : (AreMembers t (RefersIn t g.instances) shape g.roots → ⊥) → IsFirstIll t g shape None
  roots_first ill = record { part = tt; ill = ill; first = none_before }

  before_it : (n : ℕ) → AreMembers t (RefersIn t g.instances) shape g.roots → ((m : ℕ) → IsPart t g shape (Some m) → ComesBefore t g shape (Some m) (Some n) → IsFine t g m)
      → (other : Option ℕ) → IsPart t g shape other → ComesBefore t g shape other (Some n) → IsWell t g shape other
  before_it n roots others None part before = roots
  before_it n roots others (Some m) part before = others m part before

  pub instance_first : (n : ℕ) → AreMembers t (RefersIn t g.instances) shape g.roots → IsFirstInstance t g (Some n) → IsFirstIll t g shape (Some n)
  instance_first n roots h = record { part = h.0; ill = h.1; first = before_it n roots h.2 }

  well : OfType t shape g → (at : Option ℕ) → IsPart t g shape at → IsWell t g shape at
  well of None part = of.roots
  well of (Some n) part = of.instances n part

  pub ill_not_typed : (at : Option ℕ) → IsFirstIll t g shape at → (Some at ≡ None) ↔ OfType t shape g
  ill_not_typed at h = (λ e. absurd cc, λ of. absurd (h.ill (well of at h.part)))

  pub all_typed : (found : Option (Option ℕ)) → found ≡ None → AreMembers t (RefersIn t g.instances) shape g.roots → IsFirstInstance t g None → (found ≡ None) ↔ OfType t shape g
  all_typed found is roots fine = (λ e. record { roots = roots; instances = fine }, λ of. is)

  -- ---- as the test of the roots tells

  module _ (content : Members) (same : content ≡ g.roots) (tells : Bool) (told : IsTrue tells ↔ AreMembers t (RefersIn t g.instances) shape content) where
    pub not_roots : tells ≡ false → AreMembers t (RefersIn t g.instances) shape g.roots → ⊥
    not_roots is h = false≢true (sym is ∙ told.1 (subst (AreMembers t (RefersIn t g.instances) shape) (sym same) h))

    pub are_roots : tells ≡ true → AreMembers t (RefersIn t g.instances) shape g.roots
    are_roots is = subst (AreMembers t (RefersIn t g.instances) shape) same (told.0 is)
