-- The argument of a locator's operation, and the exception that says that nothing was found.
use Rattle.std.proofs.Common.{ℕ, suc, ◌≡◌, true, List, [], ◌∷◌, ◌<◌, length, map, Option, None, Some, Result, Ok, Err, inl, inr, refl, sym, subst, ap, ◌∙◌, arith}
use Rattle.std.specs.Prelude.{MatchOption, slice_get}
use Rattle.ice_types.specs.declared.proxy.Proxy.{Proxy}
use Rattle.ice_encoding.specs.Proxy.{HasProxySizes}
use Rattle.ice_encoding.specs.Proxy as form
use Rattle.ice_messages.specs.declared.message.Call.{Call}
use Rattle.ice_messages.specs.declared.message.Answer.{Answer}
use Rattle.object_adapter.specs.declared.refusal.Refusal.{Refusal}
use Rattle.object_adapter.specs.declared.refusal.TheConstants.{LONGEST}
use Rattle.object_adapter.specs.declared.refusal.Refusal.TheVariants.{NoOperation, BadMode, BadArguments, TooLong}
use Rattle.object_adapter.specs.declared.refusal.Unanswered.{Unanswered}
use Rattle.object_adapter.specs.declared.refusal.Unanswered.TheVariants.{Refused, Memory}
use Rattle.object_adapter.specs.Admitting.{Comes, IsRefusedLength}
use Rattle.object_adapter.specs.Refusals.{Outcome}
use Rattle.object_adapter.specs.Places.{Known, IsAt}
use Rattle.ice_types.specs.declared.kind.TypeRef.{TypeRef}
use Rattle.ice_types.specs.declared.kind.TypeRef.TheVariants as kinds
use Rattle.ice_types.specs.declared.declarations.Member.{Member}
use Rattle.ice_types.specs.declared.declarations.StructDecl.{StructDecl}
use Rattle.ice_types.specs.declared.identity.Identity.{Identity}
use Rattle.ice_types.specs.Tables.{Tables}
use Rattle.ice_encoding.specs.Tree.{Tree, text, struct, Trees, none, tree}
use Rattle.ice_encoding.specs.Typed.{EachOf, HasType, Refers}
use Rattle.ice_encoding.specs.Exceptions.{UserException, as_class}
use Rattle.ice_encoding.specs.Graph.{Graph}
use Rattle.ice_encoding.specs.TypedGraph.{OfType, RefersIn}
use Rattle.value_parts.specs.Shapes.{told_apart}
use Rattle.class_slices.specs.ExceptionEncoding.{AreUserException, IsFirstIll}
use Rattle.locator_types.specs.Locator.{adapter_not_found, find_object, identity_decl, locator_tables, object_not_found}
use Rattle.object_adapter.specs.declared.seeking.Sought.{Sought}
use Rattle.object_adapter.specs.declared.seeking.Sought.TheVariants.{Object, Adapter}
use Rattle.object_adapter.specs.Arguments.{identity_of, sole_members, text_at}
use Rattle.object_adapter.specs.Locators.{Acts, Gives, GivesProxy, GivesNotFound, IsNamed, IsSought, Overflows, Refuses, not_found, not_found_bytes, sought_shape}

-- ---- an identity

-- as a struct of a name and a category
abbrev pub identity_tree : Identity → Trees
identity_tree i = tree (struct (tree (text i.name) (tree (text i.category) none))) none

texts_there : (t : Tables) (Refer : Refers) (levels : ℕ) (members : Trees) → EachOf (HasType t Refer (suc levels)) (kinds.Text ∷ kinds.Text ∷ []) members
    → members ≡ tree (text (text_at members 0)) (tree (text (text_at members 1)) none)
texts_there t Refer levels members (v, vs, is, (s, valid, few, word), (w, ws, behind, (r, fine, small, second), end)) =
    let whole : members ≡ tree (text s) (tree (text r) none) = rw (is, word, behind, second, end) refl in
    subst (λ (m : Trees). m ≡ tree (text (text_at m 0)) (tree (text (text_at m 1)) none)) (sym whole) refl

from_members : (all members : Trees) → all ≡ tree (struct members) none → members ≡ tree (text (text_at members 0)) (tree (text (text_at members 1)) none) → all ≡ identity_tree (identity_of (sole_members all))
from_members all members is each = subst (λ (a : Trees). a ≡ identity_tree (identity_of (sole_members a))) (sym is) (ap (λ (m : Trees). tree (struct m) none) each)

declared : (d : StructDecl) (e : StructDecl) → Some d ≡ Some e → d ≡ e
declared d e is = cc

members_in : (t : Tables) (Refer : Refers) (levels : ℕ) (decl : StructDecl) (all : Trees) → slice_get t.structs 0 ≡ Some decl → map (λ (m : Member). m.kind) decl.members ≡ kinds.Text ∷ kinds.Text ∷ []
    → EachOf (HasType t Refer (suc (suc levels))) (kinds.Struct 0 ∷ []) all → all ≡ identity_tree (identity_of (sole_members all))
members_in t Refer levels decl all there texts (v, vs, is, (d, has, members, held, each), end) =
    let whole : all ≡ tree (struct members) none = is ∙ (ap (λ (w : Tree). tree w vs) held ∙ ap (tree (struct members)) end) in
    let same : decl ≡ d = declared decl d (sym there ∙ has) in
    let kinds_are : map (λ (m : Member). m.kind) d.members ≡ kinds.Text ∷ kinds.Text ∷ [] = subst (λ (e : StructDecl). map (λ (m : Member). m.kind) e.members ≡ kinds.Text ∷ kinds.Text ∷ []) same texts in
    from_members all members whole (texts_there t Refer levels members (subst (λ (ks : List TypeRef). EachOf (HasType t Refer (suc levels)) ks members) kinds_are each))

pub identity_is_there : (g : Graph) → OfType locator_tables (told_apart find_object.arguments) g → g.roots.required ≡ identity_tree (identity_of (sole_members g.roots.required))
identity_is_there g typed = members_in locator_tables (RefersIn locator_tables g.instances) 98 identity_decl g.roots.required refl refl typed.roots.required

-- one struct is one identity
pub same_identity : (all : Trees) (i j : Identity) → all ≡ identity_tree i → all ≡ identity_tree j → i ≡ j
same_identity all i j one other =
    let both : identity_tree i ≡ identity_tree j = sym one ∙ other in
    let name : i.name ≡ j.name = cc in
    let category : i.category ≡ j.category = cc in
    λ k. record { name = name k; category = category k }

pub same_id : (all : Trees) (i j : List ℕ) → all ≡ tree (text i) none → all ≡ tree (text j) none → i ≡ j
same_id all i j one other = let both : tree (text i) none ≡ tree (text j) none = sym one ∙ other in cc

-- ---- what is found

module _ {B : Type 0} (now : B → Proxy) (k : Known) (g : Graph) (found : Option B) where
  pub sought_object : (i : Identity) → OfType locator_tables (told_apart find_object.arguments) g → i ≡ identity_of (sole_members g.roots.required)
      → MatchOption found ((p : Proxy) → IsAt k.objects i p → ⊥) (λ b. IsAt k.objects i (now b) × HasProxySizes (Some (now b)))
      → MatchOption found ((p : Proxy) → IsSought k Object g p → ⊥) (λ b. IsSought k Object g (now b) × HasProxySizes (Some (now b)))
  sought_object i typed is = by found
    where
      held : g.roots.required ≡ identity_tree i
      held = subst (λ (j : Identity). g.roots.required ≡ identity_tree j) (sym is) (identity_is_there g typed)

      by : (o : Option B) → MatchOption o ((p : Proxy) → IsAt k.objects i p → ⊥) (λ b. IsAt k.objects i (now b) × HasProxySizes (Some (now b)))
          → MatchOption o ((p : Proxy) → IsSought k Object g p → ⊥) (λ b. IsSought k Object g (now b) × HasProxySizes (Some (now b)))
      by None nowhere = λ p sought. nowhere p (subst (λ (j : Identity). IsAt k.objects j p) (same_identity g.roots.required sought.0 i sought.1 held) sought.2)
      by (Some b) at = ((i, held, at.0), at.1)

  pub sought_adapter : (id : List ℕ) → g.roots.required ≡ tree (text id) none
      → MatchOption found ((p : Proxy) → IsAt k.adapters id p → ⊥) (λ b. IsAt k.adapters id (now b) × HasProxySizes (Some (now b)))
      → MatchOption found ((p : Proxy) → IsSought k Adapter g p → ⊥) (λ b. IsSought k Adapter g (now b) × HasProxySizes (Some (now b)))
  sought_adapter id held = by found
    where
      by : (o : Option B) → MatchOption o ((p : Proxy) → IsAt k.adapters id p → ⊥) (λ b. IsAt k.adapters id (now b) × HasProxySizes (Some (now b)))
          → MatchOption o ((p : Proxy) → IsSought k Adapter g p → ⊥) (λ b. IsSought k Adapter g (now b) × HasProxySizes (Some (now b)))
      by None nowhere = λ p sought. nowhere p (subst (λ (j : List ℕ). IsAt k.adapters j p) (same_id g.roots.required sought.0 id sought.1 held) sought.2)
      by (Some b) at = ((id, held, at.0), at.1)

-- what a locator gives to a call that came to these arguments
pub acted : (k : Known) (call : Call) (sought : Sought) (g : Graph) (r : Result Answer Unanswered) → IsNamed call.operation sought → Comes locator_tables true (sought_shape sought) call g
    → Outcome (Gives k sought g) (Overflows k sought g) r → Outcome (Acts k call) (Refuses k call) r
acted k call sought g (Ok answer) named comes gives = (sought, g, named, comes, gives)
acted k call sought g (Err (Refused NoOperation)) named comes (inl (p, is, (e, long))) = absurd cc
acted k call sought g (Err (Refused NoOperation)) named comes (inr (nowhere, e, long)) = absurd cc
acted k call sought g (Err (Refused BadMode)) named comes (inl (p, is, (e, long))) = absurd cc
acted k call sought g (Err (Refused BadMode)) named comes (inr (nowhere, e, long)) = absurd cc
acted k call sought g (Err (Refused (BadArguments fault))) named comes (inl (p, is, (e, long))) = absurd cc
acted k call sought g (Err (Refused (BadArguments fault))) named comes (inr (nowhere, e, long)) = absurd cc
acted k call sought g (Err (Refused TooLong)) named comes long = (sought, g, named, comes, long)
acted k call sought g (Err Memory) named comes tells = tt

-- with the proxy of what is sought
pub given : (k : Known) (sought : Sought) (g : Graph) (p : Proxy) (r : Result Answer Unanswered) → IsSought k sought g p → Outcome (GivesProxy p) (IsRefusedLength (form.proxy.put (Some p))) r
    → Outcome (Gives k sought g) (Overflows k sought g) r
given k sought g p (Ok answer) is gives = inl (p, is, gives)
given k sought g p (Err (Refused refusal)) is long = inl (p, is, long)
given k sought g p (Err Memory) is tells = tt

-- where there is none
pub none_given : (k : Known) (sought : Sought) (g : Graph) (r : Result Answer Unanswered) → ((p : Proxy) → IsSought k sought g p → ⊥)
    → Outcome (GivesNotFound sought) (λ (refusal : Refusal). (refusal ≡ TooLong) × (LONGEST < length (not_found_bytes sought))) r → Outcome (Gives k sought g) (Overflows k sought g) r
none_given k sought g (Ok answer) nowhere gives = inr (nowhere, gives)
none_given k sought g (Err (Refused refusal)) nowhere long = inr (nowhere, long.0, long.1)
none_given k sought g (Err Memory) nowhere tells = tt

-- ---- the exception

of_its_type : (sought : Sought) → AreUserException locator_tables (not_found sought)
of_its_type Object = (((as_class object_not_found, refl, record { required = refl; optional = tt }), refl), (tt, tt))
of_its_type Adapter = (((as_class adapter_not_found, refl, record { required = refl; optional = tt }), refl), (tt, tt))

-- no part of it is not of its type
pub nowhere_ill : (sought : Sought) (x : UserException) (at : Option ℕ) → x ≡ not_found sought → IsFirstIll locator_tables x at → ⊥
nowhere_ill sought x None is ill = ill (subst (AreUserException locator_tables) (sym is) (of_its_type sought))
nowhere_ill sought x (Some n) is ill = omega (arith, ill.1.0, ap (λ (y : UserException). length y.instances) is)
