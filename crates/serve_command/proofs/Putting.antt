-- Putting the object of a word, by its sort.
use Rattle.std.proofs.Common.{◌≡◌, ℕ, List, [], refl, sym, ap, subst}
use Rattle.std.specs.Prelude.{Result, Ok, Err, Some, OnOk}
use Rattle.ice_types.specs.declared.identity.Identity.{Identity}
use Rattle.ice_types.specs.Tables.{Tables}
use Rattle.ice_proxy.specs.IdentityText.{identity_text}
use Rattle.object_adapter.specs.declared.servant.Servant.{Servant}
use Rattle.object_adapter.specs.Objects.{Objects}
use Rattle.object_adapter.specs.Adapters.{HasKey}
use Rattle.node_commands.specs.Words.{Word}
use Rattle.serve_command.specs.declared.apart.Named.{Named}
use Rattle.serve_command.specs.ObjectWords.{Object, store, echo, locator, named_by}
use Rattle.serve_command.specs.Adapters.{AddsOne, Breaks, IsStoreOf, IsEchoOf, IsLocatorOf, Makes}
use Rattle.serve_command.specs.Steps.{IsInterfaced, IsObjectOf, NamesInterface}
use Rattle.serve_command.proofs.Adding.{object_fresh, ok_adds_one}

module _ (t : Tables) (words : List Object) (w : Object) (text interface : Word) (is : w ≡ store text interface) where
  pub store_names : IsInterfaced t w → NamesInterface t interface
  store_names all = λ none. subst (IsInterfaced t) is all interface (refl, none)

  pub store_reads : ((at : ℕ) → Breaks w at → ⊥) → (at : ℕ) → identity_text text ≡ Err at → ⊥
  store_reads reads at e = reads at (subst (λ (z : Object). Breaks z at) (sym is) e)

  pub store_new : (o : Objects) → ((name : Named) → named_by w ≡ Some name → IsObjectOf o name → ⊥) → (i : Identity) → identity_text text ≡ Ok i → HasKey o.keys (i, []) → ⊥
  store_new o fresh = object_fresh o w text (ap named_by is) fresh

  pub store_made : {E : Type 0} (r : Result (Unit {0}) E) (s : Servant) (old new : Objects) → IsStoreOf t interface s → OnOk r (AddsOne text (λ z. z ≡ s) old new) → OnOk r (Makes t words w old new)
  store_made r s old new made adds = subst (λ (z : Object). OnOk r (Makes t words z old new)) (sym is) (ok_adds_one r text (IsStoreOf t interface) s old new made adds)

module _ (t : Tables) (words : List Object) (w : Object) (text interface : Word) (is : w ≡ echo text interface) where
  pub echo_names : IsInterfaced t w → NamesInterface t interface
  echo_names all = λ none. subst (IsInterfaced t) is all interface (refl, none)

  pub echo_reads : ((at : ℕ) → Breaks w at → ⊥) → (at : ℕ) → identity_text text ≡ Err at → ⊥
  echo_reads reads at e = reads at (subst (λ (z : Object). Breaks z at) (sym is) e)

  pub echo_new : (o : Objects) → ((name : Named) → named_by w ≡ Some name → IsObjectOf o name → ⊥) → (i : Identity) → identity_text text ≡ Ok i → HasKey o.keys (i, []) → ⊥
  echo_new o fresh = object_fresh o w text (ap named_by is) fresh

  pub echo_made : {E : Type 0} (r : Result (Unit {0}) E) (s : Servant) (old new : Objects) → IsEchoOf t interface s → OnOk r (AddsOne text (λ z. z ≡ s) old new) → OnOk r (Makes t words w old new)
  echo_made r s old new made adds = subst (λ (z : Object). OnOk r (Makes t words z old new)) (sym is) (ok_adds_one r text (IsEchoOf t interface) s old new made adds)

module _ (t : Tables) (words : List Object) (w : Object) (text : Word) (is : w ≡ locator text) where
  pub locator_reads : ((at : ℕ) → Breaks w at → ⊥) → (at : ℕ) → identity_text text ≡ Err at → ⊥
  locator_reads reads at e = reads at (subst (λ (z : Object). Breaks z at) (sym is) e)

  pub locator_new : (o : Objects) → ((name : Named) → named_by w ≡ Some name → IsObjectOf o name → ⊥) → (i : Identity) → identity_text text ≡ Ok i → HasKey o.keys (i, []) → ⊥
  locator_new o fresh = object_fresh o w text (ap named_by is) fresh

  pub locator_made : {E : Type 0} (r : Result (Unit {0}) E) (s : Servant) (old new : Objects) → IsLocatorOf words s → OnOk r (AddsOne text (λ z. z ≡ s) old new) → OnOk r (Makes t words w old new)
  locator_made r s old new made adds = subst (λ (z : Object). OnOk r (Makes t words z old new)) (sym is) (ok_adds_one r text (IsLocatorOf words) s old new made adds)
