-- Putting the place of a word, by its sort.
use Rattle.std.proofs.Common.{◌≡◌, ◌<◌, ℕ, List, length, sym, ap, subst, ◌∙◌, inl, inr}
use Rattle.std.specs.Prelude.{Result, Ok, Err, Some, IfErr, IsOk, OnOk}
use Rattle.std.specs.Ordering.{nat_cmp}
use Rattle.std.specs.Cmp.Lexicographic.{slice_cmp}
use Rattle.ice_types.specs.declared.identity.Identity.{Identity}
use Rattle.ice_types.specs.declared.proxy.Proxy.{Proxy}
use Rattle.ice_encoding.specs.Proxies.{identity_cmp}
use Rattle.ice_proxy.specs.IdentityText.{identity_text}
use Rattle.ice_proxy.specs.Grammar.{proxy_text}
use Rattle.object_adapter.specs.declared.add_fault.AddFault.{AddFault}
use Rattle.object_adapter.specs.declared.add_fault.AddFault.TheVariants as add_faults
use Rattle.object_adapter.specs.declared.places.TheConstants.{MOST_PLACES}
use Rattle.object_adapter.specs.Places.{Known, AddsPlace}
use Rattle.node_commands.specs.Words.{Word}
use Rattle.serve_command.specs.declared.apart.Named.{Named}
use Rattle.serve_command.specs.declared.apart.Named.TheVariants as names
use Rattle.serve_command.specs.ObjectWords.{Object, place, adapter, named_by}
use Rattle.serve_command.specs.Adapters.{Breaks, Puts}
use Rattle.serve_command.specs.Steps.{IsPlaceOf}
use Rattle.serve_command.proofs.Adding.{place_starved, place_fresh, puts_adapter}

module _ (w : Object) (one other : Word) (is : w ≡ place one other) where
  pub place_first : ((at : ℕ) → Breaks w at → ⊥) → (at : ℕ) → identity_text one ≡ Err at → ⊥
  place_first reads at e = reads at (subst (λ (z : Object). Breaks z at) (sym is) (inl e))

  pub place_second : ((at : ℕ) → Breaks w at → ⊥) → (i : Identity) → identity_text one ≡ Ok i → (at : ℕ) → proxy_text other ≡ Err at → ⊥
  place_second reads i read at e = reads at (subst (λ (z : Object). Breaks z at) (sym is) (inr (i, read, e)))

  pub place_added : (old : Known) (new : List (Identity × Proxy)) (i : Identity) (p : Proxy) (r : Result (Unit {0}) AddFault) → ((name : Named) → named_by w ≡ Some name → IsPlaceOf old name → ⊥)
      → length old.objects < MOST_PLACES → identity_text one ≡ Ok i → AddsPlace identity_cmp old.objects (i, p) r new → IfErr r (λ fault. fault ≡ add_faults.Memory)
  place_added old new i p r fresh room read adds =
      place_starved identity_cmp old.objects new i p r (place_fresh old one other (subst (λ (z : Object). (name : Named) → named_by z ≡ Some name → IsPlaceOf old name → ⊥) is fresh) i read) room adds

module _ (w : Object) (id other : Word) (is : w ≡ adapter id other) where
  pub adapter_reads : ((at : ℕ) → Breaks w at → ⊥) → (at : ℕ) → proxy_text other ≡ Err at → ⊥
  adapter_reads reads at e = reads at (subst (λ (z : Object). Breaks z at) (sym is) e)

  pub adapter_added : (old : Known) (new : List (List ℕ × Proxy)) (n : Word) (p : Proxy) (r : Result (Unit {0}) AddFault) → ((name : Named) → named_by w ≡ Some name → IsPlaceOf old name → ⊥)
      → length old.adapters < MOST_PLACES → n ≡ id → AddsPlace (slice_cmp nat_cmp) old.adapters (n, p) r new → IfErr r (λ fault. fault ≡ add_faults.Memory)
  adapter_added old new n p r fresh room same adds =
      place_starved (slice_cmp nat_cmp) old.adapters new n p r (λ has. fresh (names.Adapter n) (ap named_by is ∙ ap (λ (z : Word). Some (names.Adapter z)) (sym same)) has) room adds

  pub adapter_put : {A E : Type 0} (result : Result A E) (r : Result (Unit {0}) AddFault) (n : Word) (p : Proxy) (old new : Known) → n ≡ id → proxy_text other ≡ Ok p
      → AddsPlace (slice_cmp nat_cmp) old.adapters (n, p) r new.adapters → new ≡ record old { adapters = new.adapters } → OnOk result (IsOk r) → OnOk result (Puts w old new)
  adapter_put result r n p old new named told adds same was =
      subst (λ (z : Object). OnOk result (Puts z old new)) (sym is)
      (puts_adapter result r id other p old new told (subst (λ (z : Word). AddsPlace (slice_cmp nat_cmp) old.adapters (z, p) r new.adapters) named adds) same was)
