-- Places that are added, and what is known then.
use Rattle.std.proofs.Common.{◌≡◌, ◌≤◌, ◌<◌, ◌+◌, ◌⊎◌, ℕ, suc, List, [], ◌∷◌, length, map, sym, ap, ◌∙◌, subst, arith, inl, inr}
use Rattle.std.specs.Prelude.{slice_get, Some, Ok}
use Rattle.std.specs.Ordering.{nat_cmp}
use Rattle.std.specs.Cmp.Lexicographic.{slice_cmp}
use Rattle.std.specs.declared.cmp.Ordering.{Ordering}
use Rattle.std.proofs.lemmas.List.Edits.{length-insert}
use Rattle.ice_types.specs.declared.identity.Identity.{Identity}
use Rattle.ice_types.specs.declared.proxy.Proxy.{Proxy}
use Rattle.ice_encoding.specs.Proxies.{identity_cmp}
use Rattle.object_adapter.specs.Places.{Known, AddsPlace, IsKnown}
use Rattle.ice_proxy.specs.IdentityText.{identity_text}
use Rattle.serve_command.specs.declared.apart.Named.{Named}
use Rattle.serve_command.specs.declared.apart.Named.TheVariants as names
use Rattle.serve_command.specs.ObjectWords.{Object, store, echo, locator, place, adapter, named, named_by}
use Rattle.serve_command.specs.Adapters.{Puts}
use Rattle.serve_command.specs.Steps.{IsPlaceOf}
use Rattle.serve_command.proofs.Placing.{of_inserted}
use Rattle.serve_command.proofs.Walking.{Walks}

known_added : {K : Type 0} (cmp : K → K → Ordering) (old new : List (K × Proxy)) (key k : K) (p : Proxy) → AddsPlace cmp old (key, p) (Ok tt) new → IsKnown new k → (k ≡ key) ⊎ IsKnown old k
known_added {K = K} cmp old new key k p (fresh, room, at, gap, is) (q, has) = turn (of_inserted old at (key, p) (k, q) has.0 gap.within (sym (ap (λ z. slice_get z has.0) is) ∙ has.1))
  where
    turn : ◌≡◌ {A = K × Proxy} (k, q) (key, p) ⊎ ((j : ℕ) × (slice_get old j ≡ Some (k, q))) → (k ≡ key) ⊎ IsKnown old k
    turn (inl e) = inl (ap (λ (z : K × Proxy). z.0) e)
    turn (inr f) = inr (q, f)

length_known : {K : Type 0} (cmp : K → K → Ordering) (old new : List (K × Proxy)) (key : K) (p : Proxy) → AddsPlace cmp old (key, p) (Ok tt) new → length new ≡ length old + 1
length_known cmp old new key p (fresh, room, at, gap, is) = ap (λ z. length z) is ∙ length-insert old at (key, p) gap.within

-- with the same places of objects, and of adapters
same_objects : (old new : Known) (identity : Identity) → new.objects ≡ old.objects → IsKnown new.objects identity → IsKnown old.objects identity
same_objects old new identity e h = subst (λ z. IsKnown z identity) e h

same_adapters : (old new : Known) (id : List ℕ) → new.adapters ≡ old.adapters → IsKnown new.adapters id → IsKnown old.adapters id
same_adapters old new id e h = subst (λ z. IsKnown z id) e h

-- a place more: it was known, or the word names it
pub put : (o : Object) (old new : Known) (n : Named) → Puts o old new → IsPlaceOf new n → IsPlaceOf old n ⊎ (named_by o ≡ Some n)
put o old new (names.Object identity) puts h = absurd h
put (store i k) old new (names.Place identity) is h = inl (same_objects old new identity (ap (λ (z : Known). z.objects) is) h)
put (echo i k) old new (names.Place identity) is h = inl (same_objects old new identity (ap (λ (z : Known). z.objects) is) h)
put (locator i) old new (names.Place identity) is h = inl (same_objects old new identity (ap (λ (z : Known). z.objects) is) h)
put (place i p) old new (names.Place identity) (j, q, read, of, adds, is) h = turn (known_added identity_cmp old.objects new.objects j identity q adds h)
  where
    turn : (identity ≡ j) ⊎ IsKnown old.objects identity → IsKnown old.objects identity ⊎ (named names.Place (identity_text i) ≡ Some (names.Place identity))
    turn (inl e) = inr (ap (named names.Place) read ∙ ap (λ (z : Identity). Some (names.Place z)) (sym e))
    turn (inr k) = inl k
put (adapter i p) old new (names.Place identity) (q, of, adds, is) h = inl (same_objects old new identity (ap (λ (z : Known). z.objects) is) h)
put (store i k) old new (names.Adapter id) is h = inl (same_adapters old new id (ap (λ (z : Known). z.adapters) is) h)
put (echo i k) old new (names.Adapter id) is h = inl (same_adapters old new id (ap (λ (z : Known). z.adapters) is) h)
put (locator i) old new (names.Adapter id) is h = inl (same_adapters old new id (ap (λ (z : Known). z.adapters) is) h)
put (place i p) old new (names.Adapter id) (j, q, read, of, adds, is) h = inl (same_adapters old new id (ap (λ (z : Known). z.adapters) is) h)
put (adapter i p) old new (names.Adapter id) (q, of, adds, is) h = turn (known_added (slice_cmp nat_cmp) old.adapters new.adapters i id q adds h)
  where
    turn : (id ≡ i) ⊎ IsKnown old.adapters id → IsKnown old.adapters id ⊎ (Some (names.Adapter i) ≡ Some (names.Adapter id))
    turn (inl e) = inr (ap (λ (z : List ℕ). Some (names.Adapter z)) (sym e))
    turn (inr k) = inl k

-- the places, word by word
abbrev pub PutAll : List Object → Known → Known → Type 0
PutAll os old new = Walks Puts os old new

-- each place has its name of a word
pub all_put : (os : List Object) (old new : Known) (n : Named) → PutAll os old new → IsPlaceOf new n → IsPlaceOf old n ⊎ ((j : ℕ) × (slice_get (map named_by os) j ≡ Some (Some n)) × (j < length os))
all_put [] old new n is h = inl (subst (λ (z : Known). IsPlaceOf z n) is h)
all_put (o ∷ os) old new n (mid, one, rest) h = turn (all_put os mid new n rest h)
  where
    here : IsPlaceOf old n ⊎ (named_by o ≡ Some n) → IsPlaceOf old n ⊎ ((j : ℕ) × (slice_get (map named_by (o ∷ os)) j ≡ Some (Some n)) × (j < length (o ∷ os)))
    here (inl k) = inl k
    here (inr e) = inr (0, ap (λ z. Some z) e, omega arith)

    turn : IsPlaceOf mid n ⊎ ((j : ℕ) × (slice_get (map named_by os) j ≡ Some (Some n)) × (j < length os)) → IsPlaceOf old n ⊎ ((j : ℕ) × (slice_get (map named_by (o ∷ os)) j ≡ Some (Some n)) × (j < length (o ∷ os)))
    turn (inl k) = here (put o old mid n one k)
    turn (inr f) = inr (suc f.0, f.1, omega (arith, f.2))

put_length : (o : Object) (old new : Known) → Puts o old new → (length new.objects ≤ length old.objects + 1) × (length new.adapters ≤ length old.adapters + 1)
put_length (store i k) old new is = let e = ap (λ (z : Known). length z.objects) is in let f = ap (λ (z : Known). length z.adapters) is in (omega (arith, e), omega (arith, f))
put_length (echo i k) old new is = let e = ap (λ (z : Known). length z.objects) is in let f = ap (λ (z : Known). length z.adapters) is in (omega (arith, e), omega (arith, f))
put_length (locator i) old new is = let e = ap (λ (z : Known). length z.objects) is in let f = ap (λ (z : Known). length z.adapters) is in (omega (arith, e), omega (arith, f))
put_length (place i p) old new (j, q, read, of, adds, is) = let e = length_known identity_cmp old.objects new.objects j q adds in let f = ap (λ (z : Known). length z.adapters) is in (omega (arith, e), omega (arith, f))
put_length (adapter i p) old new (q, of, adds, is) = let e = ap (λ (z : Known). length z.objects) is in let f = length_known (slice_cmp nat_cmp) old.adapters new.adapters i q adds in (omega (arith, e), omega (arith, f))

pub all_put_length : (os : List Object) (old new : Known) → PutAll os old new → (length new.objects ≤ length old.objects + length os) × (length new.adapters ≤ length old.adapters + length os)
all_put_length [] old new is = let e = ap (λ (z : Known). length z.objects) is in let f = ap (λ (z : Known). length z.adapters) is in (omega (arith, e), omega (arith, f))
all_put_length (o ∷ os) old new (mid, one, rest) =
    let a = put_length o old mid one in let b = all_put_length os mid new rest in (omega (arith, a.0, b.0), omega (arith, a.1, b.1))
