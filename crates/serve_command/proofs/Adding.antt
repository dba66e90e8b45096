-- Adding an object, or a place, that is apart from the others, of which there are few.
use Rattle.std.proofs.Common.{◌≡◌, ◌≤◌, ◌<◌, ◌⊎◌, ℕ, List, [], length, map, take, get_or, refl, sym, ap, ◌∙◌, subst, arith, inl, inr}
use Rattle.std.specs.Prelude.{slice_get, Result, Ok, Err, Some, IfErr, IsOk, OnOk}
use Rattle.std.specs.Ordering.{nat_cmp}
use Rattle.std.specs.Cmp.Lexicographic.{slice_cmp}
use Rattle.std.specs.declared.cmp.Ordering.{Ordering}
use Rattle.ice_types.specs.declared.identity.Identity.{Identity}
use Rattle.ice_types.specs.declared.proxy.Proxy.{Proxy}
use Rattle.ice_types.specs.Tables.{Tables}
use Rattle.ice_proxy.specs.IdentityText.{identity_text}
use Rattle.ice_proxy.specs.Grammar.{proxy_text}
use Rattle.object_adapter.specs.declared.add_fault.AddFault.{AddFault}
use Rattle.object_adapter.specs.declared.add_fault.AddFault.TheVariants as add_faults
use Rattle.object_adapter.specs.declared.keys.TheConstants.{MOST_OBJECTS}
use Rattle.object_adapter.specs.declared.places.TheConstants.{MOST_PLACES}
use Rattle.object_adapter.specs.declared.servant.Servant.{Servant}
use Rattle.object_adapter.specs.Keys.{Key}
use Rattle.object_adapter.specs.Objects.{Objects, no_objects}
use Rattle.object_adapter.specs.Adapters.{Adds, HasKey}
use Rattle.object_adapter.specs.Places.{Known, AddsPlace, IsKnown, no_places}
use Rattle.node_commands.specs.Words.{Word}
use Rattle.serve_command.specs.declared.apart.Named.{Named}
use Rattle.serve_command.specs.declared.apart.Named.TheVariants as names
use Rattle.serve_command.specs.declared.object_words.ObjectWord.{ObjectWord}
use Rattle.serve_command.specs.declared.words.TheConstants.{MOST_WORDS}
use Rattle.serve_command.specs.ObjectWords.{Object, place, adapter, AreApart, named, named_by, object_of}
use Rattle.serve_command.specs.Adapters.{AddsOne, Makes, Puts}
use Rattle.serve_command.specs.Steps.{IsPlaceOf, IsObjectOf}
use Rattle.serve_command.proofs.Walking.{Walks, taken_at, taken_length, mapped_at, mapped_length}
use Rattle.serve_command.proofs.Placing.{all_made, all_length}
use Rattle.serve_command.proofs.Knowing.{all_put, all_put_length}

nothing_there : {A : Type 0} (i : ℕ) (x : A) → slice_get [] i ≡ Some x → ⊥
nothing_there i x e = cc

abbrev no_facet : Identity → Key
no_facet identity = (identity, [])

-- ---- one more of objects, or of places

pub place_starved : {K : Type 0} (cmp : K → K → Ordering) (old new : List (K × Proxy)) (key : K) (p : Proxy) (r : Result (Unit {0}) AddFault) → (IsKnown old key → ⊥) → length old < MOST_PLACES → AddsPlace cmp old (key, p) r new → IfErr r (λ fault. fault ≡ add_faults.Memory)
place_starved cmp old new key p (Ok done) fresh room adds = tt
place_starved cmp old new key p (Err add_faults.Twice) fresh room adds = absurd (fresh adds)
place_starved cmp old new key p (Err add_faults.Full) fresh room adds = absurd (omega (arith, room, adds.1))
place_starved cmp old new key p (Err add_faults.Memory) fresh room adds = refl

-- what follows from having added holds where it was answered that it was
pub where_added : {A E : Type 0} (result : Result A E) (r : Result (Unit {0}) AddFault) (P : Type 0) → OnOk result (IsOk r) → (r ≡ Ok tt → P) → OnOk result P
where_added (Ok x) (Ok done) P was by = by refl
where_added (Ok x) (Err fault) P was by = absurd cc
where_added (Err e) r P was by = tt

-- the servant that was added is of this sort
pub adds_one : (text : Word) (Is : Servant → Type 0) (servant : Servant) (old new : Objects) → Is servant → AddsOne text (λ s. s ≡ servant) old new → AddsOne text Is old new
adds_one text Is servant old new is (i, s, read, same, adds) = (i, s, read, subst Is (sym same) is, adds)

pub ok_adds_one : {E : Type 0} (result : Result (Unit {0}) E) (text : Word) (Is : Servant → Type 0) (servant : Servant) (old new : Objects) → Is servant → OnOk result (AddsOne text (λ s. s ≡ servant) old new) → OnOk result (AddsOne text Is old new)
ok_adds_one (Ok x) text Is servant old new is adds = adds_one text Is servant old new is adds
ok_adds_one (Err e) text Is servant old new is adds = tt

pub puts_adapter : {A E : Type 0} (result : Result A E) (r : Result (Unit {0}) AddFault) (id other : Word) (p : Proxy) (old new : Known) → proxy_text other ≡ Ok p
    → AddsPlace (slice_cmp nat_cmp) old.adapters (id, p) r new.adapters → new ≡ record old { adapters = new.adapters } → OnOk result (IsOk r) → OnOk result (Puts (adapter id other) old new)
puts_adapter result r id other p old new told adds same was =
    where_added result r (Puts (adapter id other) old new) was (λ is. (p, told, subst (λ (z : Result (Unit {0}) AddFault). AddsPlace (slice_cmp nat_cmp) old.adapters (id, p) z new.adapters) is adds, same))

-- the object under the identity and no facet
pub adds_object : {A E : Type 0} (result : Result A E) (r : Result (Unit {0}) AddFault) (text : Word) (i : Identity) (s : Servant) (old new : Objects) → identity_text text ≡ Ok i
    → Adds old (i, []) s r new → OnOk result (IsOk r) → OnOk result (AddsOne text (λ z. z ≡ s) old new)
adds_object result r text i s old new read adds was =
    where_added result r (AddsOne text (λ z. z ≡ s) old new) was (λ is. (i, s, read, refl, subst (λ (z : Result (Unit {0}) AddFault). Adds old (i, []) s z new) is adds))

-- what the word names is not there, so neither is what its text stands for
pub object_fresh : (o : Objects) (w : Object) (text : Word) → named_by w ≡ named names.Object (identity_text text) → ((name : Named) → named_by w ≡ Some name → IsObjectOf o name → ⊥)
    → (i : Identity) → identity_text text ≡ Ok i → HasKey o.keys (i, []) → ⊥
object_fresh o w text by fresh i read has = fresh (names.Object i) (by ∙ ap (named names.Object) read) has

pub place_fresh : (known : Known) (one other : Word) → ((name : Named) → named_by (place one other) ≡ Some name → IsPlaceOf known name → ⊥)
    → (i : Identity) → identity_text one ≡ Ok i → IsKnown known.objects i → ⊥
place_fresh known one other fresh i read has = fresh (names.Place i) (ap (named names.Place) read) has

-- ---- at a word of the loop

module _ (xs : List ObjectWord) (i : ℕ) (d : ObjectWord) (lt : i < length xs) where
  -- its place is not known yet
  pub new_place : (known : Known) → AreApart (map object_of xs) → Walks Puts (map object_of (take i xs)) no_places known → (name : Named) → named_by (object_of (get_or xs i d)) ≡ Some name → IsPlaceOf known name → ⊥
  new_place known apart walk name by has = turn (all_put (map object_of (take i xs)) no_places known name walk has)
    where
      none : (n : Named) → IsPlaceOf no_places n → ⊥
      none (names.Object identity) h = h
      none (names.Place identity) h = nothing_there h.1.0 _ h.1.1
      none (names.Adapter id) h = nothing_there h.1.0 _ h.1.1

      turn : IsPlaceOf no_places name ⊎ ((j : ℕ) × (slice_get (map named_by (map object_of (take i xs))) j ≡ Some (Some name)) × (j < length (map object_of (take i xs)))) → ⊥
      turn (inl h) = none name h
      turn (inr (j, at, before)) =
          apart j i name (omega (arith, before, taken_length object_of xs i)) (taken_at named_by object_of xs i j (Some name) at) (mapped_at named_by object_of xs i d lt ∙ ap (λ z. Some z) by)

  -- there is no object of its name yet
  pub new_object : (t : Tables) (o : Objects) → AreApart (map object_of xs) → Walks (Makes t (map object_of xs)) (map object_of (take i xs)) no_objects o → (name : Named) → named_by (object_of (get_or xs i d)) ≡ Some name → IsObjectOf o name → ⊥
  new_object t o apart walk (names.Object identity) by has = turn (all_made t (map object_of xs) (map object_of (take i xs)) no_objects o (identity, []) walk has)
    where
      turn : HasKey [] (identity, []) ⊎ ((j : ℕ) × (slice_get (map named_by (map object_of (take i xs))) j ≡ Some (Some (names.Object identity))) × (j < length (map object_of (take i xs))) × ((no_facet identity).1 ≡ [])) → ⊥
      turn (inl h) = nothing_there h.0 _ h.1
      turn (inr (j, at, before, none)) =
          apart j i (names.Object identity) (omega (arith, before, taken_length object_of xs i)) (taken_at named_by object_of xs i j (Some (names.Object identity)) at) (mapped_at named_by object_of xs i d lt ∙ ap (λ z. Some z) by)
  new_object t o apart walk (names.Place identity) by has = has
  new_object t o apart walk (names.Adapter id) by has = has

module _ (xs : List ObjectWord) (i : ℕ) (lt : i < length xs) where
  -- there is room for a place
  pub place_room : (known : Known) → length (map object_of xs) ≤ MOST_WORDS → Walks Puts (map object_of (take i xs)) no_places known → (length known.objects < MOST_PLACES) × (length known.adapters < MOST_PLACES)
  place_room known few walk =
      let all = all_put_length (map object_of (take i xs)) no_places known walk in let n = taken_length object_of xs i in let m = mapped_length object_of xs in
      (omega (arith, all.0, n, m, few, lt), omega (arith, all.1, n, m, few, lt))

  -- there is room for an object
  pub object_room : (t : Tables) (o : Objects) → length (map object_of xs) ≤ MOST_WORDS → Walks (Makes t (map object_of xs)) (map object_of (take i xs)) no_objects o → length o.keys < MOST_OBJECTS
  object_room t o few walk =
      let all = all_length t (map object_of xs) (map object_of (take i xs)) no_objects o walk in let n = taken_length object_of xs i in let m = mapped_length object_of xs in
      omega (arith, all, n, m, few, lt)
