-- Objects and places that are added, and what is there then.
use Rattle.std.proofs.Common.{◌≡◌, ◌≤◌, ◌<◌, ◌+◌, ◌⊎◌, ℕ, suc, zero, List, [], ◌∷◌, length, map, refl, sym, ap, ◌∙◌, subst, arith, inl, inr}
use Rattle.std.specs.Prelude.{slice_get, Some, Ok}
use Rattle.std.specs.List.{insert}
use Rattle.ice_types.specs.Tables.{Tables}
use Rattle.object_adapter.specs.declared.servant.Servant.{Servant}
use Rattle.object_adapter.specs.Keys.{Key}
use Rattle.object_adapter.specs.Objects.{Objects}
use Rattle.object_adapter.specs.Adapters.{Adds, HasKey}
use Rattle.ice_proxy.specs.IdentityText.{identity_text}
use Rattle.node_commands.specs.Words.{Word}
use Rattle.serve_command.specs.declared.apart.Named.TheVariants as names
use Rattle.serve_command.specs.ObjectWords.{Object, store, echo, locator, place, adapter, named, named_by}
use Rattle.serve_command.specs.Adapters.{AddsOne, Makes}
use Rattle.serve_command.proofs.Walking.{Walks}
use Rattle.std.proofs.lemmas.List.Edits.{length-insert}

-- what stands in a list with an item more stood there before, or is the item
pub of_inserted : {A : Type 0} (xs : List A) (at : ℕ) (x y : A) (i : ℕ) → at ≤ length xs → slice_get (insert xs at x) i ≡ Some y → (y ≡ x) ⊎ ((j : ℕ) × (slice_get xs j ≡ Some y))
of_inserted xs zero x y zero le e = inl (sym cc)
of_inserted xs zero x y (suc i) le e = inr (i, e)
of_inserted [] (suc at) x y i le e = absurd (omega (arith, le))
of_inserted (z ∷ xs) (suc at) x y zero le e = inr (zero, e)
of_inserted (z ∷ xs) (suc at) x y (suc i) le e = shift (of_inserted xs at x y i (omega (arith, le)) e)
  where
    shift : (y ≡ x) ⊎ ((j : ℕ) × (slice_get xs j ≡ Some y)) → (y ≡ x) ⊎ ((j : ℕ) × (slice_get (z ∷ xs) j ≡ Some y))
    shift (inl e) = inl e
    shift (inr f) = inr (suc f.0, f.1)

-- ---- objects

-- the name that a word gives to an object
abbrev Names : Object → Key → Type 0
Names o k = (named_by o ≡ Some (names.Object k.0)) × (k.1 ≡ [])

-- an object more: its key is new, or stood there
key_added : (old new : Objects) (key k : Key) (s : Servant) → Adds old key s (Ok tt) new → HasKey new.keys k → (k ≡ key) ⊎ HasKey old.keys k
key_added old new key k s (fresh, room, at, gap, is) has =
    of_inserted old.keys at key k has.0 gap.within (sym (ap (λ (o : Objects). slice_get o.keys has.0) is) ∙ has.1)

length_added : (old new : Objects) (key : Key) (s : Servant) → Adds old key s (Ok tt) new → length new.keys ≡ length old.keys + 1
length_added old new key s (fresh, room, at, gap, is) = ap (λ (o : Objects). length o.keys) is ∙ length-insert old.keys at key gap.within

one_added : (identity : Word) (Is : Servant → Type 0) (o : Object) (old new : Objects) (k : Key) → named_by o ≡ named names.Object (identity_text identity) → AddsOne identity Is old new → HasKey new.keys k → HasKey old.keys k ⊎ Names o k
one_added identity Is o old new k by (i, s, read, is, adds) has = turn (key_added old new (i, []) k s adds has)
  where
    turn : (k ≡ (i, [])) ⊎ HasKey old.keys k → HasKey old.keys k ⊎ Names o k
    turn (inl e) = inr (by ∙ (ap (named names.Object) read ∙ ap (λ (z : Key). Some (names.Object z.0)) (sym e)), ap (λ (z : Key). z.1) e)
    turn (inr h) = inl h

made : (t : Tables) (words : List Object) (o : Object) (old new : Objects) (k : Key) → Makes t words o old new → HasKey new.keys k → HasKey old.keys k ⊎ Names o k
made t words (store i n) old new k adds has = one_added i _ (store i n) old new k refl adds has
made t words (echo i n) old new k adds has = one_added i _ (echo i n) old new k refl adds has
made t words (locator i) old new k adds has = one_added i _ (locator i) old new k refl adds has
made t words (place i p) old new k is has = inl (subst (λ (o : Objects). HasKey o.keys k) is has)
made t words (adapter i p) old new k is has = inl (subst (λ (o : Objects). HasKey o.keys k) is has)

made_length : (t : Tables) (words : List Object) (o : Object) (old new : Objects) → Makes t words o old new → length new.keys ≤ length old.keys + 1
made_length t words (store i n) old new (j, s, read, new_one, adds) = omega (arith, length_added old new (j, []) s adds)
made_length t words (echo i n) old new (j, s, read, new_one, adds) = omega (arith, length_added old new (j, []) s adds)
made_length t words (locator i) old new (j, s, read, new_one, adds) = omega (arith, length_added old new (j, []) s adds)
made_length t words (place i p) old new is = let e = ap (λ (o : Objects). length o.keys) is in omega (arith, e)
made_length t words (adapter i p) old new is = let e = ap (λ (o : Objects). length o.keys) is in omega (arith, e)

-- the objects, word by word
abbrev pub MakeAll : Tables → List Object → List Object → Objects → Objects → Type 0
MakeAll t words os old new = Walks (Makes t words) os old new

-- each object has its name of a word
pub all_made : (t : Tables) (words os : List Object) (old new : Objects) (k : Key) → MakeAll t words os old new → HasKey new.keys k
    → HasKey old.keys k ⊎ ((j : ℕ) × (slice_get (map named_by os) j ≡ Some (Some (names.Object k.0))) × (j < length os) × (k.1 ≡ []))
all_made t words [] old new k is has = inl (subst (λ (o : Objects). HasKey o.keys k) is has)
all_made t words (o ∷ os) old new k (mid, one, rest) has = turn (all_made t words os mid new k rest has)
  where
    here : HasKey old.keys k ⊎ Names o k → HasKey old.keys k ⊎ ((j : ℕ) × (slice_get (map named_by (o ∷ os)) j ≡ Some (Some (names.Object k.0))) × (j < length (o ∷ os)) × (k.1 ≡ []))
    here (inl h) = inl h
    here (inr n) = inr (0, ap (λ z. Some z) n.0, omega arith, n.1)

    turn : HasKey mid.keys k ⊎ ((j : ℕ) × (slice_get (map named_by os) j ≡ Some (Some (names.Object k.0))) × (j < length os) × (k.1 ≡ []))
        → HasKey old.keys k ⊎ ((j : ℕ) × (slice_get (map named_by (o ∷ os)) j ≡ Some (Some (names.Object k.0))) × (j < length (o ∷ os)) × (k.1 ≡ []))
    turn (inl h) = here (made t words o old mid k one h)
    turn (inr (j, at, lt, none)) = inr (suc j, at, omega (arith, lt), none)

pub all_length : (t : Tables) (words os : List Object) (old new : Objects) → MakeAll t words os old new → length new.keys ≤ length old.keys + length os
all_length t words [] old new is = let e = ap (λ (o : Objects). length o.keys) is in omega (arith, e)
all_length t words (o ∷ os) old new (mid, one, rest) = omega (arith, made_length t words o old mid one, all_length t words os mid new rest)
