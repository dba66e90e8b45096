-- What becomes of the instances that have begun.
use Rattle.std.proofs.Common.{ℕ, zero, suc, ◌≡◌, ◌<◌, ◌≤◌, ◌-◌, true, false, ltb, List, [], ◌∷◌, map, length, length-append, Option, Ok, refl, ap, arith}
use Rattle.std.proofs.lemmas.Bool.{lt-ltb, le-ltb}
use Rattle.ice_prims.specs.declared.fault.Kind.TheVariants.{TooMany}
use Rattle.ice_prims.specs.Rest.{Rest, fault}
use Rattle.ice_prims.specs.Number.{size_at}
use Rattle.ice_encoding.specs.Pausing.{begins}
use Rattle.ice_encoding.specs.Instances.{most_instances}
use Rattle.ice_encoding.specs.References.{State, replaced, inline_at, beginning}

pub map-replaced : {A B : Type 0} (f : A → B) (n : ℕ) (x : A) (xs : List A) → map f (replaced n x xs) ≡ replaced n (f x) (map f xs)
map-replaced f zero x [] = refl
map-replaced f (suc n) x [] = refl
map-replaced f zero x (y ∷ ys) = refl
map-replaced f (suc n) x (y ∷ ys) = ap (λ zs. f y ∷ zs) (map-replaced f n x ys)

-- ---- an instance that begins, where there is room for it

module _ (limit : ℕ) (declared : Option ℕ) (s : State ℕ) (r after : Rest) where
  pub inline-begins : size_at r ≡ Ok (1, after) → length s.instances < limit → inline_at limit declared s r ≡ Ok (begins (length s.instances), beginning r.place declared s, after)
  inline-begins size room = let test : ltb (length s.instances) limit ≡ true = lt-ltb (length s.instances) limit room in rw (size, test) refl

  pub inline-full : size_at r ≡ Ok (1, after) → limit ≤ length s.instances → inline_at limit declared s r ≡ fault r.place TooMany
  inline-full size full = let test : ltb (length s.instances) limit ≡ false = le-ltb (length s.instances) limit full in rw (size, test) refl

pub room-less : (limit count : ℕ) → count < limit → limit - suc count < limit - count
room-less limit count room = omega (arith, room)

pub most_is : most_instances ≡ 100000
unfolding most_instances
most_is = refl

pub begun-length : (place : ℕ) (declared : Option ℕ) (s : State ℕ) → length (beginning place declared s).instances ≡ suc (length s.instances)
begun-length place declared s = omega (arith, length-append s.instances ([] ∷ []))
