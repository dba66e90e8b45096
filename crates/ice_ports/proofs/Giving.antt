-- What was given after a read of bytes in memory, and fronts of lists.
use Rattle.std.proofs.Common.{◌≡◌, ℕ, ◌+◌, ◌||◌, Bool, true, false, List, [], ◌++◌, length, min, take, drop, refl, subst, ◌∙◌, append-nil, arith}
use Rattle.std.specs.Prelude.{slice_range}
use Rattle.std.proofs.Math.Seq.{take-append_seam, take-add}
use Rattle.std.proofs.lemmas.Grind.{common_steps}
use Rattle.ice_ports.specs.Talks.{and_then}

pub front_of : (most : ℕ) (bytes : List ℕ) → take (min (length bytes) most) bytes ≡ take most bytes
front_of most bytes = grind (arith, common_steps)

range_is : (bytes : List ℕ) (at n : ℕ) → slice_range bytes at (at + n) ≡ take n (drop at bytes)
range_is bytes at n = grind (arith, common_steps)

or_false : (a : Bool) → (a || false) ≡ a
or_false true = refl
or_false false = refl

pub given_more : (bytes copied rest taken : List ℕ) (at n : ℕ) (was ends now failed : Bool) → copied ≡ slice_range bytes at (at + n) → length copied ≡ n → now ≡ (was || ends)
    → record { given = take (at + n) bytes; taken = taken; ended = now; failed = failed }
    ≡ and_then (record { given = take at bytes; taken = taken; ended = was; failed = failed }) (record { given = take n (copied ++ rest); taken = []; ended = ends; failed = false })
given_more bytes copied rest taken at n was ends now failed is long e =
    let front : take n (copied ++ rest) ≡ take n (drop at bytes) = subst (λ (m : ℕ). take m (copied ++ rest) ≡ copied) long (take-append_seam copied rest) ∙ is ∙ range_is bytes at n in
    rw (front, ← take-add at n bytes, append-nil taken, or_false failed, e) refl
