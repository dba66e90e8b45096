-- What stands at the front of bytes, and what is passed over with it.
use Rattle.std.proofs.Common.{◌≡◌, ℕ, ℤ, pos, negsuc, ◌≤ℤ◌, ◌+◌, ◌-◌, ◌<◌, ◌≤◌, List, [], ◌∷◌, get_or, length, take, drop, Ok, FitsSigned, to_z, of_z, refl, sym, ap, ◌∙◌, subst, arith}
use Rattle.std.proofs.Math.IntN.{nat_abs}
use Rattle.std.proofs.lemmas.Int.{ints, to_z-of_z}
use Rattle.std.specs.Int.{w32}
use Rattle.std.proofs.lemmas.List.{drop_more, length-append, length-drop, length-take-le}
use Rattle.ice_types.specs.Tables.{Tables}
use Rattle.ice_prims.specs.Bytes.{signed_bytes, text_bytes}
use Rattle.ice_prims.specs.Laws.{IsTextSize}
use Rattle.ice_prims.specs.Number.{SpellsSigned, SpellsText, signed_at, text_at}
use Rattle.ice_prims.specs.Rest.{Rest, IsBytes, whole}
use Rattle.ice_prims.proofs.Spelled.{int_exact, text_exact}
use Rattle.ice_encoding.specs.Skipping.{count}
use Rattle.canonical_values.specs.Fronts.{IsFront}
use Rattle.canonical_values.specs.Frames.{Passes}
use Rattle.canonical_values.proofs.Fronts.{front_found, rest_fits}
use Rattle.canonical_values.proofs.Joined.{passes_front}

-- an int that is not negative
pub count_found : (bytes : List ℕ) (z : ℤ) (end : Rest) → IsBytes bytes → signed_at w32 (whole bytes) ≡ Ok (z, end) → pos 0 ≤ℤ to_z w32 (of_z w32 z) → take 4 bytes ≡ count.put (nat_abs (to_z w32 (of_z w32 z)))
count_found bytes z end fits e least =
    let k = length bytes - length end.bytes in
    let f = front_found (signed_at w32) (SpellsSigned w32) (FitsSigned w32) (signed_bytes w32) int_exact bytes z end fits e in
    let four : k ≡ 4 = sym (length-take-le k bytes f.0) ∙ ap length f.2 in
    let is : z ≡ pos (nat_abs (to_z w32 (of_z w32 z))) = sym (to_z-of_z w32 z f.1) ∙ absolute (to_z w32 (of_z w32 z)) least in
    subst (λ (m : ℕ). take m bytes ≡ signed_bytes w32 z) four f.2 ∙ ap (signed_bytes w32) is
  where
    absolute : (y : ℤ) → pos 0 ≤ℤ y → y ≡ pos (nat_abs y)
    absolute (pos n) le = refl
    absolute (negsuc n) le = absurd (omega (arith, ints))

-- what stands in front is passed over
pub front_passes : {A : Type 0} (t : Tables) (input : List ℕ) (at n : ℕ) (Is : A → Type 0) (put : A → List ℕ) (x : A) → at ≤ length input → IsFront Is put (drop at input) x n → Passes t input at (at + n) (put x)
front_passes t input at n Is put x le (few, sort, is) = subst (λ (l : List ℕ). Passes t input at (at + n) l) is (passes_front t input at n le few)

-- one byte is passed over
pub byte_passes : (t : Tables) (input : List ℕ) (at b : ℕ) → at < length input → b ≡ get_or input at b → Passes t input at (at + 1) (b ∷ [])
byte_passes t input at b lt is = (omega (arith, lt), drop_more input at b lt ∙ ap (λ (x : ℕ). x ∷ drop (at + 1) input) (sym is))

-- what is left behind a text is no more than there was
pub text_rest : (input : List ℕ) (at : ℕ) (s : List ℕ) (end : Rest) → IsBytes input → text_at (whole (drop at input)) ≡ Ok (s, end) → length end.bytes ≤ length input
text_rest input at s end fits e =
    let took = text_exact.found (whole (drop at input)) (s, end) (rest_fits at input fits) e in
    omega (arith, ap length took.1.parts, length-append took.0 end.bytes, length-drop at input)

-- a text is passed over
pub text_passes : (t : Tables) (input : List ℕ) (at : ℕ) (s : List ℕ) (end : Rest) → IsBytes input → at ≤ length input → text_at (whole (drop at input)) ≡ Ok (s, end) → Passes t input at (length input - length end.bytes) (text_bytes s)
text_passes t input at s end fits le e =
    let rest = drop at input in
    let few = rest_fits at input fits in
    let took = text_exact.found (whole rest) (s, end) few e in
    let many : length rest ≡ length took.0 + length end.bytes = ap length took.1.parts ∙ length-append took.0 end.bytes in
    let ends : at + (length rest - length end.bytes) ≡ length input - length end.bytes = omega (arith, many, le, length-drop at input) in
    subst (λ (n : ℕ). Passes t input at n (text_bytes s)) ends (front_passes t input at (length rest - length end.bytes) IsTextSize text_bytes s le (front_found text_at SpellsText IsTextSize text_bytes text_exact rest s end few e))
