-- An input that counts itself is the encapsulation of what stands behind its version.
use Rattle.std.proofs.Common.{◌≡◌, ℕ, ℤ, pos, ◌+◌, ◌≤◌, List, ◌∷◌, ◌++◌, length, drop, get_or, Ok, sym, ap, ◌∙◌, subst, arith, of_z}
use Rattle.std.specs.Int.{w32, to_le_bytes}
use Rattle.std.proofs.lemmas.List.{length-drop, drop_more, drop_at}
use Rattle.ice_prims.specs.Bytes.{signed_bytes}
use Rattle.ice_prims.specs.Number.{signed_at}
use Rattle.ice_prims.specs.Rest.{Rest, IsBytes, whole}
use Rattle.ice_prims.proofs.Spelled.{int_exact}
use Rattle.ice_prims.proofs.Parts.{IsBytes-front}
use Rattle.ice_encoding.specs.Opening.{encapsulated_bytes}

-- the size that was read is the first four bytes
pub size_front : (input : List ℕ) (size : ℤ) (end : Rest) → IsBytes input → signed_at w32 (whole input) ≡ Ok (size, end) → (front : List ℕ) × (input ≡ front ++ end.bytes) × (front ≡ signed_bytes w32 size)
size_front input size end fits e =
    let f = int_exact.found (whole input) (size, end) fits e in
    let all : IsBytes (f.0 ++ end.bytes) = subst IsBytes f.1.parts fits in
    (f.0, f.1.parts, int_exact.once f.0 size (IsBytes-front f.0 end.bytes all) f.2)

two_more : (input : List ℕ) → 6 ≤ length input → get_or input 4 0 ≡ 1 → get_or input 5 0 ≡ 1 → drop 4 input ≡ 1 ∷ 1 ∷ drop 6 input
two_more input long one other =
    drop_more input 4 0 (omega (arith, long)) ∙ ap (λ (l : List ℕ). get_or input 4 0 ∷ l) (drop_more input 5 0 (omega (arith, long)))
    ∙ ap (λ (b : ℕ). b ∷ get_or input 5 0 ∷ drop 6 input) one ∙ ap (λ (b : ℕ). 1 ∷ b ∷ drop 6 input) other

pub encapsulated : (input : List ℕ) (size : ℤ) (end : Rest) → IsBytes input → 6 ≤ length input → get_or input 4 0 ≡ 1 → get_or input 5 0 ≡ 1 → signed_at w32 (whole input) ≡ Ok (size, end)
    → of_z w32 size ≡ length input → input ≡ encapsulated_bytes (drop 6 input)
encapsulated input size end fits long one other e is =
    let f = size_front input size end fits e in
    let four : length f.0 ≡ 4 = ap length f.2 in
    let behind : drop 4 input ≡ end.bytes = ap (drop 4) f.1 ∙ drop_at f.0 end.bytes 4 four in
    let count : length input ≡ 6 + length (drop 6 input) = omega (arith, length-drop 6 input, long) in
    f.1 ∙ ap (λ (l : List ℕ). l ++ end.bytes) (f.2 ∙ ap (to_le_bytes w32) (is ∙ count)) ∙ ap (λ (l : List ℕ). signed_bytes w32 (pos (6 + length (drop 6 input))) ++ l) (sym behind ∙ two_more input long one other)
