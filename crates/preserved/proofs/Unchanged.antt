-- The size of a slice has one spelling, and so has what is kept behind it.
use Rattle.std.proofs.Common.{◌≡◌, ℕ, ℤ, pos, negsuc, ◌-◌, Bool, List, ◌++◌, length, Ok, sym, ap, subst, ◌∙◌, arith, leb-true, append_assoc}
use Rattle.std.specs.Prelude.{IsTrue, nat_le}
use Rattle.std.specs.Int.{w32}
use Rattle.ice_prims.specs.Bytes.{signed_bytes}
use Rattle.ice_prims.specs.Rest.{Rest, IsBytes}
use Rattle.ice_prims.proofs.Once.{int_once}
use Rattle.ice_prims.proofs.Parts.{IsBytes-front}
use Rattle.ice_encoding.specs.Skipping.{is_natural, natural_of}
use Rattle.ice_encoding.specs.Slices.{slice_size, unknown_bytes, unknown_at}
use Rattle.ice_encoding.proofs.GraphSizes.{unknown_lawful}
use Rattle.preserved.specs.Unknown.{unknown_part}

-- an int that is not negative, by what it counts
natural_once : (bytes : List ℕ) (n x : ℕ) (z : ℤ) → n ≡ x - 4 → x ≡ natural_of z → IsTrue (is_natural z) → IsTrue (nat_le 4 x) → bytes ≡ signed_bytes w32 z → bytes ≡ slice_size.put n
natural_once bytes n x (pos k) less same natural le once = once ∙ ap (λ (m : ℕ). signed_bytes w32 (pos m)) (omega (arith, less, same, leb-true 4 x le))
natural_once bytes n x (negsuc k) less same natural le once = absurd cc

size_once : (bytes : List ℕ) (n : ℕ) → IsBytes bytes → slice_size.Spells bytes n → bytes ≡ slice_size.put n
size_once bytes n fits h = natural_once bytes n h.0 h.2.0.0 h.1 h.2.0.1 h.2.0.2.1 h.2.1 (int_once bytes h.2.0.0 fits h.2.0.2.0)

pub unchanged : (flagged : Bool) (bytes : List ℕ) (r after : Rest) → IsBytes r.bytes → unknown_at flagged r ≡ Ok (bytes, after) → r.bytes ≡ unknown_part flagged bytes ++ after.bytes
unchanged flagged bytes r after fits e =
    let f = (unknown_lawful flagged).found r (bytes, after) fits e in
    let front = f.2.0 in
    let behind = unknown_bytes flagged bytes in
    let parts : r.bytes ≡ front ++ (behind ++ after.bytes) = f.1.parts ∙ (ap (λ (l : List ℕ). l ++ after.bytes) f.2.1 ∙ append_assoc front behind after.bytes) in
    let once : front ≡ slice_size.put (length behind) = size_once front (length behind) (IsBytes-front front (behind ++ after.bytes) (subst (λ (l : List ℕ). IsBytes l) parts fits)) f.2.2 in
    parts ∙ (ap (λ (l : List ℕ). l ++ (behind ++ after.bytes)) once ∙ sym (append_assoc (slice_size.put (length behind)) behind after.bytes))
