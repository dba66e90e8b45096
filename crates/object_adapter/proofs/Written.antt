-- Results are an encapsulation.
use Rattle.std.proofs.Common.{ℕ, pos, ◌≡◌, ◌<◌, ◌≤◌, ◌+◌, ◌^◌, List, ◌∷◌, ◌++◌, length, refl, sym, subst, arith, length-append}
use Rattle.std.specs.Prelude.{FitsSigned}
use Rattle.std.specs.Int.{w32}
use Rattle.ice_prims.specs.Bytes.{signed_bytes}
use Rattle.ice_prims.specs.Number.{SpellsSigned}
use Rattle.ice_prims.proofs.Spelled.{int_exact}
use Rattle.ice_encoding.specs.Opening.{encapsulated_bytes}
use Rattle.ice_messages.specs.Calls.{IsEncapsulation}
use Rattle.object_adapter.specs.Results.{AreResults}

fits : (n : ℕ) → n < 2 ^ 31 → FitsSigned w32 (pos n)
fits n lt = omega (arith, lt)

-- the size has four bytes
counted : (content claim : List ℕ) → length claim ≡ 4 → length (claim ++ 1 ∷ 1 ∷ content) ≡ 6 + length content
counted content claim four = omega (arith, four, length-append claim (1 ∷ 1 ∷ content))

pub encapsulations : (bytes : List ℕ) → AreResults bytes → IsEncapsulation bytes
encapsulations bytes (content, is, short) =
    let claim = signed_bytes w32 (pos (6 + length content)) in
    let long : length (encapsulated_bytes content) ≡ 6 + length content = counted content claim refl in
    let few : 6 + length content ≤ 1000000 = subst (λ (n : ℕ). n ≤ 1000000) long (subst (λ (b : List ℕ). length b ≤ 1000000) is short) in
    let spelled : SpellsSigned w32 claim (pos (6 + length content)) = int_exact.put (pos (6 + length content)) (fits (6 + length content) (omega (arith, few))) in
    subst IsEncapsulation (sym is)
    (claim, 1 ∷ 1 ∷ content, refl, subst (λ (n : ℕ). SpellsSigned w32 claim (pos n)) (sym long) spelled, omega (arith, long), omega (arith, long, few))

-- what encloses a short content
pub enclosed : (content items : List ℕ) → items ≡ encapsulated_bytes content → 6 + length content ≤ 1000000 → AreResults items
enclosed content items is few =
    let long : length (encapsulated_bytes content) ≡ 6 + length content = counted content (signed_bytes w32 (pos (6 + length content))) refl in
    (content, is, subst (λ (b : List ℕ). length b ≤ 1000000) (sym is) (omega (arith, few, long)))
