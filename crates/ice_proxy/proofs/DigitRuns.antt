-- Hexadecimal digits, one at a time.
use Rattle.std.proofs.Common.{ℕ, suc, ◌+◌, ◌-◌, ◌*◌, ◌^◌, ◌<◌, ◌≤◌, ◌≡◌, List, ◌∷◌, length, drop, get_or, Option, None, refl, sym, ap, ◌∙◌, arith, add-one, drop-cons}
use Rattle.std.specs.Char.{digit_value}
use Rattle.std.proofs.lemmas.Bool.{lt-ltb, le-ltb}
use Rattle.std.proofs.lemmas.List.{drop_all}
use Rattle.std.proofs.Math.Nat.{pow-suc, pow-le-pow_right}
use Rattle.ice_proxy.specs.Escapes.{digits}

module _ (count value place : ℕ) (bytes : List ℕ) (whole : Option (ℕ × List ℕ)) (less : place < count) (same : digits (count - place) value (drop place bytes) ≡ whole) where
  left : (k : ℕ) × (count - place ≡ suc k)
  left = (count - (place + 1), omega arith)

  -- the bytes end
  pub digits_short : length bytes ≤ place → whole ≡ None
  digits_short le = sym same ∙ rw (left.1, drop_all place bytes le) refl

  module _ (within : place < length bytes) where
    here : drop place bytes ≡ get_or bytes place 0 ∷ drop (place + 1) bytes
    here = rw add-one (drop-cons bytes place 0 within)

    -- a byte that is no digit
    pub digits_broken : (d : ℕ) → d ≡ digit_value (get_or bytes place 0) → 16 ≤ d → whole ≡ None
    digits_broken d is le = sym same ∙ rw (left.1, here, le-ltb (digit_value (get_or bytes place 0)) 16 (omega arith)) refl

    pub digits_on : (d : ℕ) → d ≡ digit_value (get_or bytes place 0) → d < 16 → digits (count - (place + 1)) (value * 16 + d) (drop (place + 1) bytes) ≡ whole
    unfolding left
    digits_on d is lt = sym (rw (left.1, here, lt-ltb (digit_value (get_or bytes place 0)) 16 (omega arith)) (ap (λ (e : ℕ). digits (count - (place + 1)) (value * 16 + e) (drop (place + 1) bytes)) (sym is))) ∙ same

-- what one digit more makes of a value that is so small
pub digit_small : (value digit place : ℕ) → value < 16 ^ place → digit < 16 → value * 16 + digit < 16 ^ (place + 1)
digit_small value digit place small lt = let e : 16 ^ (place + 1) ≡ 16 ^ place * 16 = rw add-one (pow-suc 16 place) in omega arith

pub digit_fits : (value digit place : ℕ) → value < 16 ^ place → digit < 16 → place < 8 → value * 16 + digit < 2 ^ 32
digit_fits value digit place small lt less =
    let most : 16 ^ place ≤ 16 ^ 7 = pow-le-pow_right {n = 16} (omega arith) {i = place} {j = 7} (omega arith) in
    omega arith
