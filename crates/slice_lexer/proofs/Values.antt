-- The value of digits, one at a time.
use Rattle.std.proofs.Common.{ℕ, ◌≡◌, ◌+◌, ◌*◌, ◌<◌, ◌≤◌, List, length, take, get_or, sym, ap, ◌∙◌, arith}
use Rattle.std.specs.Char.{digit_value}
use Rattle.std.specs.Str.Parse.{digits_value}
use Rattle.std.proofs.lemmas.Int.Digits.{digits_value_more}
use Rattle.std.proofs.lemmas.Str.Parse.{digits_value-take-le}

pub value_more : (base value : ℕ) (digits : List ℕ) (at : ℕ) → at < length digits → value ≡ digits_value base (take at digits)
    → digits_value base (take (at + 1) digits) ≡ value * base + digit_value (get_or digits at 0)
value_more base value digits at h e = digits_value_more base digits at h ∙ ap (λ n. n * base + digit_value (get_or digits at 0)) (sym e)

-- what is too much with fewer digits is too much with all
pub too_much : (base value : ℕ) (digits : List ℕ) (at : ℕ) → 1 ≤ base → at < length digits → value ≡ digits_value base (take at digits)
    → 18446744073709551616 ≤ value * base + digit_value (get_or digits at 0) → 18446744073709551616 ≤ digits_value base digits
too_much base value digits at positive h e k =
    let more = value_more base value digits at h e in
    let less = digits_value-take-le base digits (at + 1) positive in
    omega arith
