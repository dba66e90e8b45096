-- What stands next where a part of a printed text stands, whatever follows that part.
use Rattle.std.proofs.Common.{◌≡◌, ℕ, zero, suc, ◌+◌, ◌-◌, ◌*◌, ◌/◌, ◌%◌, ◌^◌, ◌<◌, Bool, true, false, not, ◌&&◌, List, [], ◌∷◌, ◌++◌, length, Some, refl, ap, arith, eqb, length-append, ℤ, pos, negsuc, codes}
use Rattle.std.specs.Prelude.{slice_index, ◌==◌}
use Rattle.std.specs.List.{list_all}
use Rattle.std.specs.Char.{is_ascii_digit}
use Rattle.std.specs.Fmt.{decimal, signed_decimal}
use Rattle.std.proofs.lemmas.Fmt.{decimal_nonempty}
use Rattle.hex.proofs.HexLemmas.{length-encode_with}
use lib.Signed.{mag}
use Rattle.std.proofs.lemmas.Bool.{and_parts, and_from, agree_below_at}
use Rattle.std.proofs.lemmas.Bool.Decides.{nat_tests}
use Rattle.hex.specs.Hex.{encode_with, encode_lower, lower_digits}
use Rattle.ice_prims.specs.Rest.{IsBytes}
use Rattle.ice_proxy.specs.Words.{is_end, bare, behind, word_length}
use Rattle.ice_proxy.specs.Laws.{EndsWord, IsWord}
use Rattle.ice_proxy.proofs.StandingWords.{texts_stand}
use Rattle.ice_proxy.specs.Numbers.{digits_behind, printed_timeout, printed_version, printed_bytes}
use Rattle.ice_proxy.proofs.ReadBack.{first_digit, digits_read}

-- ---- words without quotes and escapes

-- a byte that neither ends a word nor begins quotes or an escape
abbrev is_plain : ℕ → Bool
is_plain c = not (is_end c) && (not (c == 92) && not (c == 34))

plain_is : (c : ℕ) → is_plain c ≡ true → (is_end c ≡ false) × (behind bare c ≡ Some bare)
plain_is c e = by (is_end c) (c == 92) (c == 34) refl refl refl e
  where
    by : (a b d : Bool) → is_end c ≡ a → eqb c 92 ≡ b → eqb c 34 ≡ d → (not a && (not b && not d)) ≡ true → (is_end c ≡ false) × (behind bare c ≡ Some bare)
    by true b d p q s e = absurd cc
    by false true d p q s e = absurd cc
    by false false true p q s e = absurd cc
    by false false false p q s e = (p, rw (p, q, s) refl)

plain_length : (bytes rest : List ℕ) → list_all is_plain bytes ≡ true → EndsWord rest → word_length bare (bytes ++ rest) ≡ length bytes
plain_length [] [] e ends = refl
plain_length [] (c ∷ cs) e ends = rw (ends, word_length) refl
plain_length (c ∷ cs) rest e ends =
    let parts = and_parts (is_plain c) (list_all is_plain cs) e in
    rw ((plain_is c parts.0).1, word_length) (ap suc (plain_length cs rest parts.1 ends))

pub plain_word : (bytes : List ℕ) → 0 < length bytes → list_all is_plain bytes ≡ true → IsWord bytes
plain_word [] some e = absurd (omega arith)
plain_word (c ∷ cs) some e = record { begins = (plain_is c (and_parts (is_plain c) (list_all is_plain cs) e).0).0; whole = λ rest ends. plain_length (c ∷ cs) rest e ends }

-- ---- digits

digit_plain : (c : ℕ) → is_ascii_digit c ≡ true → is_plain c ≡ true
digit_plain c e = grind (arith, nat_tests)

digits_plain : (value n : ℕ) (ds : List ℕ) → digits_behind value ds ≡ Some n → list_all is_plain ds ≡ true
digits_plain value n [] e = refl
digits_plain value n (d ∷ ds) e =
    let first = first_digit value n d ds e in
    and_from (is_plain d) (list_all is_plain ds) (digit_plain d first.0) (digits_plain (value * 10 + (d - 48)) n ds first.1)

plain-append : (a b : List ℕ) → list_all is_plain a ≡ true → list_all is_plain b ≡ true → list_all is_plain (a ++ b) ≡ true
plain-append [] b p q = q
plain-append (c ∷ a) b p q =
    let parts = and_parts (is_plain c) (list_all is_plain a) p in
    and_from (is_plain c) (list_all is_plain (a ++ b)) parts.0 (plain-append a b parts.1 q)

plain_decimal : (n : ℕ) → n < 2 ^ 64 → list_all is_plain (decimal n) ≡ true
plain_decimal n lt = digits_plain 0 n (decimal n) (digits_read n lt)

pub signed_stands : (z : ℤ) → mag z < 2 ^ 63 → IsWord (signed_decimal z)
signed_stands (pos n) lt = plain_word (decimal n) (decimal_nonempty n (omega arith)) (plain_decimal n (omega arith))
signed_stands (negsuc n) lt = plain_word (45 ∷ decimal (suc n)) (omega arith) (plain_decimal (suc n) (omega arith))

pub timeout_stands : (z : ℤ) → mag z < 2 ^ 63 → IsWord (printed_timeout z)
timeout_stands (pos n) lt = signed_stands (pos n) lt
timeout_stands (negsuc zero) lt = plain_word (codes "infinite") (omega arith) refl
timeout_stands (negsuc (suc n)) lt = signed_stands (negsuc (suc n)) lt

pub version_stands : (v : ℕ × ℕ) → v.0 < 256 → v.1 < 256 → IsWord (printed_version v)
version_stands v major minor = plain_word (printed_version v) (omega (arith, length-append (decimal v.0) (46 ∷ decimal v.1)))
    (plain-append (decimal v.0) (46 ∷ decimal v.1) (plain_decimal v.0 (omega arith)) (plain_decimal v.1 (omega arith)))

-- ---- bytes

hex_plain : (d : ℕ) → d < 16 → is_plain (slice_index lower_digits d) ≡ true
hex_plain d lt = agree_below_at (λ n. is_plain (slice_index lower_digits n)) (λ n. true) 16 d refl lt

encoded_plain : (bytes : List ℕ) → IsBytes bytes → list_all is_plain (encode_lower bytes) ≡ true
unfolding encode_with
encoded_plain [] fit = refl
encoded_plain (c ∷ cs) fit =
    let small : c < 256 = fit 0 in
    let others = encoded_plain cs (λ i. fit (suc i)) in
    let low : is_plain (slice_index lower_digits (c % 16)) ≡ true = hex_plain (c % 16) (omega arith) in
    let high : is_plain (slice_index lower_digits (c / 16)) ≡ true = hex_plain (c / 16) (omega arith) in
    and_from (is_plain (slice_index lower_digits (c / 16))) (list_all is_plain (slice_index lower_digits (c % 16) ∷ encode_lower cs)) high
    (and_from (is_plain (slice_index lower_digits (c % 16))) (list_all is_plain (encode_lower cs)) low others)

pub bytes_stand : (bytes : List ℕ) → IsBytes bytes → IsWord (printed_bytes bytes)
bytes_stand [] fit = texts_stand []
bytes_stand (c ∷ cs) fit = plain_word (encode_lower (c ∷ cs)) (omega (arith, length-encode_with lower_digits (c ∷ cs))) (encoded_plain (c ∷ cs) fit)
