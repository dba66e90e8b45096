-- Numbers, versions and bytes are read as they are printed.
use Rattle.std.proofs.Common.{◌≡◌, ℕ, ℤ, pos, negsuc, zero, suc, ◌+◌, ◌-◌, ◌*◌, ◌/◌, ◌%◌, ◌^◌, ◌<◌, Bool, true, false, List, [], ◌∷◌, ◌++◌, length, None, Some, Ok, refl, sym, ◌∙◌, ap, arith, eqb, codes}
use Rattle.std.specs.Prelude.{if◌then◌else◌, FitsSigned}
use Rattle.std.specs.Int.{w16, w32}
use lib.Signed.{mag}
use Rattle.std.specs.Char.{is_ascii_digit}
use Rattle.std.specs.Fmt.{decimal, signed_decimal}
use Rattle.std.specs.Str.{bytes_eq}
use Rattle.std.proofs.lemmas.Bool.{lt-ltb}
use Rattle.std.proofs.lemmas.Bool.Decides.{nat_tests}
use Rattle.std.proofs.lemmas.Fmt.{decimal_by_steps, decimal_nonempty}
use Rattle.std.proofs.lemmas.Slice.Eq.{bytes_eq-Decides}
use Rattle.hex.specs.Hex.{decode_of, encode_lower}
use Rattle.hex.proofs.HexLemmas.{decode_of-encode_lower}
use Rattle.hex.proofs.OnLiterals.{hex_on_literals}
use Rattle.ice_prims.specs.Rest.{IsBytes}
use Rattle.ice_proxy.specs.Numbers.{digits_behind, natural, integer, fits, number, timeout, at_point, small, version, hexadecimal, printed_timeout, printed_version, printed_bytes}

-- ---- decimal digits

-- the first of them, and the others
pub first_digit : (value n c : ℕ) (cs : List ℕ) → digits_behind value (c ∷ cs) ≡ Some n → (is_ascii_digit c ≡ true) × (digits_behind (value * 10 + (c - 48)) cs ≡ Some n)
first_digit value n c cs e = by (is_ascii_digit c) refl e
  where
    by : (b : Bool) → is_ascii_digit c ≡ b → (if b then digits_behind (value * 10 + (c - 48)) cs else None) ≡ Some n → (is_ascii_digit c ≡ true) × (digits_behind (value * 10 + (c - 48)) cs ≡ Some n)
    by true digit e = (digit, e)
    by false other e = absurd cc

last_digit : (value n c : ℕ) (ds : List ℕ) → digits_behind value ds ≡ Some n → digits_behind value (ds ++ c ∷ []) ≡ digits_behind n (c ∷ [])
last_digit value n c [] e = let same : value ≡ n = cc in rw same refl
last_digit value n c (d ∷ ds) e = let first = first_digit value n d ds e in rw first.0 (last_digit (value * 10 + (d - 48)) n c ds first.1)

digit_test : (d : ℕ) → d < 10 → is_ascii_digit (48 + d) ≡ true
digit_test d lt = grind (arith, nat_tests)

one_digit : (value d : ℕ) → d < 10 → digits_behind value ((48 + d) ∷ []) ≡ Some (value * 10 + d)
one_digit value d lt = let same : value * 10 + (48 + d - 48) ≡ value * 10 + d = omega arith in rw (digit_test d lt, same) refl

pub digits_read : (n : ℕ) → n < 2 ^ 64 → digits_behind 0 (decimal n) ≡ Some n
digits_read n lt = decimal_by_steps (λ n ds. digits_behind 0 ds ≡ Some n)
    (λ n small. let same : 0 * 10 + n ≡ n = omega arith in one_digit 0 n small ∙ ap Some same)
    (λ n ds ten read. let same : n / 10 * 10 + n % 10 ≡ n = omega arith in last_digit 0 (n / 10) (48 + n % 10) ds read ∙ one_digit (n / 10) (n % 10) (omega arith) ∙ ap Some same)
    n lt

natural_read : (n : ℕ) → n < 2 ^ 64 → natural (decimal n) ≡ Some n
natural_read n lt = some (decimal n) (decimal_nonempty n lt) ∙ digits_read n lt
  where
    some : (ds : List ℕ) → 0 < length ds → natural ds ≡ digits_behind 0 ds
    some [] h = absurd (omega arith)
    some (d ∷ ds) h = refl

-- ---- numbers with a sign

digit_no_minus : (c : ℕ) → is_ascii_digit c ≡ true → eqb c 45 ≡ false
digit_no_minus c h = grind (arith, nat_tests)

unsigned : (ds : List ℕ) (n : ℕ) → natural ds ≡ Some n → integer ds ≡ Some (pos n)
unsigned [] n e = absurd cc
unsigned (c ∷ cs) n e = rw (digit_no_minus c (first_digit 0 n c cs e).0, e) refl

integer_read : (z : ℤ) → mag z < 2 ^ 63 → integer (signed_decimal z) ≡ Some z
integer_read (pos n) lt = unsigned (decimal n) n (natural_read n (omega arith))
integer_read (negsuc n) lt = rw (natural_read (suc n) (omega arith)) refl

pub number_read : (bits : ℕ) (z : ℤ) → fits bits z ≡ true → mag z < 2 ^ 63 → number bits (signed_decimal z) ≡ Some z
number_read bits z fit lt = rw (integer_read z lt, fit) refl

pub short_read : (z : ℤ) → FitsSigned w16 z → number 16 (signed_decimal z) ≡ Some z
short_read (pos n) fit = number_read 16 (pos n) (lt-ltb n 32768 (omega arith)) (omega arith)
short_read (negsuc n) fit = number_read 16 (negsuc n) (lt-ltb n 32768 (omega arith)) (omega arith)

pub int_read : (z : ℤ) → FitsSigned w32 z → number 32 (signed_decimal z) ≡ Some z
int_read (pos n) fit = number_read 32 (pos n) (lt-ltb n 2147483648 (omega arith)) (omega arith)
int_read (negsuc n) fit = number_read 32 (negsuc n) (lt-ltb n 2147483648 (omega arith)) (omega arith)

-- ---- times

not_equal : (xs ys : List ℕ) → (xs ≡ ys → ⊥) → bytes_eq xs ys ≡ false
not_equal xs ys differ = by (bytes_eq xs ys) refl
  where
    by : (b : Bool) → bytes_eq xs ys ≡ b → b ≡ false
    by true e = absurd (differ ((bytes_eq-Decides xs ys).0 e))
    by false e = refl

pub timeout_read : (z : ℤ) → FitsSigned w32 z → timeout (printed_timeout z) ≡ Some z
timeout_read (pos n) fit =
    let other : decimal n ≡ codes "infinite" → ⊥ = λ e. cc (ap (digits_behind 0) e, digits_read n (omega arith)) in
    rw (not_equal (decimal n) (codes "infinite") other) (int_read (pos n) fit)
timeout_read (negsuc zero) fit = refl
timeout_read (negsuc (suc n)) fit = int_read (negsuc (suc n)) fit

-- ---- versions

small_read : (n : ℕ) → n < 256 → small (decimal n) ≡ Some n
small_read n lt = rw (unsigned (decimal n) n (natural_read n (omega arith)), lt-ltb n 256 lt) refl

digit_no_point : (c : ℕ) → is_ascii_digit c ≡ true → eqb c 46 ≡ false
digit_no_point c h = grind (arith, nat_tests)

point_behind : (value n : ℕ) (ds rest : List ℕ) → digits_behind value ds ≡ Some n → at_point (ds ++ 46 ∷ rest) ≡ Some (ds, rest)
point_behind value n [] rest e = refl
point_behind value n (d ∷ ds) rest e =
    let first = first_digit value n d ds e in
    rw (digit_no_point d first.0, point_behind (value * 10 + (d - 48)) n ds rest first.1) refl

pub version_read : (v : ℕ × ℕ) → v.0 < 256 → v.1 < 256 → version (printed_version v) ≡ Some v
version_read v major minor = rw (point_behind 0 v.0 (decimal v.0) (decimal v.1) (digits_read v.0 (omega arith)), small_read v.0 major, small_read v.1 minor) refl

-- ---- bytes

quotes_are_none : (bytes : List ℕ) → decode_of (34 ∷ 34 ∷ []) ≡ Ok bytes → ⊥
unfolding hex_on_literals
quotes_are_none bytes e = cc

pub bytes_read : (bytes : List ℕ) → IsBytes bytes → hexadecimal (printed_bytes bytes) ≡ Some bytes
bytes_read [] fit = refl
bytes_read (c ∷ cs) fit =
    let decoded = decode_of-encode_lower (c ∷ cs) fit in
    let other : encode_lower (c ∷ cs) ≡ 34 ∷ 34 ∷ [] → ⊥ = λ e. quotes_are_none (c ∷ cs) (sym (ap decode_of e) ∙ decoded) in
    rw (not_equal (encode_lower (c ∷ cs)) (34 ∷ 34 ∷ []) other, decoded) refl
