-- The words of a proxy text that are numbers, versions and bytes.
use Rattle.std.specs.Prelude.{ℕ, ℤ, pos, negsuc, zero, suc, ◌+◌, ◌-◌, ◌*◌, ◌^◌, ◌==◌, Bool, List, [], ◌∷◌, ◌++◌, Option, None, Some, Result, Ok, Err, nat_lt, codes, if◌then◌else◌}
use Rattle.std.specs.Char.{is_ascii_digit}
use Rattle.std.specs.Option.{option_and_then}
use Rattle.std.specs.Fmt.{decimal, signed_decimal}
use Rattle.std.specs.Str.{bytes_eq}
use Rattle.hex.specs.Hex.{decode_of, encode_lower}
use Rattle.hex.specs.declared.error.FromHexError.{FromHexError}

-- ---- read

-- decimal digits behind those that made this number
abbrev pub digits_behind : ℕ → List ℕ → Option ℕ
digits_behind value [] = Some value
digits_behind value (c ∷ cs) = if is_ascii_digit c then digits_behind (value * 10 + (c - 48)) cs else None

-- one digit or more
abbrev pub natural : List ℕ → Option ℕ
natural [] = None
natural (c ∷ cs) = digits_behind 0 (c ∷ cs)

abbrev pub negative : ℕ → ℤ
negative zero = pos 0
negative (suc n) = negsuc n

-- a natural number, which may have `-` before it
abbrev pub integer : List ℕ → Option ℤ
integer [] = None
integer (c ∷ cs) = if c == 45 then option_and_then (λ n. Some (negative n)) (natural cs) else option_and_then (λ n. Some (pos n)) (natural (c ∷ cs))

-- in so many bits, one of them for the sign
abbrev pub fits : ℕ → ℤ → Bool
fits bits (pos n) = nat_lt n (2 ^ (bits - 1))
fits bits (negsuc n) = nat_lt n (2 ^ (bits - 1))

-- the words that are numbers, versions and bytes, and how these are printed
abbrev pub number : ℕ → List ℕ → Option ℤ
number bits bytes = option_and_then (λ z. if fits bits z then Some z else None) (integer bytes)

-- in milliseconds, `infinite` is -1
abbrev pub timeout : List ℕ → Option ℤ
timeout bytes = if bytes_eq bytes (codes "infinite") then Some (negsuc 0) else number 32 bytes

abbrev pub byte_of : ℤ → Option ℕ
byte_of (pos n) = if nat_lt n 256 then Some n else None
byte_of (negsuc n) = None

-- what stands before the first `.`, and behind it
abbrev pub at_point : List ℕ → Option (List ℕ × List ℕ)
at_point [] = None
at_point (c ∷ cs) = if c == 46 then Some ([], cs) else option_and_then (λ p. Some (c ∷ p.0, p.1)) (at_point cs)

abbrev pub small : List ℕ → Option ℕ
small bytes = option_and_then byte_of (integer bytes)

-- a major and a minor number from 0 to 255
abbrev pub version : List ℕ → Option (ℕ × ℕ)
version bytes = option_and_then (λ p. option_and_then (λ major. option_and_then (λ minor. Some (major, minor)) (small p.1)) (small p.0)) (at_point bytes)

abbrev pub known : {A : Type 0} → Result A FromHexError → Option A
known (Ok x) = Some x
known (Err e) = None

-- an even number of hexadecimal digits; none are `""`
abbrev pub hexadecimal : List ℕ → Option (List ℕ)
hexadecimal bytes = if bytes_eq bytes (34 ∷ 34 ∷ []) then Some [] else known (decode_of bytes)

-- ---- printed

abbrev pub printed_timeout : ℤ → List ℕ
printed_timeout (pos n) = decimal n
printed_timeout (negsuc zero) = codes "infinite"
printed_timeout (negsuc (suc n)) = signed_decimal (negsuc (suc n))

abbrev pub printed_version : ℕ × ℕ → List ℕ
printed_version v = decimal v.0 ++ 46 ∷ decimal v.1

abbrev pub printed_bytes : List ℕ → List ℕ
printed_bytes [] = 34 ∷ 34 ∷ []
printed_bytes (c ∷ cs) = encode_lower (c ∷ cs)
