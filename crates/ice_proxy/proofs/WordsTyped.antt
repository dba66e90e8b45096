-- What is read of a word has its sort: texts are UTF-8, and numbers are in their bounds.
use Rattle.std.proofs.Common.{◌≡◌, ℕ, ℤ, pos, negsuc, ◌<◌, Bool, true, false, List, [], ◌∷◌, Option, None, Some, Result, Ok, Err, refl, ap, subst, arith, codes, ltb}
use Rattle.std.specs.Prelude.{if◌then◌else◌, FitsSigned}
use Rattle.std.specs.Int.{w16, w32}
use Rattle.std.specs.Option.{option_and_then}
use Rattle.std.specs.List.{list_any}
use Rattle.std.specs.Str.{IsUtf8, is_utf8, bytes_eq}
use Rattle.std.proofs.lemmas.Bool.{ltb-true}
use Rattle.std.proofs.lemmas.Str.{IsUtf8-from_is_utf8}
use Rattle.hex.specs.Hex.{decode_of}
use Rattle.hex.specs.declared.error.FromHexError.{FromHexError}
use Rattle.hex.proofs.HexLemmas.{decode_of-ok}
use Rattle.ice_prims.specs.Rest.{IsBytes}
use Rattle.ice_types.specs.declared.identity.Identity.{Identity}
use Rattle.ice_proxy.specs.Escapes.{Letter, letters, unquoted, bytes_of, utf8, utf8_of, text_of, is_plain, parted, with_name, joined, named, identity_of}
use Rattle.ice_proxy.specs.Numbers.{integer, fits, number, timeout, byte_of, at_point, small, version, known, hexadecimal}
use Rattle.ice_proxy.specs.Printed.{IsVersion}

abbrev there : {A : Type 0} → A → Option A
there x = Some x

some_is : {A : Type 0} (x y : A) → there x ≡ there y → x ≡ y
some_is x y e = cc

-- what stands behind a step that gave something
and_then : {A B : Type 0} {C : Type 0} (f : A → Option B) (o : Option A) (y : B) → option_and_then f o ≡ Some y → ((x : A) → o ≡ Some x → f x ≡ Some y → C) → C
and_then f None y e go = absurd cc
and_then f (Some x) y e go = go x refl e

-- a test that passed
passed : {A : Type 0} (b : Bool) (x y : A) → (if b then Some x else None) ≡ Some y → (b ≡ true) × (x ≡ y)
passed true x y e = (refl, some_is x y e)
passed false x y e = absurd cc

-- ---- texts

utf8_typed : (bytes text : List ℕ) → utf8 bytes ≡ Some text → IsUtf8 text
utf8_typed bytes text e =
    let test = passed (is_utf8 bytes) bytes text e in
    subst IsUtf8 test.1 (IsUtf8-from_is_utf8 bytes test.0)

pub text_typed : (bytes text : List ℕ) → text_of bytes ≡ Some text → IsUtf8 text
text_typed bytes text e = and_then utf8_of (option_and_then unquoted (letters bytes)) text e λ ls is last. utf8_typed (bytes_of ls) text last

-- a name, and texts in UTF-8
pub record HasName (i : Identity) : Type 0 where
  pub name : i.name ≡ [] → ⊥
  pub name_text : IsUtf8 i.name
  pub category : IsUtf8 i.category

with_name_typed : (category name : List ℕ) (i : Identity) → IsUtf8 category → IsUtf8 name → with_name category name ≡ Some i → HasName i
with_name_typed category [] i c n e = absurd cc
with_name_typed category (b ∷ bs) i c n e = subst HasName (some_is _ _ e) (record { name = λ none. cc none; name_text = n; category = c })

joined_typed : (category name : List ℕ) (i : Identity) → joined category name ≡ Some i → HasName i
joined_typed category name i e =
    and_then (λ c. option_and_then (with_name c) (utf8 name)) (utf8 category) i e λ c c_is rest.
    and_then (with_name c) (utf8 name) i rest λ n n_is last.
    with_name_typed c n i (utf8_typed category c c_is) (utf8_typed name n n_is) last

named_typed : (p : List Letter × Option (List Letter)) (i : Identity) → named p ≡ Some i → HasName i
named_typed (name, None) i e = joined_typed [] (bytes_of name) i e
named_typed (category, Some name) i e = by (list_any (is_plain 47) name) e
  where
    by : (b : Bool) → (if b then None else joined (bytes_of category) (bytes_of name)) ≡ Some i → HasName i
    by true e = absurd cc
    by false e = joined_typed (bytes_of category) (bytes_of name) i e

pub identity_typed : (bytes : List ℕ) (i : Identity) → identity_of bytes ≡ Some i → HasName i
identity_typed bytes i e = and_then (λ ls. named (parted ls)) (option_and_then unquoted (letters bytes)) i e λ ls is last. named_typed (parted ls) i last

-- ---- numbers

number_fits : (bits : ℕ) (bytes : List ℕ) (z : ℤ) → number bits bytes ≡ Some z → fits bits z ≡ true
number_fits bits bytes z e =
    and_then (λ y. if fits bits y then Some y else None) (integer bytes) z e λ y is last.
    let test = passed (fits bits y) y z last in
    subst (λ (x : ℤ). fits bits x ≡ true) test.1 test.0

fits_short : (z : ℤ) → fits 16 z ≡ true → FitsSigned w16 z
fits_short (pos n) e = let lt = ltb-true n 32768 e in omega (arith, lt)
fits_short (negsuc n) e = let lt = ltb-true n 32768 e in omega (arith, lt)

fits_int : (z : ℤ) → fits 32 z ≡ true → FitsSigned w32 z
fits_int (pos n) e = let lt = ltb-true n 2147483648 e in omega (arith, lt)
fits_int (negsuc n) e = let lt = ltb-true n 2147483648 e in omega (arith, lt)

pub short_typed : (bytes : List ℕ) (z : ℤ) → number 16 bytes ≡ Some z → FitsSigned w16 z
short_typed bytes z e = fits_short z (number_fits 16 bytes z e)

pub int_typed : (bytes : List ℕ) (z : ℤ) → number 32 bytes ≡ Some z → FitsSigned w32 z
int_typed bytes z e = fits_int z (number_fits 32 bytes z e)

pub timeout_typed : (bytes : List ℕ) (z : ℤ) → timeout bytes ≡ Some z → FitsSigned w32 z
timeout_typed bytes z e = by (bytes_eq bytes (codes "infinite")) e
  where
    by : (b : Bool) → (if b then Some (negsuc 0) else number 32 bytes) ≡ Some z → FitsSigned w32 z
    by true e = subst (λ (x : ℤ). FitsSigned w32 x) (some_is _ _ e) (fits_int (negsuc 0) refl)
    by false e = int_typed bytes z e

byte_typed : (z : ℤ) (n : ℕ) → byte_of z ≡ Some n → n < 256
byte_typed (pos k) n e = let test = passed (ltb k 256) k n e in let lt = ltb-true k 256 test.0 in rw (← test.1) lt
byte_typed (negsuc k) n e = absurd cc

small_typed : (bytes : List ℕ) (n : ℕ) → small bytes ≡ Some n → n < 256
small_typed bytes n e = and_then byte_of (integer bytes) n e λ z is last. byte_typed z n last

abbrev version_made : ℕ → ℕ → Option (ℕ × ℕ)
version_made major minor = Some (major, minor)

pub version_typed : (bytes : List ℕ) (v : ℕ × ℕ) → version bytes ≡ Some v → IsVersion v
version_typed bytes v e =
    and_then (λ p. option_and_then (λ major. option_and_then (λ minor. version_made major minor) (small p.1)) (small p.0)) (at_point bytes) v e λ p p_is a.
    and_then (λ major. option_and_then (λ minor. version_made major minor) (small p.1)) (small p.0) v a λ major major_is b.
    and_then (λ minor. version_made major minor) (small p.1) v b λ minor minor_is last.
    subst IsVersion (some_is _ _ last) (small_typed p.0 major major_is, small_typed p.1 minor minor_is)

-- ---- bytes

known_ok : (r : Result (List ℕ) FromHexError) (bytes : List ℕ) → known r ≡ Some bytes → r ≡ Ok bytes
known_ok (Ok x) bytes e = ap Ok (some_is _ _ e)
known_ok (Err d) bytes e = absurd cc

no_bytes : IsBytes []
no_bytes i = omega arith

pub bytes_typed : (word bytes : List ℕ) → hexadecimal word ≡ Some bytes → IsBytes bytes
bytes_typed word bytes e = by (bytes_eq word (34 ∷ 34 ∷ [])) e
  where
    by : (b : Bool) → (if b then Some [] else known (decode_of word)) ≡ Some bytes → IsBytes bytes
    by true e = subst IsBytes (some_is _ _ e) no_bytes
    by false e = (decode_of-ok word bytes (known_ok (decode_of word) bytes e)).3
