-- Keys by their bytes: what is found at the front of bytes that begin with a key is the key.
use Rattle.std.proofs.Common.{◌≡◌, ◌<◌, ◌^◌, ℕ, ℤ, Bool, zero, suc, true, false, List, ◌++◌, length, drop, Result, Ok, refl, sym, ap, ◌∙◌, subst, arith, to_z, of_z}
use Rattle.std.specs.Prelude.{FitsSigned, IsTrue, nat_lt, slice_index_or}
use Rattle.std.specs.Int.Signed.{lt_z}
use Rattle.std.proofs.lemmas.Int.{to_z-of_z}
use Rattle.std.proofs.lemmas.List.{take-append-drop}
use Rattle.std.specs.Int.{Width, w16, w32, w64}
use Rattle.std.specs.Ordering.{int_cmp, nat_cmp, bool_cmp}
use Rattle.std.specs.Cmp.Lexicographic.{slice_cmp}
use Rattle.std.specs.declared.cmp.Ordering.TheVariants.{Less}
use Rattle.ice_types.specs.declared.kind.TypeRef.TheVariants as kinds
use Rattle.ice_types.specs.Tables.{Tables}
use Rattle.ice_prims.specs.declared.fault.Fault.{Fault}
use Rattle.ice_prims.specs.Bytes.{bool_bytes, signed_bytes, size_bytes, text_bytes}
use Rattle.ice_prims.specs.Laws.{IsExact, IsTextSize}
use Rattle.ice_prims.specs.Number.{SpellsSigned, SpellsSize, SpellsText, signed_at, size_at, text_at}
use Rattle.ice_prims.specs.Rest.{Rest, Took, whole}
use Rattle.ice_prims.proofs.Spelled.{short_exact, int_exact, long_exact, size_exact, text_exact}
use Rattle.ice_encoding.specs.Tree.{Tree}
use Rattle.ice_encoding.specs.Canonical.{canonical}
use Rattle.canonical_values.specs.Fronts.{IsFront}
use Rattle.canonical_values.specs.Keys.{AreRising}

ok_value : {A : Type 0} (x y : A × Rest) (read : Result (A × Rest) Fault) → read ≡ Ok x → read ≡ Ok y → x.0 ≡ y.0
ok_value {A} x y read e f = let is : x ≡ y = cc in ap (λ (z : A × Rest). z.0) is

module _ {A : Type 0} (read : Rest → Result (A × Rest) Fault) (Spells : List ℕ → A → Type 0) (Is : A → Type 0) (put : A → List ℕ) (exact : IsExact read Spells Is put) where
  -- what is read of bytes that begin with those that are put for something is it
  pub read_back : (bytes rest : List ℕ) (x y : A) (end : Rest) → Is x → bytes ≡ put x ++ rest → read (whole bytes) ≡ Ok (y, end) → y ≡ x
  read_back bytes rest x y end is e found =
      let end' : Rest = record { place = length (put x); bytes = rest } in
      let took : Took (whole bytes) (put x) end' = record { parts = e; moved = omega arith } in
      let again = exact.only (whole bytes) end' (put x) x took (exact.put x is) in
      ok_value (y, end) (x, end') (read (whole bytes)) found again

  -- and so is what is found at their front
  pub found_back : (bytes rest : List ℕ) (x y : A) (n : ℕ) → Is x → bytes ≡ put x ++ rest → IsFront Is put bytes y n → y ≡ x
  found_back bytes rest x y n is e (few, sort, front) =
      let end : Rest = record { place = length (put y); bytes = drop n bytes } in
      let took : Took (whole bytes) (put y) end = record { parts = sym (take-append-drop n bytes) ∙ ap (λ (l : List ℕ). l ++ drop n bytes) front; moved = omega arith } in
      read_back bytes rest x y end is e (exact.only (whole bytes) end (put y) y took (exact.put y sort))

-- a number that was passed by value, where it is one of its type
back : (w : Width) (a x : ℤ) → FitsSigned w x → a ≡ x → to_z w (of_z w a) ≡ x
back w a x fits is = ap (λ (z : ℤ). to_z w (of_z w z)) is ∙ to_z-of_z w x fits

signed_less : (x y p q : ℤ) → p ≡ x → q ≡ y → IsTrue (lt_z p q) → int_cmp x y ≡ Less
signed_less x y p q e f less =
    let is : lt_z x y ≡ true = subst (λ (z : ℤ). lt_z x z ≡ true) f (subst (λ (z : ℤ). lt_z z q ≡ true) e less) in
    rw is refl

nat_less : (x y p q : ℕ) → p ≡ x → q ≡ y → IsTrue (nat_lt p q) → nat_cmp x y ≡ Less
nat_less x y p q e f less =
    let is : nat_lt x y ≡ true = subst (λ (z : ℕ). nat_lt x z ≡ true) f (subst (λ (z : ℕ). nat_lt z q ≡ true) e less) in
    rw is refl

-- the first byte
abbrev first_byte : List ℕ → ℕ
first_byte bytes = slice_index_or bytes 0 0

bools_less : (x y : Bool) (p q : ℕ) → p ≡ first_byte (bool_bytes x) → q ≡ first_byte (bool_bytes y) → IsTrue (nat_lt p q) → bool_cmp x y ≡ Less
bools_less false false p q e f less = let is : nat_lt 0 0 ≡ true = subst (λ (z : ℕ). nat_lt 0 z ≡ true) f (subst (λ (z : ℕ). nat_lt z q ≡ true) e less) in absurd cc
bools_less false true p q e f less = refl
bools_less true false p q e f less = let is : nat_lt 1 0 ≡ true = subst (λ (z : ℕ). nat_lt 1 z ≡ true) f (subst (λ (z : ℕ). nat_lt z q ≡ true) e less) in absurd cc
bools_less true true p q e f less = let is : nat_lt 1 1 ≡ true = subst (λ (z : ℕ). nat_lt 1 z ≡ true) f (subst (λ (z : ℕ). nat_lt z q ≡ true) e less) in absurd cc

first_bool : (b : Bool) (rest : List ℕ) → first_byte (bool_bytes b ++ rest) ≡ first_byte (bool_bytes b)
first_bool false rest = refl
first_bool true rest = refl

-- ---- by type

module _ (t : Tables) (first second : List ℕ) where
  pub bools_rise : (levels : ℕ) → IsTrue (nat_lt (first_byte first) (first_byte second)) → AreRising t levels kinds.Bool first second
  bools_rise zero less k l rest more h g e f = absurd h
  bools_rise (suc levels) less k l rest more (x, is) (y, is') e f =
      let one : first_byte first ≡ first_byte (bool_bytes x) = ap first_byte (e ∙ ap (λ (v : Tree). canonical v ++ rest) is) ∙ first_bool x rest in
      let other : first_byte second ≡ first_byte (bool_bytes y) = ap first_byte (f ∙ ap (λ (v : Tree). canonical v ++ more) is') ∙ first_bool y more in
      rw (is, is') (bools_less x y (first_byte first) (first_byte second) one other less)

  pub bytes_rise : (levels : ℕ) → IsTrue (nat_lt (first_byte first) (first_byte second)) → AreRising t levels kinds.Byte first second
  bytes_rise zero less k l rest more h g e f = absurd h
  bytes_rise (suc levels) less k l rest more (x, fits, is) (y, fits', is') e f =
      let one : first_byte first ≡ x = ap first_byte (e ∙ ap (λ (v : Tree). canonical v ++ rest) is) in
      let other : first_byte second ≡ y = ap first_byte (f ∙ ap (λ (v : Tree). canonical v ++ more) is') in
      rw (is, is') (nat_less x y (first_byte first) (first_byte second) one other less)

  pub shorts_rise : (levels : ℕ) (a b : ℤ) (end end' : Rest) → signed_at w16 (whole first) ≡ Ok (a, end) → signed_at w16 (whole second) ≡ Ok (b, end')
      → IsTrue (lt_z (to_z w16 (of_z w16 a)) (to_z w16 (of_z w16 b))) → AreRising t levels kinds.Short first second
  shorts_rise zero a b end end' p q less k l rest more h g e f = absurd h
  shorts_rise (suc levels) a b end end' p q less k l rest more (x, fits, is) (y, fits', is') e f =
      let one = read_back (signed_at w16) (SpellsSigned w16) (FitsSigned w16) (signed_bytes w16) short_exact first rest x a end fits (e ∙ ap (λ (v : Tree). canonical v ++ rest) is) p in
      let other = read_back (signed_at w16) (SpellsSigned w16) (FitsSigned w16) (signed_bytes w16) short_exact second more y b end' fits' (f ∙ ap (λ (v : Tree). canonical v ++ more) is') q in
      rw (is, is') (signed_less x y _ _ (back w16 a x fits one) (back w16 b y fits' other) less)

  pub ints_rise : (levels : ℕ) (a b : ℤ) (end end' : Rest) → signed_at w32 (whole first) ≡ Ok (a, end) → signed_at w32 (whole second) ≡ Ok (b, end')
      → IsTrue (lt_z (to_z w32 (of_z w32 a)) (to_z w32 (of_z w32 b))) → AreRising t levels kinds.Int first second
  ints_rise zero a b end end' p q less k l rest more h g e f = absurd h
  ints_rise (suc levels) a b end end' p q less k l rest more (x, fits, is) (y, fits', is') e f =
      let one = read_back (signed_at w32) (SpellsSigned w32) (FitsSigned w32) (signed_bytes w32) int_exact first rest x a end fits (e ∙ ap (λ (v : Tree). canonical v ++ rest) is) p in
      let other = read_back (signed_at w32) (SpellsSigned w32) (FitsSigned w32) (signed_bytes w32) int_exact second more y b end' fits' (f ∙ ap (λ (v : Tree). canonical v ++ more) is') q in
      rw (is, is') (signed_less x y _ _ (back w32 a x fits one) (back w32 b y fits' other) less)

  pub longs_rise : (levels : ℕ) (a b : ℤ) (end end' : Rest) → signed_at w64 (whole first) ≡ Ok (a, end) → signed_at w64 (whole second) ≡ Ok (b, end')
      → IsTrue (lt_z (to_z w64 (of_z w64 a)) (to_z w64 (of_z w64 b))) → AreRising t levels kinds.Long first second
  longs_rise zero a b end end' p q less k l rest more h g e f = absurd h
  longs_rise (suc levels) a b end end' p q less k l rest more (x, fits, is) (y, fits', is') e f =
      let one = read_back (signed_at w64) (SpellsSigned w64) (FitsSigned w64) (signed_bytes w64) long_exact first rest x a end fits (e ∙ ap (λ (v : Tree). canonical v ++ rest) is) p in
      let other = read_back (signed_at w64) (SpellsSigned w64) (FitsSigned w64) (signed_bytes w64) long_exact second more y b end' fits' (f ∙ ap (λ (v : Tree). canonical v ++ more) is') q in
      rw (is, is') (signed_less x y _ _ (back w64 a x fits one) (back w64 b y fits' other) less)

  pub texts_rise : (levels : ℕ) (a b : List ℕ) (end end' : Rest) → text_at (whole first) ≡ Ok (a, end) → text_at (whole second) ≡ Ok (b, end')
      → slice_cmp nat_cmp a b ≡ Less → AreRising t levels kinds.Text first second
  texts_rise zero a b end end' p q less k l rest more h g e f = absurd h
  texts_rise (suc levels) a b end end' p q less k l rest more (x, utf8, few, is) (y, utf8', few', is') e f =
      let one = read_back text_at SpellsText IsTextSize text_bytes text_exact first rest x a end (utf8, few) (e ∙ ap (λ (v : Tree). canonical v ++ rest) is) p in
      let other = read_back text_at SpellsText IsTextSize text_bytes text_exact second more y b end' (utf8', few') (f ∙ ap (λ (v : Tree). canonical v ++ more) is') q in
      rw (is, is', ← one, ← other) less

  pub enums_rise : (levels place a b n m : ℕ) → IsFront (λ n. n < 2 ^ 31) size_bytes first a n → IsFront (λ n. n < 2 ^ 31) size_bytes second b m
      → IsTrue (nat_lt a b) → AreRising t levels (kinds.Enum place) first second
  enums_rise zero place a b n m p q less k l rest more h g e f = absurd h
  enums_rise (suc levels) place a b n m p q less k l rest more (d, row, x, has, few, is) (d', row', y, has', few', is') e f =
      let one = found_back size_at SpellsSize (λ n. n < 2 ^ 31) size_bytes size_exact first rest x a n few (e ∙ ap (λ (v : Tree). canonical v ++ rest) is) p in
      let other = found_back size_at SpellsSize (λ n. n < 2 ^ 31) size_bytes size_exact second more y b m few' (f ∙ ap (λ (v : Tree). canonical v ++ more) is') q in
      rw (is, is') (nat_less x y a b one other less)
