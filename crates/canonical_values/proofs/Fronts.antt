-- What is found at the front of bytes is of its sort, and its bytes are those that are put for it.
use Rattle.std.proofs.Common.{◌≡◌, ◌<◌, ◌^◌, ◌+◌, ℕ, ◌-◌, ◌≤◌, true, false, List, [], ◌∷◌, ◌++◌, length, take, drop, get_or, Result, Ok, sym, ap, ◌∙◌, subst, arith}
use Rattle.std.specs.Str.{IsUtf8}
use Rattle.std.specs.Int.{w32, to_le_bytes}
use Rattle.std.proofs.lemmas.Bool.{cond_below}
use Rattle.std.proofs.lemmas.List.{take_at, take-append-drop, take-take, drop-take, length-append, length-drop, length-take-le}
use Rattle.ice_prims.specs.declared.fault.Fault.{Fault}
use Rattle.ice_prims.specs.Bytes.{bool_bytes, size_bytes, text_bytes}
use Rattle.ice_prims.specs.Laws.{IsExact, IsTextSize, any}
use Rattle.ice_prims.specs.Rest.{Rest, IsBytes, whole}
use Rattle.ice_prims.proofs.Parts.{Took-fits, IsBytes-front, IsBytes-rest}
use Rattle.canonical_values.specs.Fronts.{IsFront}

-- so many, and so many behind them
pub take_two : (n m : ℕ) (bytes : List ℕ) → take (n + m) bytes ≡ take n bytes ++ take m (drop n bytes)
take_two n m bytes =
    sym (take-append-drop n (take (n + m) bytes)) ∙ ap (λ (l : List ℕ). l ++ drop n (take (n + m) bytes)) (take-take n (n + m) bytes (omega arith)) ∙ ap (λ (l : List ℕ). take n bytes ++ l) (drop-take n m bytes)

pub front_found : {A : Type 0} (read : Rest → Result (A × Rest) Fault) (Spells : List ℕ → A → Type 0) (Is : A → Type 0) (put : A → List ℕ) → IsExact read Spells Is put
    → (bytes : List ℕ) (x : A) (end : Rest) → IsBytes bytes → read (whole bytes) ≡ Ok (x, end)
    → IsFront Is put bytes x (length bytes - length end.bytes)
front_found read Spells Is put exact bytes x end fits e =
    let f = exact.found (whole bytes) (x, end) fits e in
    let front = (Took-fits (whole bytes) end f.0 fits f.1).0 in
    let many : length bytes ≡ length f.0 + length end.bytes = ap length f.1.parts ∙ length-append f.0 end.bytes in
    let n : length f.0 ≡ length bytes - length end.bytes = omega (arith, many) in (
      omega (arith, many),
      exact.sort f.0 x front f.2,
      ap (take (length bytes - length end.bytes)) f.1.parts ∙ take_at f.0 end.bytes (length bytes - length end.bytes) n ∙ exact.once f.0 x front f.2,
    )

-- ---- a bool, a size and a text

pub first_false : (bytes : List ℕ) → 1 ≤ length bytes → get_or bytes 0 0 ≡ 0 → IsFront any bool_bytes bytes false 1
first_false [] le is = absurd (omega (arith, le))
first_false (b ∷ bs) le is = (le, tt, ap (λ (n : ℕ). n ∷ []) is)

pub first_true : (bytes : List ℕ) → 1 ≤ length bytes → get_or bytes 0 0 ≡ 1 → IsFront any bool_bytes bytes true 1
first_true [] le is = absurd (omega (arith, le))
first_true (b ∷ bs) le is = (le, tt, ap (λ (n : ℕ). n ∷ []) is)

pub short_size : (bytes : List ℕ) (n : ℕ) → 1 ≤ length bytes → n ≡ get_or bytes 0 0 → n < 255 → IsFront (λ m. m < 2 ^ 31) size_bytes bytes n 1
short_size [] n le is lt = absurd (omega (arith, le))
short_size (b ∷ bs) n le is lt = (le, omega (arith, lt), ap (λ (x : ℕ). x ∷ []) (sym is) ∙ cond_below n 255 (n ∷ []) (255 ∷ to_le_bytes w32 n) lt)

pub text_front : (bytes s : List ℕ) (n taken : ℕ) → IsFront (λ m. m < 2 ^ 31) size_bytes bytes n taken → n ≤ length (drop taken bytes) → s ≡ take n (drop taken bytes) → IsUtf8 s
    → IsFront IsTextSize text_bytes bytes s (taken + n)
text_front bytes s n taken (few, fits, is) long cut utf8 =
    let many : length s ≡ n = ap length cut ∙ length-take-le n (drop taken bytes) long in (
      omega (arith, few, long, length-drop taken bytes),
      (utf8, subst (λ (m : ℕ). m < 2 ^ 31) (sym many) fits),
      take_two taken n bytes ∙ ap (λ (l : List ℕ). l ++ take n (drop taken bytes)) (is ∙ ap size_bytes (sym many)) ∙ ap (λ (l : List ℕ). size_bytes (length s) ++ l) (sym cut),
    )

-- ---- bytes

-- so many bytes at the front of others, and those behind them
pub front_fits : (n : ℕ) (bytes : List ℕ) → IsBytes bytes → IsBytes (take n bytes)
front_fits n bytes fits = IsBytes-front (take n bytes) (drop n bytes) (subst IsBytes (sym (take-append-drop n bytes)) fits)

pub rest_fits : (at : ℕ) (input : List ℕ) → IsBytes input → IsBytes (drop at input)
rest_fits at input fits = IsBytes-rest (take at input) (drop at input) (subst IsBytes (sym (take-append-drop at input)) fits)
