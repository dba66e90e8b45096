-- Decimal digits: no number is less than that of its first digits. What a sign and a point say.
use Rattle.std.proofs.Common.{◌≡◌, ℕ, zero, suc, ◌+◌, ◌-◌, ◌*◌, ◌^◌, ◌<◌, ◌≤◌, Bool, true, false, cond, List, [], ◌∷◌, length, take, drop, Option, None, Some, refl, ◌∙◌, ap, arith, leb, ltb, add-one}
use Rattle.std.specs.Prelude.{slice_index, if◌then◌else◌, ◌==◌}
use Rattle.std.specs.Char.{is_ascii_digit}
use Rattle.std.specs.Option.{option_and_then}
use Rattle.std.specs.List.{position, position_or_len}
use Rattle.std.proofs.lemmas.Bool.{leb-true, lt-ltb}
use Rattle.std.proofs.lemmas.Bool.Decides.{nat_tests}
use Rattle.std.proofs.lemmas.Nat.{pow_pos}
use Rattle.std.proofs.lemmas.List.{take_rest}
use Rattle.std.proofs.lemmas.List.Recursion.{is_position_or_len}
use Rattle.ice_proxy.specs.Numbers.{digits_behind, natural, negative, fits, number, at_point}
use Rattle.ice_proxy.specs.Telling.{within}

over : (most value : ℕ) (cs : List ℕ) → most < value → within most (digits_behind value cs) ≡ None
over most value [] lt = grind arith
over most value (c ∷ cs) lt = elim (is_ascii_digit c) as (λ b. within most (if b then digits_behind (value * 10 + (c - 48)) cs else None) ≡ None) [ true ↦ over most (value * 10 + (c - 48)) cs (omega arith) | false ↦ refl ]

pub passed : (most value : ℕ) (cs : List ℕ) → 1 ≤ length cs → is_ascii_digit (slice_index cs 0) ≡ true → most < value * 10 + (slice_index cs 0 - 48) → within most (digits_behind value cs) ≡ None
passed most value [] some digit lt = absurd (omega arith)
passed most value (c ∷ cs) some digit lt = rw digit (over most _ cs lt)

-- ---- a sign

fits_negative : (bits n : ℕ) → n ≤ 2 ^ (bits - 1) → fits bits (negative n) ≡ true
fits_negative bits zero le = lt-ltb _ _ (omega (arith, pow_pos (bits - 1)))
fits_negative bits (suc n) le = lt-ltb _ _ (omega arith)

-- a number that is not greater is that number
pub within_some : (most n : ℕ) (o : Option ℕ) → Some n ≡ within most o → (o ≡ Some n) × (n ≤ most)
within_some most n None e = absurd cc
within_some most n (Some k) e = by (leb k most) refl e
  where
    by : (b : Bool) → leb k most ≡ b → Some n ≡ (if b then Some k else None) → (Some k ≡ Some n) × (n ≤ most)
    by true small e = let same : n ≡ k = cc in (cc, omega (arith, leb-true k most small))
    by false large e = absurd cc

pub reads_negative : (bits half : ℕ) (word : List ℕ) (n : ℕ) → 1 ≤ length word → slice_index word 0 ≡ 45 → half ≡ 2 ^ (bits - 1) → Some n ≡ within half (natural (take (length word - 1) (drop 1 word))) → Some (negative n) ≡ number bits word
reads_negative bits half [] n some minus half_is e = absurd (omega arith)
reads_negative bits half (c ∷ cs) n some minus half_is e =
    let is = within_some half n (natural cs) (rw (take_rest (c ∷ cs) 1) at e) in
    rw (minus, is.0, fits_negative bits n (omega (arith, half_is, is.1))) refl

-- ---- a point

point_length : List ℕ → ℕ
point_length [] = 0
point_length (c ∷ cs) = cond (c == 46) 0 (1 + point_length cs)

abbrev kept : Bool → List ℕ × List ℕ → Option (List ℕ × List ℕ)
kept b p = cond b (Some p) None

abbrev parts_at : ℕ → List ℕ → Option (List ℕ × List ℕ)
parts_at n word = kept (ltb n (length word)) (take n word, drop (suc n) word)

point_parts : (word : List ℕ) → parts_at (point_length word) word ≡ at_point word
unfolding point_length
point_parts [] = refl
point_parts (c ∷ cs) =
    let longer : parts_at (1 + point_length cs) (c ∷ cs) ≡ option_and_then (λ p. Some (c ∷ p.0, p.1)) (parts_at (point_length cs) cs) = shifted (point_length cs) c cs in
    elim (c == 46) as (λ b. parts_at (cond b 0 (1 + point_length cs)) (c ∷ cs) ≡ (if b then Some ([], cs) else option_and_then (λ p. Some (c ∷ p.0, p.1)) (at_point cs))) [
      | true ↦ grind (arith, nat_tests)
      | false ↦ longer ∙ ap (option_and_then (λ p. Some (c ∷ p.0, p.1))) (point_parts cs)
    ]
  where
    shifted : (n c : ℕ) (cs : List ℕ) → parts_at (1 + n) (c ∷ cs) ≡ option_and_then (λ p. Some (c ∷ p.0, p.1)) (parts_at n cs)
    shifted n c cs =
        let one : 1 + n ≡ suc n = omega arith in
        let same : ltb (suc n) (suc (length cs)) ≡ ltb n (length cs) = grind (arith, nat_tests) in
        rw (one, same) (elim (ltb n (length cs)) as (λ b. kept b (c ∷ take n cs, drop (suc n) cs) ≡ option_and_then (λ p. Some (c ∷ p.0, p.1)) (kept b (take n cs, drop (suc n) cs))) [ true ↦ refl | false ↦ refl ])

-- where the first `.` stands, as it is looked for
first_point : (word : List ℕ) → point_length word ≡ position_or_len (λ c. c == 46) word
unfolding point_length
first_point word = is_position_or_len point_length (λ c. c == 46) refl (λ c cs. refl) word

parts_by : (word : List ℕ) (o : Option ℕ) → o ≡ position (λ c. c == 46) word → option_and_then (λ n. Some (take n word, drop (suc n) word)) o ≡ at_point word
parts_by word o e =
    let found : o ≡ cond (ltb (point_length word) (length word)) (Some (point_length word)) None = rw (first_point word) e in
    by (ltb (point_length word) (length word)) refl found
  where
    by : (b : Bool) → ltb (point_length word) (length word) ≡ b → o ≡ cond b (Some (point_length word)) None → option_and_then (λ n. Some (take n word, drop (suc n) word)) o ≡ at_point word
    by true within found = let is : kept (ltb (point_length word) (length word)) (take (point_length word) word, drop (suc (point_length word)) word) ≡ at_point word = point_parts word in rw found (rw within at is)
    by false past found = let is : kept (ltb (point_length word) (length word)) (take (point_length word) word, drop (suc (point_length word)) word) ≡ at_point word = point_parts word in rw found (rw past at is)

pub parts_found : (word : List ℕ) (n : ℕ) → Some n ≡ position (λ c. c == 46) word → Some (take n word, take (length word - (n + 1)) (drop (n + 1) word)) ≡ at_point word
parts_found word n e = rw (take_rest word (n + 1), add-one n) (parts_by word (Some n) e)

pub no_parts : (word : List ℕ) → None ≡ position (λ c. c == 46) word → None ≡ at_point word
no_parts word e = parts_by word None e
