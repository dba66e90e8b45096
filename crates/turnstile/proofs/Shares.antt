-- Shares: what a cut and a join make of them, and what the seat with the whole knows of the others.
use Rattle.std.proofs.Common.{◌≡◌, ◌≢◌, ℕ, ◌+◌, ◌≤◌, Bool, true, false, zero, suc, List, [], ◌∷◌, ◌++◌, length, set, refl, sym, ap, arith, inl, inr, ◌⊎◌}
use mathlib.Core.Option.{some-injective, some-ne-none}
use Rattle.turnstile.specs.declared.seats.Known.{Known}
use Rattle.turnstile.specs.Shares.{half, piece, parts_of, halved}
use Rattle.turnstile.specs.Rule.{At, parts_together}

halves : (n : ℕ) → half true n + half false n ≡ n
halves n = omega arith

half_least : (larger : Bool) (n m : ℕ) → n + n ≤ m → n ≤ half larger m
half_least true n m h = omega arith
half_least false n m h = omega arith

pub parts_halved : (ps : List (List Bool)) (k : ℕ) → parts_of (halved true ps) k + parts_of (halved false ps) k ≡ parts_of ps k
parts_halved [] k = omega arith
parts_halved (p ∷ ps) k = let h = halves (piece p k) in let i = parts_halved ps k in omega arith

pub parts_append : (ps qs : List (List Bool)) (k : ℕ) → parts_of (ps ++ qs) k ≡ parts_of ps k + parts_of qs k
parts_append [] qs k = omega arith
parts_append (p ∷ ps) qs k = let h = parts_append ps qs k in omega arith

pub halved_none : (larger : Bool) (ps : List (List Bool)) → halved larger ps ≡ [] → ps ≡ []
halved_none larger [] e = refl
halved_none larger (p ∷ ps) e = absurd (let h = ap length e in omega arith)

-- where the whole is large enough, a piece has at least n parts
piece_reaches : (p : List Bool) (n : ℕ) → (k : ℕ) × (n ≤ piece p k)
piece_reaches [] n = (n, omega arith)
piece_reaches (larger ∷ p) n = let h = piece_reaches p (n + n) in (h.0, half_least larger n (piece p h.0) h.1)

-- a share is none, or has a part where the whole is large enough
pub some_part : (ps : List (List Bool)) → (ps ≡ []) ⊎ ((k : ℕ) × (1 ≤ parts_of ps k))
some_part [] = inl refl
some_part (p ∷ ps) = let h = piece_reaches p 1 in let l = h.1 in inr (h.0, omega arith)

module _ {X C R : Type 0} (k : ℕ) where
  pub together_set : (vs : List (Known X C R)) (i : ℕ) (v w : Known X C R) → At vs i v → parts_together k (set vs i w) + parts_of v.share k ≡ parts_together k vs + parts_of w.share k
  together_set [] i v w e = absurd (some-ne-none v (sym e))
  together_set (x ∷ xs) zero v w e = let same = ap (λ (z : Known X C R). parts_of z.share k) (some-injective x v e) in omega arith
  together_set (x ∷ xs) (suc i) v w e = let h = together_set xs i v w e in omega arith

  pub together_append : (vs ws : List (Known X C R)) → parts_together k (vs ++ ws) ≡ parts_together k vs + parts_together k ws
  together_append [] ws = omega arith
  together_append (x ∷ xs) ws = let h = together_append xs ws in omega arith

  one_within : (vs : List (Known X C R)) (i : ℕ) (v : Known X C R) → At vs i v → parts_of v.share k ≤ parts_together k vs
  one_within [] i v e = absurd (some-ne-none v (sym e))
  one_within (x ∷ xs) zero v e = let same = ap (λ (z : Known X C R). parts_of z.share k) (some-injective x v e) in omega arith
  one_within (x ∷ xs) (suc i) v e = let h = one_within xs i v e in omega arith

  pub two_within : (vs : List (Known X C R)) (i j : ℕ) (v w : Known X C R) → i ≢ j → At vs i v → At vs j w → parts_of v.share k + parts_of w.share k ≤ parts_together k vs
  two_within [] i j v w ne e f = absurd (some-ne-none v (sym e))
  two_within (x ∷ xs) zero zero v w ne e f = absurd (ne refl)
  two_within (x ∷ xs) zero (suc j) v w ne e f = let same = ap (λ (z : Known X C R). parts_of z.share k) (some-injective x v e) in let h = one_within xs j w f in omega arith
  two_within (x ∷ xs) (suc i) zero v w ne e f = let same = ap (λ (z : Known X C R). parts_of z.share k) (some-injective x w f) in let h = one_within xs i v e in omega arith
  two_within (x ∷ xs) (suc i) (suc j) v w ne e f = let h = two_within xs i j v w (λ q. ne (ap suc q)) e f in omega arith
