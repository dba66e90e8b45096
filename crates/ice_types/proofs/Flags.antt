-- Flags of what is defined.
use Rattle.std.proofs.Common.{◌≡◌, ◌≢◌, ℕ, zero, suc, ◌<◌, ◌≤◌, Bool, true, false, List, [], ◌∷◌, ◌++◌, length, refl, sym, ap, ◌∙◌, arith}
use Rattle.std.specs.Prelude.{IsTrue}
use Rattle.ice_types.specs.Tables.{changed, is_defined}
use Rattle.ice_types.specs.Rules.{defined}

-- ---- with one more that is only declared

pub flag_front : (flags : List Bool) (at : ℕ) → IsTrue (is_defined flags at) → IsTrue (is_defined (flags ++ false ∷ []) at)
flag_front [] zero h = h
flag_front [] (suc at) h = h
flag_front (flag ∷ flags) zero h = h
flag_front (flag ∷ flags) (suc at) h = flag_front flags at h

pub defined_front : (flags : List Bool) → defined (flags ++ false ∷ []) ≡ defined flags
defined_front [] = refl
defined_front (true ∷ flags) = ap suc (defined_front flags)
defined_front (false ∷ flags) = defined_front flags

-- ---- with one defined

pub flag_stays : (flags : List Bool) (at other : ℕ) → IsTrue (is_defined flags other) → IsTrue (is_defined (changed (λ _. true) flags at) other)
flag_stays [] at other h = h
flag_stays (flag ∷ flags) zero zero h = refl
flag_stays (flag ∷ flags) zero (suc other) h = h
flag_stays (flag ∷ flags) (suc at) zero h = h
flag_stays (flag ∷ flags) (suc at) (suc other) h = flag_stays flags at other h

pub now_defined : (flags : List Bool) (at : ℕ) → at < length flags → IsTrue (is_defined (changed (λ _. true) flags at) at)
now_defined [] at lt = absurd (omega (arith, lt))
now_defined (flag ∷ flags) zero lt = refl
now_defined (flag ∷ flags) (suc at) lt = now_defined flags at (omega (arith, lt))

pub defined_more : (flags : List Bool) (at : ℕ) → at < length flags → is_defined flags at ≡ false → defined (changed (λ _. true) flags at) ≡ suc (defined flags)
defined_more [] at lt h = absurd (omega (arith, lt))
defined_more (true ∷ flags) zero lt h = absurd cc
defined_more (false ∷ flags) zero lt h = refl
defined_more (true ∷ flags) (suc at) lt h = ap suc (defined_more flags at (omega (arith, lt)) h)
defined_more (false ∷ flags) (suc at) lt h = defined_more flags at (omega (arith, lt)) h

-- no more are defined than there are
pub defined_most : (flags : List Bool) → defined flags ≤ length flags
defined_most [] = omega arith
defined_most (true ∷ flags) = omega (arith, defined_most flags)
defined_most (false ∷ flags) = omega (arith, defined_most flags)

-- what is defined is not what is not
pub another : (flags : List Bool) (at other : ℕ) → is_defined flags at ≡ false → IsTrue (is_defined flags other) → other ≢ at
another flags at other not_yet is same = clash (sym (ap (is_defined flags) same) ∙ is) not_yet
  where
    clash : {b : Bool} → b ≡ true → b ≡ false → ⊥
    clash p q = cc
