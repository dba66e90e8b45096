-- A text that begins with `#` stands for a compact id.
use Rattle.std.proofs.Common.{◌≡◌, ℕ, Bool, true, false, List, [], ◌∷◌, refl, sym, arith}
use Rattle.std.specs.Prelude.{get_or, Decides, ◌==◌}
use Rattle.std.proofs.lemmas.Bool.{eqb-true, eq-eqb, false≢true}
use Rattle.ice_types.specs.CompactIds.{is_numbered}

pub starts_hash : (id : List ℕ) (starts : Bool) → Decides starts (get_or id 0 0 ≡ 35) → starts ≡ is_numbered id
starts_hash [] true told = absurd (nothing 0 refl (told.0 refl))
  where
    nothing : (n : ℕ) → n ≡ 0 → n ≡ 35 → ⊥
    nothing n none other = omega (arith, none, other)
starts_hash [] false told = refl
starts_hash (c ∷ cs) true told = sym (eq-eqb c 35 (told.0 refl))
starts_hash (c ∷ cs) false told = sym (by_test (c == 35) refl)
  where
    by_test : (b : Bool) → (c == 35) ≡ b → b ≡ false
    by_test true e = absurd (false≢true (told.1 (eqb-true c 35 e)))
    by_test false e = refl
