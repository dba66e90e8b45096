-- Chains of bases, and references from the last on.
use Rattle.std.proofs.Common.{ℕ, suc, ◌≡◌, true, false, eqb, List, [], ◌∷◌, length, drop, Option, None, Some, refl}
use Rattle.std.proofs.lemmas.Bool.{eq-eqb, ne_eqb}
use Rattle.ice_types.specs.Tables.{Tables}
use Rattle.ice_encoding.specs.Classes.{base_of, holds_of, leads_to}

-- the class itself
pub leads_here : (t : Tables) (steps base class : ℕ) → class ≡ base → leads_to t (suc steps) base class ≡ true
leads_here t steps base class same = let e : eqb class base ≡ true = eq-eqb class base same in rw e refl

-- its base
pub leads_on : (t : Tables) (steps base class next : ℕ) → (class ≡ base → ⊥) → base_of t class ≡ Some next → leads_to t (suc steps) base class ≡ leads_to t steps base next
leads_on t steps base class next other is = let e : eqb class base ≡ false = ne_eqb class base other in rw (e, is) refl

pub leads_nowhere : (t : Tables) (steps base class : ℕ) → (class ≡ base → ⊥) → base_of t class ≡ None → leads_to t (suc steps) base class ≡ false
leads_nowhere t steps base class other is = let e : eqb class base ≡ false = ne_eqb class base other in rw (e, is) refl

pub leads_no_further : (t : Tables) (base class : ℕ) → (class ≡ base → ⊥) → leads_to t 1 base class ≡ false
leads_no_further t base class other = let e : eqb class base ≡ false = ne_eqb class base other in rw e (none (base_of t class))
  where
    none : (found : Option ℕ) → holds_of found (λ x. false) ≡ false
    none None = refl
    none (Some class) = refl

pub drop_all : {A : Type 0} (xs : List A) → drop (length xs) xs ≡ []
drop_all [] = refl
drop_all (x ∷ xs) = drop_all xs
