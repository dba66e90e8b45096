-- The first class that is never defined, by the numbers of declarations.
use Rattle.std.proofs.Common.{◌≡◌, ℕ, suc, ◌≤◌, Bool, true, false, cond, List, [], ◌∷◌, ◌++◌, length, Option, Some, None, refl, sym, ap, ◌∙◌, inl, inr, arith}
use Rattle.std.specs.Prelude.{◌==◌, filter, nat_le}
use Rattle.std.proofs.lemmas.Bool.{cases_lt}
use Rattle.std.proofs.lemmas.Bool.Decides.{nat_tests}
use Rattle.slice_meaning.specs.Names.{Declared}
use Rattle.slice_meaning.specs.Checking.{stands_before, earlier}
use Rattle.slice_meaning.specs.Numbers.{declared_at}

-- the declarations up to a number
abbrev pub up_to : List Declared → ℕ → List Declared
up_to [] n = []
up_to (d ∷ ds) n = cond (nat_le (suc (length ds)) n) (d ∷ ds) (up_to ds n)

test_true : (n m : ℕ) → n ≡ m → (n == m) ≡ true
test_true n m h = grind (arith, nat_tests)

test_below : (n m : ℕ) → n ≤ m → (n == suc m) ≡ false
test_below n m h = grind (arith, nat_tests)

le_true : (n m : ℕ) → n ≤ m → nat_le n m ≡ true
le_true n m h = grind (arith, nat_tests)

le_false : (n m : ℕ) → n ≤ m → nat_le (suc m) n ≡ false
le_false n m h = grind (arith, nat_tests)

pub up_to_all : (ds : List Declared) (n : ℕ) → length ds ≤ n → up_to ds n ≡ ds
up_to_all [] n h = refl
up_to_all (d ∷ ds) n h = ap (λ (b : Bool). cond b (d ∷ ds) (up_to ds n)) (le_true (suc (length ds)) n h)

pub up_to_none : (ds : List Declared) (n : ℕ) → n ≡ 0 → up_to ds n ≡ []
up_to_none [] n h = refl
up_to_none (d ∷ ds) n h = ap (λ (b : Bool). cond b (d ∷ ds) (up_to ds n)) (le_false n (length ds) (omega arith)) ∙ up_to_none ds n h

pub record IsNext (ds : List Declared) (n : ℕ) : Type 0 where
  pub declared : Declared
  pub at : declared_at ds (suc n) ≡ Some declared
  pub first : up_to ds (suc n) ≡ declared ∷ up_to ds n

pub next : (ds : List Declared) (n : ℕ) → suc n ≤ length ds → IsNext ds n
next [] n h = absurd (omega arith)
next (d ∷ ds) n h = elim (cases_lt (length ds) (suc n)) [
  | inl new ↦ record {
    declared = d;
    at = ap (λ (b : Bool). cond b (Some d) (declared_at ds (suc n))) (test_true (suc n) (suc (length ds)) (omega arith));
    first = ap (λ (b : Bool). cond b (d ∷ ds) (up_to ds (suc n))) (le_true (suc (length ds)) (suc n) (omega arith))
        ∙ sym (ap (λ l. d ∷ l) (ap (λ (b : Bool). cond b (d ∷ ds) (up_to ds n)) (le_false n (length ds) (omega arith)) ∙ up_to_all ds n (omega arith)));
  }
  | inr old ↦ let r = next ds n old in record {
    declared = r.declared;
    at = ap (λ (b : Bool). cond b (Some d) (declared_at ds (suc n))) (test_below (suc n) (length ds) old) ∙ r.at;
    first = ap (λ (b : Bool). cond b (d ∷ ds) (up_to ds (suc n))) (le_false (suc n) (length ds) old)
        ∙ (r.first ∙ sym (ap (λ l. r.declared ∷ l) (ap (λ (b : Bool). cond b (d ∷ ds) (up_to ds n)) (le_false n (length ds) (omega arith)))));
  }
]

earlier_more : (e : Option Declared) (ds es : List Declared) → earlier e (ds ++ es) ≡ earlier (earlier e ds) es
earlier_more e [] es = refl
earlier_more None (d ∷ ds) es = earlier_more (Some d) ds es
earlier_more (Some e) (d ∷ ds) es = earlier_more (Some (cond (stands_before e d) e d)) ds es

one_more : (p : Declared → Bool) (d : Declared) (ds : List Declared) → filter p (d ∷ ds) ≡ filter p (d ∷ []) ++ filter p ds
one_more p d ds = by_test (p d)
  where
    by_test : (b : Bool) → cond b (d ∷ filter p ds) (filter p ds) ≡ cond b (d ∷ []) [] ++ filter p ds
    by_test true = refl
    by_test false = refl

pub earlier_next : (p : Declared → Bool) (ds : List Declared) (n : ℕ) (d : Declared) (e : Option Declared) (all : Option Declared)
    → up_to ds (suc n) ≡ d ∷ up_to ds n → earlier e (filter p (up_to ds (suc n))) ≡ all → earlier (earlier e (filter p (d ∷ []))) (filter p (up_to ds n)) ≡ all
earlier_next p ds n d e all first so =
    sym (earlier_more e (filter p (d ∷ [])) (filter p (up_to ds n)))
    ∙ (ap (earlier e) (sym (one_more p d (up_to ds n)) ∙ ap (filter p) (sym first)) ∙ so)
