-- What a loop over a list finds of the items that are left.
use Rattle.std.proofs.Common.{ℕ, zero, suc, arith, ◌+◌, ◌<◌, ◌≤◌, ◌≡◌, true, false, IsTrue, ◌↔◌, List, [], ◌∷◌, length, drop, get_or, refl, sym, ap, subst, ◌∙◌}
use Rattle.std.proofs.lemmas.List.{at_drop_more, at_drop_all}
use Rattle.std.specs.Ordering.{ordering_then}
use Rattle.std.specs.declared.cmp.Ordering.{Ordering}
use Rattle.std.specs.declared.cmp.Ordering.TheVariants.{Less, Equal, Greater}

-- the first item that is left
pub next_left : {X : Type 0} (xs : List X) (i : ℕ) (x : X) → i < length xs → x ≡ get_or xs i x → drop i xs ≡ x ∷ drop (i + 1) xs
next_left {X} xs i x lt is = at_drop_more (λ l. l) xs i x lt ∙ ap (λ (y : X). y ∷ drop (i + 1) xs) (sym is)

-- an item that is there is the same whatever would stand for one that is not
pub whatever_else : {X : Type 0} (xs : List X) (i : ℕ) (x y : X) → i < length xs → get_or xs i x ≡ get_or xs i y
whatever_else [] i x y lt = absurd (omega (arith, lt))
whatever_else (z ∷ xs) zero x y lt = refl
whatever_else (z ∷ xs) (suc i) x y lt = whatever_else xs i x y (omega (arith, lt))

module _ {X : Type 0} (Each : List X → Type 0) (Is : X → Type 0) (parts : (x : X) (xs : List X) → Each (x ∷ xs) ↔ (Is x × Each xs))
    (xs : List X) (i : ℕ) (x : X) (lt : i < length xs) (is : x ≡ get_or xs i x) (left : Each xs ↔ Each (drop i xs)) where
  split : Each (drop i xs) ↔ (Is x × Each (drop (i + 1) xs))
  split = subst (λ (l : List X). Each l ↔ (Is x × Each (drop (i + 1) xs))) (sym (next_left xs i x lt is)) (parts x (drop (i + 1) xs))

  -- it is not so
  pub each_fails : (Is x → ⊥) → IsTrue false ↔ Each xs
  each_fails fails = (λ e. absurd cc, λ h. absurd (fails (split.0 (left.0 h)).0))

  -- it is so
  pub each_holds : Is x → Each xs ↔ Each (drop (i + 1) xs)
  each_holds holds = (λ h. (split.0 (left.0 h)).1, λ h. left.1 (split.1 (holds, h)))

-- none is left
pub each_ends : {X : Type 0} (Each : List X → Type 0) → Each [] → (xs : List X) (i : ℕ) → length xs ≤ i → (Each xs ↔ Each (drop i xs)) → IsTrue true ↔ Each xs
each_ends Each none xs i end left = (λ _. left.1 (subst Each (sym (at_drop_all (λ l. l) xs i end)) none), λ _. refl)

-- ---- two lists compared item by item

-- what comes first tells
pub then_first : (o r : Ordering) → (o ≡ Equal → ⊥) → o ≡ ordering_then o r
then_first Less r apart = refl
then_first Equal r apart = absurd (apart refl)
then_first Greater r apart = refl

pub then_then : (o p r : Ordering) → ordering_then o (ordering_then p r) ≡ ordering_then (ordering_then o p) r
then_then Less p r = refl
then_then Equal p r = refl
then_then Greater p r = refl

module _ {X Y : Type 0} (cmp : List X → List Y → Ordering) (one : X → Y → Ordering) (parts : (x : X) (xs : List X) (y : Y) (ys : List Y) → cmp (x ∷ xs) (y ∷ ys) ≡ ordering_then (one x y) (cmp xs ys))
    (a : List X) (b : List Y) (i : ℕ) (x : X) (y : Y) (lt_a : i < length a) (is_a : x ≡ get_or a i x) (lt_b : i < length b) (is_b : y ≡ get_or b i y) (rest : cmp a b ≡ cmp (drop i a) (drop i b)) where
  both : cmp a b ≡ ordering_then (one x y) (cmp (drop (i + 1) a) (drop (i + 1) b))
  both = rest ∙ (ap (λ (l : List X). cmp l (drop i b)) (next_left a i x lt_a is_a) ∙ (ap (cmp (x ∷ drop (i + 1) a)) (next_left b i y lt_b is_b) ∙ parts x (drop (i + 1) a) y (drop (i + 1) b)))

  -- two items that differ
  pub tells : (o : Ordering) → o ≡ one x y → (o ≡ Equal → ⊥) → o ≡ cmp a b
  tells o is apart = then_first o (cmp (drop (i + 1) a) (drop (i + 1) b)) apart ∙ (ap (λ (o : Ordering). ordering_then o (cmp (drop (i + 1) a) (drop (i + 1) b))) is ∙ sym both)

  -- two items that are equal
  pub alike : Equal ≡ one x y → cmp a b ≡ cmp (drop (i + 1) a) (drop (i + 1) b)
  alike is = both ∙ sym (ap (λ (o : Ordering). ordering_then o (cmp (drop (i + 1) a) (drop (i + 1) b))) is)

-- the second list is at its end first
pub other_ends : {X Y : Type 0} (cmp : List X → List Y → Ordering) → ((x : X) (xs : List X) → cmp (x ∷ xs) [] ≡ Greater) → (a : List X) (b : List Y) (i : ℕ) (x : X) → i < length a → x ≡ get_or a i x → length b ≤ i
    → cmp a b ≡ cmp (drop i a) (drop i b) → Greater ≡ cmp a b
other_ends {X} cmp longer a b i x lt is end rest =
    sym (rest ∙ (ap (λ (l : List X). cmp l (drop i b)) (next_left a i x lt is) ∙ (ap (cmp (x ∷ drop (i + 1) a)) (at_drop_all (λ l. l) b i end) ∙ longer x (drop (i + 1) a))))
