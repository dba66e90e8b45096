-- Answers that come in order and without a gap are those that are told.
use Rattle.std.proofs.Common.{◌≡◌, ℕ, zero, suc, ◌+◌, ◌-◌, ◌<◌, ◌≤◌, ◌⊎◌, inl, inr, List, [], ◌∷◌, None, Some, refl, ap, sym, ◌∙◌, subst, arith, Bool, true, false}
use Rattle.std.specs.Prelude.{slice_get}
use Rattle.call_world.specs.World.{Sent, Answer}
use Rattle.call_world.specs.Asked.{told}

abbrev pub answers : {R : Type 0} → List (ℕ × R) → List (Sent R)
answers [] = []
answers (x ∷ xs) = Answer x.0 x.1 ∷ answers xs

abbrev pub replies : {R : Type 0} → List (ℕ × R) → List R
replies [] = []
replies (x ∷ xs) = x.1 ∷ replies xs

-- the seats of `ts` from b on are those that ask for a reply; the answers are to such ones, rising, without a gap
pub record IsRow {R : Type 0} (Two : ℕ → Type 0) (b : ℕ) (ts : List Bool) (l : List (ℕ × R)) : Type 0 where
  pub seats : (m : ℕ) → Two (b + m) → slice_get ts m ≡ Some true
  pub twos : (m : ℕ) → slice_get ts m ≡ Some true → Two (b + m)
  pub above : (i : ℕ) (x : ℕ × R) → slice_get l i ≡ Some x → b ≤ x.0
  pub asks : (i : ℕ) (x : ℕ × R) → slice_get l i ≡ Some x → Two x.0
  pub rising : (i j : ℕ) (x y : ℕ × R) → slice_get l i ≡ Some x → slice_get l j ≡ Some y → i < j → x.0 < y.0
  pub full :
      (i : ℕ) (x : ℕ × R) (m : ℕ) → slice_get l i ≡ Some x → b ≤ m → m < x.0 → Two m
      → (j : ℕ) × (y : ℕ × R) × (j < i) × (slice_get l j ≡ Some y) × (y.0 ≡ m)

same_or_above : (a b : ℕ) → a ≤ b → (a ≡ b) ⊎ (a < b)
same_or_above zero zero h = inl refl
same_or_above zero (suc b) h = inr (omega arith)
same_or_above (suc a) zero h = absurd (omega arith)
same_or_above (suc a) (suc b) h = elim (same_or_above a b (omega arith)) [ inl e ↦ inl (ap suc e) | inr l ↦ inr (omega arith) ]

pub row_told : {R : Type 0} (Two : ℕ → Type 0) (b : ℕ) (ts : List Bool) (l : List (ℕ × R)) → IsRow Two b ts l → answers l ≡ told b ts (replies l)
row_told Two b [] [] row = refl
row_told {R} Two b [] (x ∷ l) row =
    let low = row.above 0 x refl in
    let two = row.asks 0 x refl in
    let e : x.0 ≡ b + (x.0 - b) = omega arith in
    let z : None ≡ Some true = row.seats (x.0 - b) (subst Two e two) in
    absurd (let y : None ≡ Some true = z in cc)
row_told Two b (true ∷ ts) [] row = refl
row_told {R} Two b (true ∷ ts) (x ∷ l) row =
    let low = row.above 0 x refl in
    let zero_is : b + 0 ≡ b = omega arith in
    let two : Two b = subst Two zero_is (row.twos 0 refl) in
    let here : b ≡ x.0 = elim (same_or_above b x.0 low) [
      | inl e ↦ e
      | inr gap ↦ absurd (let f = row.full 0 x b refl (omega arith) gap two in let k = f.2 in omega arith)
    ] in
    let up : (m : ℕ) → suc b + m ≡ b + suc m = λ m. omega arith in
    let rest = row_told Two (suc b) ts l (record {
      seats = λ m t. row.seats (suc m) (subst Two (up m) t);
      twos = λ m h. subst Two (sym (up m)) (row.twos (suc m) h);
      above = λ i y h. let k = row.rising 0 (suc i) x y refl h (omega arith) in omega arith;
      asks = λ i y h. row.asks (suc i) y h;
      rising = λ i j y z h g k. row.rising (suc i) (suc j) y z h g (omega arith);
      full = λ i y m h lo hi t.
          let f = row.full (suc i) y m h (omega arith) hi t in
          later x l b here f.0 f.1 m i f.2 f.3 f.4 lo;
    }) in
    ap (λ (n : ℕ). Answer n x.1 ∷ answers l) (sym here) ∙ ap (λ (ms : List (Sent R)). Answer b x.1 ∷ ms) rest
  where
    later : (x : ℕ × R) (l : List (ℕ × R)) (b : ℕ) → b ≡ x.0 → (j : ℕ) (y : ℕ × R) (m i : ℕ) → j < suc i → slice_get (x ∷ l) j ≡ Some y → y.0 ≡ m → suc b ≤ m
        → (j : ℕ) × (y : ℕ × R) × (j < i) × (slice_get l j ≡ Some y) × (y.0 ≡ m)
    later x l b here zero y m i k h e lo = absurd (let s : x ≡ y = cc in let z = ap (λ (p : ℕ × R). p.0) s in omega arith)
    later x l b here (suc j) y m i k h e lo = (j, y, omega arith, h, e)
row_told {R} Two b (false ∷ ts) l row =
    let up : (m : ℕ) → suc b + m ≡ b + suc m = λ m. omega arith in
    let zero_is : b ≡ b + 0 = omega arith in
    let not_here : ¬ Two b = λ t. let z : Some false ≡ Some true = row.seats 0 (subst Two zero_is t) in cc in
    row_told Two (suc b) ts l (record {
      seats = λ m t. row.seats (suc m) (subst Two (up m) t);
      twos = λ m h. subst Two (sym (up m)) (row.twos (suc m) h);
      above = λ i y h. elim (same_or_above b y.0 (row.above i y h)) [
        | inl e ↦ absurd (not_here (subst Two (sym e) (row.asks i y h)))
        | inr k ↦ omega arith
      ];
      asks = row.asks;
      rising = row.rising;
      full = λ i y m h lo hi t. row.full i y m h (omega arith) hi t;
    })
