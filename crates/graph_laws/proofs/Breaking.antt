-- Reading answers a fault exactly where a part has the defect, for each way of joining parts.
use Rattle.std.proofs.Common.{◌≡◌, ℕ, ℤ, pos, negsuc, zero, suc, ◌+◌, Bool, true, false, cond, ltb, List, [], ◌∷◌, ◌++◌, length, Result, Ok, Err, refl, sym, ap, subst, ◌∙◌, inl, inr}
use Rattle.std.proofs.lemmas.Bool.{ltb-true, ltb-false, le-ltb, lt-ltb}
use Rattle.ice_prims.specs.declared.fault.Fault.{Fault}
use Rattle.ice_prims.specs.declared.fault.Kind.{Kind}
use Rattle.ice_prims.specs.declared.fault.Kind.TheVariants.{Short, TooLarge, BadSize, LeftOver}
use Rattle.ice_prims.specs.Rest.{Rest, fault, ◌>>=◌, IsBytes, bytes_at}
use Rattle.ice_prims.proofs.Parts.{chosen as choice, Took-fits}
use Rattle.ice_encoding.specs.declared.limits.TheConstants.{LARGEST}
use Rattle.ice_encoding.specs.Parts.{Part, IsLawful, read_times, tested}
use Rattle.ice_encoding.specs.Bounds.{claimed, ended, filled}
use Rattle.ice_encoding.proofs.Values.{LawfulPart}
use Rattle.graph_laws.specs.Defects.{Defect, At, Lacks, Unfit, Or, Then, Times, InBound, ClaimBreaks}

abbrev pub failed : {A : Type 0} → Fault → Result A Fault
failed e = Err e

pub same_err : {A : Type 0} (d e : Fault) → failed {A = A} d ≡ failed e → d ≡ e
same_err d e h = cc

pub no_err : {A C : Type 0} (x : A) (e : Fault) → Ok x ≡ failed {A = A} e → C
no_err x e h = absurd cc

-- which of two steps failed
pub then_err : {A B C : Type 0} (r : Result A Fault) (f : A → Result B Fault) (e : Fault) → (r >>= f) ≡ failed e → (r ≡ failed e → C) → ((x : A) → r ≡ Ok x → f x ≡ failed e → C) → C
then_err (Ok x) f e h one two = two x refl h
then_err (Err d) f e h one two = one (ap failed (same_err d e h))

-- a fault that is read is a defect, and each defect is read
pub record Agrees {B : Type 0} (read : Rest → Result B Fault) (Breaks : Defect) : Type 0 where
  pub broken : (r : Rest) (e : Fault) → IsBytes r.bytes → read r ≡ failed e → Breaks r.place r.bytes e
  pub breaks : (r : Rest) (e : Fault) → Breaks r.place r.bytes e → read r ≡ failed e

-- ---- one part, and then another

module _ {A B : Type 0} (first : Part A) (law : IsLawful first) (Here : Defect) (agrees : Agrees first.read Here)
    (second : A → Rest → Result B Fault) (Next : A → Defect) (behind : (x : A) → Agrees (second x) (Next x)) where
  then_broken : (r : Rest) (e : Fault) → IsBytes r.bytes → (first.read r >>= λ a. second a.0 a.1) ≡ failed e → Then first Here Next r.place r.bytes e
  then_broken r e fits h = then_err (first.read r) (λ a. second a.0 a.1) e h
      (λ bad. inl (agrees.broken r e fits bad))
      (λ x x_is later.
      let f = law.found r x fits x_is in
      let left = (Took-fits r x.1 f.0 fits f.1).1 in
      inr (x.0, f.0, x.1.bytes, f.1.parts, f.2, subst (λ (p : ℕ). Next x.0 p x.1.bytes e) f.1.moved ((behind x.0).broken x.1 e left later)))

  then_breaks : (r : Rest) (e : Fault) → Then first Here Next r.place r.bytes e → (first.read r >>= λ a. second a.0 a.1) ≡ failed e
  then_breaks r e (inl h) = rw (agrees.breaks r e h) refl
  then_breaks r e (inr (x, a, rest, parts, spells, h)) =
      let s : Rest = record { place = r.place + length a; bytes = rest } in
      let stands : first.read r ≡ Ok (x, s) = law.only r s a x (record { parts = parts; moved = refl }) spells in
      rw stands ((behind x).breaks s e h)

  pub then_agrees : Agrees (λ r. first.read r >>= λ a. second a.0 a.1) (Then first Here Next)
  then_agrees = record { broken = then_broken; breaks = then_breaks }

module _ {A B : Type 0} (read : Rest → Result (A × Rest) Fault) (Breaks : Defect) (agrees : Agrees read Breaks) (g : A → B) where
  pub made_agrees : Agrees {B = B × Rest} (λ r. read r >>= λ x. Ok (g x.0, x.1)) Breaks
  made_agrees = record {
    broken = λ r e fits h. then_err (read r) (λ x. Ok (g x.0, x.1)) e h (λ bad. agrees.broken r e fits bad) (λ x x_is later. no_err (g x.0, x.1) e later);
    breaks = λ r e h. rw (agrees.breaks r e h) refl;
  }

pub both_agrees : {A B : Type 0} (first : Part A) (law : IsLawful first) (Here : Defect) → Agrees first.read Here → (second : Part B) (Next : Defect) → Agrees second.read Next
    → Agrees {B = (A × B) × Rest} (λ r. first.read r >>= λ a. second.read a.1 >>= λ b. Ok ((a.0, b.0), b.1)) (Then first Here (λ x. Next))
both_agrees first law Here here second Next next =
    then_agrees first law Here here (λ x r. second.read r >>= λ b. Ok ((x, b.0), b.1)) (λ x. Next) (λ x. made_agrees second.read Next next (λ b. (x, b)))

-- ---- a test

module _ {A : Type 0} (test : A → Bool) (kind : Kind) (one : Part A) (law : IsLawful one) (One : Defect) (agrees : Agrees one.read One) (IsOff : A → Type 0)
    (off : (x : A) → test x ≡ false → IsOff x) (refused : (x : A) → IsOff x → test x ≡ false) where
  tested_broken : (r : Rest) (e : Fault) → IsBytes r.bytes → (tested test kind one).read r ≡ failed e → Or One (Unfit one IsOff kind) r.place r.bytes e
  tested_broken r e fits h = then_err (one.read r) (λ x. cond (test x.0) (Ok x) (fault r.place kind)) e h
      (λ bad. inl (agrees.broken r e fits bad))
      (λ x x_is later.
      elim (choice (test x.0) (Ok x) (fault r.place kind) (Err e) later) [
        | inl good ↦ no_err x e good.1
        | inr bad ↦
            let f = law.found r x fits x_is in
            inr (x.0, f.0, x.1.bytes, f.1.parts, f.2, off x.0 bad.0, sym (same_err (record { place = r.place; kind = kind }) e bad.1))
      ])

  tested_breaks : (r : Rest) (e : Fault) → Or One (Unfit one IsOff kind) r.place r.bytes e → (tested test kind one).read r ≡ failed e
  tested_breaks r e (inl h) = rw (agrees.breaks r e h) refl
  tested_breaks r e (inr (x, a, rest, parts, spells, is_off, at)) =
      let s : Rest = record { place = r.place + length a; bytes = rest } in
      let stands : one.read r ≡ Ok (x, s) = law.only r s a x (record { parts = parts; moved = refl }) spells in
      let fails : test x ≡ false = refused x is_off in
      rw (stands, fails, at) refl

  pub tested_agrees : Agrees (tested test kind one).read (Or One (Unfit one IsOff kind))
  tested_agrees = record { broken = tested_broken; breaks = tested_breaks }

-- ---- so many

module _ {A : Type 0} (one : Part A) (law : IsLawful one) (One : Defect) (agrees : Agrees one.read One) where
  pub times_agrees : (n : ℕ) → Agrees (read_times one.read n) (Times one One n)
  times_agrees zero = record { broken = λ r e fits h. no_err ([], r) e h; breaks = λ r e h. absurd h }
  times_agrees (suc n) =
      then_agrees one law One agrees (λ x r. read_times one.read n r >>= λ others. Ok (x ∷ others.0, others.1)) (λ x. Times one One n)
      (λ x. made_agrees (read_times one.read n) (Times one One n) (times_agrees n) (λ xs. x ∷ xs))

-- ---- bytes

pub bytes_lack : (n : ℕ) (r : Rest) (e : Fault) → bytes_at n r ≡ failed e → Lacks n r.place r.bytes e
bytes_lack n r e h = elim (choice (ltb (length r.bytes) n) _ _ (Err e) h) [
  | inl short ↦ (ltb-true _ _ short.0, sym (same_err (record { place = r.place; kind = Short }) e short.1))
  | inr enough ↦ no_err _ e enough.1
]

pub lack_bytes : (n : ℕ) (r : Rest) (e : Fault) → Lacks n r.place r.bytes e → bytes_at n r ≡ failed e
lack_bytes n r e h = let short : ltb (length r.bytes) n ≡ true = lt-ltb _ _ h.0 in rw (short, h.1) refl

pub lacks_agrees : {A : Type 0} (n : ℕ) (g : List ℕ → A) → Agrees {B = A × Rest} (λ r. bytes_at n r >>= λ b. Ok (g b.0, b.1)) (Lacks n)
lacks_agrees n g = made_agrees (bytes_at n) (Lacks n) (record { broken = λ r e fits h. bytes_lack n r e h; breaks = λ r e h. lack_bytes n r e h }) g

-- ---- a size that counts what it stands before

pub claim_broken : (place left smallest : ℕ) (z : ℤ) (e : Fault) → claimed place left smallest z ≡ failed e → ClaimBreaks left smallest z place e
claim_broken place left smallest (negsuc m) e h = sym (same_err (record { place = place; kind = BadSize }) e h)
claim_broken place left smallest (pos m) e h = elim (choice (ltb LARGEST m) _ _ (Err e) h) [
  | inl c ↦ inl (ltb-true _ _ c.0, sym (same_err (record { place = place; kind = TooLarge }) e c.1))
  | inr c ↦ elim (choice (ltb left m) _ _ (Err e) c.1) [
    | inl d ↦ inr (inl (ltb-false _ _ c.0, ltb-true _ _ d.0, sym (same_err (record { place = place; kind = Short }) e d.1)))
    | inr d ↦ elim (choice (ltb m smallest) _ _ (Err e) d.1) [
      | inl f ↦ inr (inr (ltb-false _ _ c.0, ltb-false _ _ d.0, ltb-true _ _ f.0, sym (same_err (record { place = place; kind = BadSize }) e f.1)))
      | inr f ↦ no_err m e f.1
    ]
  ]
]

pub claim_breaks : (place left smallest : ℕ) (z : ℤ) (e : Fault) → ClaimBreaks left smallest z place e → claimed place left smallest z ≡ failed e
claim_breaks place left smallest (negsuc m) e h = rw h refl
claim_breaks place left smallest (pos m) e (inl (large, at)) = let a : ltb LARGEST m ≡ true = lt-ltb _ _ large in rw (a, at) refl
claim_breaks place left smallest (pos m) e (inr (inl (most, short, at))) =
    let a : ltb LARGEST m ≡ false = le-ltb _ _ most in let b : ltb left m ≡ true = lt-ltb _ _ short in rw (a, b, at) refl
claim_breaks place left smallest (pos m) e (inr (inr (most, there, small, at))) =
    let a : ltb LARGEST m ≡ false = le-ltb _ _ most in let b : ltb left m ≡ false = le-ltb _ _ there in let c : ltb m smallest ≡ true = lt-ltb _ _ small in rw (a, b, c, at) refl

-- ---- what fills its bound

module _ {A : Type 0} (read : Rest → Result (A × Rest) Fault) (Spells : List ℕ → A → Type 0) (law : LawfulPart read Spells) (One : Defect) (agrees : Agrees read One) where
  left_over : (left : List ℕ) (place : ℕ) (x : A) (e : Fault) → ended left place x ≡ failed e → (byte : ℕ) × (others : List ℕ) × (left ≡ byte ∷ others) × At place LeftOver e
  left_over [] place x e h = no_err x e h
  left_over (b ∷ bs) place x e h = (b, bs, refl, sym (same_err (record { place = place; kind = LeftOver }) e h))

  bound_broken : (r : Rest) (e : Fault) → IsBytes r.bytes → filled read r ≡ failed e → InBound Spells One r.place r.bytes e
  bound_broken r e fits h = then_err (read r) (λ x. ended x.1.bytes x.1.place x.0) e h
      (λ bad. inl (agrees.broken r e fits bad))
      (λ x x_is later.
      let f = law.found r x fits x_is in
      let o = left_over x.1.bytes x.1.place x.0 e later in
      inr (x.0, f.0, o.0, o.1, f.1.parts ∙ ap (λ (z : List ℕ). f.0 ++ z) o.2, f.2, subst (λ (p : ℕ). At p LeftOver e) f.1.moved o.3))

  bound_breaks : (r : Rest) (e : Fault) → InBound Spells One r.place r.bytes e → filled read r ≡ failed e
  bound_breaks r e (inl h) = rw (agrees.breaks r e h) refl
  bound_breaks r e (inr (x, a, byte, left, parts, spells, at)) =
      let s : Rest = record { place = r.place + length a; bytes = byte ∷ left } in
      let stands : read r ≡ Ok (x, s) = law.only r s a x (record { parts = parts; moved = refl }) spells in
      rw (stands, at) refl

  pub filled_agrees : Agrees (filled read) (InBound Spells One)
  filled_agrees = record { broken = bound_broken; breaks = bound_breaks }
