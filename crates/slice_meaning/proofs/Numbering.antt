-- Scopes by number are scopes by path.
use Rattle.std.proofs.Common.{◌≡◌, ℕ, suc, ◌<◌, ◌≤◌, ◌⊎◌, Bool, true, false, cond, List, [], ◌∷◌, length, Option, Some, None, refl, sym, ap, ◌∙◌, subst, inl, inr, arith}
use Rattle.std.specs.Prelude.{◌&&◌, ◌==◌, bytes_eq, Decides}
use Rattle.std.proofs.lemmas.Bool.Decides.{Decides-eqb, nat_tests}
use Rattle.std.proofs.lemmas.Bool.{cases_lt}
use Rattle.std.proofs.lemmas.Slice.Eq.{bytes_eq-Decides, slice_eq-Decides}
use Rattle.std.specs.Prelude.{◌||◌}
use Rattle.std.specs.Str.{str_eq_ignore_ascii_case, str_to_ascii_lowercase}
use Rattle.slice_meaning.specs.Names.{Name, Scope, taken_in, same_scope}
use Rattle.slice_meaning.proofs.Ids.{test_true, test_below}
use Rattle.slice_meaning.specs.declared.entry.Entry.{Entry}
use Rattle.slice_meaning.specs.Numbers.{scope_at, number_of}
use Rattle.slice_meaning.specs.Scopes.{declarations, number_in, lowered_in, AreEntries}

-- ---- tests

pub scope_test : (p q : Scope) → Decides (same_scope p q) (p ≡ q)
scope_test p q = slice_eq-Decides bytes_eq-Decides p q (same_scope p q) refl

scope_apart : (p q : Scope) → (p ≡ q → ⊥) → same_scope p q ≡ false
scope_apart p q apart = by_test (same_scope p q) refl
  where
    by_test : (b : Bool) → same_scope p q ≡ b → same_scope p q ≡ false
    by_test true h = absurd (apart ((scope_test p q).0 h))
    by_test false h = h

-- ---- numbers

pub declared_length : (es : List Entry) → length (declarations es) ≡ length es
declared_length [] = refl
declared_length (e ∷ es) = ap suc (declared_length es)

path : List Entry → ℕ → Scope
path es n = scope_at (declarations es) n

pub scope_new : (e : Entry) (es : List Entry) (n : ℕ) → n ≡ suc (length es) → scope_at (declarations (e ∷ es)) n ≡ e.name.now ∷ scope_at (declarations es) e.around
scope_new e es n h = ap (λ (b : Bool). cond b (e.name.now ∷ scope_at (declarations es) e.around) (scope_at (declarations es) n)) (test_true n (suc (length (declarations es))) (h ∙ ap suc (sym (declared_length es))))

pub scope_old : (e : Entry) (es : List Entry) (n : ℕ) → n ≤ length es → scope_at (declarations (e ∷ es)) n ≡ scope_at (declarations es) n
scope_old e es n h = ap (λ (b : Bool). cond b (e.name.now ∷ scope_at (declarations es) e.around) (scope_at (declarations es) n)) (test_below n (length (declarations es)) (let l = declared_length es in omega arith))

pub scope_zero : (es : List Entry) → scope_at (declarations es) 0 ≡ []
scope_zero [] = refl
scope_zero (e ∷ es) = scope_old e es 0 (omega arith) ∙ scope_zero es

-- the last number, or an earlier one
pub split : (n m : ℕ) → n ≤ suc m → (n ≡ suc m) ⊎ (n ≤ m)
split n m h = elim (cases_lt m n) [ inl a ↦ inl (omega arith) | inr b ↦ inr b ]

-- a path that is not empty is inside that of an earlier number
tail_at : (es : List Entry) → AreEntries es → (m : ℕ) → m ≤ length es → (w : Name) (p : Scope) → scope_at (declarations es) m ≡ w ∷ p → (q : ℕ) × (q ≤ length es) × (scope_at (declarations es) q ≡ p)
tail_at [] ok m h w p e = absurd cc
tail_at (e ∷ es) ok m h w p is = elim (split m (length es) h) [
  | inl new ↦
      let both : e.name.now ∷ scope_at (declarations es) e.around ≡ w ∷ p = sym (scope_new e es m new) ∙ is in
      let same : scope_at (declarations es) e.around ≡ p = cc in
      (e.around, omega (arith, ok.0), scope_old e es e.around ok.0 ∙ same)
  | inr old ↦
      let r = tail_at es ok.2 m old w p (sym (scope_old e es m old) ∙ is) in
      (r.0, omega (arith, r.1), scope_old e es r.0 r.1 ∙ r.2)
]

longer : (w : Name) (p : Scope) → p ≡ w ∷ p → ⊥
longer w p h = let l : length p ≡ suc (length p) = ap length h in omega arith

none_some : {A : Type 0} {x : A} (o : Option A) → o ≡ None → o ≡ Some x → ⊥
none_some o a b = cc

record Facts (es : List Entry) : Type 0 where
  -- numbers of one path are one
  pub same : (n m : ℕ) → n ≤ length es → m ≤ length es → scope_at (declarations es) n ≡ scope_at (declarations es) m → n ≡ m
  -- a path inside another is found there
  pub inner : (n m : ℕ) (w : Name) → n ≤ length es → m ≤ length es → scope_at (declarations es) m ≡ w ∷ scope_at (declarations es) n → number_in es n w ≡ Some m

no_facts : Facts []
no_facts = record {
  same = λ n m a b h. omega arith;
  inner = λ n m w a b h. absurd (let l : 0 ≡ suc 0 = ap length h in omega arith);
}

match_true : (e : Entry) (n : ℕ) (w : Name) → e.around ≡ n → e.name.now ≡ w → (e.around == n && bytes_eq e.name.now w) ≡ true
match_true e n w a b = ap (λ (t : Bool). t && bytes_eq e.name.now w) (test_true e.around n a) ∙ (bytes_eq-Decides e.name.now w).1 b

match_parts : (e : Entry) (n : ℕ) (w : Name) → (e.around == n && bytes_eq e.name.now w) ≡ true → (e.around ≡ n) × (e.name.now ≡ w)
match_parts e n w h = by_test (e.around == n) refl h
  where
    by_test : (b : Bool) → (e.around == n) ≡ b → (b && bytes_eq e.name.now w) ≡ true → (e.around ≡ n) × (e.name.now ≡ w)
    by_test true is h = ((Decides-eqb e.around n).0 is, (bytes_eq-Decides e.name.now w).0 h)
    by_test false is h = absurd cc

number_new : (e : Entry) (es : List Entry) (n : ℕ) (w : Name) → e.around ≡ n → e.name.now ≡ w → number_in (e ∷ es) n w ≡ Some (suc (length es))
number_new e es n w a b = ap (λ (t : Bool). cond t (Some (suc (length es))) (number_in es n w)) (match_true e n w a b)

number_else : (e : Entry) (es : List Entry) (n : ℕ) (w : Name) → (e.around == n && bytes_eq e.name.now w) ≡ false → number_in (e ∷ es) n w ≡ number_in es n w
number_else e es n w h = ap (λ (t : Bool). cond t (Some (suc (length es))) (number_in es n w)) h

module _ (e : Entry) (es : List Entry) (ok : AreEntries (e ∷ es)) (f : Facts es) where
  same_on : (n m : ℕ) → n ≤ suc (length es) → m ≤ suc (length es) → scope_at (declarations (e ∷ es)) n ≡ scope_at (declarations (e ∷ es)) m → n ≡ m
  same_on n m a b h = elim (split n (length es) a) [
    | inl n_new ↦ elim (split m (length es) b) [
      | inl m_new ↦ n_new ∙ sym m_new
      | inr m_old ↦ absurd (none_some (number_in es e.around e.name.now) ok.1 (f.inner e.around m e.name.now ok.0 m_old (sym (scope_old e es m m_old) ∙ (sym h ∙ scope_new e es n n_new))))
    ]
    | inr n_old ↦ elim (split m (length es) b) [
      | inl m_new ↦ absurd (none_some (number_in es e.around e.name.now) ok.1 (f.inner e.around n e.name.now ok.0 n_old (sym (scope_old e es n n_old) ∙ (h ∙ scope_new e es m m_new))))
      | inr m_old ↦ f.same n m n_old m_old (sym (scope_old e es n n_old) ∙ (h ∙ scope_old e es m m_old))
    ]
  ]

  kept : (n m : ℕ) (w : Name) (test : Bool) → (e.around == n && bytes_eq e.name.now w) ≡ test → number_in es n w ≡ Some m → number_in (e ∷ es) n w ≡ Some m
  kept n m w true t h = let parts = match_parts e n w t in absurd (none_some (number_in es e.around e.name.now) ok.1 (subst (λ (k : ℕ). number_in es k e.name.now ≡ Some m) (sym parts.0) (subst (λ (v : Name). number_in es n v ≡ Some m) (sym parts.1) h)))
  kept n m w false t h = number_else e es n w t ∙ h

  inner_on : (n m : ℕ) (w : Name) → n ≤ suc (length es) → m ≤ suc (length es) → scope_at (declarations (e ∷ es)) m ≡ w ∷ scope_at (declarations (e ∷ es)) n → number_in (e ∷ es) n w ≡ Some m
  inner_on n m w a b h = elim (split m (length es) b) [
    | inl m_new ↦ elim (split n (length es) a) [
      | inl n_new ↦
          let both : e.name.now ∷ scope_at (declarations es) e.around ≡ w ∷ (e.name.now ∷ scope_at (declarations es) e.around) = sym (scope_new e es m m_new) ∙ (h ∙ ap (λ (p : Scope). w ∷ p) (scope_new e es n n_new)) in
          let rest : scope_at (declarations es) e.around ≡ e.name.now ∷ scope_at (declarations es) e.around = cc in
          absurd (longer e.name.now (scope_at (declarations es) e.around) rest)
      | inr n_old ↦
          let both : e.name.now ∷ scope_at (declarations es) e.around ≡ w ∷ scope_at (declarations es) n = sym (scope_new e es m m_new) ∙ (h ∙ ap (λ (p : Scope). w ∷ p) (scope_old e es n n_old)) in
          let name : e.name.now ≡ w = cc in
          let rest : scope_at (declarations es) e.around ≡ scope_at (declarations es) n = cc in
          number_new e es n w (f.same e.around n ok.0 n_old rest) name ∙ ap Some (sym m_new)
    ]
    | inr m_old ↦ elim (split n (length es) a) [
      | inl n_new ↦
          let up = tail_at es ok.2 m m_old w (e.name.now ∷ scope_at (declarations es) e.around) (sym (scope_old e es m m_old) ∙ (h ∙ ap (λ (p : Scope). w ∷ p) (scope_new e es n n_new))) in
          absurd (none_some (number_in es e.around e.name.now) ok.1 (f.inner e.around up.0 e.name.now ok.0 up.1 up.2))
      | inr n_old ↦ kept n m w (e.around == n && bytes_eq e.name.now w) refl (f.inner n m w n_old m_old (sym (scope_old e es m m_old) ∙ (h ∙ ap (λ (p : Scope). w ∷ p) (scope_old e es n n_old))))
    ]
  ]

facts : (es : List Entry) → AreEntries es → Facts es
facts [] ok = no_facts
facts (e ∷ es) ok = let f = facts es ok.2 in record { same = same_on e es ok f; inner = inner_on e es ok f }

-- ---- looking up

-- no number past the last has a name in it
pub none_beyond : (es : List Entry) → AreEntries es → (n : ℕ) → length es < n → (w : Name) → number_in es n w ≡ None
none_beyond [] ok n h w = refl
none_beyond (e ∷ es) ok n h w =
    ap (λ (b : Bool). cond (b && bytes_eq e.name.now w) (Some (suc (length es))) (number_in es n w)) (apart e.around n (omega (arith, ok.0)))
    ∙ none_beyond es ok.2 n (omega arith) w
  where
    apart : (a b : ℕ) → a < b → (a == b) ≡ false
    apart a b h = grind (arith, nat_tests)

pub number_range : (es : List Entry) (n : ℕ) (w : Name) (k : ℕ) → number_in es n w ≡ Some k → (0 < k) × (k ≤ length es)
number_range [] n w k h = absurd cc
number_range (e ∷ es) n w k h = by_test (e.around == n && bytes_eq e.name.now w) h (number_range es n w k)
  where
    by_test : (b : Bool) → cond b (Some (suc (length es))) (number_in es n w) ≡ Some k → (number_in es n w ≡ Some k → (0 < k) × (k ≤ length es)) → (0 < k) × (k ≤ suc (length es))
    by_test true h later = let s : suc (length es) ≡ k = cc in (omega arith, omega arith)
    by_test false h later = let r = later h in (r.0, omega (arith, r.1))

-- a scope that is no path has nothing in it
none_inside : (es : List Entry) → AreEntries es → (p : Scope) → ((m : ℕ) → m ≤ length es → scope_at (declarations es) m ≡ p → ⊥) → (w : Name) → number_of (declarations es) w p ≡ None
none_inside [] ok p apart w = refl
none_inside (e ∷ es) ok p apart w =
    ap (λ (b : Bool). cond (b && bytes_eq e.name.now w) (Some (suc (length (declarations es)))) (number_of (declarations es) w p)) (scope_apart (scope_at (declarations es) e.around) p (λ h. apart e.around (omega (arith, ok.0)) (scope_old e es e.around ok.0 ∙ h)))
    ∙ none_inside es ok.2 p (λ m a h. apart m (omega arith) (scope_old e es m a ∙ h)) w

-- what a name in a scope is, by the number of the scope
pub number_is : (es : List Entry) → AreEntries es → (n : ℕ) → n ≤ length es → (w : Name) → number_of (declarations es) w (scope_at (declarations es) n) ≡ number_in es n w
number_is [] ok n h w = refl
number_is (e ∷ es) ok n h w = elim (split n (length es) h) [
  | inl new ↦
      let p : Scope = e.name.now ∷ scope_at (declarations es) e.around in
      let f = facts es ok.2 in
      ap (number_of (declarations (e ∷ es)) w) (scope_new e es n new)
      ∙ (ap (λ (b : Bool). cond (b && bytes_eq e.name.now w) (Some (suc (length (declarations es)))) (number_of (declarations es) w p)) (scope_apart (scope_at (declarations es) e.around) p (longer e.name.now (scope_at (declarations es) e.around)))
      ∙ (none_inside es ok.2 p (λ m a h. none_some (number_in es e.around e.name.now) ok.1 (f.inner e.around m e.name.now ok.0 a h)) w
      ∙ sym (none_at_new n new)))
  | inr old ↦
      ap (number_of (declarations (e ∷ es)) w) (scope_old e es n old)
      ∙ (ap (λ (b : Bool). cond (b && bytes_eq e.name.now w) (Some (suc (length (declarations es)))) (number_of (declarations es) w (scope_at (declarations es) n))) (tests n old (e.around == n) refl)
      ∙ (ap (λ (l : ℕ). cond (e.around == n && bytes_eq e.name.now w) (Some (suc l)) (number_of (declarations es) w (scope_at (declarations es) n))) (declared_length es)
      ∙ ap (cond (e.around == n && bytes_eq e.name.now w) (Some (suc (length es)))) (number_is es ok.2 n old w)))
]
  where
    tests : (n : ℕ) → n ≤ length es → (b : Bool) → (e.around == n) ≡ b → same_scope (scope_at (declarations es) e.around) (scope_at (declarations es) n) ≡ (e.around == n)
    tests n old true is = (scope_test (scope_at (declarations es) e.around) (scope_at (declarations es) n)).1 (ap (scope_at (declarations es)) ((Decides-eqb e.around n).0 is)) ∙ sym is
    tests n old false is = scope_apart (scope_at (declarations es) e.around) (scope_at (declarations es) n) (λ h. let t = test_true e.around n ((facts es ok.2).same e.around n ok.0 old h) in let no : true ≡ false = sym t ∙ is in cc) ∙ sym is

    apart : (a b : ℕ) → a < b → (a == b) ≡ false
    apart a b h = grind (arith, nat_tests)

    none_at_new : (n : ℕ) → n ≡ suc (length es) → number_in (e ∷ es) n w ≡ None
    none_at_new n new = ap (λ (b : Bool). cond (b && bytes_eq e.name.now w) (Some (suc (length es))) (number_in es n w)) (apart e.around n (omega (arith, ok.0))) ∙ none_beyond es ok.2 n (omega arith) w

-- ---- without regard to case

lowered_inside : (es : List Entry) → AreEntries es → (p : Scope) → ((m : ℕ) → m ≤ length es → scope_at (declarations es) m ≡ p → ⊥) → (w : Name) → taken_in (declarations es) w p ≡ false
lowered_inside [] ok p apart w = refl
lowered_inside (e ∷ es) ok p apart w =
    ap (λ (b : Bool). (b && str_eq_ignore_ascii_case e.name.now w) || taken_in (declarations es) w p) (scope_apart (scope_at (declarations es) e.around) p (λ h. apart e.around (omega (arith, ok.0)) (scope_old e es e.around ok.0 ∙ h)))
    ∙ lowered_inside es ok.2 p (λ m a h. apart m (omega arith) (scope_old e es m a ∙ h)) w

pub lowered_beyond : (es : List Entry) → AreEntries es → (n : ℕ) → length es < n → (w : Name) → lowered_in es n w ≡ false
lowered_beyond [] ok n h w = refl
lowered_beyond (e ∷ es) ok n h w =
    ap (λ (b : Bool). (b && bytes_eq (str_to_ascii_lowercase e.name.now) w) || lowered_in es n w) (apart e.around n (omega (arith, ok.0)))
    ∙ lowered_beyond es ok.2 n (omega arith) w
  where
    apart : (a b : ℕ) → a < b → (a == b) ≡ false
    apart a b h = grind (arith, nat_tests)

pub taken_is : (es : List Entry) → AreEntries es → (n : ℕ) → n ≤ length es → (w : Name) → taken_in (declarations es) w (scope_at (declarations es) n) ≡ lowered_in es n (str_to_ascii_lowercase w)
taken_is [] ok n h w = refl
taken_is (e ∷ es) ok n h w = elim (split n (length es) h) [
  | inl new ↦
      let p : Scope = e.name.now ∷ scope_at (declarations es) e.around in
      let f = facts es ok.2 in
      ap (taken_in (declarations (e ∷ es)) w) (scope_new e es n new)
      ∙ (ap (λ (b : Bool). (b && str_eq_ignore_ascii_case e.name.now w) || taken_in (declarations es) w p) (scope_apart (scope_at (declarations es) e.around) p (longer e.name.now (scope_at (declarations es) e.around)))
      ∙ (lowered_inside es ok.2 p (λ m a h. none_some (number_in es e.around e.name.now) ok.1 (f.inner e.around m e.name.now ok.0 a h)) w
      ∙ sym (none_at_new n new)))
  | inr old ↦
      ap (taken_in (declarations (e ∷ es)) w) (scope_old e es n old)
      ∙ (ap (λ (b : Bool). (b && str_eq_ignore_ascii_case e.name.now w) || taken_in (declarations es) w (scope_at (declarations es) n)) (tests n old (e.around == n) refl)
      ∙ ap (λ (r : Bool). (e.around == n && str_eq_ignore_ascii_case e.name.now w) || r) (taken_is es ok.2 n old w))
]
  where
    tests : (n : ℕ) → n ≤ length es → (b : Bool) → (e.around == n) ≡ b → same_scope (scope_at (declarations es) e.around) (scope_at (declarations es) n) ≡ (e.around == n)
    tests n old true is = (scope_test (scope_at (declarations es) e.around) (scope_at (declarations es) n)).1 (ap (scope_at (declarations es)) ((Decides-eqb e.around n).0 is)) ∙ sym is
    tests n old false is = scope_apart (scope_at (declarations es) e.around) (scope_at (declarations es) n) (λ h. let t = test_true e.around n ((facts es ok.2).same e.around n ok.0 old h) in let wrong : true ≡ false = sym t ∙ is in cc) ∙ sym is

    apart : (a b : ℕ) → a < b → (a == b) ≡ false
    apart a b h = grind (arith, nat_tests)

    none_at_new : (n : ℕ) → n ≡ suc (length es) → lowered_in (e ∷ es) n (str_to_ascii_lowercase w) ≡ false
    none_at_new n new = ap (λ (b : Bool). (b && bytes_eq (str_to_ascii_lowercase e.name.now) (str_to_ascii_lowercase w)) || lowered_in es n (str_to_ascii_lowercase w)) (apart e.around n (omega (arith, ok.0))) ∙ lowered_beyond es ok.2 n (omega arith) (str_to_ascii_lowercase w)
