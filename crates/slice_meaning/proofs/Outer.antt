-- The way outwards, in steps over several scopes at once.
use Rattle.std.proofs.Common.{get_or, ◌≡◌, ℕ, zero, suc, ◌-◌, ◌<◌, ◌≤◌, Bool, cond, List, [], ◌∷◌, length, Option, Some, None, refl, sym, ap, ◌∙◌, subst, inl, inr, arith}
use Rattle.std.specs.Prelude.{slice_get, reverse}
use Rattle.std.proofs.lemmas.Bool.{cases_lt}
use Rattle.std.proofs.lemmas.List.{reverse-reverse, length-reverse}
use Rattle.std.proofs.lemmas.Option.{slice_get_read, slice_get_within}
use Rattle.slice_meaning.specs.Names.{Name, Scope, Declared, declared_in, outwards}
use Rattle.slice_meaning.specs.declared.entry.Entry.{Entry}
use Rattle.slice_meaning.specs.declared.by_name.ByName.{ByName}
use Rattle.slice_meaning.specs.declared.lowered.Lowered.{Lowered}
use Rattle.slice_meaning.specs.Finding.{number_at, IsNearest}
use Rattle.slice_meaning.specs.Numbers.{scope_at, Lacks, IsLast}
use Rattle.slice_meaning.specs.Scopes.{declarations, AreEntries, around_of, outer_by, IsOuter, AreSkips, AreFound}
use Rattle.slice_meaning.proofs.Ids.{test_true, test_below}
use Rattle.slice_meaning.proofs.Numbering.{declared_length, scope_new, scope_old, split}
use Rattle.slice_meaning.proofs.Lookup.{reverse_cons, get_front, get_last, outwards_on, zero_scope, found_number}

-- ---- the scope round one

around_new : (e : Entry) (es : List Entry) (n : ℕ) → n ≡ suc (length es) → around_of (e ∷ es) n ≡ e.around
around_new e es n h = ap (λ (b : Bool). cond b e.around (around_of es n)) (test_true n (suc (length es)) h)

around_old : (e : Entry) (es : List Entry) (n : ℕ) → n ≤ length es → around_of (e ∷ es) n ≡ around_of es n
around_old e es n h = ap (λ (b : Bool). cond b e.around (around_of es n)) (test_below n (length es) h)

around_zero : (es : List Entry) → around_of es 0 ≡ 0
around_zero [] = refl
around_zero (e ∷ es) = around_old e es 0 (omega arith) ∙ around_zero es

-- what the scope round one is
record IsAround (es : List Entry) (n : ℕ) : Type 0 where
  less : around_of es n < n
  name : Name
  scope : scope_at (declarations es) n ≡ name ∷ scope_at (declarations es) (around_of es n)

around_is : (es : List Entry) → AreEntries es → (n : ℕ) → 0 < n → n ≤ length es → IsAround es n
around_is [] ok n first h = absurd (omega arith)
around_is (e ∷ es) ok n first h = elim (split n (length es) h) [
  | inl new ↦
      let is = around_new e es n new in
      record {
        less = (let l = ok.0 in omega arith);
        name = e.name.now;
        scope = scope_new e es n new ∙ ap (λ (p : Scope). e.name.now ∷ p) (sym (scope_old e es e.around ok.0) ∙ ap (scope_at (declarations (e ∷ es))) (sym is));
      }
  | inr old ↦
      let r = around_is es ok.2 n first old in
      let is = around_old e es n old in
      record {
        less = (let l = r.less in omega arith);
        name = r.name;
        scope = scope_old e es n old ∙ (r.scope ∙ ap (λ (p : Scope). r.name ∷ p) (sym (scope_old e es (around_of es n) (let l = r.less in omega arith)) ∙ ap (scope_at (declarations (e ∷ es))) (sym is)));
      }
]

around_le : (es : List Entry) → AreEntries es → (n : ℕ) → n ≤ length es → around_of es n ≤ n
around_le es ok zero h = let z = around_zero es in omega arith
around_le es ok (suc n) h = let r = around_is es ok (suc n) (omega arith) h in let l = r.less in omega arith

-- ---- several steps outwards

outer_le : (es : List Entry) → AreEntries es → (steps n : ℕ) → n ≤ length es → outer_by es steps n ≤ n
outer_le es ok zero n h = omega arith
outer_le es ok (suc steps) n h = let a = around_le es ok n h in let r = outer_le es ok steps (around_of es n) (omega arith) in omega arith

outer_old : (e : Entry) (es : List Entry) → AreEntries es → (steps n : ℕ) → n ≤ length es → outer_by (e ∷ es) steps n ≡ outer_by es steps n
outer_old e es ok zero n h = refl
outer_old e es ok (suc steps) n h = ap (outer_by (e ∷ es) steps) (around_old e es n h) ∙ outer_old e es ok steps (around_of es n) (let a = around_le es ok n h in omega arith)

joined_by : (es : List Entry) (steps p q r : ℕ) → outer_by es steps p ≡ q → IsOuter es q r → IsOuter es p r
joined_by es zero p q r h i = subst (λ (n : ℕ). IsOuter es n r) (sym h) i
joined_by es (suc steps) p q r h i = let more = joined_by es steps (around_of es p) q r h i in (suc more.0, more.1)

-- outwards, and then further
pub joined : (es : List Entry) (p q r : ℕ) → IsOuter es p q → IsOuter es q r → IsOuter es p r
joined es p q r h i = joined_by es h.0 p q r h.1 i

-- where the step of an entry leads
record IsSkip (es : List Entry) (k : ℕ) (e : Entry) : Type 0 where
  around : around_of es (suc k) ≡ e.around
  skip : IsOuter es e.around e.skip.to

skip_old : (x e : Entry) (es : List Entry) → AreEntries es → (k : ℕ) → k < length es → IsSkip es k e → IsSkip (x ∷ es) k e
skip_old x e es ok k h is = record {
  around = around_old x es (suc k) (omega arith) ∙ is.around;
  skip = (is.skip.0, outer_old x es ok is.skip.0 e.around (let a = around_le es ok (suc k) (omega arith) in let i = is.around in omega arith) ∙ is.skip.1);
}

skip_is : (es : List Entry) → AreEntries es → AreSkips es → (k : ℕ) (e : Entry) → slice_get (reverse es) k ≡ Some e → IsSkip es k e
skip_is [] ok skips k e h = absurd cc
skip_is (x ∷ es) ok skips k e h = elim (cases_lt k (length es)) [
  | inl old ↦ skip_old x e es ok.2 k old (skip_is es ok.2 skips.1 k e (sym (get_front (reverse es) x k (omega (arith, length-reverse es))) ∙ (sym (ap (λ l. slice_get l k) (reverse_cons x es)) ∙ h)))
  | inr new ↦
      let len : k < length (reverse (x ∷ es)) = slice_get_within (reverse (x ∷ es)) k e h in
      let is : k ≡ length es = (let l = length-reverse (x ∷ es) in omega arith) in
      let both : Some x ≡ Some e = sym (get_last (reverse es) x k (is ∙ sym (length-reverse es))) ∙ (sym (ap (λ l. slice_get l k) (reverse_cons x es)) ∙ h) in
      let same : x ≡ e = cc in
      subst (λ (y : Entry). IsSkip (x ∷ es) k y) same (record {
        around = around_new x es (suc k) (ap suc is);
        skip = (skips.0.0, outer_old x es ok.2 skips.0.0 x.around ok.0 ∙ skips.0.1);
      })
]

skip_at : (entries : List Entry) (k : ℕ) (e : Entry) → AreEntries (reverse entries) → AreSkips (reverse entries) → k < length entries → e ≡ get_or entries k e → IsSkip (reverse entries) k e
skip_at entries k e ok skips below at = skip_is (reverse entries) ok skips k e (ap (λ l. slice_get l k) (reverse-reverse entries) ∙ slice_get_read entries (length entries) k e refl below at)

-- the step from the scope inside an entry
pub skip_outer : (entries : List Entry) (n k : ℕ) (e : Entry) → AreEntries (reverse entries) → AreSkips (reverse entries) → n ≡ suc k → n ≤ length entries → e ≡ get_or entries k e → IsOuter (reverse entries) n e.skip.to
skip_outer entries n k e ok skips next h at =
    let is = skip_at entries k e ok skips (omega arith) at in
    (suc is.skip.0, ap (outer_by (reverse entries) is.skip.0) (ap (around_of (reverse entries)) next ∙ is.around) ∙ is.skip.1)

pub outer_below : (es : List Entry) (p q : ℕ) → AreEntries es → p ≤ length es → IsOuter es p q → q ≤ p
outer_below es p q ok h i = let l = outer_le es ok i.0 p h in let e = i.1 in omega arith

-- ---- scopes that lack a name

fewer : (ds : List Declared) (w : Name) (near p q : ℕ) → q ≤ p → Lacks ds w near p → Lacks ds w near q
fewer ds w near p q h lacks n past within = lacks n past (omega arith)

passed : (es : List Entry) → AreEntries es → (w : Name) (near steps p q : ℕ) → p ≤ length es → outer_by es steps p ≡ q → near ≤ q → Lacks (declarations es) w near p
    → outwards (declarations es) w (scope_at (declarations es) p) ≡ outwards (declarations es) w (scope_at (declarations es) q)
passed es ok w near zero p q h is low lacks = ap (λ (n : ℕ). outwards (declarations es) w (scope_at (declarations es) n)) is
passed es ok w near (suc steps) zero q h is low lacks = passed es ok w near steps zero q h (ap (outer_by es steps) (sym (around_zero es)) ∙ is) low lacks
passed es ok w near (suc steps) (suc p) q h is low lacks =
    let r = around_is es ok (suc p) (omega arith) h in
    let l = r.less in
    let below : q ≤ around_of es (suc p) = (let o = outer_le es ok steps (around_of es (suc p)) (omega arith) in omega arith) in
    outwards_on (declarations es) w (scope_at (declarations es) (suc p)) (scope_at (declarations es) (around_of es (suc p))) r.name r.scope (lacks (suc p) (omega arith) (omega arith))
    ∙ passed es ok w near steps (around_of es (suc p)) q (omega arith) is low (fewer (declarations es) w near (suc p) (around_of es (suc p)) (omega arith) lacks)

-- no scope on the way has the name
none_by : (es : List Entry) → AreEntries es → (w : Name) (fuel p : ℕ) → p ≤ fuel → p ≤ length es → ((n : ℕ) → n ≤ p → declared_in (declarations es) w (scope_at (declarations es) n) ≡ None)
    → outwards (declarations es) w (scope_at (declarations es) p) ≡ None
none_by es ok w fuel zero f h lacks =
    ap (outwards (declarations es) w) (zero_scope (declarations es)) ∙ (sym (ap (declared_in (declarations es) w) (zero_scope (declarations es))) ∙ lacks 0 (omega arith))
none_by es ok w zero (suc p) f h lacks = absurd (omega arith)
none_by es ok w (suc fuel) (suc p) f h lacks =
    let r = around_is es ok (suc p) (omega arith) h in
    let l = r.less in
    outwards_on (declarations es) w (scope_at (declarations es) (suc p)) (scope_at (declarations es) (around_of es (suc p))) r.name r.scope (lacks (suc p) (omega arith))
    ∙ none_by es ok w fuel (around_of es (suc p)) (omega arith) (omega arith) (λ n a. lacks n (omega arith))

none_outwards : (es : List Entry) (numbers : ByName) (lowered : Lowered) (ds : List Declared) (w : Name) (p : ℕ) → AreFound es numbers lowered → declarations es ≡ ds → p ≤ length ds
    → ((n : ℕ) → n ≤ p → declared_in ds w (scope_at ds n) ≡ None) → outwards ds w (scope_at ds p) ≡ None
none_outwards es numbers lowered ds w p held is h =
    let below : p ≤ length es = (let l = ap length is in let m = declared_length es in omega arith) in
    subst (λ (xs : List Declared). ((n : ℕ) → n ≤ p → declared_in xs w (scope_at xs n) ≡ None) → outwards xs w (scope_at xs p) ≡ None) is (none_by es held.entries w p p (omega arith) below)

-- the last scope with a name
pub last_is : (es : List Entry) (numbers : ByName) (lowered : Lowered) (ds : List Declared) (scope : ℕ) (w : Name) (o : Option (ℕ × ℕ)) → AreFound es numbers lowered → declarations es ≡ ds → scope ≤ length ds
    → IsNearest (number_at numbers w) scope o → IsLast ds w scope o
last_is es numbers lowered ds scope w None held is h near =
    none_outwards es numbers lowered ds w scope held is h (λ n below. sym (found_number es numbers lowered ds n w None held is (omega arith) (sym (near n below))).0)
last_is es numbers lowered ds scope w (Some found) held is h near = (
  near.0,
  found_number es numbers lowered ds found.0 w (Some found.1) held is (let l = near.0 in omega arith) (sym near.1),
  λ n past below. sym (found_number es numbers lowered ds n w None held is (omega arith) (sym (near.2 n past below))).0,
)

-- one step of either kind
pub record Steps (ds : List Declared) (near scope to : ℕ) : Type 0 where
  pub less : to < scope
  pub same : (w : Name) → Lacks ds w near scope → outwards ds w (scope_at ds scope) ≡ outwards ds w (scope_at ds to)

module _ (entries : List Entry) (numbers : ByName) (lowered : Lowered) (ds : List Declared) (near n k : ℕ) (e : Entry) (held : AreFound (reverse entries) numbers lowered) (is : declarations (reverse entries) ≡ ds) (next : n ≡ suc k) (h : n ≤ length ds)
    (at : e ≡ get_or entries k e) (behind : near < n) where
  within : n ≤ length (reverse entries)
  within = let l = ap length is in let m = declared_length (reverse entries) in omega arith

  pub one_step : Steps ds near n e.around
  one_step =
      let l = length-reverse entries in
      let there = skip_at entries k e held.entries held.skips (let b = within in omega arith) at in
      let a : around_of (reverse entries) n ≡ e.around = ap (around_of (reverse entries)) next ∙ there.around in
      let r = around_is (reverse entries) held.entries n (omega arith) within in
      subst (λ (xs : List Declared). Steps xs near n e.around) is (subst (λ (m : ℕ). Steps (declarations (reverse entries)) near n m) a (record {
        less = r.less;
        same = λ w lacks. outwards_on (declarations (reverse entries)) w (scope_at (declarations (reverse entries)) n) (scope_at (declarations (reverse entries)) (around_of (reverse entries) n)) r.name r.scope (lacks n behind (omega arith));
      }))

  pub far_step : near ≤ e.skip.to → Steps ds near n e.skip.to
  far_step low =
      let l = length-reverse entries in
      let there = skip_at entries k e held.entries held.skips (let b = within in omega arith) at in
      let a : around_of (reverse entries) n ≡ e.around = ap (around_of (reverse entries)) next ∙ there.around in
      let r = around_is (reverse entries) held.entries n (omega arith) within in
      let less = r.less in
      let w = within in
      let o = outer_le (reverse entries) held.entries there.skip.0 e.around (omega arith) in
      let i = there.skip.1 in
      subst (λ (xs : List Declared). Steps xs near n e.skip.to) is (record {
        less = omega arith;
        same = λ w lacks. passed (reverse entries) held.entries w near (suc there.skip.0) n e.skip.to within (ap (outer_by (reverse entries) there.skip.0) a ∙ there.skip.1) low lacks;
      })

get_kept : {A : Type 0} (xs : List A) (k : ℕ) (d : A) → get_or xs k d ≡ get_or xs k (get_or xs k d)
get_kept [] k d = refl
get_kept (x ∷ xs) zero d = refl
get_kept (x ∷ xs) (suc k) d = get_kept xs k d

-- the same of the entry that stands at a place
pub skip_read : (entries : List Entry) (n : ℕ) (d : Entry) → AreEntries (reverse entries) → AreSkips (reverse entries) → 0 < n → n ≤ length entries → IsOuter (reverse entries) n (get_or entries (n - 1) d).skip.to
skip_read entries n d ok skips first h = skip_outer entries n (n - 1) (get_or entries (n - 1) d) ok skips (omega arith) h (get_kept entries (n - 1) d)
