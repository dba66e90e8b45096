-- What the maps find is what was declared.
use Rattle.std.proofs.Common.{not, get_or, drop, drop-cons, add-one, ◌≡◌, ℕ, zero, suc, ◌+◌, ◌<◌, ◌≤◌, Bool, true, false, cond, List, [], ◌∷◌, ◌++◌, length, Option, Some, None, refl, sym, ap, ◌∙◌, subst, inl, inr, arith}
use Rattle.std.specs.Prelude.{◌==◌, ◌&&◌, ◌||◌, bytes_eq, IfSome, option_and_then, option_map, slice_get, reverse}
use Rattle.std.specs.Option.{option_or, is_some}
use Rattle.std.specs.Str.{str_to_ascii_lowercase, str_eq_ignore_ascii_case}
use Rattle.std.proofs.lemmas.Slice.Eq.{bytes_eq-Decides}
use Rattle.std.proofs.lemmas.Bool.{cases_lt}
use Rattle.std.proofs.lemmas.List.{reverse-append, reverse-reverse, length-reverse}
use Rattle.std.proofs.lemmas.Option.{slice_get_read, slice_get_within}
use Rattle.slice_meaning.specs.Names.{Name, Scope, Declared, same_scope, is_called, declared_in, taken_in, outwards, inwards, first_of}
use Rattle.slice_meaning.specs.declared.entry.Entry.{Entry}
use Rattle.slice_meaning.specs.declared.by_name.ByName.{ByName}
use Rattle.slice_meaning.specs.declared.lowered.Lowered.{Lowered}
use Rattle.slice_meaning.specs.Finding.{number_at, has_lowered}
use Rattle.slice_meaning.specs.Numbers.{scope_at, declared_at, stands_at, number_of, IsNumber}
use Rattle.slice_meaning.specs.Scopes.{declared, declarations, number_in, AreEntries, AreFound}
use Rattle.slice_meaning.proofs.Ids.{test_true, test_below}
use Rattle.slice_meaning.proofs.Numbering.{declared_length, scope_new, scope_old, scope_test, number_is, taken_is}

pub number_of_range : (ds : List Declared) (w : Name) (p : Scope) (k : ℕ) → number_of ds w p ≡ Some k → (0 < k) × (k ≤ length ds)
number_of_range [] w p k h = absurd cc
number_of_range (d ∷ ds) w p k h = by_test (is_called p w d) h (number_of_range ds w p k)
  where
    by_test : (b : Bool) → cond b (Some (suc (length ds))) (number_of ds w p) ≡ Some k → (number_of ds w p ≡ Some k → (0 < k) × (k ≤ length ds)) → (0 < k) × (k ≤ suc (length ds))
    by_test true h later = let s : suc (length ds) ≡ k = cc in (omega arith, omega arith)
    by_test false h later = let r = later h in (r.0, omega (arith, r.1))

range_of : (ds : List Declared) (o : Option ℕ) → ((k : ℕ) → o ≡ Some k → (0 < k) × (k ≤ length ds)) → IfSome o (λ k. (0 < k) × (k ≤ length ds))
range_of ds None f = tt
range_of ds (Some k) f = f k refl

declared_old : (d : Declared) (ds : List Declared) (k : ℕ) → k ≤ length ds → declared_at (d ∷ ds) k ≡ declared_at ds k
declared_old d ds k h = ap (λ (b : Bool). cond b (Some d) (declared_at ds k)) (test_below k (length ds) h)

pub by_number : (ds : List Declared) (w : Name) (p : Scope) → option_and_then (declared_at ds) (number_of ds w p) ≡ declared_in ds w p
by_number [] w p = refl
by_number (d ∷ ds) w p = by_test (is_called p w d) (by_number ds w p)
  where
    older : (o : Option ℕ) → ((k : ℕ) → o ≡ Some k → (0 < k) × (k ≤ length ds)) → option_and_then (declared_at (d ∷ ds)) o ≡ option_and_then (declared_at ds) o
    older None f = refl
    older (Some k) f = declared_old d ds k (f k refl).1

    by_test : (b : Bool) → option_and_then (declared_at ds) (number_of ds w p) ≡ declared_in ds w p
        → option_and_then (declared_at (d ∷ ds)) (cond b (Some (suc (length ds))) (number_of ds w p)) ≡ cond b (Some d) (declared_in ds w p)
    by_test true later = ap (λ (b : Bool). cond b (Some d) (declared_at ds (suc (length ds)))) (test_true (suc (length ds)) (suc (length ds)) refl)
    by_test false later = older (number_of ds w p) (number_of_range ds w p) ∙ later

is_number : (ds : List Declared) (w : Name) (p : Scope) (o : Option ℕ) → o ≡ number_of ds w p → IsNumber ds o (declared_in ds w p)
is_number ds w p o h = subst (λ (k : Option ℕ). IsNumber ds k (declared_in ds w p)) (sym h) (by_number ds w p, range_of ds (number_of ds w p) (number_of_range ds w p))

-- what the map finds
pub looked_up : (es : List Entry) (numbers : ByName) (lowered : Lowered) (ds : List Declared) (n : ℕ) (w : Name) → AreFound es numbers lowered → declarations es ≡ ds → n ≤ length ds → number_at numbers w n ≡ number_of ds w (scope_at ds n)
looked_up es numbers lowered ds n w held is h =
    let below : n ≤ length es = (let l = ap length is in let m = declared_length es in omega arith) in
    held.found w n ∙ (sym (number_is es held.entries n below w) ∙ ap (λ (xs : List Declared). number_of xs w (scope_at xs n)) is)

pub found_number : (es : List Entry) (numbers : ByName) (lowered : Lowered) (ds : List Declared) (n : ℕ) (w : Name) (o : Option ℕ) → AreFound es numbers lowered → declarations es ≡ ds → n ≤ length ds
    → o ≡ number_at numbers w n → IsNumber ds o (declared_in ds w (scope_at ds n))
found_number es numbers lowered ds n w o held is h found = is_number ds w (scope_at ds n) o (found ∙ looked_up es numbers lowered ds n w held is h)

-- ---- entries by number

pub reverse_cons : {A : Type 0} (x : A) (xs : List A) → reverse (x ∷ xs) ≡ reverse xs ++ x ∷ []
reverse_cons x xs = reverse-append (x ∷ []) xs

pub get_front : {A : Type 0} (xs : List A) (y : A) (k : ℕ) → k < length xs → slice_get (xs ++ y ∷ []) k ≡ slice_get xs k
get_front [] y k h = absurd (omega arith)
get_front (x ∷ xs) y zero h = refl
get_front (x ∷ xs) y (suc k) h = get_front xs y k (omega arith)

pub get_last : {A : Type 0} (xs : List A) (y : A) (k : ℕ) → k ≡ length xs → slice_get (xs ++ y ∷ []) k ≡ Some y
get_last [] y zero h = refl
get_last [] y (suc k) h = absurd (omega arith)
get_last (x ∷ xs) y zero h = absurd (omega arith)
get_last (x ∷ xs) y (suc k) h = get_last xs y k (omega arith)

-- what an entry is
pub record IsEntry (ds : List Declared) (k : ℕ) (e : Entry) : Type 0 where
  pub around : e.around ≤ k
  pub scope : scope_at ds (suc k) ≡ e.name.now ∷ scope_at ds e.around
  pub standing : option_map (λ d. d.standing) (declared_at ds (suc k)) ≡ Some e.standing
  pub place : option_map stands_at (declared_at ds (suc k)) ≡ Some (e.file, e.place)

entry_new : (x : Entry) (es : List Entry) → AreEntries (x ∷ es) → (k : ℕ) → k ≡ length es → IsEntry (declarations (x ∷ es)) k x
entry_new x es ok k h = record {
  around = omega (arith, ok.0);
  scope = scope_new x es (suc k) (omega arith) ∙ ap (λ (p : Scope). x.name.now ∷ p) (sym (scope_old x es x.around ok.0));
  standing = ap (λ (b : Bool). option_map (λ (d : Declared). d.standing) (cond b (Some (declared x (declarations es))) (declared_at (declarations es) (suc k)))) (test_true (suc k) (suc (length (declarations es))) (let l = declared_length es in omega arith));
  place = ap (λ (b : Bool). option_map stands_at (cond b (Some (declared x (declarations es))) (declared_at (declarations es) (suc k)))) (test_true (suc k) (suc (length (declarations es))) (let l = declared_length es in omega arith));
}

entry_old : (x e : Entry) (es : List Entry) (k : ℕ) → k < length es → IsEntry (declarations es) k e → IsEntry (declarations (x ∷ es)) k e
entry_old x e es k h is = record {
  around = is.around;
  scope = scope_old x es (suc k) (omega arith) ∙ (is.scope ∙ ap (λ (p : Scope). e.name.now ∷ p) (sym (scope_old x es e.around (omega (arith, is.around)))));
  standing = ap (option_map (λ (d : Declared). d.standing)) (declared_old (declared x (declarations es)) (declarations es) (suc k) (let l = declared_length es in omega arith)) ∙ is.standing;
  place = ap (option_map stands_at) (declared_old (declared x (declarations es)) (declarations es) (suc k) (let l = declared_length es in omega arith)) ∙ is.place;
}

pub entry_is : (es : List Entry) → AreEntries es → (k : ℕ) (e : Entry) → slice_get (reverse es) k ≡ Some e → IsEntry (declarations es) k e
entry_is [] ok k e h = absurd cc
entry_is (x ∷ es) ok k e h = elim (cases_lt k (length es)) [
  | inl old ↦ entry_old x e es k old (entry_is es ok.2 k e (sym (get_front (reverse es) x k (omega (arith, length-reverse es))) ∙ (sym (ap (λ l. slice_get l k) (reverse_cons x es)) ∙ h)))
  | inr new ↦
      let len : k < length (reverse (x ∷ es)) = slice_get_within (reverse (x ∷ es)) k e h in
      let is : k ≡ length es = (let l = length-reverse (x ∷ es) in omega arith) in
      let both : Some x ≡ Some e = sym (get_last (reverse es) x k (is ∙ sym (length-reverse es))) ∙ (sym (ap (λ l. slice_get l k) (reverse_cons x es)) ∙ h) in
      let same : x ≡ e = cc in
      subst (λ (y : Entry). IsEntry (declarations (x ∷ es)) k y) same (entry_new x es ok k is)
]

-- the entry of a number, where the entries stand the oldest first
pub entry_at : (entries : List Entry) (numbers : ByName) (lowered : Lowered) (ds : List Declared) (n k : ℕ) (e : Entry) → AreFound (reverse entries) numbers lowered → declarations (reverse entries) ≡ ds → n ≡ suc k → n ≤ length ds
    → e ≡ get_or entries k e → IsEntry ds k e
entry_at entries numbers lowered ds n k e held is next h at =
    let below : k < length entries = (let l = ap length is in let m = declared_length (reverse entries) in let r = length-reverse entries in omega arith) in
    subst (λ (xs : List Declared). IsEntry xs k e) is
    (entry_is (reverse entries) held.entries k e (ap (λ l. slice_get l k) (reverse-reverse entries) ∙ slice_get_read entries (length entries) k e refl below at))

pub below_entries : (entries : List Entry) (ds : List Declared) (n : ℕ) → declarations (reverse entries) ≡ ds → n ≤ length ds → n ≤ length entries
below_entries entries ds n is h = let l = ap length is in let m = declared_length (reverse entries) in let r = length-reverse entries in omega arith

-- ---- outwards

pub zero_scope : (ds : List Declared) → scope_at ds 0 ≡ []
zero_scope [] = refl
zero_scope (d ∷ ds) = ap (λ (b : Bool). cond b (d.name ∷ d.scope) (scope_at ds 0)) (test_below 0 (length ds) (omega arith)) ∙ zero_scope ds

-- nothing is found here
pub found_none : (ds : List Declared) (o : Option ℕ) (found : Option Declared) → o ≡ None → IsNumber ds o found → found ≡ None
found_none ds o found h is = sym is.0 ∙ ap (option_and_then (declared_at ds)) h

declared_some : (ds : List Declared) (k : ℕ) → 0 < k → k ≤ length ds → (d : Declared) × (declared_at ds k ≡ Some d)
declared_some [] k a b = absurd (omega arith)
declared_some (d ∷ ds) k a b = elim (cases_lt (length ds) k) [
  | inl new ↦ (d, ap (λ (b : Bool). cond b (Some d) (declared_at ds k)) (test_true k (suc (length ds)) (omega arith)))
  | inr old ↦ let r = declared_some ds k a old in (r.0, declared_old d ds k old ∙ r.1)
]

pub found_some : (ds : List Declared) (o : Option ℕ) (found : Option Declared) (k : ℕ) → o ≡ Some k → IsNumber ds o found → (d : Declared) × (found ≡ Some d)
found_some ds o found k h is =
    let n : IsNumber ds (Some k) found = subst (λ (x : Option ℕ). IsNumber ds x found) h is in
    let r = declared_some ds k n.1.0 n.1.1 in
    (r.0, sym n.0 ∙ r.1)

-- outwards from a scope in which nothing is found
pub outwards_on : (ds : List Declared) (w : Name) (p q : Scope) (x : Name) → p ≡ x ∷ q → declared_in ds w p ≡ None → outwards ds w p ≡ outwards ds w q
outwards_on ds w p q x is none = ap (outwards ds w) is ∙ ap (λ o. option_or o (outwards ds w q)) (sym (ap (declared_in ds w) is) ∙ none)

outwards_found : (ds : List Declared) (w : Name) (p : Scope) (d : Declared) → declared_in ds w p ≡ Some d → outwards ds w p ≡ Some d
outwards_found ds w [] d h = h
outwards_found ds w (x ∷ q) d h = ap (λ o. option_or o (outwards ds w q)) h

outwards_end : (ds : List Declared) (w : Name) (p : Scope) → p ≡ [] → outwards ds w p ≡ declared_in ds w p
outwards_end ds w p is = ap (outwards ds w) is ∙ sym (ap (declared_in ds w) is)

-- where the way outwards ends
pub outwards_is : (ds : List Declared) (w : Name) (from at : ℕ) (o : Option ℕ) → IsNumber ds o (declared_in ds w (scope_at ds at)) → outwards ds w (scope_at ds from) ≡ outwards ds w (scope_at ds at)
    → ((o ≡ None) → at ≡ 0) → IsNumber ds o (outwards ds w (scope_at ds from))
outwards_is ds w from at None is same end =
    let e = outwards_end ds w (scope_at ds at) (ap (scope_at ds) (end refl) ∙ zero_scope ds) in
    subst (λ (f : Option Declared). IsNumber ds None f) (sym (same ∙ e)) is
outwards_is ds w from at (Some k) is same end =
    let r = found_some ds (Some k) (declared_in ds w (scope_at ds at)) k refl is in
    subst (λ (f : Option Declared). IsNumber ds (Some k) f) (r.1 ∙ sym (same ∙ outwards_found ds w (scope_at ds at) r.0 r.1)) is

-- ---- inwards

-- the scope inside a declaration has its number
scope_inside : (ds : List Declared) (k : ℕ) (d : Declared) → declared_at ds k ≡ Some d → scope_at ds k ≡ d.name ∷ d.scope
scope_inside [] k d h = absurd cc
scope_inside (x ∷ ds) k d h = by_test (k == suc (length ds)) h (scope_inside ds k d)
  where
    by_test : (b : Bool) → cond b (Some x) (declared_at ds k) ≡ Some d → (declared_at ds k ≡ Some d → scope_at ds k ≡ d.name ∷ d.scope) → cond b (x.name ∷ x.scope) (scope_at ds k) ≡ d.name ∷ d.scope
    by_test true h later = let same : x ≡ d = cc in ap (λ (y : Declared). y.name ∷ y.scope) same
    by_test false h later = later h

-- one name inwards
pub inwards_on : (ds : List Declared) (w : Name) (ws : List Name) (k : ℕ) → option_and_then (inwards ds (w ∷ ws)) (declared_at ds k) ≡ option_and_then (inwards ds ws) (option_and_then (λ d. declared_in ds w (scope_at ds k)) (declared_at ds k))
inwards_on ds w ws k = by_found (declared_at ds k) refl
  where
    by_found : (o : Option Declared) → declared_at ds k ≡ o → option_and_then (inwards ds (w ∷ ws)) o ≡ option_and_then (inwards ds ws) (option_and_then (λ d. declared_in ds w (scope_at ds k)) o)
    by_found None e = refl
    by_found (Some d) e = ap (λ p. option_and_then (inwards ds ws) (declared_in ds w p)) (sym (scope_inside ds k d e))

pub not_none : (o : Option ℕ) (b : Bool) → is_some o ≡ not b → b ≡ false → o ≡ None → ⊥
not_none None b is h e = let both : false ≡ true = is ∙ ap not h in cc
not_none (Some k) b is h e = cc

inwards_step : (ds : List Declared) (ws : List Name) (i k : ℕ) (w : Name) (found : Option Declared) → drop i ws ≡ w ∷ drop (i + 1) ws → 0 < k → k ≤ length ds → declared_in ds w (scope_at ds k) ≡ found
    → option_and_then (inwards ds (drop i ws)) (declared_at ds k) ≡ option_and_then (inwards ds (drop (i + 1) ws)) found
inwards_step ds ws i k w found at first within is =
    let there = declared_some ds k first within in
    ap (λ l. option_and_then (inwards ds l) (declared_at ds k)) at
    ∙ (inwards_on ds w (drop (i + 1) ws) k
    ∙ ap (option_and_then (inwards ds (drop (i + 1) ws))) (ap (option_and_then (λ (d : Declared). declared_in ds w (scope_at ds k))) there.1 ∙ is))

pub inwards_next : (ds : List Declared) (ws : List Name) (i k inner : ℕ) (w : Name) → drop i ws ≡ w ∷ drop (i + 1) ws → 0 < k → k ≤ length ds → IsNumber ds (Some inner) (declared_in ds w (scope_at ds k))
    → option_and_then (inwards ds (drop i ws)) (declared_at ds k) ≡ option_and_then (inwards ds (drop (i + 1) ws)) (declared_at ds inner)
inwards_next ds ws i k inner w at first within is = inwards_step ds ws i k w (declared_at ds inner) at first within (sym is.0)

pub inwards_none : (ds : List Declared) (ws : List Name) (i k : ℕ) (w : Name) → drop i ws ≡ w ∷ drop (i + 1) ws → 0 < k → k ≤ length ds → IsNumber ds None (declared_in ds w (scope_at ds k))
    → option_and_then (inwards ds (drop i ws)) (declared_at ds k) ≡ None
inwards_none ds ws i k w at first within is = inwards_step ds ws i k w None at first within (sym is.0)

pub drop_at : (ws : List Name) (i : ℕ) (name w : Name) → i < length ws → name ≡ get_or ws i name → w ≡ name → drop i ws ≡ w ∷ drop (i + 1) ws
drop_at ws i name w h is same = rw (add-one, drop-cons ws i name h) (ap (λ (x : Name). x ∷ drop (suc i) ws) (sym is ∙ sym same))

pub first_outer : (ds : List Declared) (scope : Scope) (w : Name) (o : Option ℕ) (outer : Bool) → outer ≡ true → IsNumber ds o (declared_in ds w (scope_at ds 0)) → IsNumber ds o (first_of ds scope outer w)
first_outer ds scope w o true h is = subst (λ (p : Scope). IsNumber ds o (declared_in ds w p)) (zero_scope ds) is
first_outer ds scope w o false h is = absurd cc

-- ---- adding

none_number : (ds : List Declared) (o : Option ℕ) → ((k : ℕ) → o ≡ Some k → (0 < k) × (k ≤ length ds)) → option_and_then (declared_at ds) o ≡ None → o ≡ None
none_number ds None f h = refl
none_number ds (Some k) f h = let r = f k refl in let d = declared_some ds k r.0 r.1 in absurd (let both : Some d.0 ≡ None = sym d.1 ∙ h in cc)

-- a name that is not declared has no number
pub new_number : (es : List Entry) (numbers : ByName) (lowered : Lowered) (ds : List Declared) (n : ℕ) (w : Name) → AreFound es numbers lowered → declarations es ≡ ds → n ≤ length ds → declared_in ds w (scope_at ds n) ≡ None → number_in es n w ≡ None
new_number es numbers lowered ds n w held is h none =
    let below : n ≤ length es = (let l = ap length is in let m = declared_length es in omega arith) in
    let number : number_of ds w (scope_at ds n) ≡ None = none_number ds (number_of ds w (scope_at ds n)) (number_of_range ds w (scope_at ds n)) (by_number ds w (scope_at ds n) ∙ none) in
    sym (number_is es held.entries n below w) ∙ (ap (λ (xs : List Declared). number_of xs w (scope_at xs n)) is ∙ number)

-- what the set has
pub looked_lowered : (es : List Entry) (numbers : ByName) (lowered : Lowered) (ds : List Declared) (n : ℕ) (w : Name) (b : Bool) → AreFound es numbers lowered → declarations es ≡ ds → n ≤ length ds
    → b ≡ has_lowered lowered (str_to_ascii_lowercase w) n → b ≡ taken_in ds w (scope_at ds n)
looked_lowered es numbers lowered ds n w b held is h found =
    let below : n ≤ length es = (let l = ap length is in let m = declared_length es in omega arith) in
    found ∙ (held.lowered (str_to_ascii_lowercase w) n ∙ (sym (taken_is es held.entries n below w) ∙ ap (λ (xs : List Declared). taken_in xs w (scope_at xs n)) is))

pub all_entries : (entries : List Entry) (ds : List Declared) → declarations (reverse entries) ≡ ds → length entries ≡ length ds
all_entries entries ds is = let l = ap length is in let m = declared_length (reverse entries) in let r = length-reverse entries in omega arith

-- ---- what was found in a scope

called_parts : (p : Scope) (w : Name) (d : Declared) → is_called p w d ≡ true → (d.name ≡ w) × (d.scope ≡ p)
called_parts p w d h = by_test (same_scope d.scope p) refl h
  where
    by_test : (b : Bool) → same_scope d.scope p ≡ b → b && bytes_eq d.name w ≡ true → (d.name ≡ w) × (d.scope ≡ p)
    by_test true is h = ((bytes_eq-Decides d.name w).0 h, (scope_test d.scope p).0 is)
    by_test false is h = absurd cc

pub called : (ds : List Declared) (w : Name) (p : Scope) (d : Declared) → declared_in ds w p ≡ Some d → (d.name ≡ w) × (d.scope ≡ p)
called [] w p d h = absurd cc
called (x ∷ ds) w p d h = by_test (is_called p w x) refl h (called ds w p d)
  where
    by_test : (b : Bool) → is_called p w x ≡ b → cond b (Some x) (declared_in ds w p) ≡ Some d → (declared_in ds w p ≡ Some d → (d.name ≡ w) × (d.scope ≡ p)) → (d.name ≡ w) × (d.scope ≡ p)
    by_test true is h later = let same : x ≡ d = cc in subst (λ (y : Declared). (y.name ≡ w) × (y.scope ≡ p)) same (called_parts p w x is)
    by_test false is h later = later h

pub taken_some : (ds : List Declared) (w : Name) (p : Scope) (d : Declared) → declared_in ds w p ≡ Some d → taken_in ds w p ≡ true
taken_some [] w p d h = absurd cc
taken_some (x ∷ ds) w p d h = by_test (is_called p w x) refl h (taken_some ds w p d)
  where
    here : (d.name ≡ d.name) → is_called p w x ≡ true → (same_scope x.scope p && str_eq_ignore_ascii_case x.name w) ≡ true
    here e is = let parts = called_parts p w x is in
        ap (λ (b : Bool). b && str_eq_ignore_ascii_case x.name w) ((scope_test x.scope p).1 parts.1) ∙ (bytes_eq-Decides (str_to_ascii_lowercase x.name) (str_to_ascii_lowercase w)).1 (ap str_to_ascii_lowercase parts.0)

    or_true : (a b : Bool) → b ≡ true → a || b ≡ true
    or_true true b h = refl
    or_true false b h = h

    by_test : (b : Bool) → is_called p w x ≡ b → cond b (Some x) (declared_in ds w p) ≡ Some d → (declared_in ds w p ≡ Some d → taken_in ds w p ≡ true) → (same_scope x.scope p && str_eq_ignore_ascii_case x.name w) || taken_in ds w p ≡ true
    by_test true is h later = ap (λ (b : Bool). b || taken_in ds w p) (here refl is)
    by_test false is h later = or_true (same_scope x.scope p && str_eq_ignore_ascii_case x.name w) (taken_in ds w p) (later h)

pub found_inside : (ds : List Declared) (w : Name) (p : Scope) (o : Option ℕ) → IsNumber ds o (declared_in ds w p) → IfSome o (λ k. scope_at ds k ≡ w ∷ p)
found_inside ds w p None is = tt
found_inside ds w p (Some k) is =
    let there = declared_some ds k is.1.0 is.1.1 in
    let parts = called ds w p there.0 (sym is.0 ∙ there.1) in
    scope_inside ds k there.0 there.1 ∙ (ap (λ (n : Name). n ∷ there.0.scope) parts.0 ∙ ap (λ (s : Scope). w ∷ s) parts.1)

pub found_taken : (ds : List Declared) (w : Name) (p : Scope) (o : Option ℕ) → IsNumber ds o (declared_in ds w p) → IfSome o (λ k. taken_in ds w p ≡ true)
found_taken ds w p None is = tt
found_taken ds w p (Some k) is = let there = declared_some ds k is.1.0 is.1.1 in taken_some ds w p there.0 (sym is.0 ∙ there.1)
