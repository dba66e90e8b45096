-- Maps by the ids of names.
use Rattle.std.proofs.Common.{Ordering, Less, Equal, Greater, ◌≡◌, ℕ, suc, ◌<◌, ◌≤◌, Bool, true, false, cond, List, Option, Some, None, refl, sym, ap, ◌∙◌, subst, inl, inr, arith, ◌+◌, length}
use Rattle.std.specs.Prelude.{option_and_then, ◌==◌, ◌&&◌, bytes_eq, OnOk, OnErr, IfOk, Result, Ok, Err, IsSome, if◌then◌else◌}
use Rattle.std.specs.Option.{is_some}
use Rattle.std.specs.Borrow.{Bor}
use Rattle.std.specs.Ordering.{is_eq, is_lt, is_gt, ordering_then, nat_cmp}
use Rattle.std.specs.Cmp.{nat_cmp_is, tied_then}
use Rattle.std.specs.Cmp.Lexicographic.{slice_cmp}
use Rattle.std.specs.Map.{lookup}
use Rattle.std.specs.BTreeMap.{BTreeMap, get, btree_map_len, UpdatesBy, is_at, IsUnchanged}
use Rattle.std.proofs.lemmas.Map.Text.{btree_map_updates_str}
use Rattle.std.proofs.lemmas.Bool.{cases_order}
use Rattle.std.proofs.lemmas.Bool.Decides.{Decides-eqb, nat_tests}
use Rattle.std.proofs.lemmas.Slice.Eq.{bytes_eq-Decides}
use Rattle.slice_meaning.specs.Held.{id_of, at_id, at_name, AreIds}

-- ---- tests

pub test_true : (n m : ℕ) → n ≡ m → (n == m) ≡ true
test_true n m h = grind (arith, nat_tests)

pub test_below : (n m : ℕ) → n ≤ m → (n == suc m) ≡ false
test_below n m h = grind (arith, nat_tests)

pub test_apart : (n m : ℕ) → (n ≡ m → ⊥) → (n == m) ≡ false
test_apart n m h = by_test (n == m) refl
  where
    by_test : (b : Bool) → (n == m) ≡ b → (n == m) ≡ false
    by_test true is = absurd (h ((Decides-eqb n m).0 is))
    by_test false is = is

less : (a b : ℕ) → a < b → nat_cmp a b ≡ Less
less a b h = sym (nat_cmp_is a b Less h)

equal : (a b : ℕ) → a ≡ b → nat_cmp a b ≡ Equal
equal a b h = sym (nat_cmp_is a b Equal h)

greater : (a b : ℕ) → b < a → nat_cmp a b ≡ Greater
greater a b h = sym (nat_cmp_is a b Greater h)

pub number_test : (a b : ℕ) → is_eq (nat_cmp a b) ≡ (a == b)
number_test a b = elim (cases_order a b) [
  | inl same ↦ ap is_eq (equal a b same) ∙ sym (test_true a b same)
  | inr apart ↦ elim apart [
    | inl below ↦ ap is_eq (less a b below) ∙ sym (test_apart a b (λ e. omega arith))
    | inr above ↦ ap is_eq (greater a b above) ∙ sym (test_apart a b (λ e. omega arith))
  ]
]

abbrev pub pair_cmp : ℕ × ℕ → ℕ × ℕ → Ordering
pair_cmp x y = ordering_then (nat_cmp x.0 y.0) (nat_cmp x.1 y.1)

key_test : (a k b n : ℕ) → is_eq (ordering_then (nat_cmp a b) (nat_cmp k n)) ≡ (a == b) && (k == n)
key_test a k b n = sym (tied_then (nat_cmp a b) (nat_cmp k n)) ∙ (ap (λ (t : Bool). t && is_eq (nat_cmp k n)) (number_test a b) ∙ ap (λ (t : Bool). (a == b) && t) (number_test k n))

-- ---- the map of numbers

numbers_after : (old new : BTreeMap (ℕ × ℕ) ℕ) (id scope : ℕ) (w : Option ℕ) → UpdatesBy pair_cmp (pair_cmp (id, scope)) old new w → (b n : ℕ) → at_id new b n ≡ cond ((id == b) && (scope == n)) w (at_id old b n)
numbers_after old new id scope w h b n = h.0 (b, n) ∙ ap (λ (t : Bool). cond t w (at_id old b n)) (key_test id scope b n)

unchanged_at : (old new : BTreeMap (ℕ × ℕ) ℕ) → IsUnchanged old new → (b n : ℕ) → at_id new b n ≡ at_id old b n
unchanged_at old new h b n = ap (lookup (is_at (pair_cmp (b, n)))) h

named_apart : {A : Type 0} (name word : List ℕ) (f : List ℕ → Option A) (x : A) → f name ≡ Some x → f word ≡ None → bytes_eq name word ≡ false
named_apart name word f x here there = by_test (bytes_eq name word) refl
  where
    by_test : (b : Bool) → bytes_eq name word ≡ b → bytes_eq name word ≡ false
    by_test true is = let both : Some x ≡ None = sym here ∙ (ap f ((bytes_eq-Decides name word).0 is) ∙ there) in absurd cc
    by_test false is = is

-- two names have one id where they are one
id_test : (ids : BTreeMap (Bor (List ℕ)) ℕ) (numbers : BTreeMap (ℕ × ℕ) ℕ) (name word : List ℕ) (id k : ℕ) → AreIds ids numbers → id_of ids name ≡ Some id → id_of ids word ≡ Some k → (id == k) ≡ bytes_eq name word
id_test ids numbers name word id k held here there = by_test (bytes_eq name word) refl
  where
    by_test : (b : Bool) → bytes_eq name word ≡ b → (id == k) ≡ bytes_eq name word
    by_test true is =
        let both : Some id ≡ Some k = sym here ∙ (ap (id_of ids) ((bytes_eq-Decides name word).0 is) ∙ there) in
        let same : id ≡ k = cc in
        test_true id k same ∙ sym is
    by_test false is = test_apart id k (λ same. let e : name ≡ word = held.apart name word k (subst (λ (i : ℕ). id_of ids name ≡ Some i) same here) there in let wrong : true ≡ false = sym ((bytes_eq-Decides name word).1 e) ∙ is in cc) ∙ sym is

and_false : (b : Bool) → b && false ≡ false
and_false true = refl
and_false false = refl

pub and_turned : (a b : Bool) → a && b ≡ b && a
and_turned true true = refl
and_turned true false = refl
and_turned false true = refl
and_turned false false = refl

-- what is found once the number of a name in a scope is changed
module _ (ids : BTreeMap (Bor (List ℕ)) ℕ) (old new : BTreeMap (ℕ × ℕ) ℕ) (name : List ℕ) (id scope : ℕ) (w : Option ℕ) (held : AreIds ids old) (here : id_of ids name ≡ Some id)
    (step : (b n : ℕ) → at_id new b n ≡ cond ((id == b) && (scope == n)) w (at_id old b n)) where
  changed_at : (word : List ℕ) (n : ℕ) → at_name ids new word n ≡ cond (scope == n && bytes_eq name word) w (at_name ids old word n)
  changed_at word n = by_id (id_of ids word) refl
    where
      by_id : (o : Option ℕ) → id_of ids word ≡ o → option_and_then (λ i. at_id new i n) o ≡ cond (scope == n && bytes_eq name word) w (option_and_then (λ i. at_id old i n) o)
      by_id None is = sym (ap (λ (t : Bool). cond (scope == n && t) w None) (named_apart name word (id_of ids) id here is) ∙ ap (λ (t : Bool). cond t w None) (and_false (scope == n)))
      by_id (Some k) is = step k n ∙ ap (λ (t : Bool). cond t w (at_id old k n)) (and_turned (id == k) (scope == n) ∙ ap (λ (t : Bool). scope == n && t) (id_test ids old name word id k held here is))

  kept_ids : AreIds ids new
  kept_ids = record {
    below = held.below;
    apart = held.apart;
    fresh = λ b n h. step b n ∙ (ap (λ (t : Bool). cond (t && (scope == n)) w (at_id old b n)) (test_apart id b (λ e. let l = held.below name id here in omega arith)) ∙ held.fresh b n h);
  }

unchanged_ids : (ids : BTreeMap (Bor (List ℕ)) ℕ) (old new : BTreeMap (ℕ × ℕ) ℕ) → AreIds ids old → IsUnchanged old new → AreIds ids new
unchanged_ids ids old new held same = record { below = held.below; apart = held.apart; fresh = λ b n h. unchanged_at old new same b n ∙ held.fresh b n h }

either : {T E C A B : Type 0} (r : Result T E) → OnOk r A → OnErr r B → (A → C) → (B → C) → C
either (Ok x) a b f g = f a
either (Err e) a b f g = g b

pub insert_ids : {T E : Type 0} (r : Result T E) (ids : BTreeMap (Bor (List ℕ)) ℕ) (old new : BTreeMap (ℕ × ℕ) ℕ) (name : List ℕ) (id scope number : ℕ) → AreIds ids old → id_of ids name ≡ Some id
    → OnOk r (UpdatesBy pair_cmp (pair_cmp (id, scope)) old new (Some number)) → OnErr r (IsUnchanged old new) → AreIds ids new
insert_ids r ids old new name id scope number held here ok err = either r ok err (λ h. kept_ids ids old new name id scope (Some number) held here (numbers_after old new id scope (Some number) h)) (unchanged_ids ids old new held)

pub remove_ids : (ids : BTreeMap (Bor (List ℕ)) ℕ) (old new : BTreeMap (ℕ × ℕ) ℕ) (name : List ℕ) (id scope : ℕ) → AreIds ids old → id_of ids name ≡ Some id → UpdatesBy pair_cmp (pair_cmp (id, scope)) old new None → AreIds ids new
remove_ids ids old new name id scope held here h = kept_ids ids old new name id scope None held here (numbers_after old new id scope None h)

pub number_after : (ids : BTreeMap (Bor (List ℕ)) ℕ) (old new : BTreeMap (ℕ × ℕ) ℕ) (name : List ℕ) (id scope : ℕ) (w : Option ℕ) → AreIds ids old → id_of ids name ≡ Some id → UpdatesBy pair_cmp (pair_cmp (id, scope)) old new w
    → (word : List ℕ) (n : ℕ) → at_name ids new word n ≡ cond (scope == n && bytes_eq name word) w (at_name ids old word n)
number_after ids old new name id scope w held here h = changed_at ids old new name id scope w held here (numbers_after old new id scope w h)

-- ---- a new id

module _ (old new : BTreeMap (Bor (List ℕ)) ℕ) (numbers : BTreeMap (ℕ × ℕ) ℕ) (name : List ℕ) (id : ℕ) (held : AreIds old numbers) (none : id_of old name ≡ None) (is_len : id ≡ btree_map_len old)
    (more : btree_map_len new ≡ btree_map_len old + 1) (step : (word : List ℕ) → id_of new word ≡ cond (bytes_eq name word) (Some id) (id_of old word)) where
  new_below : (word : List ℕ) (k : ℕ) → id_of new word ≡ Some k → k < btree_map_len new
  new_below word k h = by_test (bytes_eq name word) (sym (step word) ∙ h)
    where
      by_test : (b : Bool) → cond b (Some id) (id_of old word) ≡ Some k → k < btree_map_len new
      by_test true e = let same : id ≡ k = cc in omega arith
      by_test false e = let l = held.below word k e in omega arith

  new_apart : (word other : List ℕ) (k : ℕ) → id_of new word ≡ Some k → id_of new other ≡ Some k → word ≡ other
  new_apart word other k h i = by_test (bytes_eq name word) (bytes_eq name other) refl refl (sym (step word) ∙ h) (sym (step other) ∙ i)
    where
      by_test : (a b : Bool) → bytes_eq name word ≡ a → bytes_eq name other ≡ b → cond a (Some id) (id_of old word) ≡ Some k → cond b (Some id) (id_of old other) ≡ Some k → word ≡ other
      by_test true true x y e f = sym ((bytes_eq-Decides name word).0 x) ∙ (bytes_eq-Decides name other).0 y
      by_test true false x y e f = absurd (let same : id ≡ k = cc in let l = held.below other k f in omega arith)
      by_test false true x y e f = absurd (let same : id ≡ k = cc in let l = held.below word k e in omega arith)
      by_test false false x y e f = held.apart word other k e f

  new_ids : AreIds new numbers
  new_ids = record { below = new_below; apart = new_apart; fresh = λ k n h. held.fresh k n (omega arith) }

module _ (old new : BTreeMap (Bor (List ℕ)) ℕ) (numbers : BTreeMap (ℕ × ℕ) ℕ) (name : List ℕ) (id : ℕ) (held : AreIds old numbers) (none : id_of old name ≡ None) (is_len : id ≡ btree_map_len old)
    (step : (word : List ℕ) → id_of new word ≡ cond (bytes_eq name word) (Some id) (id_of old word)) where
  new_same : (word : List ℕ) (n : ℕ) → at_name new numbers word n ≡ at_name old numbers word n
  new_same word n = by_test (bytes_eq name word) refl
    where
      by_test : (b : Bool) → bytes_eq name word ≡ b → at_name new numbers word n ≡ at_name old numbers word n
      by_test true is =
          ap (option_and_then (λ (i : ℕ). at_id numbers i n)) (step word ∙ ap (λ (b : Bool). cond b (Some id) (id_of old word)) is)
          ∙ (held.fresh id n (omega arith) ∙ sym (ap (option_and_then (λ (i : ℕ). at_id numbers i n)) (sym (ap (id_of old) ((bytes_eq-Decides name word).0 is)) ∙ none)))
      by_test false is = ap (option_and_then (λ (i : ℕ). at_id numbers i n)) (step word ∙ ap (λ (b : Bool). cond b (Some id) (id_of old word)) is)

abbrev pub str_cmp : Bor (List ℕ) → Bor (List ℕ) → Ordering
str_cmp x y = slice_cmp nat_cmp x.now y.now

same_ids : (old new : BTreeMap (Bor (List ℕ)) ℕ) (numbers : BTreeMap (ℕ × ℕ) ℕ) → AreIds old numbers → IsUnchanged old new → AreIds new numbers
same_ids old new numbers held same =
    let len : btree_map_len new ≡ btree_map_len old = ap length same in
    let id : (word : List ℕ) → id_of new word ≡ id_of old word = (λ word. ap (lookup (is_at (λ k. slice_cmp nat_cmp word k.now))) same) in
    record {
      below = λ word k h. let l = held.below word k (sym (id word) ∙ h) in omega arith;
      apart = λ word other k h i. held.apart word other k (sym (id word) ∙ h) (sym (id other) ∙ i);
      fresh = λ k n h. held.fresh k n (omega arith);
    }

-- the map of ids may have one more, or lacks the memory
pub new_id : {E : Type 0} (r : Result (Option ℕ) E) (old new : BTreeMap (Bor (List ℕ)) ℕ) (numbers : BTreeMap (ℕ × ℕ) ℕ) (name : List ℕ) (id : ℕ) → AreIds old numbers → id_of old name ≡ None → id ≡ btree_map_len old
    → IfOk r (λ was. was ≡ id_of old name) → IfOk r (λ was. btree_map_len new ≡ btree_map_len old + (if is_some was then 0 else 1)) → OnOk r (UpdatesBy str_cmp (λ k. slice_cmp nat_cmp name k.now) old new (Some id)) → OnErr r (IsUnchanged old new) → AreIds new numbers
new_id (Ok was) old new numbers name id held none is_len was_old len updates err =
    new_ids old new numbers name id held none is_len (len ∙ ap (λ (o : Option ℕ). btree_map_len old + (if is_some o then 0 else 1)) (was_old ∙ none)) (btree_map_updates_str name old new (Some id) updates)
new_id (Err e) old new numbers name id held none is_len was_old len updates err = same_ids old new numbers held err

-- no other name finds another number
pub new_id_same : (old new : BTreeMap (Bor (List ℕ)) ℕ) (numbers : BTreeMap (ℕ × ℕ) ℕ) (name : List ℕ) (id : ℕ) → AreIds old numbers → id_of old name ≡ None → id ≡ btree_map_len old
    → UpdatesBy str_cmp (λ k. slice_cmp nat_cmp name k.now) old new (Some id) → (word : List ℕ) (n : ℕ) → at_name new numbers word n ≡ at_name old numbers word n
new_id_same old new numbers name id held none is_len updates = new_same old new numbers name id held none is_len (btree_map_updates_str name old new (Some id) updates)

-- ---- the nearest scope

low : (id b : ℕ) (m : ℕ) → is_gt (ordering_then (nat_cmp id b) (nat_cmp 0 m)) ≡ false → id ≤ b
low id b m h = elim (cases_order id b) [
  | inl same ↦ omega arith
  | inr apart ↦ elim apart [
    | inl below ↦ omega arith
    | inr above ↦ absurd (let e : true ≡ false = sym (ap (λ (o : Ordering). is_gt (ordering_then o (nat_cmp 0 m))) (greater id b above)) ∙ h in cc)
  ]
]

high : (b id m scope : ℕ) → is_gt (ordering_then (nat_cmp b id) (nat_cmp m scope)) ≡ false → b ≤ id
high b id m scope h = elim (cases_order b id) [
  | inl same ↦ omega arith
  | inr apart ↦ elim apart [
    | inl below ↦ omega arith
    | inr above ↦ absurd (let e : true ≡ false = sym (ap (λ (o : Ordering). is_gt (ordering_then o (nat_cmp m scope))) (greater b id above)) ∙ h in cc)
  ]
]

within : (b id m scope : ℕ) → b ≡ id → is_gt (ordering_then (nat_cmp b id) (nat_cmp m scope)) ≡ false → m ≤ scope
within b id m scope same h = elim (cases_order m scope) [
  | inl e ↦ omega arith
  | inr apart ↦ elim apart [
    | inl below ↦ omega arith
    | inr above ↦ absurd (let e : true ≡ false = sym (ap (λ (o : Ordering). is_gt (ordering_then o (nat_cmp m scope))) (equal b id same) ∙ ap is_gt (greater m scope above)) ∙ h in cc)
  ]
]

not_above : (m scope : ℕ) → m ≤ scope → is_gt (nat_cmp m scope) ≡ false
not_above m scope h = elim (cases_order m scope) [
  | inl same ↦ ap is_gt (equal m scope same)
  | inr apart ↦ elim apart [
    | inl below ↦ ap is_gt (less m scope below)
    | inr above ↦ absurd (omega arith)
  ]
]

-- from one key to another
abbrev pub IsBetween : ℕ × ℕ → ℕ × ℕ → ℕ × ℕ → Type 0
IsBetween lo hi key = (is_gt (pair_cmp lo key) ≡ false) × (is_gt (pair_cmp key hi) ≡ false)

-- the keys of an id, up to a scope
is_between : (id scope n : ℕ) → n ≤ scope → IsBetween (id, 0) (id, scope) (id, n)
is_between id scope n h = (
  ap (λ (o : Ordering). is_gt (ordering_then o (nat_cmp 0 n))) (equal id id refl) ∙ not_above 0 n (omega arith),
  ap (λ (o : Ordering). is_gt (ordering_then o (nat_cmp n scope))) (equal id id refl) ∙ not_above n scope h,
)

at_ends : (lo hi from to key : ℕ × ℕ) → lo ≡ from → hi ≡ to → IsBetween from to key → IsBetween lo hi key
at_ends lo hi from to key e f h = subst (λ (l : ℕ × ℕ). IsBetween l hi key) (sym e) (subst (λ (r : ℕ × ℕ). IsBetween from r key) (sym f) h)

pub range_none : (numbers : BTreeMap (ℕ × ℕ) ℕ) (id scope : ℕ) (lo hi : ℕ × ℕ) → lo ≡ (id, 0) → hi ≡ (id, scope) → ((q : ℕ × ℕ) → IsBetween lo hi q → get pair_cmp numbers q ≡ None) → (n : ℕ) → n ≤ scope → at_id numbers id n ≡ None
range_none numbers id scope lo hi e f none n h = none (id, n) (at_ends lo hi (id, 0) (id, scope) (id, n) e f (is_between id scope n h))

none_or_some : {A : Type 0} (o : Option A) → (IsSome o → ⊥) → o ≡ None
none_or_some None h = refl
none_or_some (Some x) h = absurd (h refl)

pub range_last : (numbers : BTreeMap (ℕ × ℕ) ℕ) (id scope : ℕ) (lo hi key : ℕ × ℕ) (v : ℕ) → lo ≡ (id, 0) → hi ≡ (id, scope) → IsBetween lo hi key × (get pair_cmp numbers key ≡ Some v)
    → ((q : ℕ × ℕ) → IsBetween lo hi q → IsSome (get pair_cmp numbers q) → is_lt (pair_cmp key q) ≡ false)
    → (key.1 ≤ scope) × (at_id numbers id key.1 ≡ Some v) × ((n : ℕ) → key.1 < n → n ≤ scope → at_id numbers id n ≡ None)
range_last numbers id scope lo hi key v e f there last =
    let ends : IsBetween (id, 0) (id, scope) key = at_ends (id, 0) (id, scope) lo hi key (sym e) (sym f) there.0 in
    let above = low id key.0 key.1 ends.0 in
    let below = high key.0 id key.1 scope ends.1 in
    let same : key.0 ≡ id = omega arith in (
      within key.0 id key.1 scope same ends.1,
      ap (λ (b : ℕ). at_id numbers b key.1) (sym same) ∙ there.1,
      λ n past h. none_or_some (at_id numbers id n) (λ some.
          let wrong : true ≡ false = sym (ap (λ (o : Ordering). is_lt (ordering_then o (nat_cmp key.1 n))) (equal key.0 id same) ∙ ap is_lt (less key.1 n past))
          ∙ last (id, n) (at_ends lo hi (id, 0) (id, scope) (id, n) e f (is_between id scope n h)) some in cc),
    )

-- the same of a name with an id
has_id : (ids : BTreeMap (Bor (List ℕ)) ℕ) (numbers : BTreeMap (ℕ × ℕ) ℕ) (name : List ℕ) (id : ℕ) → id_of ids name ≡ Some id → (n : ℕ) → at_name ids numbers name n ≡ at_id numbers id n
has_id ids numbers name id here n = ap (option_and_then (λ (i : ℕ). at_id numbers i n)) here

pub none_named : (ids : BTreeMap (Bor (List ℕ)) ℕ) (numbers : BTreeMap (ℕ × ℕ) ℕ) (name : List ℕ) (id scope : ℕ) → id_of ids name ≡ Some id → ((n : ℕ) → n ≤ scope → at_id numbers id n ≡ None)
    → (n : ℕ) → n ≤ scope → at_name ids numbers name n ≡ None
none_named ids numbers name id scope here none n h = has_id ids numbers name id here n ∙ none n h

pub last_named : (ids : BTreeMap (Bor (List ℕ)) ℕ) (numbers : BTreeMap (ℕ × ℕ) ℕ) (name : List ℕ) (id scope near v : ℕ) → id_of ids name ≡ Some id
    → (near ≤ scope) × (at_id numbers id near ≡ Some v) × ((n : ℕ) → near < n → n ≤ scope → at_id numbers id n ≡ None)
    → (near ≤ scope) × (at_name ids numbers name near ≡ Some v) × ((n : ℕ) → near < n → n ≤ scope → at_name ids numbers name n ≡ None)
last_named ids numbers name id scope near v here found = (found.0, has_id ids numbers name id here near ∙ found.1, λ n past h. has_id ids numbers name id here n ∙ found.2 n past h)
