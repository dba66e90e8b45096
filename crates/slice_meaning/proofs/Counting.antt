-- How often a name or a number stands among others, so that those that differ in one order differ in every order.
use Rattle.std.proofs.Common.{◌≡◌, ◌≢◌, ℕ, ◌≤◌, ◌+◌, Bool, true, false, List, [], ◌∷◌, ◌++◌, map, refl, sym, ap, subst, arith}
use Rattle.std.specs.Prelude.{All, nat_eq, ◌||◌}
use Rattle.std.specs.Str.{bytes_eq, str_eq_ignore_ascii_case, str_to_ascii_lowercase}
use Rattle.std.proofs.lemmas.Bool.{eq-eqb, eqb-true}
use Rattle.std.proofs.lemmas.List.Elements.{All-nil, All-cons}
use Rattle.std.proofs.lemmas.Slice.Eq.{bytes_eq-Decides}
use Rattle.slice_syntax.specs.declared.tree.Word.{Word}
use Rattle.ice_types.specs.Names.{IsFree, AreNew}
use Rattle.ice_types.specs.Fits.{DifferFrom}
use Rattle.slice_meaning.specs.declared.fault.CheckKind.TheVariants as rows
use Rattle.slice_meaning.specs.Names.{Name}
use Rattle.slice_meaning.specs.Uses.{where_true}
use Rattle.slice_meaning.specs.Clashes.{is_among, second_names}
use Rattle.slice_meaning.specs.Members.{has_number}
use Rattle.slice_meaning.proofs.NoFaults.{both_none, test_off}

abbrev pub one_if : Bool → ℕ
one_if true = 1
one_if false = 0

pub one_at_most : (b : Bool) → one_if b ≤ 1
one_at_most true = omega arith
one_at_most false = omega arith

-- how many pass the test
abbrev pub count : {X : Type 0} → (X → Bool) → List X → ℕ
count p [] = 0
count p (x ∷ xs) = one_if (p x) + count p xs

pub count-append : {X : Type 0} (p : X → Bool) (xs ys : List X) → count p (xs ++ ys) ≡ count p xs + count p ys
count-append p [] ys = omega arith
count-append p (x ∷ xs) ys = let h = count-append p xs ys in omega (arith, h)

pub count-map : {X Y : Type 0} (p : Y → Bool) (f : X → Y) (xs : List X) → count p (map f xs) ≡ count (λ x. p (f x)) xs
count-map p f [] = refl
count-map p f (x ∷ xs) = let h = count-map p f xs in omega (arith, h)

-- ---- numbers

abbrev pub is_number : ℕ → ℕ → Bool
is_number n other = nat_eq n other

other_number : (n other : ℕ) (ns : List ℕ) → count (is_number n) (other ∷ ns) ≡ 0 → (other ≢ n) × (count (is_number n) ns ≡ 0)
other_number n other ns h = (
  (λ same. let e = eq-eqb n other (sym same) in let one : one_if (is_number n other) ≡ 1 = ap one_if e in omega (arith, h, one)),
  omega (arith, h),
)

pub no_number : (n : ℕ) (ns : List ℕ) → count (is_number n) ns ≡ 0 → All (λ other. other ≢ n) ns
no_number n [] h = All-nil (λ other. other ≢ n)
no_number n (other ∷ ns) h = let parts = other_number n other ns h in All-cons (λ other. other ≢ n) other ns parts.0 (no_number n ns parts.1)

itself : (n : ℕ) → one_if (is_number n n) ≡ 1
itself n = ap one_if (eq-eqb n n refl)

-- numbers of which none stands twice differ
pub differ : (before ns : List ℕ) → ((n : ℕ) → count (is_number n) before + count (is_number n) ns ≤ 1) → DifferFrom before ns
differ before [] h = tt
differ before (n ∷ ns) h = (
  no_number n before (let a = h n in let b = itself n in omega (arith, a, b)),
  differ (n ∷ before) ns (λ m. let a = h m in omega (arith, a)),
)

pub not_among : (n : ℕ) (ns : List ℕ) → has_number ns n ≡ false → count (is_number n) ns ≡ 0
not_among n [] h = refl
not_among n (m ∷ ns) h = by_first (nat_eq n m) refl h (not_among n ns)
  where
    by_first : (b : Bool) → nat_eq n m ≡ b → (b || has_number ns n) ≡ false → (has_number ns n ≡ false → count (is_number n) ns ≡ 0) → one_if (nat_eq n m) + count (is_number n) ns ≡ 0
    by_first true e h rest = absurd cc
    by_first false e h rest = let r = rest h in let none : one_if (nat_eq n m) ≡ 0 = ap one_if e in omega (arith, r, none)

-- a number more, which was not there
pub number_more : (m n : ℕ) (before : List ℕ) → has_number before n ≡ false → count (is_number m) before ≤ 1 → count (is_number m) (n ∷ before) ≤ 1
number_more m n before h le = by_test (is_number m n) refl
  where
    by_test : (b : Bool) → is_number m n ≡ b → one_if (is_number m n) + count (is_number m) before ≤ 1
    by_test true e = let same : m ≡ n = eqb-true m n e in let none = subst (λ (x : ℕ). count (is_number x) before ≡ 0) (sym same) (not_among n before h) in let one : one_if (is_number m n) ≡ 1 = ap one_if e in omega (arith, none, one)
    by_test false e = let none : one_if (is_number m n) ≡ 0 = ap one_if e in omega (arith, none, le)

-- ---- names, by their lower case

abbrev pub is_name : List ℕ → Name → Bool
is_name lowered name = bytes_eq (str_to_ascii_lowercase name) lowered

bytes_same : (xs : List ℕ) → bytes_eq xs xs ≡ true
bytes_same xs = (bytes_eq-Decides xs xs).1 refl

pub no_name : (name : Name) (names : List Name) → count (is_name (str_to_ascii_lowercase name)) names ≡ 0 → IsFree names name
no_name name [] h = All-nil (λ other. str_to_ascii_lowercase other ≢ str_to_ascii_lowercase name)
no_name name (other ∷ names) h =
    let free : str_to_ascii_lowercase other ≢ str_to_ascii_lowercase name = (λ same.
    let e : is_name (str_to_ascii_lowercase name) other ≡ true = (bytes_eq-Decides (str_to_ascii_lowercase other) (str_to_ascii_lowercase name)).1 same in
    let one : one_if (is_name (str_to_ascii_lowercase name) other) ≡ 1 = ap one_if e in omega (arith, h, one)) in
    All-cons (λ x. str_to_ascii_lowercase x ≢ str_to_ascii_lowercase name) other names free (no_name name names (omega (arith, h)))

-- names of which none stands twice are new, each after those before it
pub are_new : (before names : List Name) → ((lowered : List ℕ) → count (is_name lowered) before + count (is_name lowered) names ≤ 1) → AreNew before names
are_new before [] h = tt
are_new before (name ∷ names) h = (
  no_name name before (let a = h (str_to_ascii_lowercase name) in let one : one_if (is_name (str_to_ascii_lowercase name) name) ≡ 1 = ap one_if (bytes_same (str_to_ascii_lowercase name)) in omega (arith, a, one)),
  are_new (name ∷ before) names (λ q. let a = h q in omega (arith, a)),
)

not_taken : (name : Name) (names : List Name) → is_among names name ≡ false → count (is_name (str_to_ascii_lowercase name)) names ≡ 0
not_taken name [] h = refl
not_taken name (other ∷ names) h = by_first (str_eq_ignore_ascii_case other name) refl h (not_taken name names)
  where
    by_first : (b : Bool) → str_eq_ignore_ascii_case other name ≡ b → (b || is_among names name) ≡ false
        → (is_among names name ≡ false → count (is_name (str_to_ascii_lowercase name)) names ≡ 0)
        → one_if (is_name (str_to_ascii_lowercase name) other) + count (is_name (str_to_ascii_lowercase name)) names ≡ 0
    by_first true e h rest = absurd cc
    by_first false e h rest = let r = rest h in let none : one_if (is_name (str_to_ascii_lowercase name) other) ≡ 0 = ap one_if e in omega (arith, r, none)

name_more : (q : List ℕ) (name : Name) (before : List Name) → is_among before name ≡ false → count (is_name q) before ≤ 1 → count (is_name q) (name ∷ before) ≤ 1
name_more q name before h le = by_test (is_name q name) refl
  where
    by_test : (b : Bool) → is_name q name ≡ b → one_if (is_name q name) + count (is_name q) before ≤ 1
    by_test true e =
        let same : str_to_ascii_lowercase name ≡ q = (bytes_eq-Decides (str_to_ascii_lowercase name) q).0 e in
        let none = subst (λ (x : List ℕ). count (is_name x) before ≡ 0) same (not_taken name before h) in
        let one : one_if (is_name q name) ≡ 1 = ap one_if e in omega (arith, none, one)
    by_test false e = let none : one_if (is_name q name) ≡ 0 = ap one_if e in omega (arith, none, le)

abbrev pub names_in : List Word → List Name
names_in words = map (λ w. w.name) words

-- names without a second one
pub no_second : (q : List ℕ) (before : List Name) (words : List Word) → second_names before words ≡ [] → count (is_name q) before ≤ 1 → count (is_name q) before + count (is_name q) (names_in words) ≤ 1
no_second q before [] h le = omega (arith, le)
no_second q before (w ∷ ws) h le =
    let parts = both_none (where_true (is_among before w.name) w.place rows.Clash) (second_names (w.name ∷ before) ws) h in
    let more = name_more q w.name before (test_off (is_among before w.name) w.place rows.Clash parts.0) le in
    let rest = no_second q (w.name ∷ before) ws parts.1 more in
    omega (arith, rest)
