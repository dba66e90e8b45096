-- The names that places by first use lead to, each once, are the table.
use Rattle.std.proofs.Common.{◌≡◌, ℕ, zero, suc, ◌<◌, ◌≤◌, Bool, true, false, cond, ◌||◌, List, [], ◌∷◌, ◌++◌, length, map, get_or, None, Some, nat_lt, nat_eq, refl, sym, ap, ◌∙◌, subst, arith, inl, inr, append_assoc}
use Rattle.std.proofs.lemmas.Bool.{cases_lt, lt-ltb, le-ltb, ltb-true, false≢true}
use Rattle.std.proofs.lemmas.List.{length-append, get_or_append_left}
use Rattle.ice_encoding.specs.Visiting.{place, is_listed}
use Rattle.ice_encoding.specs.CanonicalGraph.{each_once}
use Rattle.ice_encoding.specs.References.{entry_in}
use Rattle.ice_encoding.specs.SameGraph.{HasEachOnce}
use Rattle.canonical_inputs.specs.Tables.{by_first_use, IsTableOf}

-- whether it is one of them
abbrev pub is_in : List ℕ → ℕ → Bool
is_in [] m = false
is_in (x ∷ xs) m = nat_eq x m || is_in xs m

pub lt_more : (p l : ℕ) → nat_lt (suc p) (suc l) ≡ nat_lt p l
lt_more p l = elim (cases_lt p l) [
  | inl lt ↦ lt-ltb (suc p) (suc l) (omega (arith, lt)) ∙ sym (lt-ltb p l lt)
  | inr le ↦ le-ltb (suc p) (suc l) (omega (arith, le)) ∙ sym (le-ltb p l le)
]

pub listed_is : (xs : List ℕ) (m : ℕ) → is_listed xs m ≡ is_in xs m
listed_is [] m = refl
listed_is (x ∷ xs) m = by_test (nat_eq x m) (listed_is xs m)
  where
    by_test : (b : Bool) → is_listed xs m ≡ is_in xs m → nat_lt (cond b 0 (suc (place xs m))) (suc (length xs)) ≡ (b || is_in xs m)
    by_test true same = lt-ltb 0 (suc (length xs)) (omega arith)
    by_test false same = lt_more (place xs m) (length xs) ∙ same

pub same_eq : (n : ℕ) → nat_eq n n ≡ true
same_eq n = grind arith

pub nat_eq_is : (a b : ℕ) → nat_eq a b ≡ true → a ≡ b
nat_eq_is a b e = grind (arith, e)

pub first_behind : (before others : List ℕ) (x u : ℕ) → u ≡ length before → get_or (before ++ x ∷ others) u 0 ≡ x
first_behind [] others x u at = ap (λ (n : ℕ). get_or (x ∷ others) n 0) at
first_behind (b ∷ before) others x u at = ap (λ (n : ℕ). get_or ((b ∷ before) ++ x ∷ others) n 0) at ∙ first_behind before others x (length before) refl

or_true : (b : Bool) → (b || true) ≡ true
or_true true = refl
or_true false = refl

pub in_at : (xs : List ℕ) (u : ℕ) → u < length xs → is_in xs (get_or xs u 0) ≡ true
in_at [] u lt = absurd (omega (arith, lt))
in_at (x ∷ xs) zero lt = ap (λ (b : Bool). b || is_in xs x) (same_eq x)
in_at (x ∷ xs) (suc u) lt = ap (λ (b : Bool). nat_eq x (get_or xs u 0) || b) (in_at xs u (omega (arith, lt))) ∙ or_true (nat_eq x (get_or xs u 0))

pub in_both : (xs ys : List ℕ) (m : ℕ) → is_in (xs ++ ys) m ≡ (is_in xs m || is_in ys m)
in_both [] ys m = refl
in_both (x ∷ xs) ys m = ap (λ (b : Bool). nat_eq x m || b) (in_both xs ys m) ∙ regroup (nat_eq x m) (is_in xs m) (is_in ys m)
  where
    regroup : (a b c : Bool) → (a || (b || c)) ≡ ((a || b) || c)
    regroup true b c = refl
    regroup false b c = refl

swap : (a b : Bool) → (a || b) ≡ (b || (a || false))
swap true true = refl
swap true false = refl
swap false true = refl
swap false false = refl

-- one that comes once is not before itself
not_before : (before rest : List ℕ) (x : ℕ) → HasEachOnce (before ++ x ∷ rest) → is_in before x ≡ false
not_before [] rest x h = refl
not_before (d ∷ before) rest x (apart, once) = by_test (nat_eq d x) refl (not_before before rest x once)
  where
    absent : is_in (before ++ x ∷ rest) d ≡ false
    absent = sym (listed_is (before ++ x ∷ rest) d) ∙ le-ltb (place (before ++ x ∷ rest) d) (length (before ++ x ∷ rest)) (omega (arith, apart))

    by_test : (b : Bool) → nat_eq d x ≡ b → is_in before x ≡ false → (nat_eq d x || is_in before x) ≡ false
    by_test false e others = ap (λ (b : Bool). b || is_in before x) e ∙ others
    by_test true e others =
        let there : is_in (before ++ x ∷ rest) x ≡ true = in_both before (x ∷ rest) x ∙ ap (λ (b : Bool). is_in before x || (b || is_in rest x)) (same_eq x) ∙ or_true (is_in before x) in
        absurd (false≢true (sym absent ∙ ap (is_in (before ++ x ∷ rest)) (nat_eq_is d x e) ∙ there))

pub no_less : (n m : ℕ) (us : List ℕ) → by_first_use n us ≡ Some m → n ≤ m
no_less n m [] e = let is : n ≡ m = cc in omega (arith, is)
no_less n m (u ∷ us) e = by_test (nat_lt u n) (nat_eq u n) (no_less n m us) (no_less (suc n) m us) e
  where
    by_test : (b c : Bool) → (by_first_use n us ≡ Some m → n ≤ m) → (by_first_use (suc n) us ≡ Some m → suc n ≤ m)
        → elim b [ true ↦ by_first_use n us | false ↦ elim c [ true ↦ by_first_use (suc n) us | false ↦ None ] ] ≡ Some m → n ≤ m
    by_test true c one other f = one f
    by_test false true one other f = let le : suc n ≤ m = other f in omega (arith, le)
    by_test false false one other f = absurd cc

pub each_in : (seen ns : List ℕ) (n : ℕ) → is_listed seen n ≡ true → each_once seen (n ∷ ns) ≡ each_once seen ns
each_in seen ns n e = rw (e, each_once) refl

pub each_new : (seen ns : List ℕ) (n : ℕ) → is_listed seen n ≡ false → each_once seen (n ∷ ns) ≡ n ∷ each_once (n ∷ seen) ns
each_new seen ns n e = rw (e, each_once) refl

-- those before, and those still to come
abbrev pub AreFirstUses : List ℕ → Type 0
AreFirstUses us = (seen before rest : List ℕ) → ((m : ℕ) → is_in seen m ≡ is_in before m) → HasEachOnce (before ++ rest) → by_first_use (length before) us ≡ Some (length (before ++ rest))
    → each_once seen (map (entry_in (before ++ rest)) us) ≡ rest

pub first_uses : (us : List ℕ) → AreFirstUses us
first_uses [] seen before rest same once e = nothing rest (let is : length before ≡ length (before ++ rest) = cc in omega (arith, is, length-append before rest))
  where
    nothing : (xs : List ℕ) → length xs ≡ 0 → [] ≡ xs
    nothing [] is = refl
    nothing (x ∷ xs) is = absurd (omega (arith, is))
first_uses (u ∷ us) seen before rest same once e = by_test (nat_lt u (length before)) (nat_eq u (length before)) refl refl (first_uses us) e
  where
    next : AreFirstUses us → (rest' : List ℕ) → rest ≡ rest' → by_first_use (suc (length before)) us ≡ Some (length (before ++ rest)) → u ≡ length before
        → each_once seen (map (entry_in (before ++ rest)) (u ∷ us)) ≡ rest
    next behind [] is f at = let le = no_less (suc (length before)) (length (before ++ rest)) us f in let e' : length rest ≡ 0 = ap length is in absurd (omega (arith, le, e', length-append before rest))
    next behind (x ∷ others) is f at =
        let whole : before ++ rest ≡ (before ++ x ∷ []) ++ others = ap (λ (l : List ℕ). before ++ l) is ∙ sym (append_assoc before (x ∷ []) others) in
        let names : List ℕ = map (entry_in (before ++ rest)) us in
        let first : entry_in (before ++ rest) u ≡ x = ap (λ (l : List ℕ). get_or l u 0) (ap (λ (l : List ℕ). before ++ l) is) ∙ first_behind before others x u at in
        let once' : HasEachOnce (before ++ x ∷ others) = subst (λ (l : List ℕ). HasEachOnce (before ++ l)) is once in
        let fresh : is_listed seen x ≡ false = listed_is seen x ∙ same x ∙ not_before before others x once' in
        let more : (m : ℕ) → is_in (x ∷ seen) m ≡ is_in (before ++ x ∷ []) m = λ m. ap (λ (b : Bool). nat_eq x m || b) (same m) ∙ swap (nat_eq x m) (is_in before m) ∙ sym (in_both before (x ∷ []) m) in
        let long : length (before ++ x ∷ []) ≡ suc (length before) = length-append before (x ∷ []) ∙ omega arith in
        let again = behind (x ∷ seen) (before ++ x ∷ []) others more (subst HasEachOnce whole once)
        (subst (λ (n : ℕ). by_first_use n us ≡ Some (length ((before ++ x ∷ []) ++ others))) (sym long) (f ∙ ap (λ (l : List ℕ). Some (length l)) whole)) in
        ap (λ (n : ℕ). each_once seen (n ∷ names)) first ∙ each_new seen names x fresh
        ∙ ap (λ (l : List ℕ). x ∷ each_once (x ∷ seen) (map (entry_in l) us)) whole ∙ ap (λ (l : List ℕ). x ∷ l) again ∙ sym is

    by_test : (b c : Bool) → nat_lt u (length before) ≡ b → nat_eq u (length before) ≡ c → AreFirstUses us
        → elim b [ true ↦ by_first_use (length before) us | false ↦ elim c [ true ↦ by_first_use (suc (length before)) us | false ↦ None ] ] ≡ Some (length (before ++ rest))
        → each_once seen (map (entry_in (before ++ rest)) (u ∷ us)) ≡ rest
    by_test true c lt q behind f =
        let below = ltb-true u (length before) lt in
        let name = entry_in (before ++ rest) u in
        let listed : is_listed seen name ≡ true = listed_is seen name ∙ same name ∙ ap (is_in before) (get_or_append_left before rest 0 u below) ∙ in_at before u below in
        each_in seen (map (entry_in (before ++ rest)) us) name listed ∙ behind seen before rest same once f
    by_test false true lt q behind f = next behind rest refl f (nat_eq_is u (length before) q)
    by_test false false lt q behind f = absurd cc

-- the table is what its slice names, each once
pub table_stands : (table uses : List ℕ) → IsTableOf uses table → each_once [] (map (entry_in table) uses) ≡ table
table_stands table uses h = first_uses uses [] [] table (λ m. refl) h.once h.all

-- each place in the members leads to a name whose place it is
pub place_back : (table : List ℕ) (u : ℕ) → HasEachOnce table → u < length table → place table (entry_in table u) ≡ u
place_back [] u once lt = absurd (omega (arith, lt))
place_back (x ∷ xs) zero once lt = ap (λ (b : Bool). cond b 0 (suc (place xs x))) (same_eq x)
place_back (x ∷ xs) (suc u) (apart, once) lt =
    let below : u < length xs = omega (arith, lt) in
    let there = in_at xs u below in
    by_test (nat_eq x (get_or xs u 0)) refl there (place_back xs u once below)
  where
    by_test : (b : Bool) → nat_eq x (get_or xs u 0) ≡ b → is_in xs (get_or xs u 0) ≡ true → place xs (get_or xs u 0) ≡ u → cond b 0 (suc (place xs (get_or xs u 0))) ≡ suc u
    by_test false e there behind = ap suc behind
    by_test true e there behind =
        let same = nat_eq_is x (get_or xs u 0) e in
        let absent : is_in xs x ≡ false = sym (listed_is xs x) ∙ le-ltb (place xs x) (length xs) (omega (arith, apart)) in
        absurd (false≢true (sym absent ∙ ap (is_in xs) same ∙ there))

-- ---- all places

-- each of these leads back
abbrev pub AllBack : (ℕ → ℕ) → (ℕ → ℕ) → List ℕ → Type 0
AllBack f g [] = Unit {0}
AllBack f g (u ∷ us) = (g (f u) ≡ u) × AllBack f g us

pub all_back : (table : List ℕ) → HasEachOnce table → (n : ℕ) (us : List ℕ) → by_first_use n us ≡ Some (length table) → AllBack (entry_in table) (place table) us
all_back table once n [] e = tt
all_back table once n (u ∷ us) e = by_test (nat_lt u n) (nat_eq u n) refl refl (all_back table once n us) (all_back table once (suc n) us) (no_less n (length table) us) (no_less (suc n) (length table) us) e
  where
    by_test : (b c : Bool) → nat_lt u n ≡ b → nat_eq u n ≡ c → (by_first_use n us ≡ Some (length table) → AllBack (entry_in table) (place table) us)
        → (by_first_use (suc n) us ≡ Some (length table) → AllBack (entry_in table) (place table) us) → (by_first_use n us ≡ Some (length table) → n ≤ length table)
        → (by_first_use (suc n) us ≡ Some (length table) → suc n ≤ length table)
        → elim b [ true ↦ by_first_use n us | false ↦ elim c [ true ↦ by_first_use (suc n) us | false ↦ None ] ] ≡ Some (length table) → AllBack (entry_in table) (place table) (u ∷ us)
    by_test true c lt q one other le more f = let a = ltb-true u n lt in let b : n ≤ length table = le f in (place_back table u once (omega (arith, a, b)), one f)
    by_test false true lt q one other le more f = let a = nat_eq_is u n q in let b : suc n ≤ length table = more f in (place_back table u once (omega (arith, a, b)), other f)
    by_test false false lt q one other le more f = absurd cc
