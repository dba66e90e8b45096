-- Names and their places.
use Rattle.std.proofs.Common.{ℕ, zero, suc, ◌≡◌, ◌<◌, ◌≤◌, ◌+◌, Bool, true, false, not, cond, ◌&&◌, List, [], ◌∷◌, length, Contains, Some, None, refl, sym, ap, ◌∙◌, arith, get_or, slice_get, Bor, nat_lt}
use Rattle.std.specs.List.{position, position_or_len, prefix_len, list_any}
use Rattle.std.specs.Str.{bytes_eq}
use borrow.Author.Tests.{ltb-false}
use Rattle.std.proofs.lemmas.List.Quantifiers.{position-Some}
use Rattle.std.proofs.lemmas.List.Sums.{prefix_len_passes}
use Rattle.std.proofs.lemmas.List.Folds.{list_any_at}
use Rattle.std.proofs.lemmas.Option.{slice_get-get_or, get_or_from_slice_get}
use Rattle.std.proofs.lemmas.Slice.Eq.{bytes_eq-Decides}
use Rattle.case_tables.specs.Tables.{Name, names_seen, are_distinct}

prefix-seen : (p : Name → Bool) (rows : List (Bor Name)) → prefix_len (λ row. p row.now) rows ≡ prefix_len p (names_seen rows)
prefix-seen p [] = refl
prefix-seen p (row ∷ rows) = ap (λ n. cond (p row.now) (1 + n) 0) (prefix-seen p rows)

length-seen : (rows : List (Bor Name)) → length rows ≡ length (names_seen rows)
length-seen [] = refl
length-seen (row ∷ rows) = ap suc (length-seen rows)

pub position-seen : (p : Name → Bool) (rows : List (Bor Name)) → position (λ row. p row.now) rows ≡ position p (names_seen rows)
position-seen p rows = rw (prefix-seen (λ name. not (p name)) rows, length-seen rows) refl

pub row_found : (names : List Name) (name : Name) (place : ℕ) → position (bytes_eq name) names ≡ Some place → (place < length names) × (slice_get names place ≡ Some name)
row_found names name place e =
    let found = position-Some (bytes_eq name) names place [] e in
    let is : name ≡ get_or names place [] = (bytes_eq-Decides name (get_or names place [])).0 found.1 in
    (found.0, slice_get-get_or names place [] found.0 ∙ ap (λ n. Some n) (sym is))

not_true : (b : Bool) → not b ≡ true → b ≡ false
not_true true e = absurd cc
not_true false e = refl

some_none : (b : Bool) (n : ℕ) → cond b (Some n) None ≡ None → b ≡ false
some_none true n e = absurd cc
some_none false n e = refl

none_passes : (p : Name → Bool) (names : List Name) → position p names ≡ None → (at : ℕ) (d : Name) → at < length names → p (get_or names at d) ≡ false
none_passes p names e at d h =
    let past : length names ≤ position_or_len p names = ltb-false _ _ (some_none (nat_lt (position_or_len p names) (length names)) (position_or_len p names) e) in
    not_true (p (get_or names at d)) (prefix_len_passes (λ name. not (p name)) names at d (omega arith))

pub no_row : (names : List Name) (name : Name) → position (bytes_eq name) names ≡ None → Contains names name → ⊥
no_row names name e there =
    let no = none_passes (bytes_eq name) names e there.0 name there.1 in
    let yes = (bytes_eq-Decides name (get_or names there.0 name)).1 (sym there.2) in
    cc

head_differs : (b c : Bool) → (not b && c) ≡ true → (b ≡ false) × (c ≡ true)
head_differs true c e = absurd cc
head_differs false c e = (refl, e)

inside : (names : List Name) (at : ℕ) (name : Name) → slice_get names at ≡ Some name → at < length names
inside [] at name e = absurd cc
inside (first ∷ names) zero name e = omega arith
inside (first ∷ names) (suc at) name e = let h = inside names at name e in omega arith

-- the first of distinct names does not come again
head_once : (first : Name) (names : List Name) → list_any (bytes_eq first) names ≡ false → (at : ℕ) → slice_get names at ≡ Some first → ⊥
head_once first names h at e =
    let same : get_or names at [] ≡ first = get_or_from_slice_get names at first [] e in
    let again : list_any (bytes_eq first) names ≡ true = list_any_at (bytes_eq first) names at [] (inside names at first e) ((bytes_eq-Decides first (get_or names at [])).1 (sym same)) in
    cc

-- a name of distinct names has one place
pub one_place : (names : List Name) → are_distinct names ≡ true → (at other : ℕ) (name : Name) → slice_get names at ≡ Some name → slice_get names other ≡ Some name → at ≡ other
one_place [] h at other name e f = absurd cc
one_place (first ∷ names) h zero zero name e f = refl
one_place (first ∷ names) h zero (suc other) name e f =
    let parts = head_differs (list_any (bytes_eq first) names) (are_distinct names) h in
    let same : name ≡ first = cc in
    absurd (head_once first names parts.0 other (f ∙ ap (λ n. Some n) same))
one_place (first ∷ names) h (suc at) zero name e f =
    let parts = head_differs (list_any (bytes_eq first) names) (are_distinct names) h in
    let same : name ≡ first = cc in
    absurd (head_once first names parts.0 at (e ∙ ap (λ n. Some n) same))
one_place (first ∷ names) h (suc at) (suc other) name e f = ap suc (one_place names (head_differs (list_any (bytes_eq first) names) (are_distinct names) h).1 at other name e f)
