-- What words name, one by one, and whether two name the same.
use Rattle.std.proofs.Common.{◌≡◌, ◌<◌, ◌+◌, ◌⊎◌, ℕ, suc, zero, Bool, false, List, [], ◌∷◌, ◌++◌, length, map, take, refl, sym, ap, ap₂, ◌∙◌, subst, arith, get_or, inl, inr, Option, Some, None}
use Rattle.std.specs.List.{AllByRecursion}
use Rattle.std.specs.Prelude.{slice_get, IsTrue}
use Rattle.std.proofs.lemmas.Bool.{false≢true}
use Rattle.std.proofs.lemmas.Option.{same_Some, slice_get_within}
use Rattle.std.proofs.lemmas.List.{take_more, map-append}
use Rattle.serve_command.specs.declared.apart.Named.{Named}
use Rattle.serve_command.specs.declared.object_words.ObjectWord.{ObjectWord}
use Rattle.serve_command.specs.ObjectWords.{object_of, named_by, Differ, AreApart}
use Rattle.serve_command.specs.Words.{objects_of}
use Rattle.serve_command.specs.Reading.{Holds}

-- ---- lists

-- what stands at a place of a list with one item more
at_more : {A : Type 0} (xs : List A) (x : A) (i : ℕ) (y : A) → slice_get (xs ++ x ∷ []) i ≡ Some y → (slice_get xs i ≡ Some y) ⊎ ((i ≡ length xs) × (x ≡ y))
at_more [] x zero y e = inr (refl, same_Some x y e)
at_more [] x (suc i) y e = absurd cc
at_more (z ∷ zs) x zero y e = inl e
at_more (z ∷ zs) x (suc i) y e = by (at_more zs x i y e)
  where
    by : (slice_get zs i ≡ Some y) ⊎ ((i ≡ length zs) × (x ≡ y)) → (slice_get zs i ≡ Some y) ⊎ ((suc i ≡ length (z ∷ zs)) × (x ≡ y))
    by (inl f) = inl f
    by (inr f) = inr (omega (arith, f.0), f.1)

-- what stands in the first items stands in all
at_front : {A B C : Type 0} (f : A → B) (g : B → C) (xs : List A) (n i : ℕ) (y : C) → slice_get (map g (map f (take n xs))) i ≡ Some y → (i < n) × (slice_get (map g (map f xs)) i ≡ Some y)
at_front f g [] zero i y e = absurd cc
at_front f g [] (suc n) i y e = absurd cc
at_front f g (x ∷ xs) zero i y e = absurd cc
at_front f g (x ∷ xs) (suc n) zero y e = (omega arith, e)
at_front f g (x ∷ xs) (suc n) (suc i) y e = let h = at_front f g xs n i y e in (omega (arith, h.0), h.1)

-- the item at a place, with whatever stands for one that is not there
at_place : {A B C : Type 0} (f : A → B) (g : B → C) (xs : List A) (i : ℕ) (d : A) → i < length xs → slice_get (map g (map f xs)) i ≡ Some (g (f (get_or xs i d)))
at_place f g [] i d lt = absurd (omega (arith, lt))
at_place f g (y ∷ ys) zero d lt = refl
at_place f g (y ∷ ys) (suc i) d lt = at_place f g ys i d (omega (arith, lt))

-- what holds of all holds of it
pub holds_there : {A B : Type 0} (P : B → Type 0) (f : A → B) (xs : List A) (i : ℕ) (d : A) → i < length xs → AllByRecursion P (map f xs) → P (f (get_or xs i d))
holds_there P f [] i d lt all = absurd (omega (arith, lt))
holds_there P f (y ∷ ys) zero d lt all = all.0
holds_there P f (y ∷ ys) (suc i) d lt all = holds_there P f ys i d (omega (arith, lt)) all.1

-- ---- names

-- one name more, which is none of them
pub differ_more : (ns : List (Option Named)) (n : Option Named) → Differ ns → (Holds ns n → ⊥) → Differ (ns ++ n ∷ [])
differ_more ns n apart none = λ i j name lt at there. by i j name lt (at_more ns n i (Some name) at) (at_more ns n j (Some name) there)
  where
    by : (i j : ℕ) (name : Named) → i < j → (slice_get ns i ≡ Some (Some name)) ⊎ ((i ≡ length ns) × (n ≡ Some name)) → (slice_get ns j ≡ Some (Some name)) ⊎ ((j ≡ length ns) × (n ≡ Some name)) → ⊥
    by i j name lt (inl a) (inl b) = apart i j name lt a b
    by i j name lt (inl a) (inr b) = none (subst (Holds ns) (sym b.1) (i, a))
    by i j name lt (inr a) (inl b) = absurd (omega (arith, lt, a.0, slice_get_within ns j (Some name) b))
    by i j name lt (inr a) (inr b) = absurd (omega (arith, lt, a.0, b.0))

-- the names so far, with the next
pub names_more : (objects : List ObjectWord) (i : ℕ) (d : ObjectWord) (ns : List (Option Named)) (n : Option Named) → i < length objects
    → ns ≡ map named_by (objects_of (take i objects)) → n ≡ named_by (object_of (get_or objects i d)) → ns ++ n ∷ [] ≡ map named_by (objects_of (take (i + 1) objects))
names_more objects i d ns n lt before one =
    let now : map named_by (objects_of (take i objects ++ get_or objects i d ∷ [])) ≡ map named_by (objects_of (take i objects)) ++ named_by (object_of (get_or objects i d)) ∷ [] =
    ap (map named_by) (map-append object_of (take i objects) (get_or objects i d ∷ [])) ∙ map-append named_by (map object_of (take i objects)) (object_of (get_or objects i d) ∷ []) in
    ap₂ (λ (xs : List (Option Named)) (x : Option Named). xs ++ x ∷ []) before one ∙ sym (ap (λ (xs : List ObjectWord). map named_by (objects_of xs)) (take_more objects i d lt) ∙ now)

-- a name that is one of those before it
pub named_twice : (objects : List ObjectWord) (i : ℕ) (d : ObjectWord) (ns : List (Option Named)) (n : Option Named) → i < length objects
    → ns ≡ map named_by (objects_of (take i objects)) → n ≡ named_by (object_of (get_or objects i d)) → Holds ns n → AreApart (objects_of objects) → ⊥
named_twice objects i d ns None lt before one holds apart = holds
named_twice objects i d ns (Some name) lt before one holds apart =
    let front = at_front object_of named_by objects i holds.0 (Some name) (ap (λ (xs : List (Option Named)). slice_get xs holds.0) (sym before) ∙ holds.1) in
    apart holds.0 i name front.0 front.1 (at_place object_of named_by objects i d lt ∙ ap (λ (x : Option Named). Some x) (sym one))

-- ---- tests

pub is_not : (P : Type 0) → (P → ⊥) → (IsTrue false → P) × (P → IsTrue false)
is_not P never = (λ e. absurd (false≢true e), λ p. absurd (never p))

pub not_held : (ns ms : List (Option Named)) (n : Option Named) (r : Bool) → ns ≡ ms → (Holds ns n → IsTrue r) → r ≡ false → Holds ms n → ⊥
not_held ns ms n r is on off h = false≢true (sym off ∙ on (subst (λ (z : List (Option Named)). Holds z n) (sym is) h))
