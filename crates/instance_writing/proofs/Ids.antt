-- The places of type ids.
use Rattle.std.proofs.Common.{◌≡◌, ℕ, suc, ◌+◌, ◌^◌, ◌<◌, ◌≤◌, Bool, IsTrue, true, false, if◌then◌else◌, List, [], ◌∷◌, ◌++◌, length, Option, Some, None, cond, ◌-◌, refl, sym, ap, ◌∙◌, arith, length-append}
use Rattle.std.specs.Option.{IfSome}
use Rattle.std.specs.Str.{bytes_eq}
use Rattle.std.proofs.Math.Dec.{leb}
use Rattle.std.proofs.lemmas.Bool.{false≢true, leb-true, le-leb}
use Rattle.std.proofs.lemmas.Slice.Eq.{bytes_eq-Decides}
use Rattle.ice_encoding.specs.Classes.{place_of, one_further}
use Rattle.ice_encoding.specs.Visiting.{most}
use Rattle.instance_writing.specs.Pens.{ArePlaced}

-- ---- how many may begin

most-is : most ≡ 100000000
unfolding most
most-is = refl

pub full-is : (n m : ℕ) → n ≡ m → (IsTrue (leb 100000000 n) → most ≤ m) × (most ≤ m → IsTrue (leb 100000000 n))
full-is n m is = (λ full. omega (arith, leb-true 100000000 n full, is, most-is), λ full. le-leb 100000000 n (omega (arith, full, is, most-is)))

-- ---- where a text stands

abbrev no_place : Option ℕ
no_place = None

abbrev at_place : ℕ → Option ℕ
at_place n = Some n

nowhere : (n : ℕ) → no_place ≡ at_place n → ⊥
nowhere n h = cc

same_place : (m n : ℕ) → at_place m ≡ at_place n → m ≡ n
same_place m n h = cc

below-step : (b : Bool) (x : Option ℕ) (n i : ℕ) → (if b then Some 0 else one_further x) ≡ Some i → ((j : ℕ) → x ≡ Some j → j < n) → i < suc n
below-step true x n i is rest = omega (arith, same_place 0 i is)
below-step false None n i is rest = absurd (nowhere i is)
below-step false (Some j) n i is rest = omega (arith, same_place (suc j) i is, rest j refl)

place_of-below : (ids : List (List ℕ)) (id : List ℕ) (i : ℕ) → place_of ids id ≡ Some i → i < length ids
place_of-below [] id i is = absurd (nowhere i is)
place_of-below (first ∷ ids) id i is = below-step (bytes_eq first id) (place_of ids id) (length ids) i is (place_of-below ids id)

pub few-ids : (place : List ℕ → Option ℕ) (ids : List (List ℕ)) (id : List ℕ) (x : Option ℕ) → ArePlaced place ids → x ≡ place id → IfSome x (λ at. at + 1 < 2 ^ 31)
few-ids place ids id None h is = tt
few-ids place ids id (Some at) h is = omega (arith, h.few, place_of-below ids id at (sym (is ∙ h.found id)))

-- ---- one more

not_first : (b : Bool) (x : Option ℕ) → (if b then Some 0 else one_further x) ≡ None → (b ≡ false) × (x ≡ None)
not_first true x is = absurd (nowhere 0 (sym is))
not_first false None is = (refl, refl)
not_first false (Some j) is = absurd (nowhere (suc j) (sym is))

more-step : (a b : Bool) (n : ℕ) (x : Option ℕ) → (a ≡ true → b ≡ true → ⊥) → (if a then Some 0 else one_further (cond b (Some n) x)) ≡ cond b (Some (suc n)) (if a then Some 0 else one_further x)
more-step true true n x apart = absurd (apart refl refl)
more-step true false n x apart = refl
more-step false true n x apart = refl
more-step false false n x apart = refl

first-step : (b : Bool) → (if b then Some 0 else one_further None) ≡ cond b (Some 0) None
first-step true = refl
first-step false = refl

false_true : (b : Bool) → b ≡ false → b ≡ true → ⊥
false_true b unset set = absurd (false≢true (sym unset ∙ set))

-- a text that is new stands last
place_of-more : (ids : List (List ℕ)) (id other : List ℕ) → place_of ids id ≡ None → place_of (ids ++ id ∷ []) other ≡ cond (bytes_eq id other) (Some (length ids)) (place_of ids other)
place_of-more [] id other new = first-step (bytes_eq id other)
place_of-more (first ∷ ids) id other new =
    let apart = not_first (bytes_eq first id) (place_of ids id) new in
    ap (λ (x : Option ℕ). if bytes_eq first other then Some 0 else one_further x) (place_of-more ids id other apart.1)
    ∙ more-step (bytes_eq first other) (bytes_eq id other) (length ids) (place_of ids other)
    (λ one two. false_true (bytes_eq first id) apart.0 ((bytes_eq-Decides first id).1 ((bytes_eq-Decides first other).0 one ∙ sym ((bytes_eq-Decides id other).0 two))))

pub placed-more : (old new : List ℕ → Option ℕ) (ids after : List (List ℕ)) (id key : List ℕ) (at : ℕ) → ArePlaced old ids → place_of ids id ≡ None → at ≡ length ids → at < 2 ^ 31 - 1 → key ≡ id → after ≡ ids ++ id ∷ []
    → ((other : List ℕ) → new other ≡ cond (bytes_eq key other) (Some at) (old other)) → ArePlaced new after
placed-more old new ids after id key at h is_new last few same is inserted = record {
  few = rw is (omega (arith, length-append ids (id ∷ []), last, few));
  found = λ other. inserted other ∙ rw (same, last, h.found other, is) (sym (place_of-more ids id other is_new));
}
