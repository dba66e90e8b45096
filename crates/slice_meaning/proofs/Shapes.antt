-- Members in a shape are those before, and the optional ones stand by rising tag.
use Rattle.std.proofs.Common.{◌≡◌, ◌≢◌, ℕ, suc, ◌≤◌, ◌<◌, ◌+◌, Bool, true, false, cond, List, [], ◌∷◌, ◌++◌, Option, Some, None, refl, sym, ap, ◌∙◌, subst, arith}
use Rattle.std.specs.Prelude.{All, nat_lt, unwrap_or}
use Rattle.std.specs.Option.{is_none, is_some}
use Rattle.std.proofs.lemmas.Bool.{eq-eqb}
use Rattle.std.proofs.lemmas.Bool.Decides.{nat_tests}
use Rattle.std.proofs.lemmas.List.Elements.{All-nil, All-cons, All-head, All-tail}
use Rattle.ice_types.specs.declared.declarations.Member.{Member}
use Rattle.ice_types.specs.declared.schema.TheConstants.{MOST_NUMBER}
use Rattle.ice_types.specs.Tables.{Tables}
use Rattle.ice_types.specs.Fits.{IsOf, AreOf, AreRequired, AreRising, ShapeFits, tags_of}
use Rattle.slice_meaning.specs.Members.{required, put, optional, shape}
use Rattle.slice_meaning.proofs.Counting.{one_if, count, is_number}

abbrev pub Within : ℕ → Type 0
Within n = n ≤ MOST_NUMBER

-- ---- members in a shape are those before, in another order

module _ (p : Member → Bool) where
  put_count : (m : Member) (ms : List Member) → count p (put m ms) ≡ one_if (p m) + count p ms
  put_count m [] = refl
  put_count m (other ∷ others) = by_test (nat_lt (unwrap_or m.tag 0) (unwrap_or other.tag 0)) (put_count m others)
    where
      by_test : (b : Bool) → count p (put m others) ≡ one_if (p m) + count p others → count p (cond b (m ∷ other ∷ others) (other ∷ put m others)) ≡ one_if (p m) + count p (other ∷ others)
      by_test true h = refl
      by_test false h = omega (arith, h)

  pub shape_count : (ms : List Member) → count p (required ms) + count p (optional ms) ≡ count p ms
  shape_count [] = refl
  shape_count (m ∷ ms) = by_tag m.tag (shape_count ms)
    where
      by_tag : (tag : Option ℕ) → count p (required ms) + count p (optional ms) ≡ count p ms
          → count p (cond (is_none tag) (m ∷ required ms) (required ms)) + count p (cond (is_some tag) (put m (optional ms)) (optional ms)) ≡ one_if (p m) + count p ms
      by_tag None h = omega (arith, h)
      by_tag (Some n) h = let more = put_count m (optional ms) in omega (arith, h, more)

module _ (P : Member → Type 0) where
  put_all : (m : Member) (ms : List Member) → P m → All P ms → All P (put m ms)
  put_all m [] a h = All-cons P m [] a h
  put_all m (other ∷ others) a h = by_test (nat_lt (unwrap_or m.tag 0) (unwrap_or other.tag 0)) (put_all m others a (All-tail P other others h))
    where
      by_test : (b : Bool) → All P (put m others) → All P (cond b (m ∷ other ∷ others) (other ∷ put m others))
      by_test true rest = All-cons P m (other ∷ others) a h
      by_test false rest = All-cons P other (put m others) (All-head P other others h) rest

  optional_all : (ms : List Member) → All P ms → All P (optional ms)
  optional_all [] h = h
  optional_all (m ∷ ms) h = by_test (is_some m.tag) (optional_all ms (All-tail P m ms h))
    where
      by_test : (b : Bool) → All P (optional ms) → All P (cond b (put m (optional ms)) (optional ms))
      by_test true rest = put_all m (optional ms) (All-head P m ms h) rest
      by_test false rest = rest

  required_all : (ms : List Member) → All P ms → All P (required ms)
  required_all [] h = h
  required_all (m ∷ ms) h = by_test (is_none m.tag) (required_all ms (All-tail P m ms h))
    where
      by_test : (b : Bool) → All P (required ms) → All P (cond b (m ∷ required ms) (required ms))
      by_test true rest = All-cons P m (required ms) (All-head P m ms h) rest
      by_test false rest = rest

abbrev HasNoTag : Member → Type 0
HasNoTag m = m.tag ≡ None

are_required : (ms : List Member) → AreRequired (required ms)
are_required [] = All-nil HasNoTag
are_required (m ∷ ms) = by_tag m.tag refl (are_required ms)
  where
    by_tag : (tag : Option ℕ) → m.tag ≡ tag → AreRequired (required ms) → AreRequired (cond (is_none tag) (m ∷ required ms) (required ms))
    by_tag None is h = All-cons HasNoTag m (required ms) is h
    by_tag (Some n) is h = h

-- ---- optional ones by rising tag

-- the tag is among none of these
abbrev LacksTag : ℕ → List Member → Type 0
LacksTag n ms = count (is_number n) (tags_of ms) ≡ 0

-- one with a tag among rising ones
put_rising : (least n : ℕ) (m : Member) (ms : List Member) → m.tag ≡ Some n → least ≤ n → n ≤ MOST_NUMBER → LacksTag n ms → AreRising least ms → AreRising least (put m ms)
put_rising least n m [] is le high lacks rising = (n, is, le, high, tt)
put_rising least n m (other ∷ others) is le high lacks rising = by_test (nat_lt (unwrap_or m.tag 0) (unwrap_or other.tag 0)) refl (λ after none. put_rising (suc rising.0) n m others is after high none rising.4)
  where
    first : unwrap_or m.tag 0 ≡ n
    first = ap (λ (o : Option ℕ). unwrap_or o 0) is

    second : unwrap_or other.tag 0 ≡ rising.0
    second = ap (λ (o : Option ℕ). unwrap_or o 0) rising.1

    of_tag : count (is_number n) (tags_of (other ∷ others)) ≡ one_if (is_number n rising.0) + count (is_number n) (tags_of others)
    of_tag = by_found other.tag rising.1
      where
        by_found : (o : Option ℕ) → o ≡ Some rising.0 → count (is_number n) (elim o as (λ _. List ℕ) [ None ↦ tags_of others | Some tag ↦ tag ∷ tags_of others ]) ≡ one_if (is_number n rising.0) + count (is_number n) (tags_of others)
        by_found None e = absurd cc
        by_found (Some found) e = let same : found ≡ rising.0 = cc in ap (λ (x : ℕ). one_if (is_number n x) + count (is_number n) (tags_of others)) same

    by_test : (b : Bool) → nat_lt (unwrap_or m.tag 0) (unwrap_or other.tag 0) ≡ b → (suc rising.0 ≤ n → LacksTag n others → AreRising (suc rising.0) (put m others)) → AreRising least (cond b (m ∷ other ∷ others) (other ∷ put m others))
    by_test true e rest =
        let lt : unwrap_or m.tag 0 < unwrap_or other.tag 0 = grind (arith, nat_tests) in
        (n, is, le, high, (rising.0, rising.1, omega (arith, lt, first, second), rising.3, rising.4))
    by_test false e rest =
        let ge : unwrap_or other.tag 0 ≤ unwrap_or m.tag 0 = grind (arith, nat_tests) in
        let none : one_if (is_number n rising.0) + count (is_number n) (tags_of others) ≡ 0 = sym of_tag ∙ lacks in
        let unlike : rising.0 ≢ n = (λ same. let one : one_if (is_number n rising.0) ≡ 1 = ap one_if (eq-eqb n rising.0 (sym same)) in omega (arith, none, one)) in
        let lt : suc rising.0 ≤ n = grind (arith, ge, first, second, unlike) in
        (rising.0, rising.1, rising.2, rising.3, rest lt (omega (arith, none)))

-- whether the tag of a member is this number, as a count
abbrev pub tag_one : ℕ → Option ℕ → ℕ
tag_one q None = 0
tag_one q (Some n) = one_if (is_number q n)

pub tags_cons : (q : ℕ) (m : Member) (ms : List Member) → count (is_number q) (tags_of (m ∷ ms)) ≡ tag_one q m.tag + count (is_number q) (tags_of ms)
tags_cons q m ms = by_found m.tag
  where
    by_found : (o : Option ℕ) → count (is_number q) (elim o as (λ _. List ℕ) [ None ↦ tags_of ms | Some tag ↦ tag ∷ tags_of ms ]) ≡ tag_one q o + count (is_number q) (tags_of ms)
    by_found None = omega arith
    by_found (Some n) = omega arith

pub tags_append : (q : ℕ) (xs ys : List Member) → count (is_number q) (tags_of (xs ++ ys)) ≡ count (is_number q) (tags_of xs) + count (is_number q) (tags_of ys)
tags_append q [] ys = omega arith
tags_append q (m ∷ ms) ys = let a = tags_cons q m (ms ++ ys) in let b = tags_cons q m ms in let rest = tags_append q ms ys in omega (arith, a, b, rest)

put_tags : (q : ℕ) (m : Member) (ms : List Member) → count (is_number q) (tags_of (put m ms)) ≡ tag_one q m.tag + count (is_number q) (tags_of ms)
put_tags q m [] = tags_cons q m []
put_tags q m (other ∷ others) = by_test (nat_lt (unwrap_or m.tag 0) (unwrap_or other.tag 0)) (put_tags q m others)
  where
    by_test : (b : Bool) → count (is_number q) (tags_of (put m others)) ≡ tag_one q m.tag + count (is_number q) (tags_of others)
        → count (is_number q) (tags_of (cond b (m ∷ other ∷ others) (other ∷ put m others))) ≡ tag_one q m.tag + count (is_number q) (tags_of (other ∷ others))
    by_test true h = tags_cons q m (other ∷ others)
    by_test false h = let a = tags_cons q other (put m others) in let b = tags_cons q other others in omega (arith, a, b, h)

optional_tags : (q : ℕ) (ms : List Member) → count (is_number q) (tags_of (optional ms)) ≡ count (is_number q) (tags_of ms)
optional_tags q [] = refl
optional_tags q (m ∷ ms) = by_tag m.tag refl (optional_tags q ms)
  where
    by_tag : (tag : Option ℕ) → m.tag ≡ tag → count (is_number q) (tags_of (optional ms)) ≡ count (is_number q) (tags_of ms)
        → count (is_number q) (tags_of (cond (is_some tag) (put m (optional ms)) (optional ms))) ≡ count (is_number q) (tags_of (m ∷ ms))
    by_tag None is h = let a = tags_cons q m ms in let none : tag_one q m.tag ≡ 0 = ap (tag_one q) is in omega (arith, a, none, h)
    by_tag (Some n) is h = let a = tags_cons q m ms in let b = put_tags q m (optional ms) in omega (arith, a, b, h)

tags_tail : (m : Member) (ms : List Member) → All Within (tags_of (m ∷ ms)) → All Within (tags_of ms)
tags_tail m ms h = by_found m.tag h
  where
    by_found : (o : Option ℕ) → All Within (elim o as (λ _. List ℕ) [ None ↦ tags_of ms | Some tag ↦ tag ∷ tags_of ms ]) → All Within (tags_of ms)
    by_found None h = h
    by_found (Some n) h = All-tail Within n (tags_of ms) h

tag_head : (m : Member) (ms : List Member) (n : ℕ) → m.tag ≡ Some n → All Within (tags_of (m ∷ ms)) → n ≤ MOST_NUMBER
tag_head m ms n is h = by_found m.tag is h
  where
    by_found : (o : Option ℕ) → o ≡ Some n → All Within (elim o as (λ _. List ℕ) [ None ↦ tags_of ms | Some tag ↦ tag ∷ tags_of ms ]) → n ≤ MOST_NUMBER
    by_found None is h = absurd cc
    by_found (Some found) is h = let same : found ≡ n = cc in subst Within same (All-head Within found (tags_of ms) h)

-- where no tag stands twice, the optional ones rise
optional_rising : (ms : List Member) → ((q : ℕ) → count (is_number q) (tags_of ms) ≤ 1) → All Within (tags_of ms) → AreRising 0 (optional ms)
optional_rising [] apart within = tt
optional_rising (m ∷ ms) apart within =
    by_tag m.tag refl (optional_rising ms (λ q. let a = apart q in let b = tags_cons q m ms in omega (arith, a, b)) (tags_tail m ms within))
  where
    by_tag : (tag : Option ℕ) → m.tag ≡ tag → AreRising 0 (optional ms) → AreRising 0 (cond (is_some tag) (put m (optional ms)) (optional ms))
    by_tag None is rest = rest
    by_tag (Some n) is rest =
        let a = apart n in
        let b = tags_cons n m ms in
        let c = optional_tags n ms in
        let one : tag_one n m.tag ≡ 1 = ap (tag_one n) is ∙ ap one_if (eq-eqb n n refl) in
        put_rising 0 n m (optional ms) is (omega arith) (tag_head m ms n is within) (omega (arith, a, b, c, one)) rest

-- members without faults make a shape
pub shape_fits : (t : Tables) (ms : List Member) → AreOf t ms → ((q : ℕ) → count (is_number q) (tags_of ms) ≤ 1) → All Within (tags_of ms) → ShapeFits t (shape ms)
shape_fits t ms of apart within = (required_all (λ m. IsOf t m.kind) ms of, are_required ms, optional_all (λ m. IsOf t m.kind) ms of, optional_rising ms apart within)
