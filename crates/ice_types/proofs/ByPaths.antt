-- Bases by the paths that lead to them.
use Rattle.std.proofs.Common.{ℕ, zero, suc, ◌+◌, ◌-◌, drop, get_or, ◌<◌, ◌≤◌, ◌≡◌, Bool, true, false, List, [], ◌∷◌, ◌++◌, length, Option, None, Some, refl, sym, ap, ◌∙◌, subst, arith, inl, inr, ◌⊎◌, length-append}
use Rattle.std.specs.Prelude.{nat_le, slice_get}
use Rattle.std.specs.List.{flat_map, sum_by, Contains}
use Rattle.std.proofs.lemmas.List.Elements.{Contains-append_cases, Contains-append_left, Contains-append_right}
use Rattle.std.specs.Option.{option_and_then}
use Rattle.std.proofs.lemmas.Grind.{common_steps}
use Rattle.std.proofs.lemmas.List.{at_drop_more}
use Rattle.std.proofs.lemmas.List.Sums.{sum_by-cons}
use Rattle.ice_types.specs.Measures.{bases_in}
use Rattle.ice_types.specs.Inherited.{Reaches, Here, Onward, all_bases, located, bases_by_path, CountsBases, InterfaceIsA}
use Rattle.ice_types.specs.Kept.{counted}
use Rattle.ice_types.specs.declared.declarations.InterfaceDecl.{InterfaceDecl}
use Rattle.ice_types.proofs.Levels.{some_is}

get_before : (xs ys : List ℕ) (i : ℕ) → i < length xs → slice_get (xs ++ ys) i ≡ slice_get xs i
get_before [] ys i lt = absurd (omega (arith, lt))
get_before (x ∷ xs) ys zero lt = refl
get_before (x ∷ xs) ys (suc i) lt = get_before xs ys i (omega (arith, lt))

get_after : (xs ys : List ℕ) (i n : ℕ) → length xs ≡ n → n ≤ i → slice_get (xs ++ ys) i ≡ slice_get ys (i - n)
get_after [] ys i n long le = let e : i - n ≡ i = omega (arith, long) in rw e refl
get_after (x ∷ xs) ys zero n long le = absurd (omega (arith, long, le))
get_after (x ∷ xs) ys (suc i) n long le = let e : suc i - n ≡ i - (length xs) = omega (arith, long) in rw e (get_after xs ys i (length xs) refl (omega (arith, long, le)))

le-from_test : (a b : ℕ) → nat_le a b ≡ true → a ≤ b
le-from_test a b e = grind (arith, common_steps)

lt-from_test : (a b : ℕ) → nat_le a b ≡ false → b < a
lt-from_test a b e = grind (arith, common_steps)

-- the first section that is left is that of the next base
module _ (f : ℕ → ℕ) (bs : List ℕ) (i left : ℕ) (lt : i < length bs) (count : ℕ) (is : count ≡ f (get_or bs i 0)) where
  pub located_here : left ≤ count → Some (get_or bs i 0, left) ≡ located f (drop i bs) left
  located_here le = sym (at_drop_more (λ l. located f l left) bs i 0 lt ∙ by_test (nat_le left (f (get_or bs i 0))) refl)
    where
      by_test : (test : Bool) → nat_le left (f (get_or bs i 0)) ≡ test
          → ◌≡◌ {A = Option (ℕ × ℕ)} (elim test [ true ↦ Some (get_or bs i 0, left) | false ↦ located f (drop (i + 1) bs) (left - suc (f (get_or bs i 0))) ]) (Some (get_or bs i 0, left))
      by_test true e = refl
      by_test false e = absurd (omega (arith, lt-from_test left (f (get_or bs i 0)) e, le, is))

  pub located_later : count < left → located f (drop (i + 1) bs) (left - count - 1) ≡ located f (drop i bs) left
  located_later more = sym (at_drop_more (λ l. located f l left) bs i 0 lt ∙ by_test (nat_le left (f (get_or bs i 0))) refl)
    where
      by_test : (test : Bool) → nat_le left (f (get_or bs i 0)) ≡ test
          → ◌≡◌ {A = Option (ℕ × ℕ)} (elim test [ true ↦ Some (get_or bs i 0, left) | false ↦ located f (drop (i + 1) bs) (left - suc (f (get_or bs i 0))) ]) (located f (drop (i + 1) bs) (left - count - 1))
      by_test true e = absurd (omega (arith, le-from_test left (f (get_or bs i 0)) e, more, is))
      by_test false e = let same : left - suc (f (get_or bs i 0)) ≡ left - count - 1 = omega (arith, is) in ap (located f (drop (i + 1) bs)) same

-- each section is at most as long as all together
flat_same : (f g : ℕ → List ℕ) (count : ℕ → ℕ) (most : ℕ) (xs : List ℕ) → sum_by (λ b. suc (count b)) xs ≤ most → ((b : ℕ) → suc (count b) ≤ most → f b ≡ g b) → flat_map f xs ≡ flat_map g xs
flat_same f g count most [] le same = refl
flat_same f g count most (x ∷ xs) le same =
    let total = sum_by-cons (λ b. suc (count b)) x xs in
    let first : f x ≡ g x = same x (omega (arith, le, total)) in
    let rest : flat_map f xs ≡ flat_map g xs = flat_same f g count most xs (omega (arith, le, total)) same in
    rw (first, rest) refl

-- ---- what is known of each: its bases, and how many there are by the paths that lead to them

module _ (bases : ℕ → List ℕ) (count : ℕ → ℕ) (counted : (at : ℕ) → count at ≡ sum_by (λ b. suc (count b)) (bases at)) where
  -- more levels than bases find the same
  same_levels : (levels more at : ℕ) → count at < levels → count at < more → all_bases bases levels at ≡ all_bases bases more at
  unfolding all_bases
  same_levels zero more at le lt = absurd (omega (arith, le))
  same_levels (suc levels) zero at le lt = absurd (omega (arith, lt))
  same_levels (suc levels) (suc more) at le lt =
      flat_same (λ b. b ∷ all_bases bases levels b) (λ b. b ∷ all_bases bases more b) count (count at) (bases at) (omega (arith, counted at)) λ b within.
      ap (λ (l : List ℕ). b ∷ l) (same_levels levels more b (omega (arith, within, le)) (omega (arith, within, lt)))

  sections_long : (levels : ℕ) → ((b : ℕ) → count b < levels → length (all_bases bases levels b) ≡ count b) → (xs : List ℕ) → sum_by (λ b. suc (count b)) xs ≤ levels
      → length (flat_map (λ b. b ∷ all_bases bases levels b) xs) ≡ sum_by (λ b. suc (count b)) xs
  sections_long levels long [] within = refl
  sections_long levels long (x ∷ xs) within =
      let total = sum_by-cons (λ b. suc (count b)) x xs in
      let first = long x (omega (arith, within, total)) in
      let rest = sections_long levels long xs (omega (arith, within, total)) in
      omega (arith, first, rest, total, length-append (all_bases bases levels x) (flat_map (λ b. b ∷ all_bases bases levels b) xs))

  -- as many as are counted
  pub length-all_bases : (levels at : ℕ) → count at < levels → length (all_bases bases levels at) ≡ count at
  unfolding all_bases
  length-all_bases zero at le = absurd (omega (arith, le))
  length-all_bases (suc levels) at le = sections_long levels (λ b less. length-all_bases levels b less) (bases at) (omega (arith, counted at, le)) ∙ sym (counted at)

  module _ (levels : ℕ) (enough : (at : ℕ) → count at < levels) where
    -- a base and its own bases, before the next
    pub bases_in_order : (at : ℕ) → all_bases bases levels at ≡ flat_map (λ b. b ∷ all_bases bases levels b) (bases at)
    unfolding all_bases
    bases_in_order at = first_level levels enough
      where
        first_level : (l : ℕ) → ((b : ℕ) → count b < l) → all_bases bases l at ≡ flat_map (λ b. b ∷ all_bases bases l b) (bases at)
        first_level zero most = absurd (omega (arith, most at))
        first_level (suc l) most =
            flat_same (λ b. b ∷ all_bases bases l b) (λ b. b ∷ all_bases bases (suc l) b) count (count at) (bases at) (omega (arith, counted at)) λ b within.
            ap (λ (xs : List ℕ). b ∷ xs) (same_levels l (suc l) b (omega (arith, within, most at)) (omega (arith, most b)))

    -- the base at a place stands in the section in which the place falls
    section_at : (b place : ℕ) (rest : List ℕ) → place ≤ count b → slice_get ((b ∷ all_bases bases levels b) ++ rest) place ≡ slice_get (b ∷ all_bases bases levels b) place
    section_at b place rest le = get_before (b ∷ all_bases bases levels b) rest place (omega (arith, le, length-all_bases levels b (enough b)))

    pub located_at : (xs : List ℕ) (place : ℕ) → slice_get (flat_map (λ b. b ∷ all_bases bases levels b) xs) place ≡ option_and_then (λ p. slice_get (p.0 ∷ all_bases bases levels p.0) p.1) (located count xs place)
    located_at [] place = refl
    located_at (x ∷ xs) place = by_test (nat_le place (count x)) refl (located_at xs (place - suc (count x)))
      where
        by_test : (test : Bool) → nat_le place (count x) ≡ test
            → slice_get (flat_map (λ b. b ∷ all_bases bases levels b) xs) (place - suc (count x)) ≡ option_and_then (λ p. slice_get (p.0 ∷ all_bases bases levels p.0) p.1) (located count xs (place - suc (count x)))
            → slice_get ((x ∷ all_bases bases levels x) ++ flat_map (λ b. b ∷ all_bases bases levels b) xs) place
            ≡ option_and_then (λ p. slice_get (p.0 ∷ all_bases bases levels p.0) p.1) (elim test [ true ↦ Some (x, place) | false ↦ located count xs (place - suc (count x)) ])
        by_test true e others = section_at x place (flat_map (λ b. b ∷ all_bases bases levels b) xs) (le-from_test place (count x) e)
        by_test false e others =
            let past : count x < place = lt-from_test place (count x) e in
            get_after (x ∷ all_bases bases levels x) (flat_map (λ b. b ∷ all_bases bases levels b) xs) place (suc (count x)) (omega (arith, length-all_bases levels x (enough x))) (omega (arith, past))
            ∙ others

-- ---- what is found so, and what is reached

contains_cases : (x y : ℕ) (xs : List ℕ) → Contains (x ∷ xs) y → (y ≡ x) ⊎ Contains xs y
contains_cases x y xs (zero, lt, e) = inl (sym e)
contains_cases x y xs (suc k, lt, e) = inr (k, omega (arith, lt), e)

contains_first : (x y : ℕ) (xs : List ℕ) → y ≡ x → Contains (x ∷ xs) y
contains_first x y xs e = (zero, omega arith, sym e)

contains_later : (x y : ℕ) (xs : List ℕ) → Contains xs y → Contains (x ∷ xs) y
contains_later x y xs (k, lt, e) = (suc k, omega (arith, lt), e)

pub contains_at : (xs : List ℕ) (k x : ℕ) → slice_get xs k ≡ Some x → Contains xs x
contains_at [] k x e = absurd cc
contains_at (y ∷ xs) zero x e = contains_first y x xs (some_is (λ z. x ≡ z) x y (sym e) refl)
contains_at (y ∷ xs) (suc k) x e = contains_later y x xs (contains_at xs k x e)

pub found_at : (xs : List ℕ) (x : ℕ) → Contains xs x → (k : ℕ) × (k < length xs) × (slice_get xs k ≡ Some x)
found_at [] x (k, lt, e) = absurd (omega (arith, lt))
found_at (y ∷ xs) x (zero, lt, e) = (zero, omega arith, ap Some e)
found_at (y ∷ xs) x (suc k, lt, e) = let later = found_at xs x (k, omega (arith, lt), e) in (suc later.0, omega (arith, later.1), later.2)

in_section : (f : ℕ → List ℕ) (xs : List ℕ) (y : ℕ) → Contains (flat_map f xs) y → (b : ℕ) × Contains xs b × Contains (f b) y
in_section f [] y (k, lt, e) = absurd (omega (arith, lt))
in_section f (x ∷ xs) y h = elim (Contains-append_cases (f x) (flat_map f xs) y h) [
  | inl here ↦ (x, contains_first x x xs refl, here)
  | inr later ↦ let found = in_section f xs y later in (found.0, contains_later x found.0 xs found.1, found.2)
]

of_section : (f : ℕ → List ℕ) (xs : List ℕ) (b y : ℕ) → Contains xs b → Contains (f b) y → Contains (flat_map f xs) y
of_section f [] b y (k, lt, e) h = absurd (omega (arith, lt))
of_section f (x ∷ xs) b y (zero, lt, e) h = Contains-append_left (f x) (flat_map f xs) y (subst (λ (z : ℕ). Contains (f z) y) (sym e) h)
of_section f (x ∷ xs) b y (suc k, lt, e) h = Contains-append_right (f x) (flat_map f xs) y (of_section f xs b y (k, omega (arith, lt), e) h)

abbrev pub StepsTo : (ℕ → List ℕ) → ℕ → ℕ → Type 0
StepsTo bases at base = Contains (bases at) base

pub found_reached : (bases : ℕ → List ℕ) (levels at other : ℕ) → Contains (all_bases bases levels at) other → Reaches (StepsTo bases) at other
unfolding all_bases
found_reached bases zero at other (k, lt, e) = absurd (omega (arith, lt))
found_reached bases (suc levels) at other h =
    let found = in_section (λ b. b ∷ all_bases bases levels b) (bases at) other h in
    Onward at found.0 other found.1 (elim (contains_cases found.0 other (all_bases bases levels found.0) found.2) [
      | inl same ↦ subst (λ (z : ℕ). Reaches (StepsTo bases) found.0 z) (sym same) (Here found.0)
      | inr deeper ↦ found_reached bases levels found.0 other deeper
    ])

counted_within : (count : ℕ → ℕ) (xs : List ℕ) (b : ℕ) → Contains xs b → suc (count b) ≤ sum_by (λ b. suc (count b)) xs
counted_within count [] b (k, lt, e) = absurd (omega (arith, lt))
counted_within count (x ∷ xs) b (zero, lt, e) = let total = sum_by-cons (λ b. suc (count b)) x xs in omega (arith, total, ap count e)
counted_within count (x ∷ xs) b (suc k, lt, e) = let total = sum_by-cons (λ b. suc (count b)) x xs in omega (arith, total, counted_within count xs b (k, omega (arith, lt), e))

pub reached_found : (bases : ℕ → List ℕ) (count : ℕ → ℕ) → ((at : ℕ) → count at ≡ sum_by (λ b. suc (count b)) (bases at)) → (levels at other : ℕ) → count at < levels
    → Reaches (StepsTo bases) at other → (other ≡ at) ⊎ Contains (all_bases bases levels at) other
unfolding all_bases
reached_found bases count counted levels at other less (Here _) = inl refl
reached_found bases count counted zero at other less (Onward _ next _ step rest) = absurd (omega (arith, less))
reached_found bases count counted (suc levels) at other less (Onward _ next _ step rest) =
    let fewer = counted_within count (bases at) next step in
    inr (of_section (λ b. b ∷ all_bases bases levels b) (bases at) next other step (elim (reached_found bases count counted levels next other (omega (arith, less, fewer, counted at)) rest) [
      | inl same ↦ contains_first next other (all_bases bases levels next) same
      | inr deeper ↦ contains_later next other (all_bases bases levels next) deeper
    ]))

-- ---- interfaces

module _ (interfaces : List InterfaceDecl) (counts : List (Option ℕ)) (kept : CountsBases interfaces counts) where
  each_counted : (at : ℕ) → counted counts at ≡ sum_by (λ b. suc (counted counts b)) (bases_in interfaces at)
  each_counted at = (kept at).0

  enough : (at : ℕ) → counted counts at < 1001
  enough at = omega (arith, (kept at).1)

  step_is : (at place : ℕ) → slice_get (bases_by_path interfaces at) place
      ≡ option_and_then (λ p. slice_get (p.0 ∷ bases_by_path interfaces p.0) p.1) (located (counted counts) (bases_in interfaces at) place)
  step_is at place = ap (λ (l : List ℕ). slice_get l place) (bases_in_order (bases_in interfaces) (counted counts) each_counted 1001 enough at)
      ∙ located_at (bases_in interfaces) (counted counts) each_counted 1001 enough (bases_in interfaces at) place

  pub step_none : (at place : ℕ) → None ≡ located (counted counts) (bases_in interfaces at) place → slice_get (bases_by_path interfaces at) place ≡ None
  step_none at place e = step_is at place ∙ sym (ap (λ (o : Option (ℕ × ℕ)). option_and_then (λ p. slice_get (p.0 ∷ bases_by_path interfaces p.0) p.1) o) e)

  pub step_some : (at place base within : ℕ) → Some (base, within) ≡ located (counted counts) (bases_in interfaces at) place
      → slice_get (bases_by_path interfaces at) place ≡ slice_get (base ∷ bases_by_path interfaces base) within
  step_some at place base within e = step_is at place ∙ sym (ap (λ (o : Option (ℕ × ℕ)). option_and_then (λ p. slice_get (p.0 ∷ bases_by_path interfaces p.0) p.1) o) e)

  pub bases_counted : (at : ℕ) → length (bases_by_path interfaces at) ≡ counted counts at
  bases_counted at = length-all_bases (bases_in interfaces) (counted counts) each_counted 1001 at (enough at)

  pub has_base : (at place base : ℕ) → slice_get (bases_by_path interfaces at) place ≡ Some base → InterfaceIsA interfaces at base
  has_base at place base e = found_reached (bases_in interfaces) 1001 at base (contains_at (bases_by_path interfaces at) place base e)

  pub lacks_base : (at base count : ℕ) → count ≡ counted counts at → (base ≡ at → ⊥) → ((k : ℕ) → k < count → slice_get (bases_by_path interfaces at) k ≡ Some base → ⊥) → InterfaceIsA interfaces at base → ⊥
  lacks_base at base count is other none reached = elim (reached_found (bases_in interfaces) (counted counts) each_counted 1001 at base (enough at) reached) [
    | inl same ↦ other same
    | inr found ↦
        let place = found_at (bases_by_path interfaces at) base found in
        none place.0 (omega (arith, place.1, is, length-all_bases (bases_in interfaces) (counted counts) each_counted 1001 at (enough at))) place.2
  ]

pub behind_first : (x : ℕ) (xs : List ℕ) (w : ℕ) → 0 < w → slice_get (x ∷ xs) w ≡ slice_get xs (w - 1)
behind_first x xs zero lt = absurd (omega (arith, lt))
behind_first x xs (suc w) lt = let e : suc w - 1 ≡ w = omega arith in rw e refl
