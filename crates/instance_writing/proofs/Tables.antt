-- What listing a name changes, and the bytes of members whose references are put as places.
use Rattle.std.proofs.Common.{◌≡◌, ◌≢◌, ℕ, zero, suc, ◌+◌, ◌^◌, ◌<◌, ◌≤◌, Bool, true, false, List, [], ◌∷◌, ◌++◌, length, slice_get, slice_set, slice_index_or, refl, sym, ap, ◌∙◌, subst, inl, inr, arith, length-append}
use Rattle.std.proofs.lemmas.Bool.{cases_eq, false≢true, eq-eqb, ne_eqb, le-ltb}
use Rattle.std.proofs.lemmas.List.{get_or-set_same, get_or-set_other, length-set}
use Rattle.ice_encoding.specs.Visiting.{place, is_listed, most}
use Rattle.graph_arena.proofs.Listed.{fresh, fresh-most, weight-less}
use Rattle.instance_writing.specs.Tabling.{missing, is_name, place_at, IsIndexed}

fresh-step : (n : ℕ) (table : List ℕ) (b : Bool) → is_listed table n ≡ b → missing n table ≡ fresh n table → missing (suc n) table ≡ fresh (suc n) table
fresh-step n table true is rest = rw is (ap (λ (k : ℕ). 0 + k) rest)
fresh-step n table false is rest = rw is (ap (λ (k : ℕ). 1 + k) rest)

missing-fresh : (count : ℕ) (table : List ℕ) → missing count table ≡ fresh count table
missing-fresh zero table = refl
missing-fresh (suc n) table = fresh-step n table (is_listed table n) refl (missing-fresh n table)

-- ---- places

place-here : (m n : ℕ) (ms : List ℕ) → m ≡ n → place (m ∷ ms) n ≡ 0
place-here m n ms is = rw (eq-eqb m n is) refl

place-behind : (m n : ℕ) (ms : List ℕ) → m ≢ n → place (m ∷ ms) n ≡ suc (place ms n)
place-behind m n ms apart = rw (ne_eqb m n apart) refl

pub place-most : (ms : List ℕ) (n : ℕ) → place ms n ≤ length ms
place-most [] n = omega arith
place-most (m ∷ ms) n = elim (cases_eq m n) [
  | inl same ↦ omega (arith, place-here m n ms same)
  | inr apart ↦ omega (arith, place-behind m n ms apart, place-most ms n)
]

-- one that is listed keeps its place
pub place-stays : (ms more : List ℕ) (n : ℕ) → place ms n < length ms → place (ms ++ more) n ≡ place ms n
place-stays [] more n lt = absurd (omega (arith, lt))
place-stays (m ∷ ms) more n lt = elim (cases_eq m n) [
  | inl same ↦ place-here m n (ms ++ more) same ∙ sym (place-here m n ms same)
  | inr apart ↦ place-behind m n (ms ++ more) apart ∙ ap suc (place-stays ms more n (omega (arith, lt, place-behind m n ms apart))) ∙ sym (place-behind m n ms apart)
]

-- one that is new stands last
pub place-last : (ms : List ℕ) (n : ℕ) → length ms ≤ place ms n → place (ms ++ n ∷ []) n ≡ length ms
place-last [] n le = place-here n n [] refl
place-last (m ∷ ms) n le = elim (cases_eq m n) [
  | inl same ↦ absurd (omega (arith, le, place-here m n ms same))
  | inr apart ↦ place-behind m n (ms ++ n ∷ []) apart ∙ ap suc (place-last ms n (omega (arith, le, place-behind m n ms apart)))
]

-- one that is not listed stands past the end
place-past : (ms : List ℕ) (n m : ℕ) → n ≢ m → length ms ≤ place ms m → place (ms ++ n ∷ []) m ≡ suc (length ms)
place-past [] n m apart le = place-behind n m [] apart
place-past (k ∷ ms) n m apart le = elim (cases_eq k m) [
  | inl same ↦ absurd (omega (arith, le, place-here k m ms same))
  | inr other ↦ place-behind k m (ms ++ n ∷ []) other ∙ ap suc (place-past ms n m apart (omega (arith, le, place-behind k m ms other)))
]

-- ---- the index

pub few-at : (places table : List ℕ) (n at : ℕ) → IsIndexed places table → at ≡ place table n → at + 1 < 2 ^ 31
unfolding most
few-at places table n at h is = omega (arith, is, place-most table n, h.room, h.few)

pub few-names : (places table : List ℕ) → IsIndexed places table → length table < 2 ^ 31
unfolding most
few-names places table h = omega (arith, h.room, h.few)

place-none : (n at : ℕ) → place_at [] n at ≡ 0
place-none n zero = refl
place-none n (suc at) = refl

pub indexed-empty : (places : List ℕ) → length places ≤ most → IsIndexed places []
indexed-empty places few = record {
  few = few;
  room = omega (arith, missing-fresh (length places) [], fresh-most (length places) []);
  found = λ n. place-none n (slice_index_or places n 0);
}

-- whether a name stands at a place, when another is listed last
name-other : (table : List ℕ) (n m at : ℕ) → n ≢ m → is_name m (slice_get (table ++ n ∷ []) at) ≡ is_name m (slice_get table at)
name-other [] n m zero apart = ne_eqb n m apart
name-other [] n m (suc zero) apart = refl
name-other [] n m (suc (suc at)) apart = refl
name-other (k ∷ table) n m zero apart = refl
name-other (k ∷ table) n m (suc at) apart = name-other table n m at apart

name-last : (table : List ℕ) (n : ℕ) → is_name n (slice_get (table ++ n ∷ []) (length table)) ≡ true
name-last [] n = eq-eqb n n refl
name-last (k ∷ table) n = name-last table n

name-within : (table : List ℕ) (m at : ℕ) → is_name m (slice_get table at) ≡ true → at < length table
name-within [] m zero is = absurd (false≢true is)
name-within [] m (suc at) is = absurd (false≢true is)
name-within (k ∷ table) m zero is = omega arith
name-within (k ∷ table) m (suc at) is = omega (arith, name-within table m at is)

place-by : (b : Bool) (table : List ℕ) (n at : ℕ) → is_name n (slice_get table at) ≡ b → place_at table n at ≡ elim b [ true ↦ at | false ↦ length table ]
place-by b table n at is = ap (λ (c : Bool). elim c [ true ↦ at | false ↦ length table ]) is

module _ (table : List ℕ) (n : ℕ) (new : length table ≤ place table n) where
  at-last : place_at (table ++ n ∷ []) n (length table) ≡ place (table ++ n ∷ []) n
  at-last = place-by true (table ++ n ∷ []) n (length table) (name-last table n) ∙ sym (place-last table n new)

  at-other : (m at : ℕ) (b : Bool) → is_name m (slice_get table at) ≡ b → n ≢ m → place_at table m at ≡ place table m → place_at (table ++ n ∷ []) m at ≡ place (table ++ n ∷ []) m
  at-other m at true stands apart is =
      let here : at ≡ place table m = sym (place-by true table m at stands) ∙ is in
      place-by true (table ++ n ∷ []) m at (name-other table n m at apart ∙ stands) ∙ here ∙ sym (place-stays table (n ∷ []) m (omega (arith, here, name-within table m at stands)))
  at-other m at false stands apart is =
      let past : length table ≡ place table m = sym (place-by false table m at stands) ∙ is in
      let long : length (table ++ n ∷ []) ≡ suc (length table) = omega (arith, length-append table (n ∷ [])) in
      place-by false (table ++ n ∷ []) m at (name-other table n m at apart ∙ stands) ∙ long ∙ sym (place-past table n m apart (omega (arith, past)))

  pub indexed-more : (places : List ℕ) → n < length places → IsIndexed places table → IsIndexed (slice_set places n (length table)) (table ++ n ∷ [])
  indexed-more places lt h = record {
    few = subst (λ (k : ℕ). k ≤ most) (sym same_length) h.few;
    room = subst (λ (k : ℕ). length (table ++ n ∷ []) + missing k (table ++ n ∷ []) ≤ k) (sym same_length)
        (omega (arith, h.room, length-append table (n ∷ []), missing-fresh (length places) table, missing-fresh (length places) (table ++ n ∷ []), weight-less (λ _. 1) (length places) table n lt (le-ltb (place table n) (length table) new)));
    found = at;
  }
    where
      same_length : length (slice_set places n (length table)) ≡ length places
      same_length = length-set places n (length table)

      at : (m : ℕ) → place_at (table ++ n ∷ []) m (slice_index_or (slice_set places n (length table)) m 0) ≡ place (table ++ n ∷ []) m
      at m = elim (cases_eq m n) [
        | inl same ↦ subst (λ (k : ℕ). place_at (table ++ n ∷ []) k (slice_index_or (slice_set places n (length table)) k 0) ≡ place (table ++ n ∷ []) k) (sym same)
            (ap (place_at (table ++ n ∷ []) n) (get_or-set_same places n (length table) 0 lt) ∙ at-last)
        | inr apart ↦ ap (place_at (table ++ n ∷ []) m) (get_or-set_other places n m (length table) 0 apart)
            ∙ at-other m (slice_index_or places m 0) (is_name m (slice_get table (slice_index_or places m 0))) refl (λ e. apart (sym e)) (h.found m)
      ]

pub indexed-is : (places table new : List ℕ) (n at : ℕ) → IsIndexed places table → n < length places → at ≡ length table → at ≤ place table n → new ≡ table ++ n ∷ [] → IsIndexed (slice_set places n at) new
indexed-is places table new n at h lt last fresh_one is =
    subst (λ (k : ℕ). IsIndexed (slice_set places n k) new) (sym last)
    (subst (IsIndexed (slice_set places n (length table))) (sym is) (indexed-more table n (omega (arith, last, fresh_one)) places lt h))
