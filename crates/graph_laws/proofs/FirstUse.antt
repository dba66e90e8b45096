-- One table has the names that are used by first use.
use Rattle.std.proofs.Common.{ℕ, suc, ◌<◌, ◌≡◌, ◌⊎◌, Bool, true, false, List, [], ◌∷◌, length, map, refl, sym, ap, ◌∙◌, subst, arith, inl, inr}
use Rattle.std.proofs.lemmas.Bool.{cases_eq, ltb-true, ltb-false}
use Rattle.ice_encoding.specs.Visiting.{place, is_listed}
use Rattle.ice_encoding.specs.SameGraph.{AreListed}
use Rattle.ice_encoding.specs.CanonicalGraph.{each_once}
use Rattle.graph_arena.proofs.Closed.{place-head, place-tail}
use Rattle.graph_laws.specs.FirstUse.{AreRising, IsByFirstUse}
use Rattle.graph_laws.proofs.Once.{once-listed}
use Rattle.graph_laws.proofs.Sameness.{IsIn, Within}

-- ---- a list that is in another

in_head : (m : ℕ) (ns : List ℕ) (n : ℕ) → m ≡ n → IsIn (m ∷ ns) n
in_head m ns n e = omega (arith, place-head m ns n e)

in_tail : (m : ℕ) (ns : List ℕ) (n : ℕ) → IsIn ns n → IsIn (m ∷ ns) n
in_tail m ns n lt = elim (cases_eq m n) [ inl e ↦ in_head m ns n e | inr apart ↦ omega (arith, place-tail m ns n apart, lt) ]

in_split : (m : ℕ) (ns : List ℕ) (n : ℕ) → IsIn (m ∷ ns) n → (m ≡ n) ⊎ IsIn ns n
in_split m ns n lt = elim (cases_eq m n) [ inl e ↦ inl e | inr apart ↦ inr (omega (arith, place-tail m ns n apart, lt)) ]

listed_at : (ns ms : List ℕ) → AreListed ns ms → Within ns ms
listed_at ns [] h n lt = absurd (omega (arith, lt))
listed_at ns (m ∷ ms) h n lt = elim (in_split m ms n lt) [ inl e ↦ subst (IsIn ns) e h.0 | inr more ↦ listed_at ns ms h.1 n more ]

-- ---- what rises is told by what is in it

module _ (uses : List ℕ) where
  abbrev at : ℕ → ℕ
  at = place uses

  rest_rising : (x : ℕ) (xs : List ℕ) → AreRising (map at (x ∷ xs)) → AreRising (map at xs)
  rest_rising x [] h = tt
  rest_rising x (y ∷ ys) h = h.1

  -- what stands behind is above
  above : (x : ℕ) (xs : List ℕ) → AreRising (map at (x ∷ xs)) → (n : ℕ) → IsIn xs n → at x < at n
  above x [] h n lt = absurd (omega (arith, lt))
  above x (y ∷ ys) h n lt = elim (in_split y ys n lt) [
    | inl e ↦ subst (λ (m : ℕ). at x < at m) e h.0
    | inr more ↦ (let further = above y ys h.1 n more in omega (arith, h.0, further))
  ]

  one_list : (xs ys : List ℕ) → AreRising (map at xs) → AreRising (map at ys) → Within ys xs → Within xs ys → xs ≡ ys
  one_list [] [] p q there back = refl
  one_list [] (y ∷ ys) p q there back = absurd (omega (arith, back y (in_head y ys y refl)))
  one_list (x ∷ xs) [] p q there back = absurd (omega (arith, there x (in_head x xs x refl)))
  one_list (x ∷ xs) (y ∷ ys) p q there back =
      let same : x ≡ y = first (in_split y ys x (there x (in_head x xs x refl))) (in_split x xs y (back y (in_head y ys y refl))) in
      let others : xs ≡ ys = one_list xs ys (rest_rising x xs p) (rest_rising y ys q)
      (λ n lt. behind ys x y n (above x xs p n lt) same (in_split y ys n (there n (in_tail x xs n lt))))
      (λ n lt. behind xs y x n (above y ys q n lt) (sym same) (in_split x xs n (back n (in_tail y ys n lt)))) in
      ap (λ (m : ℕ). m ∷ xs) same ∙ ap (λ (l : List ℕ). y ∷ l) others
    where
      first : (y ≡ x) ⊎ IsIn ys x → (x ≡ y) ⊎ IsIn xs y → x ≡ y
      first (inl e) other = sym e
      first (inr in_ys) (inl e) = e
      first (inr in_ys) (inr in_xs) = absurd (omega (arith, above x xs p y in_xs, above y ys q x in_ys))

      behind : (l : List ℕ) (a b n : ℕ) → at a < at n → a ≡ b → (b ≡ n) ⊎ IsIn l n → IsIn l n
      behind l a b n lt e (inl is) = absurd (omega (arith, lt, ap at (e ∙ is)))
      behind l a b n lt e (inr more) = more

  pub one_table : (xs ys : List ℕ) → IsByFirstUse uses xs → IsByFirstUse uses ys → xs ≡ ys
  one_table xs ys p q = one_list xs ys p.rising q.rising
      (λ n lt. listed_at ys uses q.all n (listed_at uses xs p.used n lt)) (λ n lt. listed_at xs uses p.all n (listed_at uses ys q.used n lt))

-- ---- the names once each

-- what is listed behind those that were seen: used, not seen, and rising
record Fresh (seen uses table : List ℕ) : Type 0 where
  used : AreListed uses table
  unseen : (n : ℕ) → IsIn table n → IsIn seen n → ⊥
  rising : AreRising (map (place uses) table)

module _ (n : ℕ) (ns : List ℕ) where
  -- behind a name that is none of them each place is one more
  abbrev Lacks : List ℕ → Type 0
  Lacks table = (m : ℕ) → IsIn table m → n ≡ m → ⊥

  lacks_rest : (m : ℕ) (ms : List ℕ) → Lacks (m ∷ ms) → Lacks ms
  lacks_rest m ms lacks k lt = lacks k (in_tail m ms k lt)

  used_behind : (table : List ℕ) → AreListed ns table → AreListed (n ∷ ns) table
  used_behind [] h = tt
  used_behind (m ∷ ms) h = (in_tail n ns m h.0, used_behind ms h.1)

  later : (m : ℕ) (ms : List ℕ) → Lacks (m ∷ ms) → place (n ∷ ns) m ≡ suc (place ns m)
  later m ms lacks = place-tail n ns m (lacks m (in_head m ms m refl))

  rising_behind : (table : List ℕ) → Lacks table → AreRising (map (place ns) table) → AreRising (map (place (n ∷ ns)) table)
  rising_behind [] lacks h = tt
  rising_behind (m ∷ []) lacks h = tt
  rising_behind (m ∷ k ∷ ks) lacks h =
      let rest : Lacks (k ∷ ks) = lacks_rest m (k ∷ ks) lacks in
      (omega (arith, h.0, later m (k ∷ ks) lacks, later k ks rest), rising_behind (k ∷ ks) rest h.1)

  rising_first : (table : List ℕ) → Lacks table → AreRising (map (place (n ∷ ns)) table) → AreRising (map (place (n ∷ ns)) (n ∷ table))
  rising_first [] lacks h = tt
  rising_first (m ∷ ms) lacks h = (omega (arith, place-head n ns n refl, later m ms lacks), h)

  fresh_by : (seen once once' : List ℕ) (b : Bool) → is_listed seen n ≡ b → Fresh seen ns once → Fresh (n ∷ seen) ns once' → Fresh seen (n ∷ ns) (elim b [ true ↦ once | false ↦ n ∷ once' ])
  fresh_by seen once once' true e same new =
      let lacks : Lacks once = λ m lt is. same.unseen m lt (subst (IsIn seen) is (ltb-true (place seen n) (length seen) e)) in
      record { used = used_behind once same.used; unseen = same.unseen; rising = rising_behind once lacks same.rising }
  fresh_by seen once once' false e same new =
      let lacks : Lacks once' = λ m lt is. new.unseen m lt (in_head n seen m is) in
      record {
        used = (in_head n ns n refl, used_behind once' new.used);
        unseen = λ m lt there. elim (in_split n once' m lt) [
          | inl is ↦ not_seen (subst (IsIn seen) (sym is) there)
          | inr more ↦ new.unseen m more (in_tail n seen m there)
        ];
        rising = rising_first once' lacks (rising_behind once' lacks new.rising);
      }
    where
      not_seen : IsIn seen n → ⊥
      not_seen lt = absurd (omega (arith, lt, ltb-false (place seen n) (length seen) e))

fresh : (seen ns : List ℕ) → Fresh seen ns (each_once seen ns)
fresh seen [] = record { used = tt; unseen = λ m lt there. absurd (omega (arith, lt)); rising = tt }
fresh seen (n ∷ ns) = fresh_by n ns seen (each_once seen ns) (each_once (n ∷ seen) ns) (is_listed seen n) refl (fresh seen ns) (fresh (n ∷ seen) ns)

pub once_by_first_use : (uses : List ℕ) → IsByFirstUse uses (each_once [] uses)
once_by_first_use uses = let f = fresh [] uses in record { all = once-listed uses; used = f.used; rising = f.rising }
