-- Lists of places, and the first instance that is none.
use Rattle.std.proofs.Common.{◌≡◌, ℕ, zero, suc, ◌<◌, ◌≤◌, Bool, List, [], ◌∷◌, length, sym, ap, ◌∙◌, subst, arith, inl, inr, Option, None, Some}
use Rattle.std.specs.Prelude.{slice_index}
use Rattle.std.proofs.lemmas.Bool.{cases_eq, ltb-true}
use Rattle.ice_types.specs.Tables.{Tables}
use Rattle.ice_encoding.specs.Graph.{Graph}
use Rattle.ice_encoding.specs.Visiting.{order, place}
use Rattle.graph_arena.specs.Arena.{AreBelow}
use Rattle.graph_arena.specs.Listing.{Marks}
use Rattle.graph_arena.proofs.Closed.{place-head, place-tail, place-le}
use Rattle.graph_arena.proofs.Taking.{below-at}
use Rattle.value_checks.specs.First.{AreFine, AreMarkedFine, IsEarlier, IsFine, IsFirstInstance, IsFirstOf, IsLeast}

-- ---- where a place stands in a list

-- what is listed stands there
pub place-found : (ns : List ℕ) (n : ℕ) → place ns n < length ns → slice_index ns (place ns n) ≡ n
place-found [] n lt = absurd (omega (arith, lt))
place-found (m ∷ ns) n lt = elim (cases_eq m n) [
  | inl e ↦ ap (slice_index (m ∷ ns)) (place-head m ns n e) ∙ e
  | inr apart ↦ ap (slice_index (m ∷ ns)) (place-tail m ns n apart) ∙ place-found ns n (omega (arith, lt, place-tail m ns n apart))
]

-- and no later than where it is found
pub place-first : (ns : List ℕ) (n i : ℕ) → i < length ns → slice_index ns i ≡ n → place ns n ≤ i
place-first [] n i lt e = absurd (omega (arith, lt))
place-first (m ∷ ns) n zero lt e = omega (arith, place-head m ns n e)
place-first (m ∷ ns) n (suc i) lt e = elim (cases_eq m n) [
  | inl same ↦ omega (arith, place-head m ns n same)
  | inr apart ↦ omega (arith, place-tail m ns n apart, place-first ns n i (omega (arith, lt)) e)
]

module _ (t : Tables) (g : Graph) where
  listed-fine : (ns : List ℕ) (n : ℕ) → AreFine t g ns → place ns n < length ns → IsFine t g n
  listed-fine ns n fine lt = subst (IsFine t g) (place-found ns n lt) (fine (place ns n) lt)

  pub marked-fine : (marks : List Bool) (ns : List ℕ) → Marks marks ns → AreFine t g ns → AreMarkedFine t g marks
  marked-fine marks ns marked fine n lt is = listed-fine ns n fine (ltb-true (place ns n) (length ns) (sym (marked n lt) ∙ is))

  pub reached-first : (ns : List ℕ) (n : ℕ) → AreBelow (length g.instances) ns → IsFirstOf t g ns (Some n) → ns ≡ order g → IsFirstInstance t g (Some n)
  reached-first ns n below (i, lt, at, ill, before) is = (
    subst (λ (k : ℕ). k < length g.instances) at (below-at (length g.instances) ns i below lt),
    ill,
    λ m within earlier. by_case m (subst (λ (l : List ℕ). IsEarlier l m n) (sym is) earlier),
  )
    where
      by_case : (m : ℕ) → IsEarlier ns m n → IsFine t g m
      by_case m earlier = elim earlier [
        | inl less ↦
            let latest = place-first ns n i lt at in
            subst (IsFine t g) (place-found ns m (omega (arith, less, latest, lt))) (before (place ns m) (omega (arith, less, latest)))
        | inr h ↦
            let latest = place-first ns n i lt at in
            let m_is = place-found ns m (omega (arith, h.0, latest, lt)) in
            let n_is = place-found ns n (omega (arith, latest, lt)) in
            let same : m ≡ n = sym m_is ∙ (ap (slice_index ns) h.0 ∙ n_is) in
            absurd (omega (arith, h.1, same))
      ]

  other-first : (ns : List ℕ) (n : ℕ) → AreFine t g ns → IsLeast t g (Some n) → ns ≡ order g → IsFirstInstance t g (Some n)
  other-first ns n fine (lt, ill, before) is = (lt, ill, λ m within earlier. by_case m (subst (λ (l : List ℕ). IsEarlier l m n) (sym is) earlier))
    where
      by_case : (m : ℕ) → IsEarlier ns m n → IsFine t g m
      by_case m earlier = elim earlier [
        | inl less ↦ listed-fine ns m fine (omega (arith, less, place-le ns n))
        | inr h ↦ before m h.1
      ]

  pub least_first : (ns : List ℕ) (at : Option ℕ) → AreFine t g ns → IsLeast t g at → ns ≡ order g → IsFirstInstance t g at
  least_first ns None fine h is = h
  least_first ns (Some n) fine h is = other-first ns n fine h is
