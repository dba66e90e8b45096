-- The first instance with an unknown slice, and what compact format can carry.
use Rattle.std.proofs.Common.{◌≡◌, ℕ, ◌<◌, List, [], ◌∷◌, length, sym, subst, arith, Option, None, Some}
use Rattle.ice_types.specs.declared.declarations.Shape.{Shape}
use Rattle.ice_types.specs.Tables.{Tables}
use Rattle.ice_encoding.specs.Typed.{Refers}
use Rattle.ice_encoding.specs.Graph.{Graph, Slice, known, unknown}
use Rattle.ice_encoding.specs.Instances.{slices_of}
use Rattle.ice_encoding.specs.CanonicalGraph.{Format, sliced, compact, Compact, IsWritable}
use Rattle.ice_encoding.specs.TypedGraph.{IsInstance, RefersIn, OfType}
use Rattle.ice_encoding.specs.Visiting.{order, place}
use Rattle.graph_arena.specs.Arena.{IsSound}
use Rattle.graph_arena.proofs.Closed.{order-is}
use Rattle.graph_arena.proofs.Taking.{below-at}
use Rattle.value_checks.proofs.Places.{place-found, place-first}
use Rattle.class_slices.specs.Encoding.{BeginsUnknown, NeedsSliced}
use Rattle.class_slices.specs.Unknown.{FindsFirstUnknown, IsFirstUnknownOf, IsUnknownAt}

module _ (g : Graph) where
  abbrev Begins : ℕ → Type 0
  Begins n = BeginsUnknown (slices_of g.instances n)

  -- what is listed is at its place in the list
  listed : (ns : List ℕ) (n : ℕ) → place ns n < length ns → Begins n → IsUnknownAt g ns (place ns n)
  listed ns n lt begins = subst Begins (sym (place-found ns n lt)) begins

  pub first_of_order : (ns : List ℕ) (found : Option ℕ) → ns ≡ order g → IsFirstUnknownOf g ns found → FindsFirstUnknown g found
  first_of_order ns None is h = subst (λ (l : List ℕ). (n : ℕ) → (place l n < length l) × Begins n → ⊥) is (λ n reached. h (place ns n) reached.0 (listed ns n reached.0 reached.1))
  first_of_order ns (Some n) is (i, lt, at, begins, before) =
      subst (λ (l : List ℕ). ((place l n < length l) × Begins n) × ((m : ℕ) → place l m < place l n → Begins m → ⊥)) is (
        (omega (arith, lt, place-first ns n i lt at), begins),
        λ m earlier. before_it m earlier,
      )
    where
      before_it : (m : ℕ) → place ns m < place ns n → Begins m → ⊥
      before_it m earlier unknown_m =
          let latest = place-first ns n i lt at in
          before (place ns m) (omega (arith, earlier, latest)) (listed ns m (omega (arith, earlier, latest, lt)) unknown_m)

-- ---- what each format can carry, of a graph of a type

pub first_known : (t : Tables) (Refer : Refers) (ss : List Slice) → IsInstance t Refer ss → (BeginsUnknown ss → ⊥) → Compact ss
first_known t Refer [] is none = absurd is
first_known t Refer (known class content ∷ ss) is none = tt
first_known t Refer (unknown id bytes optionals table ∷ ss) is none = absurd (none tt)

pub writable : (t : Tables) (shape : Shape) (f : Format) (g : Graph) → OfType t shape g → IsSound g → (NeedsSliced f g → ⊥) → IsWritable f g
writable t shape sliced g typed sound none = λ n lt. tt
writable t shape compact g typed sound none = λ n lt.
    let within = subst (λ (k : ℕ). k < length g.instances) (place-found (order g) n lt) (below-at (length g.instances) (order g) (place (order g) n) (order-is g sound).below lt) in
    first_known t (RefersIn t g.instances) (slices_of g.instances n) (typed.instances n within) (λ begins. none (n, (lt, begins)))
