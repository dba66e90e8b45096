-- A graph without instances is its own form: it has no names.
use Rattle.std.proofs.Common.{◌≡◌, ℕ, List, [], ◌∷◌, length, Option, Some, None, refl, sym, ap, subst, ◌∙◌, arith}
use Rattle.ice_encoding.specs.Tree.{Tree, boolean, byte, short, int, long, text, sequence, dictionary, struct, enumerator, proxy, reference, Trees, none, tree, Entries, no_entry, entry}
use Rattle.ice_encoding.specs.Optionals.{Present}
use Rattle.ice_encoding.specs.OptionalMembers.{Members, with_optional}
use Rattle.ice_encoding.specs.Graph.{Graph, Slice}
use Rattle.ice_encoding.specs.Names.{listed_name, names, names_each, names_pairs, names_present, names_of, renamed_name, renamed, renamed_each, renamed_pairs, renamed_present, renamed_members}
use Rattle.ice_encoding.specs.SameGraph.{form, numbered}
use Rattle.ice_encoding.specs.Visiting.{most, order, place, visit_at, visit_each}
use Rattle.graph_arena.specs.Arena.{AreBelow, IsSound}
use Rattle.graph_arena.proofs.Agreeing.{below-left, below-right}

module _ (f : ℕ → ℕ) where
  name_stays : (n : Option ℕ) → AreBelow 0 (listed_name n) → renamed_name f n ≡ n
  name_stays None below = refl
  name_stays (Some n) below = absurd (omega (arith, below.0))

  mutual
    stays : (v : Tree) → AreBelow 0 (names v) → renamed f v ≡ v
    stays (boolean b) below = refl
    stays (byte n) below = refl
    stays (short z) below = refl
    stays (int z) below = refl
    stays (long z) below = refl
    stays (text s) below = refl
    stays (sequence items) below = ap sequence (each_stays items below)
    stays (dictionary pairs) below = ap dictionary (pairs_stay pairs below)
    stays (struct members) below = ap struct (each_stays members below)
    stays (enumerator n) below = refl
    stays (proxy p) below = refl
    stays (reference n) below = ap reference (name_stays n below)

    each_stays : (vs : Trees) → AreBelow 0 (names_each vs) → renamed_each f vs ≡ vs
    each_stays none below = refl
    each_stays (tree v vs) below = λ i. tree (stays v (below-left 0 (names v) (names_each vs) below) i) (each_stays vs (below-right 0 (names v) (names_each vs) below) i)

    pairs_stay : (ps : Entries) → AreBelow 0 (names_pairs ps) → renamed_pairs f ps ≡ ps
    pairs_stay no_entry below = refl
    pairs_stay (entry k v ps) below = λ i. entry k (stays v (below-left 0 (names v) (names_pairs ps) below) i) (pairs_stay ps (below-right 0 (names v) (names_pairs ps) below) i)

  present_stays : (os : Present) → AreBelow 0 (names_present os) → renamed_present f os ≡ os
  present_stays [] below = refl
  present_stays (o ∷ os) below = λ i. (o.0, stays o.1 (below-left 0 (names o.1) (names_present os) below) i) ∷ present_stays os (below-right 0 (names o.1) (names_present os) below) i

  members_stay : (c : Members) → AreBelow 0 (names_of c) → renamed_members f c ≡ c
  members_stay c below = λ i. with_optional
      (each_stays c.required (below-left 0 (names_each c.required) (names_present c.optional) below) i)
      (present_stays c.optional (below-right 0 (names_each c.required) (names_present c.optional) below) i)

no_names : (ns : List ℕ) → AreBelow 0 ns → ns ≡ []
no_names [] below = refl
no_names (n ∷ ns) below = absurd (omega (arith, below.0))

no_instances : (xs : List (List Slice)) → length xs ≡ 0 → [] ≡ xs
no_instances [] empty = refl
no_instances (x ∷ xs) empty = absurd (omega (arith, empty))

pub lone_form : (g : Graph) → IsSound g → length g.instances ≡ 0 → g ≡ form g
unfolding form order
lone_form g sound empty =
    let below : AreBelow 0 (names_of g.roots) = subst (λ (n : ℕ). AreBelow n (names_of g.roots)) empty sound.roots.names in
    let no_order : order g ≡ [] = ap (λ (ns : List ℕ). visit_each (visit_at most g) ns []) (no_names (names_of g.roots) below) in
    sym (ap (λ (ns : List ℕ). numbered ns g) no_order ∙ (λ i. record { roots = members_stay (place []) g.roots below i; instances = no_instances g.instances empty i }))
