-- The graph of the first visits is a graph.
use Rattle.std.proofs.Common.{◌≡◌, ℕ, ◌≤◌, List, [], ◌∷◌, length, map, refl, sym, ap, ◌∙◌, subst, arith, inl, inr}
use Rattle.std.proofs.lemmas.Bool.{cases_eq}
use Rattle.std.proofs.lemmas.List.{length-map}
use Rattle.ice_encoding.specs.OptionalMembers.{Members}
use Rattle.ice_encoding.specs.Graph.{Slice, Graph}
use Rattle.ice_encoding.specs.Names.{names_of, instance_names, renamed_members, renamed_slice}
use Rattle.ice_encoding.specs.Instances.{slices_of}
use Rattle.ice_encoding.specs.References.{entry_in}
use Rattle.ice_encoding.specs.Visiting.{place, order}
use Rattle.ice_encoding.specs.SameGraph.{AreListed, Holds, numbered, form}
use Rattle.graph_arena.specs.Arena.{AreBelow, ContentFits, EachFits, IsSound}
use Rattle.graph_arena.specs.Renumbering.{IsIndex}
use Rattle.graph_arena.proofs.Agreeing.{members-agree, slices-agree}
use Rattle.graph_arena.proofs.Fitting.{fits-at, graph_of}
use Rattle.graph_arena.proofs.Closed.{place-head, place-tail, few, IsOrder, order-is}
use Rattle.graph_arena.proofs.Keeping.{members-renamed, instance-renamed, order-renamed, orders-renamed}

listed-more : (m : ℕ) (ns ms : List ℕ) → AreListed ns ms → AreListed (m ∷ ns) ms
listed-more m ns [] listed = tt
listed-more m ns (n ∷ ms) listed = (
  elim (cases_eq m n) [ inl e ↦ omega (arith, place-head m ns n e) | inr apart ↦ omega (arith, place-tail m ns n apart, listed.0) ],
  listed-more m ns ms listed.1,
)

-- each name of a list stands in it
listed-self : (ns : List ℕ) → AreListed ns ns
listed-self [] = tt
listed-self (n ∷ ns) = (omega (arith, place-head n ns n refl), listed-more n ns ns (listed-self ns))

below-places : (ns ms : List ℕ) → AreListed ns ms → AreBelow (length ns) (map (place ns) ms)
below-places ns [] listed = tt
below-places ns (m ∷ ms) listed = (listed.0, below-places ns ms listed.1)

module _ (g : Graph) (ns : List ℕ) where
  abbrev pub instance_of : ℕ → List Slice
  instance_of n = map (renamed_slice (place ns)) (slices_of g.instances n)

  each-fits : IsSound g → Holds ns g → (ms : List ℕ) → AreListed ns ms → AreBelow (length g.instances) ms → EachFits (length ns) (map instance_of ms)
  each-fits sound holds [] listed below = tt
  each-fits sound holds (m ∷ ms) listed below = (
    record {
      names = subst (AreBelow (length ns)) (sym (instance-renamed (place ns) (slices_of g.instances m))) (below-places ns (instance_names (slices_of g.instances m)) (holds.instances m listed.0));
      order = orders-renamed (place ns) (slices_of g.instances m) (fits-at (length g.instances) m g.instances sound.instances below.0).order;
    },
    each-fits sound holds ms listed.1 below.1,
  )

  pub numbered-sound : IsSound g → IsOrder g ns → IsSound (numbered ns g)
  numbered-sound sound order =
      let count : length ns ≡ length (map instance_of ns) = sym (length-map {A = ℕ} {B = List Slice} ns instance_of) in
      record {
        few = omega (arith, sym count, few (length g.instances) ns order.holds.once order.below, sound.few);
        roots = subst (λ (n : ℕ). ContentFits n (renamed_members (place ns) g.roots)) count (record {
          names = subst (AreBelow (length ns)) (sym (members-renamed (place ns) g.roots)) (below-places ns (names_of g.roots) order.holds.roots);
          order = order-renamed (place ns) g.roots sound.roots.order;
        });
        instances = subst (λ (n : ℕ). EachFits n (map instance_of ns)) count (each-fits sound order.holds ns (listed-self ns) order.below);
      }

pub form-sound : (g : Graph) → IsSound g → IsSound (form g)
unfolding form
form-sound g sound = numbered-sound g (order g) sound (order-is g sound)

-- ---- by a table

module _ (g : Graph) (sound : IsSound g) (ns index : List ℕ) (indexed : IsIndex (length g.instances) ns index) where
  abbrev indexed_instance : ℕ → List Slice
  indexed_instance n = map (renamed_slice (entry_in index)) (slices_of g.instances n)

  roots-agree : renamed_members (entry_in index) g.roots ≡ renamed_members (place ns) g.roots
  roots-agree = members-agree (length g.instances) (entry_in index) (place ns) indexed.places g.roots sound.roots.names

  instances-agree : (ms : List ℕ) → AreBelow (length g.instances) ms → map indexed_instance ms ≡ map (instance_of g ns) ms
  instances-agree [] below = refl
  instances-agree (m ∷ ms) below = λ i.
      slices-agree (length g.instances) (entry_in index) (place ns) indexed.places (slices_of g.instances m) (fits-at (length g.instances) m g.instances sound.instances below.0).names i
      ∷ instances-agree ms below.1 i

  indexed-is : AreBelow (length g.instances) ns → (roots : Members) (instances : List (List Slice)) → roots ≡ renamed_members (entry_in index) g.roots → instances ≡ map indexed_instance ns
      → graph_of roots instances ≡ numbered ns g
  indexed-is below roots instances roots_are instances_are = λ i. graph_of ((roots_are ∙ roots-agree) i) ((instances_are ∙ instances-agree ns below) i)

form-is : (g : Graph) → IsSound g → (ns index : List ℕ) → ns ≡ order g → IsIndex (length g.instances) ns index → (roots : Members) (instances : List (List Slice))
    → roots ≡ renamed_members (entry_in index) g.roots → instances ≡ map (λ n. map (renamed_slice (entry_in index)) (slices_of g.instances n)) ns → graph_of roots instances ≡ form g
unfolding form
form-is g sound ns index is indexed roots instances roots_are instances_are =
    indexed-is g sound ns index indexed (subst (AreBelow (length g.instances)) (sym is) (order-is g sound).below) roots instances roots_are instances_are ∙ ap (λ (l : List ℕ). numbered l g) is

pub order-few : (g : Graph) → IsSound g → length (order g) ≤ length g.instances
order-few g sound = few (length g.instances) (order g) (order-is g sound).holds.once (order-is g sound).below

-- from what each step of the renumbering answers
pub answered : (g : Graph) → IsSound g → (count : ℕ) → count ≡ length g.instances → (ns index : List ℕ) → ns ≡ order g → IsIndex count ns index
    → (old_roots : Members) → old_roots ≡ g.roots → (table : List ℕ) → table ≡ index → (roots : Members) → roots ≡ renamed_members (entry_in table) old_roots
    → (old : List (List Slice)) → old ≡ g.instances → (others entries : List ℕ) → others ≡ order g → entries ≡ index
    → (instances : List (List Slice)) → instances ≡ map (λ n. map (renamed_slice (entry_in entries)) (slices_of old n)) others → graph_of roots instances ≡ form g
answered g sound count size ns index listed indexed old_roots roots_old table tabled roots roots_are old instances_old others entries other entered instances instances_are =
    form-is g sound ns index listed (subst (λ (n : ℕ). IsIndex n ns index) size indexed) roots instances
    (roots_are ∙ (λ i. renamed_members (entry_in (tabled i)) (roots_old i)))
    (instances_are ∙ (λ i. map (λ n. map (renamed_slice (entry_in (entered i))) (slices_of (instances_old i) n)) ((other ∙ sym listed) i)))
