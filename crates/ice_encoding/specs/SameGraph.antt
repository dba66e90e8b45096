-- When two graphs are the same but for names.
use Rattle.std.specs.Prelude.{ℕ, ◌≡◌, ◌<◌, List, [], ◌∷◌, length, map}
use Rattle.ice_types.specs.declared.declarations.Shape.{Shape}
use Rattle.ice_types.specs.Tables.{Tables}
use Rattle.ice_encoding.specs.Graph.{Graph}
use Rattle.ice_encoding.specs.Names.{names_of, instance_names, renamed_members, renamed_slice}
use Rattle.ice_encoding.specs.Instances.{slices_of, SpellsNumbered}
use Rattle.ice_encoding.specs.Flags.{Reach}
use Rattle.ice_encoding.specs.Visiting.{place, order}

-- the graph of the listed instances, each named by its place in the list
abbrev pub numbered : List ℕ → Graph → Graph
numbered ns g = record { roots = renamed_members (place ns) g.roots; instances = map (λ n. map (renamed_slice (place ns)) (slices_of g.instances n)) ns }

-- each is in the list
abbrev pub AreListed : List ℕ → List ℕ → Type 0
AreListed ns [] = Unit {0}
AreListed ns (m ∷ ms) = (place ns m < length ns) × AreListed ns ms

-- no name comes twice
abbrev pub HasEachOnce : List ℕ → Type 0
HasEachOnce [] = Unit {0}
HasEachOnce (n ∷ ns) = (place ns n ≡ length ns) × HasEachOnce ns

-- every name that occurs in the roots or in a listed instance is listed, once
pub record Holds (ns : List ℕ) (g : Graph) : Type 0 where
  pub once : HasEachOnce ns
  pub roots : AreListed ns (names_of g.roots)
  pub instances : (n : ℕ) → place ns n < length ns → AreListed ns (instance_names (slices_of g.instances n))

-- Pairs of names, by two lists of one length: with each name replaced by the place of its pair, both graphs are equal.
pub record Same (g h : Graph) : Type 0 where
  pub left : List ℕ
  pub right : List ℕ
  pub left_holds : Holds left g
  pub right_holds : Holds right h
  pub equal : numbered left g ≡ numbered right h

-- the one graph of the reached instances, named by their first visits
unfoldable pub form : Graph → Graph
form g = numbered (order g) g

-- the bytes are an encapsulation of a graph that is the same
abbrev pub Spells : Tables → Reach → Shape → List ℕ → Graph → Type 0
Spells t reach shape bytes g = (k : Graph) × SpellsNumbered t reach shape bytes k × Same k g
