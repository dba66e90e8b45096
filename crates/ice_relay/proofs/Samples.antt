-- Graphs that are drawn from 1, node by node.
use Rattle.std.proofs.Common.{◌≡◌, ℕ, List, [], ◌∷◌, refl, Option, None, Some}
use Rattle.std.specs.Prelude.{pos}
use Rattle.ice_encoding.specs.Tree.{int, reference, none, tree}
use Rattle.ice_encoding.specs.OptionalMembers.{with_optional}
use Rattle.ice_encoding.specs.Graph.{Slice, known, Graph}
use Rattle.ice_relay.specs.Drawn.{after, given, drawn}

-- a node with this v, left and right
abbrev holds : ℕ → Option ℕ → Option ℕ → List Slice
holds v left right = known 0 (with_optional (tree (int (pos v)) (tree (reference left) (tree (reference right) none))) []) ∷ []

-- what the first steps give
steps : (given (after 1 1) ∷ given (after 1 2) ∷ given (after 1 3) ∷ given (after 1 4) ∷ given (after 1 5) ∷ given (after 1 6) ∷ []) ≡ 16838 ∷ 5758 ∷ 10113 ∷ 17515 ∷ 31051 ∷ 5627 ∷ []
steps = refl

-- one node
one : (drawn 1 1).instances ≡ holds 342 None None ∷ []
one = refl

-- two: the first leads to the second on both sides, and that to the first and to itself
two : (drawn 1 2).instances ≡ holds 342 (Some 1) (Some 1) ∷ holds 99 (Some 0) (Some 1) ∷ []
two = refl
