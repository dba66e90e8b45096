-- The graph that is drawn from a number.
use Rattle.std.specs.Prelude.{ℕ, zero, suc, pos, ◌+◌, ◌*◌, ◌/◌, ◌%◌, List, [], ◌∷◌, map, Option, None, Some, nat_lt, if◌then◌else◌}
use Rattle.std.specs.List.{range_with_len}
use Rattle.ice_encoding.specs.Tree.{int, reference, none, tree}
use Rattle.ice_encoding.specs.OptionalMembers.{with_optional}
use Rattle.ice_encoding.specs.Graph.{Slice, known, Graph}

-- ---- numbers

-- the number that follows
abbrev pub next : ℕ → ℕ
next x = (x * 1103515245 + 12345) % 2147483648

-- the number so many steps on
abbrev pub after : ℕ → ℕ → ℕ
after x zero = x
after x (suc steps) = next (after x steps)

-- what a number gives
abbrev pub given : ℕ → ℕ
given x = x / 65536

-- what is drawn below a bound, by two steps from a number on
abbrev pub draw : ℕ → ℕ → ℕ
draw x bound = (given (after x 1) * 32768 + given (after x 2)) % bound

-- ---- nodes

-- one of so many nodes, or null
abbrev pub target : ℕ → ℕ → Option ℕ
target count n = if nat_lt n count then Some n else None

-- a node that is drawn from a number on: its v below 1000, and left and right, each one of so many nodes or null
abbrev pub node : ℕ → ℕ → List Slice
node count x = known 0 (with_optional
    (tree (int (pos (draw x 1000)))
    (tree (reference (target count (draw (after x 2) (count + 1))))
    (tree (reference (target count (draw (after x 4) (count + 1)))) none))) []) ∷ []

-- So many nodes. Each is drawn six steps behind the one before it, and the root is the first.
abbrev pub drawn : ℕ → ℕ → Graph
drawn start count = record {
  roots = with_optional (tree (reference (Some 0)) none) [];
  instances = map (λ at. node count (after start (6 * at))) (range_with_len 0 count);
}
