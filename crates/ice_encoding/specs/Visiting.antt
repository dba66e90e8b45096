-- The order in which the instances of a graph are visited first.
use Rattle.std.specs.Prelude.{ℕ, zero, suc, Bool, true, false, List, [], ◌∷◌, ◌++◌, length, nat_lt, nat_eq, if◌then◌else◌}
use Rattle.ice_encoding.specs.Graph.{Graph}
use Rattle.ice_encoding.specs.Names.{names_of, instance_names}
use Rattle.ice_encoding.specs.Instances.{slices_of}

-- where it stands in the list; past its end where it does not
abbrev pub place : List ℕ → ℕ → ℕ
place [] n = 0
place (m ∷ ms) n = if nat_eq m n then 0 else suc (place ms n)

-- it stands in the list
abbrev pub is_listed : List ℕ → ℕ → Bool
is_listed ns n = nat_lt (place ns n) (length ns)

-- one after the other
abbrev pub visit_each : (ℕ → List ℕ → List ℕ) → List ℕ → List ℕ → List ℕ
visit_each visit [] seen = seen
visit_each visit (n ∷ ns) seen = visit_each visit ns (visit n seen)

-- what is listed stays; another is appended, and then its names are visited
abbrev pub visit_at : ℕ → Graph → ℕ → List ℕ → List ℕ
visit_at zero g n seen = seen
visit_at (suc depth) g n seen = elim (is_listed seen n) [ true ↦ seen | false ↦ visit_each (visit_at depth g) (instance_names (slices_of g.instances n)) (seen ++ n ∷ []) ]

-- no graph has more instances, so no visit goes deeper
unfoldable pub most : ℕ
most = 100000000

-- the names that the roots reach
unfoldable pub order : Graph → List ℕ
order g = visit_each (visit_at most g) (names_of g.roots) []
