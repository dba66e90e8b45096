-- One declaration more.
use Rattle.std.specs.Prelude.{ℕ, List, ◌∷◌}
use Rattle.slice_meaning.specs.declared.standing.Standing.{Standing}
use Rattle.slice_meaning.specs.Names.{Name, Declared}
use Rattle.slice_meaning.specs.Numbers.{scope_at}

-- a declaration in the scope of this number, behind those that are there
abbrev pub with_declared : List Declared → ℕ → Name → Standing → ℕ → ℕ → List Declared
with_declared ds scope name standing file place = record { scope = scope_at ds scope; name = name; standing = standing; file = file; place = place } ∷ ds
