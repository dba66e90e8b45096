-- The table of a slice: which names stand in it, and in which order. (Ice manual, "Data Encoding for Class and Exception Types".)
use Rattle.std.specs.Prelude.{ℕ, ◌<◌, List, [], ◌∷◌, map}
use Rattle.ice_encoding.specs.Visiting.{place}
use Rattle.ice_encoding.specs.SameGraph.{AreListed}

-- each above all before it
abbrev pub AreRising : List ℕ → Type 0
AreRising [] = Unit {0}
AreRising (n ∷ []) = Unit {0}
AreRising (n ∷ m ∷ ms) = (n < m) × AreRising (m ∷ ms)

-- Of the names that are used, one after the other, a table has each and no other, in the order of their first uses; so none
-- comes twice in it.
pub record IsByFirstUse (uses table : List ℕ) : Type 0 where
  pub all : AreListed table uses
  pub used : AreListed uses table
  pub rising : AreRising (map (place uses) table)
