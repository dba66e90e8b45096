-- A table of the places of names.
use Rattle.std.specs.Prelude.{ℕ, ◌≡◌, ◌<◌, List, length}
use Rattle.ice_encoding.specs.References.{entry_in}
use Rattle.ice_encoding.specs.Visiting.{place}

-- for each name below a count, where it stands in the list
pub record IsIndex (count : ℕ) (ns index : List ℕ) : Type 0 where
  pub size : length index ≡ count
  pub places : (n : ℕ) → n < count → entry_in index n ≡ place ns n
