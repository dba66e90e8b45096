-- When the places in a slice stand as they are written: by first use.
use Rattle.std.specs.Prelude.{ℕ, suc, true, false, List, [], ◌∷◌, length, Option, None, Some, ◌≡◌, nat_lt, nat_eq}
use Rattle.ice_encoding.specs.SameGraph.{HasEachOnce}

-- Each place is one of those before it or the next one. So many places are there in the end.
abbrev pub by_first_use : ℕ → List ℕ → Option ℕ
by_first_use n [] = Some n
by_first_use n (u ∷ us) = elim (nat_lt u n) [ true ↦ by_first_use n us | false ↦ elim (nat_eq u n) [ true ↦ by_first_use (suc n) us | false ↦ None ] ]

-- no name comes twice in the table, and the places in the members are all of it, by first use
pub record IsTableOf (uses table : List ℕ) : Type 0 where
  pub once : HasEachOnce table
  pub all : by_first_use 0 uses ≡ Some (length table)
