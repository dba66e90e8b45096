-- How many bases a class or an exception has.
use Rattle.std.specs.Prelude.{ℕ, suc, ◌≡◌, Option, None, Some, slice_get}
use Rattle.std.specs.Option.{option_map}
use Rattle.ice_types.specs.Tables.{Tables}

-- the base of the class at this place, and of the exception; None where no such row is
abbrev pub class_base : Tables → ℕ → Option (Option ℕ)
class_base t at = option_map (λ c. c.base) (slice_get t.classes at)

-- the base of the exception at a place
abbrev pub exception_base : Tables → ℕ → Option (Option ℕ)
exception_base t at = option_map (λ e. e.base) (slice_get t.exceptions at)

-- the row at this place has so many bases, one above the other
pub data HasBases (base_of : ℕ → Option (Option ℕ)) : ℕ → ℕ → Type 0 where
  Lone : (at : ℕ) → base_of at ≡ Some None → HasBases base_of at 0
  Derived : (at base bases : ℕ) → base_of at ≡ Some (Some base) → HasBases base_of base bases → HasBases base_of at (suc bases)

-- so many has one that has this base next, or none
abbrev pub HasBasesFrom : (ℕ → Option (Option ℕ)) → Option ℕ → ℕ → Type 0
HasBasesFrom base_of None bases = bases ≡ 0
HasBasesFrom base_of (Some base) bases = (others : ℕ) × (bases ≡ suc others) × HasBases base_of base others
