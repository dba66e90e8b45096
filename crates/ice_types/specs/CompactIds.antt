-- The ids of slices: type ids, and compact ids as texts `#n`. (Ice manual, "Compact Type IDs".)
use Rattle.std.specs.Prelude.{ℕ, ◌≡◌, ◌≤◌, ◌⊎◌, ◌==◌, ◌&&◌, Bool, false, List, [], ◌∷◌, map, drop, Option, None, Some, bytes_eq, nat_le, decimal, if◌then◌else◌}
use Rattle.std.specs.Str.{IsUtf8}
use Rattle.std.specs.Str.Parse.{digits_value}
use Rattle.ice_types.specs.declared.schema.TheConstants.{MOST_NUMBER}
use Rattle.ice_types.specs.Tables.{Tables, HasId, class_ids, compact_ids}

-- the id of a slice that stands under a compact id: `#` and the number in decimal
abbrev pub numbered_id : ℕ → List ℕ
numbered_id number = 35 ∷ decimal number

-- whether a text begins with `#`, as no type id does
abbrev pub is_numbered : List ℕ → Bool
is_numbered [] = false
is_numbered (c ∷ cs) = c == 35

-- the number that the digits behind the first byte spell
abbrev pub number_behind : List ℕ → ℕ
number_behind id = digits_value 10 (drop 1 id)

-- the compact id that `#n` spells, None of every other text
abbrev pub number_in : List ℕ → Option ℕ
number_in id = let number = number_behind id in if nat_le number MOST_NUMBER && bytes_eq (numbered_id number) id then Some number else None

-- ---- the ids of a class

-- a compact id as a text, and none where a class has no compact id
abbrev pub compact_text : Option ℕ → List ℕ
compact_text None = []
compact_text (Some number) = numbered_id number

-- the texts among which such an id is looked for: compact ids where it begins with `#`, else type ids
abbrev pub ids_like : Tables → List ℕ → List (List ℕ)
ids_like t id = if is_numbered id then map compact_text (compact_ids t) else class_ids t

-- the class at this place has this id: its type id, or `#n` where n is its compact id
abbrev pub HasSliceId : Tables → List ℕ → ℕ → Type 0
HasSliceId t id at = HasId (ids_like t id) id at

-- ---- ids of slices that are kept

-- a type id, which does not begin with `#`, or `#n` for a number that can be a compact id
abbrev pub IsSliceId : List ℕ → Type 0
IsSliceId id = IsUtf8 id × ((is_numbered id ≡ false) ⊎ ((number : ℕ) × (number ≤ MOST_NUMBER) × (id ≡ numbered_id number)))

-- and no class has it
abbrev pub IsKeptId : Tables → List ℕ → Type 0
IsKeptId t id = IsSliceId id × ((at : ℕ) → HasSliceId t id at → ⊥)
