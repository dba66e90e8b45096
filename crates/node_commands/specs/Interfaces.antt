-- The interface that a word names.
use Rattle.std.specs.Prelude.{ℕ, ◌≡◌, Option, Some, None}
use Rattle.ice_types.specs.Tables.{Tables, HasId, interface_ids}
use Rattle.node_commands.specs.Words.{Word}

-- the word is the type id of this interface, and of no other
abbrev pub IsInterface : Tables → Word → ℕ → Type 0
IsInterface t word at = HasId (interface_ids t) word at × ((other : ℕ) → HasId (interface_ids t) word other → other ≡ at)

-- the one of this type id, or there is none
abbrev pub FindsInterface : Tables → Word → Option ℕ → Type 0
FindsInterface t id (Some at) = IsInterface t id at
FindsInterface t id None = (at : ℕ) → HasId (interface_ids t) id at → ⊥
