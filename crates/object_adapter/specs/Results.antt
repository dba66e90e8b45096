-- The encapsulation of results or of a user exception.
use Rattle.std.specs.Prelude.{ℕ, ◌≡◌, ◌≤◌, List, length}
use Rattle.ice_encoding.specs.Opening.{encapsulated_bytes}
use Rattle.object_adapter.specs.declared.refusal.TheConstants.{LONGEST}

-- one that is not longer than results may be
abbrev pub AreResults : List ℕ → Type 0
AreResults bytes = (content : List ℕ) × (bytes ≡ encapsulated_bytes content) × (length bytes ≤ LONGEST)
