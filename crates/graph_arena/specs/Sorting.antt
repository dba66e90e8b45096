-- What putting a pair among others answers and leaves.
use Rattle.std.specs.Prelude.{Bool, true, false, ◌≡◌}
use Rattle.ice_encoding.specs.Order.{insert, has_key}
use Rattle.ice_encoding.specs.Tree.{Tree, Entries}

-- whether the key was new, and where it was, the pair among the others
abbrev pub Puts : Tree → Tree → Entries → Entries → Bool → Type 0
Puts key value before after true = (has_key key before ≡ false) × (after ≡ insert key value before)
Puts key value before after false = has_key key before ≡ true
