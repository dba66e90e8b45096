-- What is written of JSON, token by token: the tokens of the data, which are read as the data.
use Rattle.std.specs.Prelude.{◌≡◌, ℕ, List, [], ◌∷◌, ◌++◌, Some}
use Rattle.std.specs.Borrow.{Bor}
use Rattle.json.specs.Token.{Token}
use Rattle.json.specs.Tree.{json_tokens, items_tokens, members_tokens}
use Rattle.json.specs.Written.{Written}
use Rattle.serde_json.specs.Data.{Data, Items, Members, no_members, member}
use Rattle.serde_json.specs.Read.{of_json, of_items}
use Rattle.serde_json.specs.Written.{outline, items_outline, members_outline}
use Rattle.ice_types.specs.declared.kind.TypeRef.{TypeRef}
use Rattle.graph_arena.specs.View.{view}
use Rattle.graph_json.specs.CanonicalValues.{Write}
use Rattle.graph_json.specs.declared.rows.Field.{Field}

-- these tokens stand behind those that stood there
pub record Adds (ts : List Token) (old new : Written) : Type 0 where
  pub before : new.before ≡ old.before
  pub tokens : new.tokens ≡ old.tokens ++ ts

-- the tokens of the data read as it
abbrev pub IsRead : Data → Type 0
IsRead d = of_json (outline d) ≡ Some d

-- so of the value of each member
abbrev pub AreRead : Members → Type 0
AreRead no_members = Unit {0}
AreRead (member name d ms) = IsRead d × AreRead ms

-- the data is written
pub record Prints (d : Data) (old new : Written) : Type 0 where
  pub adds : Adds (json_tokens (outline d)) old new
  pub read : IsRead d

-- the items are written, and the end of their array
pub record PrintsItems (ds : Items) (old new : Written) : Type 0 where
  pub adds : Adds (items_tokens (items_outline ds)) old new
  pub read : of_items (items_outline ds) ≡ Some ds

-- the members are written, and the end of their object
pub record PrintsMembers (ms : Members) (old new : Written) : Type 0 where
  pub adds : Adds (members_tokens (members_outline ms)) old new
  pub read : AreRead ms

-- ---- the members of an object, before they are written

-- the notation of values that stand at names
abbrev pub row_noted : (TypeRef → Write) → List (Bor (List ℕ) × Field) → Members
row_noted write [] = no_members
row_noted write (e ∷ es) = member e.0.now (write e.1.kind (view e.1.value.now)) (row_noted write es)
