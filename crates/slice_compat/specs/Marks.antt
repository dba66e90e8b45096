-- What has been met on the way, and what of it is still to be gone through.
use Rattle.std.specs.Prelude.{ℕ, ◌≡◌, ◌+◌, ◌<◌, ◌⊎◌, ◌↔◌, ◌∷◌, [], Bool, true, false, IsTrue, List, length, replicate, count_by, not, unwrap_or, slice_get, Contains, Some}
use Rattle.ice_types.specs.declared.kind.TypeRef.{TypeRef}
use Rattle.ice_types.specs.declared.kind.TypeRef.TheVariants as kinds
use Rattle.ice_types.specs.Tables.{Tables, is_defined}
use Rattle.slice_compat.specs.declared.marks.Marks.{Marks}
use Rattle.slice_compat.specs.declared.node.Node.{Node}
use Rattle.slice_compat.specs.declared.node.Node.TheVariants as nodes
use Rattle.slice_compat.specs.Nodes.{Steps, node_of}
use Rattle.slice_compat.specs.Reached.{Names, IsReached}

-- the flags of the table of a node, and its place there
abbrev pub table_of : Marks → Node → List Bool
table_of m (nodes.Seq at) = m.seqs.items
table_of m (nodes.Dict at) = m.dicts.items
table_of m (nodes.Struct at) = m.structs.items
table_of m (nodes.Place at) = m.places.items
table_of m nodes.Anywhere = m.anywhere ∷ []
table_of m (nodes.Class at) = m.classes.items

abbrev pub place_in : Node → ℕ
place_in (nodes.Seq at) = at
place_in (nodes.Dict at) = at
place_in (nodes.Struct at) = at
place_in (nodes.Place at) = at
place_in nodes.Anywhere = 0
place_in (nodes.Class at) = at

-- a node is met where its flag is set
abbrev pub is_met : Marks → Node → Bool
is_met m n = is_defined (table_of m n) (place_in n)

-- a flag, which is set behind the end: nothing is to be gone through there
abbrev pub is_set : List Bool → ℕ → Bool
is_set flags at = unwrap_or (slice_get flags at) true

abbrev pub is_done : Marks → Node → Bool
is_done m n = is_set (table_of m n) (place_in n)

-- how many flags are clear
abbrev pub clear : List Bool → ℕ
clear flags = count_by not flags

-- whether any place was met, counted likewise
abbrev pub if_clear : Bool → ℕ
if_clear true = 0
if_clear false = 1

abbrev pub unmet : Marks → ℕ
unmet m = clear m.seqs.items + clear m.dicts.items + clear m.structs.items + clear m.places.items + clear m.classes.items + if_clear m.anywhere

-- how much is left to do: what is not met yet, and what is still to be gone through
abbrev pub left : Marks → ℕ
left m = unmet m + length m.pending.items

-- a flag for each row, all clear, and nothing to be gone through
pub record NothingMet (t : Tables) (m : Marks) : Type 0 where
  pub seqs : m.seqs.items ≡ replicate (length t.seqs) false
  pub dicts : m.dicts.items ≡ replicate (length t.dicts) false
  pub structs : m.structs.items ≡ replicate (length t.structs) false
  pub places : m.places.items ≡ replicate (length t.classes) false
  pub anywhere : m.anywhere ≡ false
  pub classes : m.classes.items ≡ replicate (length t.classes) false
  pub pending : m.pending.items ≡ []

-- ---- more is met

-- the flag of one node is set, and all else is as it was
pub record Sets (node : Node) (old new : Marks) : Type 0 where
  pub pending : new.pending.items ≡ old.pending.items
  pub rows : length new.classes.items ≡ length old.classes.items
  pub done : (n : Node) → is_done new n ≡ true → (is_done old n ≡ true) ⊎ (n ≡ node)
  pub met : (n : Node) → is_met new n ≡ true → (is_met old n ≡ true) ⊎ (n ≡ node)
  pub here : is_met new node ≡ true
  pub kept_done : (n : Node) → is_done old n ≡ true → is_done new n ≡ true
  pub kept_met : (n : Node) → is_met old n ≡ true → is_met new n ≡ true
  pub fewer : unmet new + 1 ≡ unmet old

-- More nodes are met, each of them one that may be, and is still to be gone through.
pub record Spreads (May : Node → Type 0) (old new : Marks) : Type 0 where
  pub rows : length new.classes.items ≡ length old.classes.items
  -- each that may be met is met, or there is no row for it
  pub each : (n : Node) → May n → is_done new n ≡ true
  pub only : (n : Node) → is_met new n ≡ true → (is_met old n ≡ true) ⊎ May n
  pub fresh : (n : Node) → is_done new n ≡ true → (is_done old n ≡ true) ⊎ Contains new.pending.items n
  pub added : (n : Node) → Contains new.pending.items n → Contains old.pending.items n ⊎ (is_met new n ≡ true)
  pub waiting : (n : Node) → Contains old.pending.items n → Contains new.pending.items n
  pub kept_done : (n : Node) → is_done old n ≡ true → is_done new n ≡ true
  pub kept_met : (n : Node) → is_met old n ≡ true → is_met new n ≡ true
  pub total : left new ≡ left old

-- ---- the search

module _ (t : Tables) (root : TypeRef) where
  -- what a node stands for is reached
  abbrev pub Stands : Node → Type 0
  Stands (nodes.Seq at) = (class : ℕ) → Names t class (kinds.Seq at) → IsReached t root class
  Stands (nodes.Dict at) = (class : ℕ) → Names t class (kinds.Dict at) → IsReached t root class
  Stands (nodes.Struct at) = (class : ℕ) → Names t class (kinds.Struct at) → IsReached t root class
  Stands (nodes.Place at) = (class : ℕ) → Names t class (kinds.Class (Some at)) → IsReached t root class
  Stands nodes.Anywhere = (class : ℕ) → class < length t.classes → IsReached t root class
  Stands (nodes.Class at) = at < length t.classes → IsReached t root at

  -- What has been met so far: all of it is reached, and what it leads to is met, unless it is still to be gone through.
  pub record IsUnderWay (m : Marks) : Type 0 where
    pub rows : length m.classes.items ≡ length t.classes
    pub start : (n : Node) → node_of root ≡ Some n → is_done m n ≡ true
    pub closed : (n next : Node) → is_done m n ≡ true → Steps t n next → (is_done m next ≡ true) ⊎ Contains m.pending.items n
    pub sound : (n : Node) → is_met m n ≡ true → Stands n
    pub waiting : (n : Node) → Contains m.pending.items n → is_met m n ≡ true

  -- a flag for each class, set on those that are reached
  pub record AreReached (flags : List Bool) : Type 0 where
    pub rows : length flags ≡ length t.classes
    pub reached : (class : ℕ) → IsTrue (is_defined flags class) ↔ IsReached t root class
