-- A value of a type that nests at most so deep is one of it where it may nest one level deeper.
use Rattle.std.proofs.Common.{ℕ, zero, suc, map}
use Rattle.ice_types.specs.declared.kind.TypeRef.{TypeRef}
use Rattle.ice_types.specs.declared.kind.TypeRef.TheVariants as kinds
use Rattle.ice_types.specs.Tables.{Tables}
use Rattle.ice_encoding.specs.Tree.{Tree, Trees, none, tree, Entries, no_entry, entry}
use Rattle.ice_encoding.specs.Typed.{AllOf, PairsOf, Refers, no_reference, HasType}
use Rattle.ice_encoding.proofs.Wider.{each_wider}

all_deeper : (One Two : Tree → Type 0) → ((v : Tree) → One v → Two v) → (vs : Trees) → AllOf One vs → AllOf Two vs
all_deeper One Two one none h = tt
all_deeper One Two one (tree v vs) h = (one v h.0, all_deeper One Two one vs h.1)

pairs_deeper : (Key One Lock Two : Tree → Type 0) → ((v : Tree) → Key v → Lock v) → ((v : Tree) → One v → Two v) → (ps : Entries) → PairsOf Key One ps → PairsOf Lock Two ps
pairs_deeper Key One Lock Two key one no_entry h = tt
pairs_deeper Key One Lock Two key one (entry k v ps) h = (key k h.0, one v h.1, pairs_deeper Key One Lock Two key one ps h.2)

module _ (t : Tables) where
  pub typed_deeper : (Refer : Refers) (levels : ℕ) (kind : TypeRef) (v : Tree) → HasType t Refer levels kind v → HasType t Refer (suc levels) kind v
  typed_deeper Refer zero kind v h = absurd h
  typed_deeper Refer (suc levels) kinds.Bool v h = h
  typed_deeper Refer (suc levels) kinds.Byte v h = h
  typed_deeper Refer (suc levels) kinds.Short v h = h
  typed_deeper Refer (suc levels) kinds.Int v h = h
  typed_deeper Refer (suc levels) kinds.Long v h = h
  typed_deeper Refer (suc levels) kinds.Text v h = h
  typed_deeper Refer (suc levels) (kinds.Enum at) v h = h
  typed_deeper Refer (suc levels) (kinds.Proxy at) v h = h
  typed_deeper Refer (suc levels) (kinds.Class declared) v h = h
  typed_deeper Refer (suc levels) (kinds.Seq at) v (q, row, items, is, few, all) =
      (q, row, items, is, few, all_deeper (HasType t Refer levels q.element) (HasType t Refer (suc levels) q.element) (typed_deeper Refer levels q.element) items all)
  typed_deeper Refer (suc levels) (kinds.Dict at) v (d, row, pairs, is, few, rise, all) = (
    d,
    row,
    pairs,
    is,
    few,
    rise,
    pairs_deeper (HasType t no_reference levels d.key) (HasType t Refer levels d.value) (HasType t no_reference (suc levels) d.key) (HasType t Refer (suc levels) d.value)
        (typed_deeper no_reference levels d.key) (typed_deeper Refer levels d.value) pairs all,
  )
  typed_deeper Refer (suc levels) (kinds.Struct at) v (d, row, members, is, each) =
      (d, row, members, is, each_wider (HasType t Refer levels) (HasType t Refer (suc levels)) (typed_deeper Refer levels) (map (λ m. m.kind) d.members) members each)
