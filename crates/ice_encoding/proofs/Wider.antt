-- What is of a type is so where more references may stand, and greater endpoints.
use Rattle.std.proofs.Common.{ℕ, zero, suc, ◌≤◌, List, [], ◌∷◌, map, Option}
use Rattle.ice_types.specs.declared.kind.TypeRef.{TypeRef}
use Rattle.ice_types.specs.declared.kind.TypeRef.TheVariants as kinds
use Rattle.ice_types.specs.Tables.{Tables}
use Rattle.ice_encoding.specs.Tree.{Tree, Trees, none, tree, Entries, no_entry, entry}
use Rattle.ice_encoding.specs.Typed.{AllOf, EachOf, PairsOf, Refers, no_reference, HasType}
use Rattle.ice_encoding.proofs.Within.{proxy_grown}

all_wider : (One Two : Tree → Type 0) → ((v : Tree) → One v → Two v) → (vs : Trees) → AllOf One vs → AllOf Two vs
all_wider One Two one none h = tt
all_wider One Two one (tree v vs) h = (one v h.0, all_wider One Two one vs h.1)

pub each_wider : (One Two : TypeRef → Tree → Type 0) → ((kind : TypeRef) (v : Tree) → One kind v → Two kind v) → (ks : List TypeRef) (vs : Trees) → EachOf One ks vs → EachOf Two ks vs
each_wider One Two one [] vs h = h
each_wider One Two one (kind ∷ ks) vs (v, others, is, h, rest) = (v, others, is, one kind v h, each_wider One Two one ks others rest)

pairs_wider : (Key One Two : Tree → Type 0) → ((v : Tree) → One v → Two v) → (ps : Entries) → PairsOf Key One ps → PairsOf Key Two ps
pairs_wider Key One Two one no_entry h = tt
pairs_wider Key One Two one (entry k v ps) h = (h.0, one v h.1, pairs_wider Key One Two one ps h.2)

module _ (t : Tables) (Refer Other : Refers) (le : Refer.most ≤ Other.most) (more : (declared n : Option ℕ) → Refer.Held declared n → Other.Held declared n) where
  pub typed_wider : (levels : ℕ) (kind : TypeRef) (v : Tree) → HasType t Refer levels kind v → HasType t Other levels kind v
  typed_wider zero kind v h = h
  typed_wider (suc levels) kinds.Bool v h = h
  typed_wider (suc levels) kinds.Byte v h = h
  typed_wider (suc levels) kinds.Short v h = h
  typed_wider (suc levels) kinds.Int v h = h
  typed_wider (suc levels) kinds.Long v h = h
  typed_wider (suc levels) kinds.Text v h = h
  typed_wider (suc levels) (kinds.Enum at) v h = h
  typed_wider (suc levels) (kinds.Proxy at) v (p, may, is) = (p, proxy_grown Refer.most Other.most le p may, is)
  typed_wider (suc levels) (kinds.Class declared) v (n, may, is) = (n, more declared n may, is)
  typed_wider (suc levels) (kinds.Seq at) v (q, row, items, is, few, all) =
      (q, row, items, is, few, all_wider (HasType t Refer levels q.element) (HasType t Other levels q.element) (typed_wider levels q.element) items all)
  typed_wider (suc levels) (kinds.Dict at) v (d, row, pairs, is, few, rise, all) =
      (d, row, pairs, is, few, rise, pairs_wider (HasType t no_reference levels d.key) (HasType t Refer levels d.value) (HasType t Other levels d.value) (typed_wider levels d.value) pairs all)
  typed_wider (suc levels) (kinds.Struct at) v (d, row, members, is, each) =
      (d, row, members, is, each_wider (HasType t Refer levels) (HasType t Other levels) (typed_wider levels) (map (λ m. m.kind) d.members) members each)
