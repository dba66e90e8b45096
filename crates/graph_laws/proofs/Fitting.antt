-- The keys in a value of a type rise, and its sizes can be written.
use Rattle.std.proofs.Common.{ℕ, zero, suc, ◌-◌, ◌<◌, ◌^◌, List, [], ◌∷◌, length, map, sym, subst, arith, Option, Some, None}
use Rattle.ice_types.specs.declared.kind.TypeRef.{TypeRef}
use Rattle.ice_types.specs.declared.kind.TypeRef.TheVariants as kinds
use Rattle.ice_types.specs.declared.declarations.Member.{Member}
use Rattle.ice_types.specs.declared.declarations.Shape.{Shape}
use Rattle.ice_types.specs.declared.schema.TheConstants.{MOST_DEPTH}
use Rattle.ice_types.specs.Tables.{Tables}
use Rattle.ice_encoding.proofs.Proxied.{proxy_sizes}
use Rattle.ice_encoding.specs.Tree.{Tree, Trees, none, tree, Entries, no_entry, entry, Everywhere, InEach, InPairs}
use Rattle.ice_encoding.specs.Order.{KeysRise, IsOrdered}
use Rattle.ice_encoding.specs.Port.{size_of}
use Rattle.ice_encoding.specs.Canonical.{HasSize, HasSizes}
use Rattle.ice_encoding.specs.Typed.{AllOf, EachOf, PairsOf, Refers, no_reference, HasType}
use Rattle.ice_encoding.proofs.Typed.{typed_ordered}
use Rattle.ice_encoding.specs.Optionals.{Present}
use Rattle.ice_encoding.specs.OptionalMembers.{Members, required_kinds}
use Rattle.ice_encoding.specs.Graph.{Slice}
use Rattle.ice_encoding.specs.TypedGraph.{AreOptions, AreMembers, IsHeldIn, RefersIn}

-- ---- of values of types, what holds of each value of a type

module _ (P : Tree → Type 0) where
  all_inside : (One : Tree → Type 0) → ((v : Tree) → One v → Everywhere P v) → (vs : Trees) → AllOf One vs → InEach P vs
  all_inside One one none h = tt
  all_inside One one (tree v vs) h = (one v h.0, all_inside One one vs h.1)

  each_inside : (One : TypeRef → Tree → Type 0) → ((kind : TypeRef) (v : Tree) → One kind v → Everywhere P v) → (ks : List TypeRef) (vs : Trees) → EachOf One ks vs → InEach P vs
  each_inside One one [] vs h = subst (InEach P) (sym h) tt
  each_inside One one (kind ∷ ks) vs (v, others, is, h, more) = subst (InEach P) (sym is) (one kind v h, each_inside One one ks others more)

  pairs_inside : (Key Held : Tree → Type 0) → ((v : Tree) → Key v → Everywhere P v) → ((v : Tree) → Held v → Everywhere P v) → (ps : Entries) → PairsOf Key Held ps → InPairs P ps
  pairs_inside Key Held key held no_entry h = tt
  pairs_inside Key Held key held (entry k v rest) h = (key k h.0, held v h.1, pairs_inside Key Held key held rest h.2)

  -- what holds of the value of each optional member that is present
  abbrev pub InPresent : Present → Type 0
  InPresent [] = Unit {0}
  InPresent (o ∷ os) = Everywhere P o.1 × InPresent os

  -- and of each value of a shape
  abbrev pub InMembers : Members → Type 0
  InMembers c = InEach P c.required × InPresent c.optional

  module _ (t : Tables) (Refer : Refers) (one : (kind : TypeRef) (v : Tree) → HasType t Refer MOST_DEPTH kind v → Everywhere P v) where
    options_inside : (members : List Member) (last : Option ℕ) (os : Present) → AreOptions t Refer members last os → InPresent os
    options_inside members last [] h = tt
    options_inside members last (o ∷ os) h = (one h.2 o.1 h.4, options_inside members (Some o.0) os h.5)

    members_inside : (shape : Shape) (c : Members) → AreMembers t Refer shape c → InMembers c
    members_inside shape c h = (each_inside (HasType t Refer MOST_DEPTH) one (required_kinds shape) c.required h.required, options_inside shape.optional None c.optional h.optional)

-- ---- sizes

-- the sizes of references and endpoints that may stand are at most the greatest int
abbrev pub HaveSizes : Refers → Type 0
HaveSizes Refer = (Refer.most < 2 ^ 31) × ((declared n : Option ℕ) → Refer.Held declared n → size_of n < 2 ^ 31)

module _ (t : Tables) where
  pub typed_sizes : (Refer : Refers) → HaveSizes Refer → (levels : ℕ) (kind : TypeRef) (v : Tree) → HasType t Refer levels kind v → HasSizes v
  typed_sizes Refer sized zero kind v h = absurd h
  typed_sizes Refer sized (suc levels) kinds.Bool v h = rw h.1 tt
  typed_sizes Refer sized (suc levels) kinds.Byte v h = rw h.2 tt
  typed_sizes Refer sized (suc levels) kinds.Short v h = rw h.2 tt
  typed_sizes Refer sized (suc levels) kinds.Int v h = rw h.2 tt
  typed_sizes Refer sized (suc levels) kinds.Long v h = rw h.2 tt
  typed_sizes Refer sized (suc levels) kinds.Text v h = rw h.3 h.2
  typed_sizes Refer sized (suc levels) (kinds.Enum at) v h = rw h.5 h.4
  typed_sizes Refer sized (suc levels) (kinds.Proxy at) v h = rw h.2 (proxy_sizes Refer.most h.0 sized.0 h.1)
  typed_sizes Refer sized (suc levels) (kinds.Class declared) v h = rw h.2 (sized.1 declared h.0 h.1)
  typed_sizes Refer sized (suc levels) (kinds.Seq at) v (q, row, items, is, many, all) = rw is (many, all_inside HasSize (HasType t Refer levels q.element) (typed_sizes Refer sized levels q.element) items all)
  typed_sizes Refer sized (suc levels) (kinds.Dict at) v (d, row, pairs, is, many, rising, all) =
      rw is (many, pairs_inside HasSize (HasType t no_reference levels d.key) (HasType t Refer levels d.value) (typed_sizes no_reference (omega arith, λ declared n h. absurd h) levels d.key) (typed_sizes Refer sized levels d.value) pairs all)
  typed_sizes Refer sized (suc levels) (kinds.Struct at) v (d, row, members, is, all) = rw is (tt, each_inside HasSize (HasType t Refer levels) (typed_sizes Refer sized levels) (map (λ m. m.kind) d.members) members all)

-- ---- in a graph

module _ (t : Tables) (is : List (List Slice)) where
  pub value_ordered : (levels : ℕ) (kind : TypeRef) (v : Tree) → HasType t (RefersIn t is) levels kind v → IsOrdered v
  value_ordered = typed_ordered t (RefersIn t is)

  pub members_ordered : (shape : Shape) (c : Members) → AreMembers t (RefersIn t is) shape c → InMembers KeysRise c
  members_ordered = members_inside KeysRise t (RefersIn t is) (value_ordered MOST_DEPTH)

  -- where each name can be a size
  module _ (few : length is < 2 ^ 31 - 1) where
    name_sized : (declared n : Option ℕ) → IsHeldIn t is declared n → size_of n < 2 ^ 31
    name_sized declared None h = omega arith
    name_sized declared (Some n) h = omega (arith, h.0, few)

    names_sized : HaveSizes (RefersIn t is)
    names_sized = (omega arith, name_sized)

    pub value_sized : (levels : ℕ) (kind : TypeRef) (v : Tree) → HasType t (RefersIn t is) levels kind v → HasSizes v
    value_sized = typed_sizes t (RefersIn t is) names_sized

    pub members_sized : (shape : Shape) (c : Members) → AreMembers t (RefersIn t is) shape c → InMembers HasSize c
    members_sized = members_inside HasSize t (RefersIn t is) (value_sized MOST_DEPTH)
