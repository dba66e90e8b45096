-- Values whose names stand in a list are values of their types whose references go to names of the list.
use Rattle.std.proofs.Common.{ℕ, zero, suc, List, [], ◌∷◌, ◌++◌, map, subst, Option, Some, None}
use Rattle.ice_types.specs.declared.kind.TypeRef.{TypeRef}
use Rattle.ice_types.specs.declared.kind.TypeRef.TheVariants as kinds
use Rattle.ice_types.specs.declared.declarations.Member.{Member}
use Rattle.ice_types.specs.declared.declarations.Shape.{Shape}
use Rattle.ice_types.specs.declared.schema.TheConstants.{MOST_DEPTH}
use Rattle.ice_types.specs.Tables.{Tables}
use Rattle.ice_encoding.specs.Tree.{Tree, Trees, none, tree, Entries, no_entry, entry}
use Rattle.ice_encoding.specs.Typed.{AllOf, EachOf, PairsOf, Refers, no_reference, HasType}
use Rattle.ice_encoding.specs.Optionals.{Present}
use Rattle.ice_encoding.specs.OptionalMembers.{Members, required_kinds}
use Rattle.ice_encoding.specs.Names.{listed_name, names, names_each, names_pairs, names_present, names_of}
use Rattle.ice_encoding.specs.SameGraph.{AreListed}
use Rattle.ice_encoding.specs.TypedGraph.{AreOptions, AreMembers}
use Rattle.graph_laws.proofs.Places.{AreListed-left, AreListed-right}

-- what may stand as a reference, and stands in the list
abbrev pub Narrow : Refers → List ℕ → Refers
Narrow Refer ns = record { Held = λ declared n. Refer.Held declared n × AreListed ns (listed_name n); most = Refer.most }

module _ (t : Tables) (ns : List ℕ) where
  all-narrowed : (One Two : Tree → Type 0) → ((v : Tree) → AreListed ns (names v) → One v → Two v) → (vs : Trees) → AreListed ns (names_each vs) → AllOf One vs → AllOf Two vs
  all-narrowed One Two one none listed h = tt
  all-narrowed One Two one (tree v vs) listed h = (one v (AreListed-left ns (names v) (names_each vs) listed) h.0, all-narrowed One Two one vs (AreListed-right ns (names v) (names_each vs) listed) h.1)

  each-narrowed : (One Two : TypeRef → Tree → Type 0) → ((kind : TypeRef) (v : Tree) → AreListed ns (names v) → One kind v → Two kind v) → (ks : List TypeRef) (vs : Trees) → AreListed ns (names_each vs) → EachOf One ks vs → EachOf Two ks vs
  each-narrowed One Two one [] vs listed h = h
  each-narrowed One Two one (kind ∷ ks) vs listed h =
      let all : AreListed ns (names h.0 ++ names_each h.1) = subst (λ (ws : Trees). AreListed ns (names_each ws)) h.2 listed in
      (h.0, h.1, h.2, one kind h.0 (AreListed-left ns (names h.0) (names_each h.1) all) h.3, each-narrowed One Two one ks h.1 (AreListed-right ns (names h.0) (names_each h.1) all) h.4)

  pairs-narrowed : (Key Held Other : Tree → Type 0) → ((v : Tree) → AreListed ns (names v) → Held v → Other v) → (ps : Entries) → AreListed ns (names_pairs ps) → PairsOf Key Held ps → PairsOf Key Other ps
  pairs-narrowed Key Held Other one no_entry listed h = tt
  pairs-narrowed Key Held Other one (entry k v ps) listed h = (h.0, one v (AreListed-left ns (names v) (names_pairs ps) listed) h.1, pairs-narrowed Key Held Other one ps (AreListed-right ns (names v) (names_pairs ps) listed) h.2)

  module _ (Refer : Refers) where
    value-narrowed : (levels : ℕ) (kind : TypeRef) (v : Tree) → AreListed ns (names v) → HasType t Refer levels kind v → HasType t (Narrow Refer ns) levels kind v
    value-narrowed zero kind v listed h = h
    value-narrowed (suc levels) kinds.Bool v listed h = h
    value-narrowed (suc levels) kinds.Byte v listed h = h
    value-narrowed (suc levels) kinds.Short v listed h = h
    value-narrowed (suc levels) kinds.Int v listed h = h
    value-narrowed (suc levels) kinds.Long v listed h = h
    value-narrowed (suc levels) kinds.Text v listed h = h
    value-narrowed (suc levels) (kinds.Enum at) v listed h = h
    value-narrowed (suc levels) (kinds.Proxy at) v listed h = h
    value-narrowed (suc levels) (kinds.Seq at) v listed (q, row, items, is, many, all) = (
      q,
      row,
      items,
      is,
      many,
      all-narrowed (HasType t Refer levels q.element) (HasType t (Narrow Refer ns) levels q.element) (value-narrowed levels q.element) items (subst (λ (w : Tree). AreListed ns (names w)) is listed) all,
    )
    value-narrowed (suc levels) (kinds.Dict at) v listed (d, row, pairs, is, many, rising, all) = (
      d,
      row,
      pairs,
      is,
      many,
      rising,
      pairs-narrowed (HasType t no_reference levels d.key) (HasType t Refer levels d.value) (HasType t (Narrow Refer ns) levels d.value) (value-narrowed levels d.value) pairs (subst (λ (w : Tree). AreListed ns (names w)) is listed) all,
    )
    value-narrowed (suc levels) (kinds.Struct at) v listed (d, row, members, is, all) = (
      d,
      row,
      members,
      is,
      each-narrowed (HasType t Refer levels) (HasType t (Narrow Refer ns) levels) (value-narrowed levels) (map (λ m. m.kind) d.members) members (subst (λ (w : Tree). AreListed ns (names w)) is listed) all,
    )
    value-narrowed (suc levels) (kinds.Class declared) v listed (n, refer, is) = (n, (refer, subst (λ (w : Tree). AreListed ns (names w)) is listed), is)

    options-narrowed : (members : List Member) (last : Option ℕ) (os : Present) → AreListed ns (names_present os) → AreOptions t Refer members last os → AreOptions t (Narrow Refer ns) members last os
    options-narrowed members last [] listed h = tt
    options-narrowed members last (o ∷ os) listed h = (
      h.0,
      h.1,
      h.2,
      h.3,
      value-narrowed MOST_DEPTH h.2 o.1 (AreListed-left ns (names o.1) (names_present os) listed) h.4,
      options-narrowed members (Some o.0) os (AreListed-right ns (names o.1) (names_present os) listed) h.5,
    )

    pub members-narrowed : (shape : Shape) (c : Members) → AreListed ns (names_of c) → AreMembers t Refer shape c → AreMembers t (Narrow Refer ns) shape c
    members-narrowed shape c listed h = record {
      required = each-narrowed (HasType t Refer MOST_DEPTH) (HasType t (Narrow Refer ns) MOST_DEPTH) (value-narrowed MOST_DEPTH) (required_kinds shape) c.required (AreListed-left ns (names_each c.required) (names_present c.optional) listed) h.required;
      optional = options-narrowed shape.optional None c.optional (AreListed-right ns (names_each c.required) (names_present c.optional) listed) h.optional;
    }
