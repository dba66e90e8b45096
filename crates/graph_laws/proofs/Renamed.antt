-- Under other names that may stand in their places too, values stay of their types.
use Rattle.std.proofs.Common.{◌≤◌, ℕ, zero, suc, ◌<◌, ◌^◌, ◌≡◌, List, [], ◌∷◌, map, refl, sym, ap, subst, Option, Some, None}
use Rattle.ice_types.specs.declared.kind.TypeRef.{TypeRef}
use Rattle.ice_types.specs.declared.kind.TypeRef.TheVariants as kinds
use Rattle.ice_types.specs.declared.declarations.Member.{Member}
use Rattle.ice_types.specs.declared.declarations.Shape.{Shape}
use Rattle.ice_types.specs.declared.schema.TheConstants.{MOST_DEPTH}
use Rattle.ice_types.specs.Tables.{Tables}
use Rattle.ice_encoding.specs.Tree.{Tree, Trees, none, tree, tree_count, Entries, no_entry, entry, entry_count}
use Rattle.ice_encoding.specs.Order.{IsRising}
use Rattle.ice_encoding.proofs.Within.{proxy_grown}
use Rattle.ice_encoding.specs.Typed.{AllOf, EachOf, PairsOf, Refers, no_reference, HasType}
use Rattle.ice_encoding.specs.Optionals.{Present}
use Rattle.ice_encoding.specs.OptionalMembers.{Members, required_kinds}
use Rattle.ice_encoding.specs.Names.{renamed_name, renamed, renamed_each, renamed_pairs, renamed_present, renamed_members}
use Rattle.ice_encoding.specs.TypedGraph.{AreOptions, AreMembers}

count-renamed : (f : ℕ → ℕ) (vs : Trees) → tree_count (renamed_each f vs) ≡ tree_count vs
count-renamed f none = refl
count-renamed f (tree v vs) = ap suc (count-renamed f vs)

entries-renamed : (f : ℕ → ℕ) (ps : Entries) → entry_count (renamed_pairs f ps) ≡ entry_count ps
entries-renamed f no_entry = refl
entries-renamed f (entry k v ps) = ap suc (entries-renamed f ps)

rising-renamed : (f : ℕ → ℕ) (ps : Entries) → IsRising ps → IsRising (renamed_pairs f ps)
rising-renamed f no_entry h = tt
rising-renamed f (entry k v no_entry) h = tt
rising-renamed f (entry k v (entry l w rest)) h = (h.0, rising-renamed f (entry l w rest) h.1)

-- what may stand as a reference, may stand there under its other name, and each endpoint too
abbrev pub Moves : (ℕ → ℕ) → Refers → Refers → Type 0
Moves f Refer Other = (Refer.most ≤ Other.most) × ((declared n : Option ℕ) → Refer.Held declared n → Other.Held declared (renamed_name f n))

module _ (t : Tables) (f : ℕ → ℕ) where
  all-renamed : (One Two : Tree → Type 0) → ((v : Tree) → One v → Two (renamed f v)) → (vs : Trees) → AllOf One vs → AllOf Two (renamed_each f vs)
  all-renamed One Two one none h = tt
  all-renamed One Two one (tree v vs) h = (one v h.0, all-renamed One Two one vs h.1)

  each-renamed : (One Two : TypeRef → Tree → Type 0) → ((kind : TypeRef) (v : Tree) → One kind v → Two kind (renamed f v)) → (ks : List TypeRef) (vs : Trees) → EachOf One ks vs → EachOf Two ks (renamed_each f vs)
  each-renamed One Two one [] vs h = ap (renamed_each f) h
  each-renamed One Two one (kind ∷ ks) vs h = (renamed f h.0, renamed_each f h.1, ap (renamed_each f) h.2, one kind h.0 h.3, each-renamed One Two one ks h.1 h.4)

  pairs-renamed : (Key Held Other : Tree → Type 0) → ((v : Tree) → Held v → Other (renamed f v)) → (ps : Entries) → PairsOf Key Held ps → PairsOf Key Other (renamed_pairs f ps)
  pairs-renamed Key Held Other one no_entry h = tt
  pairs-renamed Key Held Other one (entry k v ps) h = (h.0, one v h.1, pairs-renamed Key Held Other one ps h.2)

  module _ (Refer Other : Refers) (moves : Moves f Refer Other) where
    typed-renamed : (levels : ℕ) (kind : TypeRef) (v : Tree) → HasType t Refer levels kind v → HasType t Other levels kind (renamed f v)
    typed-renamed zero kind v h = h
    typed-renamed (suc levels) kinds.Bool v h = (h.0, ap (renamed f) h.1)
    typed-renamed (suc levels) kinds.Byte v h = (h.0, h.1, ap (renamed f) h.2)
    typed-renamed (suc levels) kinds.Short v h = (h.0, h.1, ap (renamed f) h.2)
    typed-renamed (suc levels) kinds.Int v h = (h.0, h.1, ap (renamed f) h.2)
    typed-renamed (suc levels) kinds.Long v h = (h.0, h.1, ap (renamed f) h.2)
    typed-renamed (suc levels) kinds.Text v h = (h.0, h.1, h.2, ap (renamed f) h.3)
    typed-renamed (suc levels) (kinds.Enum at) v h = (h.0, h.1, h.2, h.3, h.4, ap (renamed f) h.5)
    typed-renamed (suc levels) (kinds.Proxy at) v h = (h.0, proxy_grown Refer.most Other.most moves.0 h.0 h.1, ap (renamed f) h.2)
    typed-renamed (suc levels) (kinds.Seq at) v (q, row, items, is, many, all) = (
      q,
      row,
      renamed_each f items,
      ap (renamed f) is,
      subst (λ (n : ℕ). n < 2 ^ 31) (sym (count-renamed f items)) many,
      all-renamed (HasType t Refer levels q.element) (HasType t Other levels q.element) (typed-renamed levels q.element) items all,
    )
    typed-renamed (suc levels) (kinds.Dict at) v (d, row, pairs, is, many, rising, all) = (
      d,
      row,
      renamed_pairs f pairs,
      ap (renamed f) is,
      subst (λ (n : ℕ). n < 2 ^ 31) (sym (entries-renamed f pairs)) many,
      rising-renamed f pairs rising,
      pairs-renamed (HasType t no_reference levels d.key) (HasType t Refer levels d.value) (HasType t Other levels d.value) (typed-renamed levels d.value) pairs all,
    )
    typed-renamed (suc levels) (kinds.Struct at) v (d, row, members, is, all) =
        (d, row, renamed_each f members, ap (renamed f) is, each-renamed (HasType t Refer levels) (HasType t Other levels) (typed-renamed levels) (map (λ m. m.kind) d.members) members all)
    typed-renamed (suc levels) (kinds.Class declared) v (n, refer, is) = (renamed_name f n, moves.1 declared n refer, ap (renamed f) is)

    options-renamed : (members : List Member) (last : Option ℕ) (os : Present) → AreOptions t Refer members last os → AreOptions t Other members last (renamed_present f os)
    options-renamed members last [] h = tt
    options-renamed members last (o ∷ os) h = (h.0, h.1, h.2, h.3, typed-renamed MOST_DEPTH h.2 o.1 h.4, options-renamed members (Some o.0) os h.5)

    pub members-renamed : (shape : Shape) (c : Members) → AreMembers t Refer shape c → AreMembers t Other shape (renamed_members f c)
    members-renamed shape c h = record {
      required = each-renamed (HasType t Refer MOST_DEPTH) (HasType t Other MOST_DEPTH) (typed-renamed MOST_DEPTH) (required_kinds shape) c.required h.required;
      optional = options-renamed shape.optional None c.optional h.optional;
    }
