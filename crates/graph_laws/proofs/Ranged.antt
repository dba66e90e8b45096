-- Each name in a graph of a type is that of an instance of the graph.
use Rattle.std.proofs.Common.{ℕ, zero, suc, ◌<◌, ◌≡◌, List, [], ◌∷◌, ◌++◌, length, map, sym, subst, Option, Some, None}
use Rattle.ice_types.specs.declared.kind.TypeRef.{TypeRef}
use Rattle.ice_types.specs.declared.kind.TypeRef.TheVariants as kinds
use Rattle.ice_types.specs.declared.declarations.Member.{Member}
use Rattle.ice_types.specs.declared.declarations.Shape.{Shape}
use Rattle.ice_types.specs.declared.schema.TheConstants.{MOST_DEPTH}
use Rattle.ice_types.specs.Tables.{Tables}
use Rattle.ice_encoding.specs.Tree.{Tree, Trees, none, tree, Entries, no_entry, entry}
use Rattle.ice_encoding.specs.Typed.{AllOf, EachOf, PairsOf, Refers, no_reference, HasType}
use Rattle.ice_encoding.specs.Optionals.{Present}
use Rattle.ice_encoding.specs.OptionalMembers.{Members, required_kinds}
use Rattle.ice_encoding.specs.Classes.{base_of, own_members}
use Rattle.ice_encoding.specs.Graph.{Slice, known, unknown, Graph}
use Rattle.ice_encoding.specs.Names.{listed_name, names, names_each, names_pairs, names_present, names_of, instance_names}
use Rattle.ice_encoding.specs.Instances.{slices_of}
use Rattle.ice_encoding.specs.TypedGraph.{AreReferred, AreOptions, AreMembers, IsKnown, AreBases, IsInstance, IsHeldIn, RefersIn, OfType}

-- each name is below the limit
abbrev pub AreBelow : ℕ → List ℕ → Type 0
AreBelow limit [] = Unit {0}
AreBelow limit (n ∷ ns) = (n < limit) × AreBelow limit ns

-- each name that occurs is that of an instance
pub record InRange (g : Graph) : Type 0 where
  pub roots : AreBelow (length g.instances) (names_of g.roots)
  pub instances : (n : ℕ) → n < length g.instances → AreBelow (length g.instances) (instance_names (slices_of g.instances n))

below_both : (limit : ℕ) (a b : List ℕ) → AreBelow limit a → AreBelow limit b → AreBelow limit (a ++ b)
below_both limit [] b p q = q
below_both limit (n ∷ a) b p q = (p.0, below_both limit a b p.1 q)

module _ (t : Tables) (limit : ℕ) (Refer : Refers) (bounded : (declared n : Option ℕ) → Refer.Held declared n → AreBelow limit (listed_name n)) where
  -- ---- in values

  all_below : (One : Tree → Type 0) → ((v : Tree) → One v → AreBelow limit (names v)) → (vs : Trees) → AllOf One vs → AreBelow limit (names_each vs)
  all_below One one none h = tt
  all_below One one (tree v vs) h = below_both limit (names v) (names_each vs) (one v h.0) (all_below One one vs h.1)

  each_below : (One : TypeRef → Tree → Type 0) → ((kind : TypeRef) (v : Tree) → One kind v → AreBelow limit (names v)) → (ks : List TypeRef) (vs : Trees) → EachOf One ks vs → AreBelow limit (names_each vs)
  each_below One one [] vs h = subst (λ (ws : Trees). AreBelow limit (names_each ws)) (sym h) tt
  each_below One one (kind ∷ ks) vs h = subst (λ (ws : Trees). AreBelow limit (names_each ws)) (sym h.2) (below_both limit (names h.0) (names_each h.1) (one kind h.0 h.3) (each_below One one ks h.1 h.4))

  pairs_below : (Key Held : Tree → Type 0) → ((v : Tree) → Held v → AreBelow limit (names v)) → (ps : Entries) → PairsOf Key Held ps → AreBelow limit (names_pairs ps)
  pairs_below Key Held one no_entry h = tt
  pairs_below Key Held one (entry k v ps) h = below_both limit (names v) (names_pairs ps) (one v h.1) (pairs_below Key Held one ps h.2)

  as_it_is : (v w : Tree) → v ≡ w → AreBelow limit (names w) → AreBelow limit (names v)
  as_it_is v w e h = subst (λ (u : Tree). AreBelow limit (names u)) (sym e) h

  value_below : (levels : ℕ) (kind : TypeRef) (v : Tree) → HasType t Refer levels kind v → AreBelow limit (names v)
  value_below zero kind v h = absurd h
  value_below (suc levels) kinds.Bool v h = as_it_is v _ h.1 tt
  value_below (suc levels) kinds.Byte v h = as_it_is v _ h.2 tt
  value_below (suc levels) kinds.Short v h = as_it_is v _ h.2 tt
  value_below (suc levels) kinds.Int v h = as_it_is v _ h.2 tt
  value_below (suc levels) kinds.Long v h = as_it_is v _ h.2 tt
  value_below (suc levels) kinds.Text v h = as_it_is v _ h.3 tt
  value_below (suc levels) (kinds.Enum at) v h = as_it_is v _ h.5 tt
  value_below (suc levels) (kinds.Proxy at) v h = as_it_is v _ h.2 tt
  value_below (suc levels) (kinds.Seq at) v (q, row, items, is, many, all) = as_it_is v _ is (all_below (HasType t Refer levels q.element) (value_below levels q.element) items all)
  value_below (suc levels) (kinds.Dict at) v (d, row, pairs, is, many, rising, all) =
      as_it_is v _ is (pairs_below (HasType t no_reference levels d.key) (HasType t Refer levels d.value) (value_below levels d.value) pairs all)
  value_below (suc levels) (kinds.Struct at) v (d, row, members, is, all) = as_it_is v _ is (each_below (HasType t Refer levels) (value_below levels) (map (λ m. m.kind) d.members) members all)
  value_below (suc levels) (kinds.Class declared) v (n, refers, is) = as_it_is v _ is (bounded declared n refers)

  options_below : (members : List Member) (last : Option ℕ) (os : Present) → AreOptions t Refer members last os → AreBelow limit (names_present os)
  options_below members last [] h = tt
  options_below members last (o ∷ os) h = below_both limit (names o.1) (names_present os) (value_below MOST_DEPTH h.2 o.1 h.4) (options_below members (Some o.0) os h.5)

  members_below : (shape : Shape) (c : Members) → AreMembers t Refer shape c → AreBelow limit (names_of c)
  members_below shape c h =
      below_both limit (names_each c.required) (names_present c.optional) (each_below (HasType t Refer MOST_DEPTH) (value_below MOST_DEPTH) (required_kinds shape) c.required h.required) (options_below shape.optional None c.optional h.optional)

  -- ---- in slices

  table_below : (table : List ℕ) → AreReferred Refer table → AreBelow limit table
  table_below [] h = tt
  table_below (n ∷ table) h = ((bounded None (Some n) h.0).0, table_below table h.1)

  known_below : (class : ℕ) (content : Members) → IsKnown t Refer class content → AreBelow limit (names_of content)
  known_below class content h = members_below (own_members t class) content h.2

  bases_below : (base : Option ℕ) (ss : List Slice) → AreBases t Refer base ss → AreBelow limit (instance_names ss)
  bases_below None ss h = subst (λ (l : List Slice). AreBelow limit (instance_names l)) (sym h) tt
  bases_below (Some class) [] h = absurd h
  bases_below (Some class) (unknown id bytes optionals table ∷ ss) h = absurd h
  bases_below (Some class) (known other content ∷ ss) h = below_both limit (names_of content) (instance_names ss) (known_below class content h.1) (bases_below (base_of t class) ss h.2)

  pub instance_below : (ss : List Slice) → IsInstance t Refer ss → AreBelow limit (instance_names ss)
  instance_below [] h = absurd h
  instance_below (unknown id bytes optionals table ∷ []) h = below_both limit table [] (table_below table h.2) tt
  instance_below (unknown id bytes optionals table ∷ s ∷ ss) h = below_both limit table (instance_names (s ∷ ss)) (table_below table h.0.2) (instance_below (s ∷ ss) h.1)
  instance_below (known class content ∷ ss) h = below_both limit (names_of content) (instance_names ss) (known_below class content h.0) (bases_below (base_of t class) ss h.1)

pub in_instances : (t : Tables) (is : List (List Slice)) (declared n : Option ℕ) → IsHeldIn t is declared n → AreBelow (length is) (listed_name n)
in_instances t is declared None h = tt
in_instances t is declared (Some n) h = (h.0, tt)

pub in_range : (t : Tables) (shape : Shape) (g : Graph) → OfType t shape g → InRange g
in_range t shape g h =
    let limit : ℕ = length g.instances in
    let Refer : Refers = RefersIn t g.instances in
    let bounded = in_instances t g.instances in
    record {
      roots = members_below t limit Refer bounded shape g.roots h.roots;
      instances = λ n lt. instance_below t limit Refer bounded (slices_of g.instances n) (h.instances n lt);
    }
