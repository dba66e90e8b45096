-- The graph of the first visits, of a sound graph of a type, can be written.
use Rattle.std.proofs.Common.{◌≡◌, ℕ, Bool, true, false, zero, suc, ◌<◌, ◌≤◌, List, [], ◌∷◌, ◌++◌, length, map, refl, sym, ap, ◌∙◌, subst, arith, Option, Some, None, ◌^◌}
use Rattle.std.specs.Prelude.{nat_eq, if◌then◌else◌}
use Rattle.ice_types.specs.declared.kind.TypeRef.{TypeRef}
use Rattle.ice_types.specs.declared.kind.TypeRef.TheVariants as kinds
use Rattle.ice_types.specs.declared.declarations.Member.{Member}
use Rattle.ice_types.specs.declared.declarations.Shape.{Shape}
use Rattle.ice_types.specs.declared.schema.TheConstants.{MOST_DEPTH}
use Rattle.ice_types.specs.Tables.{Tables}
use Rattle.ice_encoding.specs.Tree.{Tree, Trees, none, tree, Entries, no_entry, entry, Everywhere, InEach, InPairs}
use Rattle.ice_encoding.specs.Canonical.{HasSize, HasSizes}
use Rattle.ice_encoding.specs.Port.{size_of}
use Rattle.ice_encoding.specs.Typed.{AllOf, EachOf, PairsOf, Refers, no_reference, by_size, HasType}
use Rattle.ice_encoding.specs.Optionals.{Present}
use Rattle.ice_encoding.specs.OptionalMembers.{Members, required_kinds}
use Rattle.ice_encoding.specs.Classes.{base_of, own_members}
use Rattle.ice_encoding.specs.Graph.{Slice, known, unknown, Graph}
use Rattle.ice_encoding.specs.Names.{names, names_each, names_pairs, renamed_name, renamed_members, renamed_slice}
use Rattle.ice_encoding.specs.Instances.{slices_of}
use Rattle.ice_encoding.specs.Visiting.{place, order}
use Rattle.ice_encoding.specs.SameGraph.{form}
use Rattle.ice_encoding.specs.TypedGraph as typed
use Rattle.ice_encoding.specs.TypedGraph.{AreMembers, IsKnown, AreBases, IsInstance, IsHeldIn, RefersIn, OfType}
use Rattle.graph_laws.proofs.Fitting.{typed_sizes}
use Rattle.graph_laws.proofs.Renamed.{Moves, members-renamed}
use Rattle.graph_arena.specs.Arena.{AreBelow, IsSound}
use Rattle.graph_arena.proofs.Fitting.{most-is}
use Rattle.graph_arena.proofs.Closed.{order-is}
use Rattle.graph_arena.proofs.Formed.{order-few}
use Rattle.value_writing.specs.WritingMembers.{OptionsFit, ContentCanBeWritten}
use Rattle.instance_writing.specs.Tabling.{KeysNameNothing, HasPlainKeys, AreOptions, HasPlaces}
use Rattle.instance_writing.specs.Writable.{SliceCanBeWritten, SlicesCanBeWritten, GraphCanBeWritten}

-- ---- a value in which no reference may stand names nothing

all-nameless : (One : Tree → Type 0) → ((v : Tree) → One v → names v ≡ []) → (vs : Trees) → AllOf One vs → names_each vs ≡ []
all-nameless One one none h = refl
all-nameless One one (tree v vs) h = rw (one v h.0) (all-nameless One one vs h.1)

each-nameless : (One : TypeRef → Tree → Type 0) → ((kind : TypeRef) (v : Tree) → One kind v → names v ≡ []) → (ks : List TypeRef) (vs : Trees) → EachOf One ks vs → names_each vs ≡ []
each-nameless One one [] vs h = ap names_each h
each-nameless One one (kind ∷ ks) vs (v, others, is, h, more) = ap names_each is ∙ (ap (λ (l : List ℕ). l ++ names_each others) (one kind v h) ∙ each-nameless One one ks others more)

pairs-nameless : (Key Held : Tree → Type 0) → ((v : Tree) → Held v → names v ≡ []) → (ps : Entries) → PairsOf Key Held ps → names_pairs ps ≡ []
pairs-nameless Key Held held no_entry h = refl
pairs-nameless Key Held held (entry k v rest) h = rw (held v h.1) (pairs-nameless Key Held held rest h.2)

module _ (t : Tables) where
  nameless : (levels : ℕ) (kind : TypeRef) (v : Tree) → HasType t no_reference levels kind v → names v ≡ []
  nameless zero kind v h = absurd h
  nameless (suc levels) kinds.Bool v h = ap names h.1
  nameless (suc levels) kinds.Byte v h = ap names h.2
  nameless (suc levels) kinds.Short v h = ap names h.2
  nameless (suc levels) kinds.Int v h = ap names h.2
  nameless (suc levels) kinds.Long v h = ap names h.2
  nameless (suc levels) kinds.Text v h = ap names h.3
  nameless (suc levels) (kinds.Enum at) v h = ap names h.5
  nameless (suc levels) (kinds.Proxy at) v h = ap names h.2
  nameless (suc levels) (kinds.Class declared) v h = absurd h.1
  nameless (suc levels) (kinds.Seq at) v (q, row, items, is, many, all) = ap names is ∙ all-nameless (HasType t no_reference levels q.element) (nameless levels q.element) items all
  nameless (suc levels) (kinds.Dict at) v (d, row, pairs, is, many, rising, all) =
      ap names is ∙ pairs-nameless (HasType t no_reference levels d.key) (HasType t no_reference levels d.value) (nameless levels d.value) pairs all
  nameless (suc levels) (kinds.Struct at) v (d, row, members, is, all) = ap names is ∙ each-nameless (HasType t no_reference levels) (nameless levels) (map (λ m. m.kind) d.members) members all

  keys-nameless : (levels : ℕ) (kind : TypeRef) (Held : Tree → Type 0) (ps : Entries) → PairsOf (HasType t no_reference levels kind) Held ps → KeysNameNothing ps
  keys-nameless levels kind Held no_entry h = tt
  keys-nameless levels kind Held (entry k v rest) h = (nameless levels kind k h.0, keys-nameless levels kind Held rest h.2)

-- ---- of values of types, what holds of each value of a type

module _ (P : Tree → Type 0) where
  all-inside : (One : Tree → Type 0) → ((v : Tree) → One v → Everywhere P v) → (vs : Trees) → AllOf One vs → InEach P vs
  all-inside One one none h = tt
  all-inside One one (tree v vs) h = (one v h.0, all-inside One one vs h.1)

  each-inside : (One : TypeRef → Tree → Type 0) → ((kind : TypeRef) (v : Tree) → One kind v → Everywhere P v) → (ks : List TypeRef) (vs : Trees) → EachOf One ks vs → InEach P vs
  each-inside One one [] vs h = subst (InEach P) (sym h) tt
  each-inside One one (kind ∷ ks) vs (v, others, is, h, more) = subst (InEach P) (sym is) (one kind v h, each-inside One one ks others more)

  pairs-inside : (Key Held : Tree → Type 0) → ((v : Tree) → Key v → Everywhere P v) → ((v : Tree) → Held v → Everywhere P v) → (ps : Entries) → PairsOf Key Held ps → InPairs P ps
  pairs-inside Key Held key held no_entry h = tt
  pairs-inside Key Held key held (entry k v rest) h = (key k h.0, held v h.1, pairs-inside Key Held key held rest h.2)

module _ (t : Tables) where
  plain-keys : (Refer : Refers) (levels : ℕ) (kind : TypeRef) (v : Tree) → HasType t Refer levels kind v → Everywhere HasPlainKeys v
  plain-keys Refer zero kind v h = absurd h
  plain-keys Refer (suc levels) kinds.Bool v h = rw h.1 tt
  plain-keys Refer (suc levels) kinds.Byte v h = rw h.2 tt
  plain-keys Refer (suc levels) kinds.Short v h = rw h.2 tt
  plain-keys Refer (suc levels) kinds.Int v h = rw h.2 tt
  plain-keys Refer (suc levels) kinds.Long v h = rw h.2 tt
  plain-keys Refer (suc levels) kinds.Text v h = rw h.3 tt
  plain-keys Refer (suc levels) (kinds.Enum at) v h = rw h.5 tt
  plain-keys Refer (suc levels) (kinds.Proxy at) v h = rw h.2 tt
  plain-keys Refer (suc levels) (kinds.Class declared) v h = rw h.2 tt
  plain-keys Refer (suc levels) (kinds.Seq at) v (q, row, items, is, many, all) = rw is (tt, all-inside HasPlainKeys (HasType t Refer levels q.element) (plain-keys Refer levels q.element) items all)
  plain-keys Refer (suc levels) (kinds.Dict at) v (d, row, pairs, is, many, rising, all) = rw is (
    keys-nameless t levels d.key (HasType t Refer levels d.value) pairs all,
    pairs-inside HasPlainKeys (HasType t no_reference levels d.key) (HasType t Refer levels d.value) (plain-keys no_reference levels d.key) (plain-keys Refer levels d.value) pairs all,
  )
  plain-keys Refer (suc levels) (kinds.Struct at) v (d, row, members, is, all) = rw is (tt, each-inside HasPlainKeys (HasType t Refer levels) (plain-keys Refer levels) (map (λ m. m.kind) d.members) members all)

  -- ---- members whose references are numbers that a size can have

  value-sized : (kind : TypeRef) (v : Tree) → HasType t by_size MOST_DEPTH kind v → HasSizes v
  value-sized = typed_sizes t by_size (omega arith, λ declared n h. h) MOST_DEPTH

  options-sized : (members : List Member) (last : Option ℕ) (os : Present) → typed.AreOptions t by_size members last os → OptionsFit os
  options-sized members last [] h = tt
  options-sized members last (o ∷ os) h = (h.1, value-sized h.2 o.1 h.4, options-sized members (Some o.0) os h.5)

  options-placed : (members : List Member) (last : Option ℕ) (os : Present) → typed.AreOptions t by_size members last os → AreOptions members os
  options-placed members last [] h = tt
  options-placed members last (o ∷ os) h = (rw h.3 refl, plain-keys by_size MOST_DEPTH h.2 o.1 h.4, options-placed members (Some o.0) os h.5)

  members-writable : (shape : Shape) (c : Members) → AreMembers t by_size shape c → ContentCanBeWritten c
  members-writable shape c h = (each-inside HasSize (HasType t by_size MOST_DEPTH) value-sized (required_kinds shape) c.required h.required, options-sized shape.optional None c.optional h.optional)

  members-placed : (shape : Shape) (c : Members) → AreMembers t by_size shape c → HasPlaces shape.optional c
  members-placed shape c h =
      (each-inside HasPlainKeys (HasType t by_size MOST_DEPTH) (plain-keys by_size MOST_DEPTH) (required_kinds shape) c.required h.required, options-placed shape.optional None c.optional h.optional)

  -- ---- slices under other names

  module _ (Refer : Refers) (f : ℕ → ℕ) (moves : Moves f Refer by_size) where
    known-writable : (class : ℕ) (content : Members) → IsKnown t Refer class content → SliceCanBeWritten t (known class (renamed_members f content))
    known-writable class content h =
        let c = members-renamed t f Refer by_size moves (own_members t class) content h.2 in
        (members-writable (own_members t class) (renamed_members f content) c, members-placed (own_members t class) (renamed_members f content) c)

    bases-writable : (base : Option ℕ) (ss : List Slice) → AreBases t Refer base ss → SlicesCanBeWritten t (map (renamed_slice f) ss)
    bases-writable None ss h = subst (λ (l : List Slice). SlicesCanBeWritten t (map (renamed_slice f) l)) (sym h) tt
    bases-writable (Some class) [] h = absurd h
    bases-writable (Some class) (unknown id bytes optionals table ∷ ss) h = absurd h
    bases-writable (Some class) (known other content ∷ ss) h = (
      subst (λ (c : ℕ). SliceCanBeWritten t (known c (renamed_members f content))) (sym h.0) (known-writable class content h.1),
      bases-writable (base_of t class) ss h.2,
    )

    pub instance-writable : (ss : List Slice) → IsInstance t Refer ss → SlicesCanBeWritten t (map (renamed_slice f) ss)
    instance-writable [] h = absurd h
    instance-writable (unknown id bytes optionals table ∷ []) h = (tt, tt)
    instance-writable (unknown id bytes optionals table ∷ s ∷ ss) h = (tt, instance-writable (s ∷ ss) h.1)
    instance-writable (known class content ∷ ss) h = (known-writable class content h.0, bases-writable (base_of t class) ss h.1)

-- ---- a graph

few-by-test : (b : Bool) (n count : ℕ) → n ≤ count → (if b then 0 else suc n) ≤ suc count
few-by-test true n count le = omega arith
few-by-test false n count le = omega (arith, le)

place-few : (ns : List ℕ) (n : ℕ) → place ns n ≤ length ns
place-few [] n = omega arith
place-few (m ∷ ns) n = few-by-test (nat_eq m n) (place ns n) (length ns) (place-few ns n)

module _ (t : Tables) (is : List (List Slice)) (f : ℕ → ℕ) (moves : Moves f (RefersIn t is) by_size) (one : (n : ℕ) → n < length is → IsInstance t (RefersIn t is) (slices_of is n)) where
  abbrev pub instance_of : ℕ → List Slice
  instance_of n = map (renamed_slice f) (slices_of is n)

  pub each-writable : (ns : List ℕ) → AreBelow (length is) ns → (n : ℕ) → SlicesCanBeWritten t (slices_of (map instance_of ns) n)
  each-writable [] below n = tt
  each-writable (m ∷ ns) below zero = instance-writable t (RefersIn t is) f moves (slices_of is m) (one m below.0)
  each-writable (m ∷ ns) below (suc n) = each-writable ns below.1 n

size-of-place : (t : Tables) (g : Graph) → IsSound g → (declared n : Option ℕ) → IsHeldIn t g.instances declared n → size_of (renamed_name (place (order g)) n) < 2 ^ 31
size-of-place t g sound declared None h = omega arith
size-of-place t g sound declared (Some n) h = omega (arith, place-few (order g) n, order-few g sound, sound.few, most-is)

pub moves-to-places : (t : Tables) (g : Graph) → IsSound g → Moves (place (order g)) (RefersIn t g.instances) by_size
moves-to-places t g sound = (omega arith, size-of-place t g sound)

pub form-writable : (t : Tables) (shape : Shape) (g : Graph) → OfType t shape g → IsSound g → GraphCanBeWritten t (form g)
unfolding form
form-writable t shape g h sound =
    let f = place (order g) in
    let moves = moves-to-places t g sound in
    record {
      roots = members-writable t shape (renamed_members f g.roots) (members-renamed t f (RefersIn t g.instances) by_size moves shape g.roots h.roots);
      instances = each-writable t g.instances f moves h.instances (order g) (order-is g sound).below;
    }
