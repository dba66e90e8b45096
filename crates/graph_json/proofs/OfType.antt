-- What JSON notes is of the type.
use Rattle.std.proofs.Common.{◌≡◌, ℕ, zero, suc, ◌+◌, ◌<◌, ◌^◌, max, Bool, true, false, ◌&&◌, List, [], ◌∷◌, map, Option, Some, None, refl, sym, ap, subst, ◌∙◌, arith}
use Rattle.std.specs.Prelude.{slice_get}
use Rattle.std.specs.Ordering.{is_lt}
use Rattle.std.proofs.lemmas.Str.{IsUtf8-nil}
use Rattle.serde_json.specs.Data.{Data, Items, no_items, item, Members}
use Rattle.serde_json.specs.Events.{items_len}
use Rattle.ice_types.specs.declared.kind.TypeRef.{TypeRef}
use Rattle.ice_types.specs.declared.kind.TypeRef.TheVariants as kinds
use Rattle.ice_types.specs.declared.declarations.Member.{Member}
use Rattle.ice_types.specs.declared.declarations.StructDecl.{StructDecl}
use Rattle.ice_types.specs.declared.measure.Measure.{Measure}
use Rattle.ice_types.specs.declared.proxy.Proxy.{Proxy}
use Rattle.ice_types.specs.declared.schema.TheConstants.{MOST_DEPTH}
use Rattle.ice_types.specs.Tables.{Tables}
use Rattle.ice_types.specs.Rules.{IsSchema}
use Rattle.ice_types.specs.Measures.{reference as null, proxy as served, measure, measured, measure_members, with_member, container, structure, sequence_of, dictionary_of, struct_of}
use Rattle.ice_types.proofs.Levels.{found_by, some_is}
use Rattle.ice_encoding.specs.Proxy as parts
use Rattle.ice_encoding.specs.Tree.{Tree, Trees, tree_count, Entries, no_entry, entry, entry_count}
use Rattle.ice_encoding.specs.Order.{tree_cmp, IsRising, insert}
use Rattle.ice_encoding.specs.Port.{size_of}
use Rattle.ice_encoding.specs.Typed.{AllOf, EachOf, PairsOf, Refers, no_reference, by_size, HasType, IsValue}
use Rattle.ice_encoding.proofs.Order.{insert_rising}
use Rattle.ice_encoding.proofs.Inserting.{by_test, insert_count}
use Rattle.graph_json.specs.ValueNotation.{Noting, NotesProxy, NotesReference, NotesEach, NotesMembers, NotesPairs, NotesLevels, Notes}
use Rattle.graph_json.proofs.Names.{has_number, small_number}
use Rattle.graph_json.proofs.Proxies.{proxy_is}

each_typed : (One : Noting Tree) (Of : Tree → Type 0) → ((d : Data) (v : Tree) → One d v → Of v) → (ds : Items) (vs : Trees) → NotesEach One ds vs → AllOf Of vs × (tree_count vs ≡ items_len ds)
each_typed One Of one no_items vs h = rw h (tt, refl)
each_typed One Of one (item d ds) vs h = let rest = each_typed One Of one ds h.1 h.4 in rw h.2 ((one d h.0 h.3, rest.0), ap suc rest.1)

pub members_typed : (One : TypeRef → Noting Tree) (Of : TypeRef → Tree → Type 0) → ((kind : TypeRef) (d : Data) (v : Tree) → One kind d v → Of kind v) → (ms : List Member) (found : Members) (vs : Trees) → NotesMembers One ms found vs → EachOf Of (map (λ m. m.kind) ms) vs
members_typed One Of one [] found vs h = h
members_typed One Of one (m ∷ ms) found vs h = (h.1, h.2, h.3, one m.kind h.0 h.1 h.5, members_typed One Of one ms found h.2 h.6)

insert_pairs : (P Q : Tree → Type 0) (k v : Tree) (ps : Entries) → P k → Q v → PairsOf P Q ps → PairsOf P Q (insert k v ps)
insert_pairs P Q k v no_entry p q h = (p, q, tt)
insert_pairs P Q k v (entry l w rest) p q h =
    by_test (is_lt (tree_cmp k l)) (PairsOf P Q) (entry k v (entry l w rest)) (entry l w (insert k v rest)) (p, q, h) (h.0, h.1, insert_pairs P Q k v rest p q h.2)

module _ (Key Held : Noting Tree) (OfKey OfHeld : Tree → Type 0) (one : (d : Data) (v : Tree) → Key d v → OfKey v) (two : (d : Data) (v : Tree) → Held d v → OfHeld v) where
  pairs_typed : (before : Entries) (ds : Items) (ps : Entries) → IsRising before → PairsOf OfKey OfHeld before → NotesPairs Key Held before ds ps
      → IsRising ps × PairsOf OfKey OfHeld ps × (entry_count ps ≡ entry_count before + items_len ds)
  pairs_typed before no_items ps rising all h = rw h (rising, all, omega arith)
  pairs_typed before (item d ds) ps rising all h =
      let rest = pairs_typed (insert h.2 h.3 before) ds ps (insert_rising h.2 h.3 before h.6 rising) (insert_pairs OfKey OfHeld h.2 h.3 before (one h.0 h.2 h.5) (two h.1 h.3 h.7) all) h.8 in
      (rest.0, rest.1, rest.2 ∙ omega (arith, insert_count h.2 h.3 before))

-- ---- no reference stands in a key

no_key : {C : Type 0} (x m : Measure) → Some x ≡ Some m → x.is_key ≡ false → m.is_key ≡ true → C
no_key x m e f g = let h : m.is_key ≡ false = some_is (λ y. y.is_key ≡ false) x m e f in absurd cc

both : (a b : Bool) → (a && b) ≡ true → (a ≡ true) × (b ≡ true)
both true b e = (refl, e)
both false b e = absurd cc

module _ (t : Tables) (Refer : Refers) where
  members_keys : (One Other : TypeRef → Tree → Type 0) (of : TypeRef → Option Measure) → ((kind : TypeRef) (m : Measure) → of kind ≡ Some m → m.is_key ≡ true → (v : Tree) → One kind v → Other kind v)
      → (ms : List Member) (m : Measure) → measure_members of ms ≡ Some m → m.is_key ≡ true → (vs : Trees) → EachOf One (map (λ d. d.kind) ms) vs → EachOf Other (map (λ d. d.kind) ms) vs
  members_keys One Other of one [] m e k vs h = h
  members_keys One Other of one (d ∷ ds) m e k vs h =
      found_by (of d.kind) (λ first. measured (measure_members of ds) (λ others. Some (with_member first others))) m e λ first first_is rest.
      found_by (measure_members of ds) (λ others. Some (with_member first others)) m rest λ others others_is last.
      let keys : (first.is_key && others.is_key) ≡ true = some_is (λ y. y.is_key ≡ true → (first.is_key && others.is_key) ≡ true) (with_member first others) m last (λ g. g) k in
      let parts = both first.is_key others.is_key keys in
      (h.0, h.1, h.2, one d.kind first first_is parts.0 h.0 h.3, members_keys One Other of one ds others others_is parts.1 h.1 h.4)

  key_typed : (levels other : ℕ) (kind : TypeRef) (m : Measure) → measure t levels kind ≡ Some m → m.is_key ≡ true → (v : Tree) → HasType t Refer other kind v → HasType t no_reference other kind v
  unfolding measure
  key_typed zero other kind m e k v h = absurd cc
  key_typed (suc levels) zero kind m e k v h = h
  key_typed (suc levels) (suc other) kinds.Bool m e k v h = h
  key_typed (suc levels) (suc other) kinds.Byte m e k v h = h
  key_typed (suc levels) (suc other) kinds.Short m e k v h = h
  key_typed (suc levels) (suc other) kinds.Int m e k v h = h
  key_typed (suc levels) (suc other) kinds.Long m e k v h = h
  key_typed (suc levels) (suc other) kinds.Text m e k v h = h
  key_typed (suc levels) (suc other) (kinds.Enum at) m e k v h = h
  key_typed (suc levels) (suc other) (kinds.Proxy None) m e k v h = no_key served m e refl k
  key_typed (suc levels) (suc other) (kinds.Proxy (Some at)) m e k v h = found_by (slice_get t.interfaces at) (λ i. Some served) m e λ i i_is last. no_key served m last refl k
  key_typed (suc levels) (suc other) (kinds.Class None) m e k v h = no_key null m e refl k
  key_typed (suc levels) (suc other) (kinds.Class (Some at)) m e k v h = found_by (slice_get t.classes at) (λ c. Some null) m e λ c c_is last. no_key null m last refl k
  key_typed (suc levels) (suc other) (kinds.Seq at) m e k v h =
      found_by (slice_get t.seqs at) (λ q. sequence_of (measure t levels q.element)) m e λ q q_is parts.
      found_by (measure t levels q.element) (λ x. Some (container (suc x.depth) x.is_built)) m parts λ x x_is last.
      no_key (container (suc x.depth) x.is_built) m last refl k
  key_typed (suc zero) (suc other) (kinds.Dict at) m e k v h = absurd cc
  key_typed (suc (suc levels)) (suc other) (kinds.Dict at) m e k v h =
      found_by (slice_get t.dicts at) (λ d. dictionary_of (measure t levels d.key) (measure t levels d.value)) m e λ d d_is parts.
      found_by (measure t levels d.key) (λ k. measured (measure t levels d.value) (λ w. Some (container (suc (suc (max k.depth w.depth))) (k.is_built && w.is_built)))) m parts λ x x_is more.
      found_by (measure t levels d.value) (λ w. Some (container (suc (suc (max x.depth w.depth))) (x.is_built && w.is_built))) m more λ w w_is last.
      no_key (container (suc (suc (max x.depth w.depth))) (x.is_built && w.is_built)) m last refl k
  key_typed (suc levels) (suc other) (kinds.Struct at) m e k v (r, row, members, is, all) =
      found_by (slice_get t.structs at) (λ d. struct_of (measure_members (measure t levels) d.members)) m e λ d d_is parts.
      found_by (measure_members (measure t levels) d.members) (λ x. Some (structure x)) m parts λ x x_is last.
      let same : d ≡ r = some_is (λ y. d ≡ y) d r (sym d_is ∙ row) refl in
      let found : measure_members (measure t levels) r.members ≡ Some x = subst (λ (y : StructDecl). measure_members (measure t levels) y.members ≡ Some x) same x_is in
      let keys : x.is_key ≡ true = some_is (λ y. y.is_key ≡ true → x.is_key ≡ true) (structure x) m last (λ g. g) k in
      (r, row, members, is, members_keys (HasType t Refer other) (HasType t no_reference other) (measure t levels) (key_typed levels other) r.members x found keys members all)

-- ---- a value

proxy_typed : (d : Data) (p : Option Proxy) → NotesProxy d p → parts.CanBeWritten p
proxy_typed d None h = (((((IsUtf8-nil, omega arith), (IsUtf8-nil, omega arith)), refl), refl), refl)
proxy_typed d (Some p) h = proxy_is h.0 p h.2 h.3

reference_typed : (d : Data) (n : Option ℕ) → NotesReference d n → size_of n < 2 ^ 31
reference_typed d None h = omega arith
reference_typed d (Some n) h = h.0

module _ (t : Tables) (rules : IsSchema t) where
  pub value_typed : (levels : ℕ) (kind : TypeRef) (d : Data) (v : Tree) → NotesLevels t levels kind d v → HasType t by_size levels kind v
  value_typed zero kind d v h = absurd h
  value_typed (suc n) kinds.Bool d v h = (h.0, h.2)
  value_typed (suc n) kinds.Byte d v h = (h.0, h.2, h.3)
  value_typed (suc n) kinds.Short d v h = (h.0, h.2, h.3)
  value_typed (suc n) kinds.Int d v h = (h.0, h.2, h.3)
  value_typed (suc n) kinds.Long d v h = (h.0, h.2, h.3)
  value_typed (suc n) kinds.Text d v h = (h.0, h.2, h.3, h.4)
  value_typed (suc n) (kinds.Seq at) d v h =
      let all = each_typed (NotesLevels t n h.0.element) (HasType t by_size n h.0.element) (value_typed n h.0.element) h.2 h.5 h.7 in
      (h.0, h.1, h.5, h.6, omega (arith, h.4, all.1), all.0)
  value_typed (suc n) (kinds.Dict at) d v h =
      let of_key = rules.dicts at h.0 h.1 in
      let key = λ (a : Data) (k : Tree) (is : NotesLevels t n h.0.key a k). key_typed t by_size 98 n h.0.key of_key.0 of_key.2 of_key.3 k (value_typed n h.0.key a k is) in
      let all = pairs_typed (NotesLevels t n h.0.key) (NotesLevels t n h.0.value) (HasType t no_reference n h.0.key) (HasType t by_size n h.0.value) key (value_typed n h.0.value) no_entry h.2 h.5 tt tt h.7 in
      (h.0, h.1, h.5, h.6, omega (arith, h.4, all.2), all.0, all.1)
  value_typed (suc n) (kinds.Struct at) d v h =
      (h.0, h.1, h.5, h.6, members_typed (NotesLevels t n) (HasType t by_size n) (value_typed n) h.0.members h.2 h.5 h.7)
  value_typed (suc n) (kinds.Enum at) d v h =
      let has = has_number h.3.0 h.2 h.0.entries h.3.2 in
      (h.0, h.1, h.2, has, small_number h.2 h.0.entries (rules.enums at h.0 h.1).2.0 has, h.4)
  value_typed (suc n) (kinds.Proxy at) d v h = (h.0, proxy_typed d h.0 h.1, h.2)
  value_typed (suc n) (kinds.Class declared) d v h = (h.0, reference_typed d h.0 h.1, h.2)

pub plain_typed : (t : Tables) (kind : TypeRef) (d : Data) (v : Tree) → IsSchema t → Notes t kind d v → IsValue t kind v
unfolding Notes IsValue
plain_typed t kind d v rules h = value_typed t rules MOST_DEPTH kind d v h

pub noted_type : (t : Tables) → IsSchema t → (kind : TypeRef) (d : Data) (v : Tree) → Notes t kind d v → HasType t by_size MOST_DEPTH kind v
unfolding Notes
noted_type t rules kind d v h = value_typed t rules MOST_DEPTH kind d v h
