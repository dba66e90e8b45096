-- What bytes spell is a value of its type, and the keys in a value of a type rise.
use Rattle.std.proofs.Common.{ℕ, zero, suc, ◌+◌, ◌<◌, ◌≤◌, ◌^◌, ◌≡◌, max, Bool, true, false, ◌&&◌, List, [], ◌∷◌, ◌++◌, map, replicate, refl, sym, ap, ◌∙◌, subst, arith, Option, None, Some}
use Rattle.std.specs.Prelude.{slice_get}
use Rattle.std.specs.Ordering.{is_lt}
use Rattle.ice_types.specs.declared.kind.TypeRef.{TypeRef}
use Rattle.ice_types.specs.declared.kind.TypeRef.TheVariants as kinds
use Rattle.ice_types.specs.declared.declarations.Member.{Member}
use Rattle.ice_types.specs.declared.declarations.StructDecl.{StructDecl}
use Rattle.ice_types.specs.declared.measure.Measure.{Measure}
use Rattle.ice_types.specs.Tables.{Tables}
use Rattle.ice_types.specs.Rules.{IsSchema}
use Rattle.ice_types.specs.Measures.{reference as null, proxy, measure, measured, measure_members, with_member, container, structure, sequence_of, dictionary_of, struct_of}
use Rattle.ice_types.proofs.Levels.{found_by, some_is}
use Rattle.ice_prims.specs.Rest.{IsBytes}
use Rattle.ice_prims.proofs.Parts.{IsBytes-front, IsBytes-rest}
use Rattle.ice_encoding.specs.declared.limits.TheConstants.{LARGEST}
use Rattle.ice_encoding.proofs.Proxied.{proxy_lawful}
use Rattle.ice_encoding.proofs.Within.{proxy_grown}
use Rattle.ice_prims.proofs.Spelled.{short_exact, int_exact, long_exact, size_exact, text_exact}
use Rattle.ice_encoding.specs.Tree.{Tree, Trees, none, tree, tree_count, Entries, no_entry, entry, entry_count, InEach, InPairs}
use Rattle.ice_encoding.specs.Order.{tree_cmp, IsRising, KeysRise, IsOrdered, insert}
use Rattle.ice_encoding.specs.Port.{Port, Speller}
use Rattle.ice_encoding.specs.Spelling.{Each, Pairs, SpellsValue}
use Rattle.ice_encoding.specs.Typed.{AllOf, EachOf, PairsOf, Refers, no_reference, HasType}
use Rattle.ice_encoding.proofs.Order.{insert_rising}
use Rattle.ice_encoding.proofs.Inserting.{by_test, insert_count}

front_fits : (bytes a b : List ℕ) → bytes ≡ a ++ b → IsBytes bytes → IsBytes a
front_fits bytes a b e fits = IsBytes-front a b (subst IsBytes e fits)

rest_fits : (bytes a b : List ℕ) → bytes ≡ a ++ b → IsBytes bytes → IsBytes b
rest_fits bytes a b e fits = IsBytes-rest a b (subst IsBytes e fits)

-- ---- keys, in which no reference stands

no_key : {C : Type 0} (x m : Measure) → Some x ≡ Some m → x.is_key ≡ false → m.is_key ≡ true → C
no_key x m e f g = let h : m.is_key ≡ false = some_is (λ y. y.is_key ≡ false) x m e f in absurd cc

both : (a b : Bool) → (a && b) ≡ true → (a ≡ true) × (b ≡ true)
both true b e = (refl, e)
both false b e = absurd cc

-- what bytes spell is so
abbrev pub Spelled : {S A : Type 0} → Speller S A → (A → Type 0) → Type 0
Spelled {S} {A} Spells Is = (bytes : List ℕ) (v : A) (from to : S) → IsBytes bytes → Spells bytes v from to → Is v

module _ {R S : Type 0} (port : Port R S) (t : Tables) where
  members_keys : (One : TypeRef → Speller S Tree) (Typed : TypeRef → Tree → Type 0) (of : TypeRef → Option Measure)
      → ((kind : TypeRef) (m : Measure) → of kind ≡ Some m → m.is_key ≡ true → Spelled (One kind) (Typed kind))
      → (ms : List Member) (m : Measure) → measure_members of ms ≡ Some m → m.is_key ≡ true → Spelled (Each One (map (λ d. d.kind) ms)) (EachOf Typed (map (λ d. d.kind) ms))
  members_keys One Typed of one [] m e k bytes values from to fits h = h.1
  members_keys One Typed of one (d ∷ ds) m e k bytes values from to fits h =
      found_by (of d.kind) (λ first. measured (measure_members of ds) (λ others. Some (with_member first others))) m e λ first first_is rest.
      found_by (measure_members of ds) (λ others. Some (with_member first others)) m rest λ others others_is last.
      let keys : (first.is_key && others.is_key) ≡ true = some_is (λ y. y.is_key ≡ true → (first.is_key && others.is_key) ≡ true) (with_member first others) m last (λ g. g) k in
      let parts = both first.is_key others.is_key keys in
      (h.0, h.1, h.5, one d.kind first first_is parts.0 h.2 h.0 from h.4 (front_fits bytes h.2 h.3 h.6 fits) h.7, members_keys One Typed of one ds others others_is parts.1 h.3 h.1 h.4 to (rest_fits bytes h.2 h.3 h.6 fits) h.8)

  key_typed : (levels other : ℕ) (kind : TypeRef) (m : Measure) → measure t levels kind ≡ Some m → m.is_key ≡ true → Spelled (SpellsValue port t other kind) (HasType t no_reference other kind)
  unfolding measure
  key_typed zero other kind m e k bytes v from to fits h = absurd cc
  key_typed (suc levels) zero kind m e k bytes v from to fits h = h
  key_typed (suc levels) (suc other) kinds.Bool m e k bytes v from to fits h = (h.0, h.1)
  key_typed (suc levels) (suc other) kinds.Byte m e k bytes v from to fits h = (h.0, h.2.0.0, h.1)
  key_typed (suc levels) (suc other) kinds.Short m e k bytes v from to fits h = (h.0, short_exact.sort bytes h.0 fits h.2.0, h.1)
  key_typed (suc levels) (suc other) kinds.Int m e k bytes v from to fits h = (h.0, int_exact.sort bytes h.0 fits h.2.0, h.1)
  key_typed (suc levels) (suc other) kinds.Long m e k bytes v from to fits h = (h.0, long_exact.sort bytes h.0 fits h.2.0, h.1)
  key_typed (suc levels) (suc other) kinds.Text m e k bytes v from to fits h = let is = text_exact.sort bytes h.0 fits h.2.0 in (h.0, is.0, is.1, h.1)
  key_typed (suc levels) (suc other) (kinds.Enum at) m e k bytes v from to fits h = (h.0, h.1, h.2.0, h.2.2.0.1, size_exact.sort bytes h.2.0 fits h.2.2.0.0, h.2.1)
  key_typed (suc levels) (suc other) (kinds.Proxy None) m e k bytes v from to fits h = no_key proxy m e refl k
  key_typed (suc levels) (suc other) (kinds.Proxy (Some at)) m e k bytes v from to fits h = found_by (slice_get t.interfaces at) (λ i. Some proxy) m e λ i i_is last. no_key proxy m last refl k
  key_typed (suc levels) (suc other) (kinds.Class None) m e k bytes v from to fits h = no_key null m e refl k
  key_typed (suc levels) (suc other) (kinds.Class (Some at)) m e k bytes v from to fits h = found_by (slice_get t.classes at) (λ c. Some null) m e λ c c_is last. no_key null m last refl k
  key_typed (suc levels) (suc other) (kinds.Seq at) m e k bytes v from to fits h =
      found_by (slice_get t.seqs at) (λ q. sequence_of (measure t levels q.element)) m e λ q q_is parts.
      found_by (measure t levels q.element) (λ x. Some (container (suc x.depth) x.is_built)) m parts λ x x_is last.
      no_key (container (suc x.depth) x.is_built) m last refl k
  key_typed (suc zero) (suc other) (kinds.Dict at) m e k bytes v from to fits h = absurd cc
  key_typed (suc (suc levels)) (suc other) (kinds.Dict at) m e k bytes v from to fits h =
      found_by (slice_get t.dicts at) (λ d. dictionary_of (measure t levels d.key) (measure t levels d.value)) m e λ d d_is parts.
      found_by (measure t levels d.key) (λ k. measured (measure t levels d.value) (λ w. Some (container (suc (suc (max k.depth w.depth))) (k.is_built && w.is_built)))) m parts λ x x_is more.
      found_by (measure t levels d.value) (λ w. Some (container (suc (suc (max x.depth w.depth))) (x.is_built && w.is_built))) m more λ w w_is last.
      no_key (container (suc (suc (max x.depth w.depth))) (x.is_built && w.is_built)) m last refl k
  key_typed (suc levels) (suc other) (kinds.Struct at) m e k bytes v from to fits h =
      found_by (slice_get t.structs at) (λ d. struct_of (measure_members (measure t levels) d.members)) m e λ d d_is parts.
      found_by (measure_members (measure t levels) d.members) (λ x. Some (structure x)) m parts λ x x_is last.
      let same : d ≡ h.0 = some_is (λ y. d ≡ y) d h.0 (sym d_is ∙ h.1) refl in
      let found : measure_members (measure t levels) h.0.members ≡ Some x = subst (λ (y : StructDecl). measure_members (measure t levels) y.members ≡ Some x) same x_is in
      let keys : x.is_key ≡ true = some_is (λ y. y.is_key ≡ true → x.is_key ≡ true) (structure x) m last (λ g. g) k in
      (h.0, h.1, h.2.0, h.2.1, members_keys (SpellsValue port t other) (HasType t no_reference other) (measure t levels) (key_typed levels other) h.0.members x found keys bytes h.2.0 from to fits h.2.2)

-- ---- values

each_typed : {S : Type 0} (One : TypeRef → Speller S Tree) (Typed : TypeRef → Tree → Type 0) → ((kind : TypeRef) → Spelled (One kind) (Typed kind)) → (ks : List TypeRef) → Spelled (Each One ks) (EachOf Typed ks)
each_typed One Typed one [] bytes values from to fits h = h.1
each_typed One Typed one (kind ∷ ks) bytes values from to fits h =
    (h.0, h.1, h.5, one kind h.2 h.0 from h.4 (front_fits bytes h.2 h.3 h.6 fits) h.7, each_typed One Typed one ks h.3 h.1 h.4 to (rest_fits bytes h.2 h.3 h.6 fits) h.8)

same_each : (Typed : TypeRef → Tree → Type 0) (kind : TypeRef) (n : ℕ) (values : Trees) → EachOf Typed (replicate n kind) values → AllOf (Typed kind) values × (tree_count values ≡ n)
same_each Typed kind zero values h = subst (λ (vs : Trees). AllOf (Typed kind) vs × (tree_count vs ≡ 0)) (sym h) (tt {0}, refl)
same_each Typed kind (suc n) values (v, vs, is, h, more) =
    let rest = same_each Typed kind n vs more in
    subst (λ (ws : Trees). AllOf (Typed kind) ws × (tree_count ws ≡ suc n)) (sym is) ((h, rest.0), ap suc rest.1)

insert_typed : (Key Held : Tree → Type 0) (k v : Tree) (ps : Entries) → Key k → Held v → PairsOf Key Held ps → PairsOf Key Held (insert k v ps)
insert_typed Key Held k v no_entry p q h = (p, q, tt)
insert_typed Key Held k v (entry l w rest) p q h =
    by_test (is_lt (tree_cmp k l)) (PairsOf Key Held) (entry k v (entry l w rest)) (entry l w (insert k v rest)) (p, q, h) (h.0, h.1, insert_typed Key Held k v rest p q h.2)

-- what is kept of the pairs so far
record Good (Key Held : Tree → Type 0) (pairs : Entries) (count : ℕ) : Type 0 where
  typed : PairsOf Key Held pairs
  rise : IsRising pairs
  many : entry_count pairs ≡ count

pairs_typed : {S : Type 0} (Key Held : Speller S Tree) (IsKey IsHeld : Tree → Type 0) → Spelled Key IsKey → Spelled Held IsHeld
    → (n count : ℕ) (earlier : Entries) (bytes : List ℕ) (pairs : Entries) (from to : S) → IsBytes bytes → Good IsKey IsHeld earlier count → Pairs Key Held n earlier bytes pairs from to → Good IsKey IsHeld pairs (count + n)
pairs_typed Key Held IsKey IsHeld key held zero count earlier bytes pairs from to fits g h =
    subst (λ (ps : Entries). Good IsKey IsHeld ps (count + 0)) (sym h.1) (record { typed = g.typed; rise = g.rise; many = omega (arith, g.many) })
pairs_typed Key Held IsKey IsHeld key held (suc n) count earlier bytes pairs from to fits g h =
    let later = rest_fits bytes h.2 (h.3 ++ h.4) h.7 fits in
    let is_key = key h.2 h.0 from h.5 (front_fits bytes h.2 (h.3 ++ h.4) h.7 fits) h.8 in
    let is_held = held h.3 h.1 h.5 h.6 (IsBytes-front h.3 h.4 later) h.10 in
    let more : Good IsKey IsHeld (insert h.0 h.1 earlier) (suc count) = record {
      typed = insert_typed IsKey IsHeld h.0 h.1 earlier is_key is_held g.typed;
      rise = insert_rising h.0 h.1 earlier h.9 g.rise;
      many = insert_count h.0 h.1 earlier ∙ ap suc g.many;
    } in
    let all = pairs_typed Key Held IsKey IsHeld key held n (suc count) (insert h.0 h.1 earlier) h.4 pairs h.6 to (IsBytes-rest h.3 h.4 later) more h.11 in
    record { typed = all.typed; rise = all.rise; many = omega (arith, all.many) }

module _ {R S : Type 0} (port : Port R S) (t : Tables) (rules : IsSchema t) (Refer : Refers) (wide : LARGEST ≤ Refer.most) (refers : (declared : Option ℕ) → Spelled (port.Spells declared) (Refer.Held declared)) where
  pub value_typed : (levels : ℕ) (kind : TypeRef) → Spelled (SpellsValue port t levels kind) (HasType t Refer levels kind)
  value_typed zero kind bytes v from to fits h = absurd h
  value_typed (suc levels) kinds.Bool bytes v from to fits h = (h.0, h.1)
  value_typed (suc levels) kinds.Byte bytes v from to fits h = (h.0, h.2.0.0, h.1)
  value_typed (suc levels) kinds.Short bytes v from to fits h = (h.0, short_exact.sort bytes h.0 fits h.2.0, h.1)
  value_typed (suc levels) kinds.Int bytes v from to fits h = (h.0, int_exact.sort bytes h.0 fits h.2.0, h.1)
  value_typed (suc levels) kinds.Long bytes v from to fits h = (h.0, long_exact.sort bytes h.0 fits h.2.0, h.1)
  value_typed (suc levels) kinds.Text bytes v from to fits h = let is = text_exact.sort bytes h.0 fits h.2.0 in (h.0, is.0, is.1, h.1)
  value_typed (suc levels) (kinds.Enum at) bytes v from to fits h = (h.0, h.1, h.2.0, h.2.2.0.1, size_exact.sort bytes h.2.0 fits h.2.2.0.0, h.2.1)
  value_typed (suc levels) (kinds.Proxy at) bytes v from to fits h = (h.0, proxy_grown LARGEST Refer.most wide h.0 (proxy_lawful.sort bytes h.0 fits h.2.0), h.1)
  value_typed (suc levels) (kinds.Class declared) bytes v from to fits h = (h.0, refers declared bytes h.0 from to fits h.2, h.1)
  value_typed (suc levels) (kinds.Seq at) bytes v from to fits (q, row, (items, is, (n, front, body, parts, size, each))) =
      let all = each_typed (SpellsValue port t levels) (HasType t Refer levels) (value_typed levels) (replicate n q.element) body items from to (rest_fits bytes front body parts fits) each in
      let same = same_each (HasType t Refer levels) q.element n items all in
      (q, row, items, is, subst (λ (i : ℕ). i < 2 ^ 31) (sym same.1) (size_exact.sort front n (front_fits bytes front body parts fits) size), same.0)
  value_typed (suc levels) (kinds.Dict at) bytes v from to fits (d, row, (pairs, is, (n, front, body, parts, size, some))) =
      let of_key = rules.dicts at d row in
      let all = pairs_typed (SpellsValue port t levels d.key) (SpellsValue port t levels d.value) (HasType t no_reference levels d.key) (HasType t Refer levels d.value)
      (key_typed port t 98 levels d.key of_key.0 of_key.2 of_key.3) (value_typed levels d.value) n 0 no_entry body pairs from to (rest_fits bytes front body parts fits) (record { typed = tt; rise = tt; many = refl }) some in
      (d, row, pairs, is, subst (λ (i : ℕ). i < 2 ^ 31) (sym (all.many ∙ omega arith)) (size_exact.sort front n (front_fits bytes front body parts fits) size), all.rise, all.typed)
  value_typed (suc levels) (kinds.Struct at) bytes v from to fits (d, row, (members, is, each)) =
      (d, row, members, is, each_typed (SpellsValue port t levels) (HasType t Refer levels) (value_typed levels) (map (λ m. m.kind) d.members) bytes members from to fits each)

-- ---- the keys in a value of a type rise

all_ordered : (One : Tree → Type 0) → ((v : Tree) → One v → IsOrdered v) → (vs : Trees) → AllOf One vs → InEach KeysRise vs
all_ordered One one none h = tt
all_ordered One one (tree v vs) h = (one v h.0, all_ordered One one vs h.1)

each_ordered : (One : TypeRef → Tree → Type 0) → ((kind : TypeRef) (v : Tree) → One kind v → IsOrdered v) → (ks : List TypeRef) (vs : Trees) → EachOf One ks vs → InEach KeysRise vs
each_ordered One one [] vs h = subst (InEach KeysRise) (sym h) tt
each_ordered One one (kind ∷ ks) vs (v, others, is, h, more) = subst (InEach KeysRise) (sym is) (one kind v h, each_ordered One one ks others more)

pairs_ordered : (Key Held : Tree → Type 0) → ((v : Tree) → Key v → IsOrdered v) → ((v : Tree) → Held v → IsOrdered v) → (ps : Entries) → PairsOf Key Held ps → InPairs KeysRise ps
pairs_ordered Key Held key held no_entry h = tt
pairs_ordered Key Held key held (entry k v rest) h = (key k h.0, held v h.1, pairs_ordered Key Held key held rest h.2)

pub typed_ordered : (t : Tables) (Refer : Refers) (levels : ℕ) (kind : TypeRef) (v : Tree) → HasType t Refer levels kind v → IsOrdered v
typed_ordered t Refer zero kind v h = absurd h
typed_ordered t Refer (suc levels) kinds.Bool v h = rw h.1 tt
typed_ordered t Refer (suc levels) kinds.Byte v h = rw h.2 tt
typed_ordered t Refer (suc levels) kinds.Short v h = rw h.2 tt
typed_ordered t Refer (suc levels) kinds.Int v h = rw h.2 tt
typed_ordered t Refer (suc levels) kinds.Long v h = rw h.2 tt
typed_ordered t Refer (suc levels) kinds.Text v h = rw h.3 tt
typed_ordered t Refer (suc levels) (kinds.Enum at) v h = rw h.5 tt
typed_ordered t Refer (suc levels) (kinds.Proxy at) v h = rw h.2 tt
typed_ordered t Refer (suc levels) (kinds.Class declared) v h = rw h.2 tt
typed_ordered t Refer (suc levels) (kinds.Seq at) v (q, row, items, is, many, all) = rw is (tt, all_ordered (HasType t Refer levels q.element) (typed_ordered t Refer levels q.element) items all)
typed_ordered t Refer (suc levels) (kinds.Dict at) v (d, row, pairs, is, many, rising, all) =
    rw is (rising, pairs_ordered (HasType t no_reference levels d.key) (HasType t Refer levels d.value) (typed_ordered t no_reference levels d.key) (typed_ordered t Refer levels d.value) pairs all)
typed_ordered t Refer (suc levels) (kinds.Struct at) v (d, row, members, is, all) = rw is (tt, each_ordered (HasType t Refer levels) (typed_ordered t Refer levels) (map (λ m. m.kind) d.members) members all)
