-- A value of fixed length changes no state, and one whose own size is its prefix has just as many bytes behind that as it says.
use Rattle.std.proofs.Common.{◌≡◌, ℕ, zero, suc, max, Bool, true, false, cond, ◌&&◌, List, [], ◌∷◌, ◌++◌, length, map, replicate, Option, Some, None, refl, sym, ap, subst, ◌∙◌, arith}
use Rattle.std.specs.Prelude.{slice_get}
use Rattle.std.proofs.lemmas.Bool.{eqb-true}
use Rattle.std.proofs.lemmas.List.{length-append}
use Rattle.ice_types.specs.declared.kind.TypeRef.{TypeRef}
use Rattle.ice_types.specs.declared.kind.TypeRef.TheVariants as kinds
use Rattle.ice_types.specs.declared.declarations.Member.{Member}
use Rattle.ice_types.specs.declared.declarations.SeqDecl.{SeqDecl}
use Rattle.ice_types.specs.declared.declarations.StructDecl.{StructDecl}
use Rattle.ice_types.specs.declared.measure.Measure.{Measure}
use Rattle.ice_types.specs.Tables.{Tables}
use Rattle.ice_types.specs.Measures.{reference as null, proxy, enumeration, measure, measured, measure_members, no_members, with_member, container, structure, built_in, sequence_of, dictionary_of, struct_of, fixed_size}
use Rattle.ice_types.proofs.Levels.{found_by, some_is}
use Rattle.ice_prims.specs.Number.{SpellsBool, SpellsSize}
use Rattle.ice_encoding.specs.Tree.{Tree, Trees, Entries}
use Rattle.ice_encoding.specs.Port.{Port, Speller}
use Rattle.ice_encoding.specs.Spelling.{Each, Pairs, SpellsValue}
use Rattle.ice_encoding.specs.Prefixes.{is_one, counts_itself}
use Rattle.ice_encoding.specs.Order.{insert}
use Rattle.std.specs.Option.{is_some}

-- ---- spellings of one length

-- no spelling is of one length where the measure says otherwise
open_measure : {C : Type 0} (x m : Measure) → Some x ≡ Some m → x.is_fixed ≡ false → m.is_fixed ≡ true → C
open_measure x m e f g = let h : m.is_fixed ≡ false = some_is (λ y. y.is_fixed ≡ false) x m e f in absurd cc

fixed_at : (smallest : ℕ) (m : Measure) (bytes : List ℕ) → Some (built_in smallest true) ≡ Some m → length bytes ≡ smallest → length bytes ≡ m.smallest
fixed_at smallest m bytes e n = some_is (λ y. length bytes ≡ y.smallest) (built_in smallest true) m e n

both : (a b : Bool) → (a && b) ≡ true → (a ≡ true) × (b ≡ true)
both true b e = (refl, e)
both false b e = absurd cc

bool_long : (bytes : List ℕ) (x : Bool) → SpellsBool bytes x → length bytes ≡ 1
bool_long bytes true is = ap length is
bool_long bytes false is = ap length is

module _ {R S : Type 0} (port : Port R S) (t : Tables) where
  members_fixed : (One : TypeRef → Speller S Tree) (of : TypeRef → Option Measure)
      → ((kind : TypeRef) (m : Measure) (bytes : List ℕ) (v : Tree) (from to : S) → of kind ≡ Some m → m.is_fixed ≡ true → One kind bytes v from to → length bytes ≡ m.smallest)
      → (ms : List Member) (m : Measure) (bytes : List ℕ) (values : Trees) (from to : S) → measure_members of ms ≡ Some m → m.is_fixed ≡ true → Each One (map (λ d. d.kind) ms) bytes values from to → length bytes ≡ m.smallest
  members_fixed One of one [] m bytes values from to e f h = some_is (λ y. length bytes ≡ y.smallest) no_members m e (ap length h.0)
  members_fixed One of one (d ∷ ds) m bytes values from to e f h =
      found_by (of d.kind) (λ first. measured (measure_members of ds) (λ others. Some (with_member first others))) m e λ first first_is rest.
      found_by (measure_members of ds) (λ others. Some (with_member first others)) m rest λ others others_is last.
      let fixed : (first.is_fixed && others.is_fixed) ≡ true = some_is (λ y. y.is_fixed ≡ true → (first.is_fixed && others.is_fixed) ≡ true) (with_member first others) m last (λ g. g) f in
      let parts = both first.is_fixed others.is_fixed fixed in
      let a = one d.kind first h.2 h.0 from h.4 first_is parts.0 h.7 in
      let b = members_fixed One of one ds others h.3 h.1 h.4 to others_is parts.1 h.8 in
      some_is (λ y. length bytes ≡ y.smallest) (with_member first others) m last (ap length h.6 ∙ length-append h.2 h.3 ∙ omega (arith, a, b))

  pub value_fixed : (levels other : ℕ) (kind : TypeRef) (m : Measure) (bytes : List ℕ) (v : Tree) (from to : S) → measure t levels kind ≡ Some m → m.is_fixed ≡ true → SpellsValue port t other kind bytes v from to → length bytes ≡ m.smallest
  unfolding measure
  value_fixed zero other kind m bytes v from to e f h = absurd cc
  value_fixed (suc levels) zero kind m bytes v from to e f h = absurd h
  value_fixed (suc levels) (suc other) kinds.Bool m bytes v from to e f h = fixed_at 1 m bytes e (bool_long bytes h.0 h.2.0)
  value_fixed (suc levels) (suc other) kinds.Byte m bytes v from to e f h = fixed_at 1 m bytes e (ap length h.2.0.1)
  value_fixed (suc levels) (suc other) kinds.Short m bytes v from to e f h = fixed_at 2 m bytes e h.2.0.0
  value_fixed (suc levels) (suc other) kinds.Int m bytes v from to e f h = fixed_at 4 m bytes e h.2.0.0
  value_fixed (suc levels) (suc other) kinds.Long m bytes v from to e f h = fixed_at 8 m bytes e h.2.0.0
  value_fixed (suc levels) (suc other) kinds.Text m bytes v from to e f h = open_measure (built_in 1 false) m e refl f
  value_fixed (suc levels) (suc other) (kinds.Enum at) m bytes v from to e f h =
      found_by (slice_get t.enums at) (λ _. Some enumeration) m e λ d d_is last. open_measure enumeration m last refl f
  value_fixed (suc levels) (suc other) (kinds.Proxy None) m bytes v from to e f h = open_measure proxy m e refl f
  value_fixed (suc levels) (suc other) (kinds.Proxy (Some at)) m bytes v from to e f h =
      found_by (slice_get t.interfaces at) (λ _. Some proxy) m e λ d d_is last. open_measure proxy m last refl f
  value_fixed (suc levels) (suc other) (kinds.Class None) m bytes v from to e f h = open_measure null m e refl f
  value_fixed (suc levels) (suc other) (kinds.Class (Some at)) m bytes v from to e f h =
      found_by (slice_get t.classes at) (λ _. Some null) m e λ d d_is last. open_measure null m last refl f
  value_fixed (suc levels) (suc other) (kinds.Seq at) m bytes v from to e f h =
      found_by (slice_get t.seqs at) (λ q. sequence_of (measure t levels q.element)) m e λ q q_is parts.
      found_by (measure t levels q.element) (λ x. Some (container (suc x.depth) x.is_built)) m parts λ x x_is last.
      open_measure (container (suc x.depth) x.is_built) m last refl f
  value_fixed (suc zero) (suc other) (kinds.Dict at) m bytes v from to e f h = absurd cc
  value_fixed (suc (suc levels)) (suc other) (kinds.Dict at) m bytes v from to e f h =
      found_by (slice_get t.dicts at) (λ d. dictionary_of (measure t levels d.key) (measure t levels d.value)) m e λ d d_is parts.
      found_by (measure t levels d.key) (λ k. measured (measure t levels d.value) (λ w. Some (container (suc (suc (max k.depth w.depth))) (k.is_built && w.is_built)))) m parts λ k k_is more.
      found_by (measure t levels d.value) (λ w. Some (container (suc (suc (max k.depth w.depth))) (k.is_built && w.is_built))) m more λ w w_is last.
      open_measure (container (suc (suc (max k.depth w.depth))) (k.is_built && w.is_built)) m last refl f
  value_fixed (suc levels) (suc other) (kinds.Struct at) m bytes v from to e f h =
      found_by (slice_get t.structs at) (λ d. struct_of (measure_members (measure t levels) d.members)) m e λ d d_is parts.
      found_by (measure_members (measure t levels) d.members) (λ x. Some (structure x)) m parts λ x x_is last.
      let same : d ≡ h.0 = some_is (λ y. d ≡ y) d h.0 (sym d_is ∙ h.1) refl in
      let found : measure_members (measure t levels) h.0.members ≡ Some x = subst (λ (y : StructDecl). measure_members (measure t levels) y.members ≡ Some x) same x_is in
      let fixed : x.is_fixed ≡ true = some_is (λ y. y.is_fixed ≡ true → x.is_fixed ≡ true) (structure x) m last (λ g. g) f in
      some_is (λ y. length bytes ≡ y.smallest) (structure x) m last (members_fixed (SpellsValue port t other) (measure t levels) (value_fixed levels other) h.0.members x bytes h.2.0 from to found fixed h.2.2)

  -- ---- of one byte each

  ones_long : (One : TypeRef → Speller S Tree) (kind : TypeRef) → ((bytes : List ℕ) (v : Tree) (from to : S) → One kind bytes v from to → length bytes ≡ 1)
      → (n : ℕ) (bytes : List ℕ) (values : Trees) (from to : S) → Each One (replicate n kind) bytes values from to → length bytes ≡ n
  ones_long One kind one zero bytes values from to h = ap length h.0
  ones_long One kind one (suc n) bytes values from to h =
      ap length h.6 ∙ length-append h.2 h.3 ∙ omega (arith, one h.2 h.0 from h.4 h.7, ones_long One kind one n h.3 h.1 h.4 to h.8)

  one_size : (n : Option ℕ) → is_one n ≡ true → n ≡ Some 1
  one_size None e = absurd cc
  one_size (Some n) e = ap Some (eqb-true n 1 e)

  fixed_one : (found : Option Measure) (n : ℕ) → measured found (λ m. cond m.is_fixed (Some m.smallest) None) ≡ Some n → (m : Measure) × (found ≡ Some m) × (m.is_fixed ≡ true) × (m.smallest ≡ n)
  fixed_one None n e = absurd cc
  fixed_one (Some m) n e = by_test m.is_fixed refl e
    where
      by_test : (b : Bool) → m.is_fixed ≡ b → cond b (Some m.smallest) None ≡ Some n → (x : Measure) × (Some m ≡ Some x) × (x.is_fixed ≡ true) × (x.smallest ≡ n)
      by_test true f e = (m, refl, f, some_is (λ k. m.smallest ≡ k) m.smallest n e refl)
      by_test false f e = absurd cc

  abbrev of_row : Option SeqDecl → Bool
  of_row row = elim row [ None ↦ false | Some q ↦ is_one (fixed_size t q.element) ]

  row_is : (row : Option SeqDecl) (q : SeqDecl) → row ≡ Some q → of_row row ≡ is_one (fixed_size t q.element)
  row_is row q e = rw e refl

  -- it begins with a size, and has just as many bytes behind it
  abbrev pub CountsItself : {A : Type 0} → Speller S A → Type 0
  CountsItself {A} Spells = (bytes : List ℕ) (v : A) (from to : S) → Spells bytes v from to → (front body : List ℕ) × (bytes ≡ front ++ body) × SpellsSize front (length body)

  pub itself_counted : (levels : ℕ) (kind : TypeRef) → counts_itself t kind ≡ true → CountsItself (SpellsValue port t levels kind)
  itself_counted zero kind own bytes v from to h = absurd h
  itself_counted (suc levels) kinds.Bool own bytes v from to h = absurd cc
  itself_counted (suc levels) kinds.Byte own bytes v from to h = absurd cc
  itself_counted (suc levels) kinds.Short own bytes v from to h = absurd cc
  itself_counted (suc levels) kinds.Int own bytes v from to h = absurd cc
  itself_counted (suc levels) kinds.Long own bytes v from to h = absurd cc
  itself_counted (suc levels) kinds.Text own bytes v from to h = (h.2.0.0, h.0, h.2.0.3, h.2.0.1)
  itself_counted (suc levels) (kinds.Seq at) own bytes v from to h =
      let q = h.0 in
      let parts = h.2.2 in
      let size : fixed_size t q.element ≡ Some 1 = one_size (fixed_size t q.element) (sym (row_is (slice_get t.seqs at) q h.1) ∙ own) in
      let m = fixed_one (measure t 100 q.element) 1 size in
      let long = ones_long (SpellsValue port t levels) q.element (λ b w u s k. value_fixed 100 levels q.element m.0 b w u s m.1 m.2 k ∙ m.3) parts.0 parts.2 h.2.0 from to parts.5 in
      (parts.1, parts.2, parts.3, subst (λ (n : ℕ). SpellsSize parts.1 n) (sym long) parts.4)
  itself_counted (suc levels) (kinds.Dict at) own bytes v from to h = absurd cc
  itself_counted (suc levels) (kinds.Struct at) own bytes v from to h = absurd cc
  itself_counted (suc levels) (kinds.Enum at) own bytes v from to h = absurd cc
  itself_counted (suc levels) (kinds.Proxy at) own bytes v from to h = absurd cc
  itself_counted (suc levels) (kinds.Class at) own bytes v from to h = absurd cc

  -- ---- no state changes

  members_still : (One : TypeRef → Speller S Tree) (of : TypeRef → Option Measure)
      → ((kind : TypeRef) (m : Measure) (bytes : List ℕ) (v : Tree) (from to : S) → of kind ≡ Some m → m.is_fixed ≡ true → One kind bytes v from to → to ≡ from)
      → (ms : List Member) (m : Measure) (bytes : List ℕ) (values : Trees) (from to : S) → measure_members of ms ≡ Some m → m.is_fixed ≡ true → Each One (map (λ d. d.kind) ms) bytes values from to → to ≡ from
  members_still One of one [] m bytes values from to e f h = h.2
  members_still One of one (d ∷ ds) m bytes values from to e f h =
      found_by (of d.kind) (λ first. measured (measure_members of ds) (λ others. Some (with_member first others))) m e λ first first_is rest.
      found_by (measure_members of ds) (λ others. Some (with_member first others)) m rest λ others others_is last.
      let fixed : (first.is_fixed && others.is_fixed) ≡ true = some_is (λ y. y.is_fixed ≡ true → (first.is_fixed && others.is_fixed) ≡ true) (with_member first others) m last (λ g. g) f in
      let parts = both first.is_fixed others.is_fixed fixed in
      members_still One of one ds others h.3 h.1 h.4 to others_is parts.1 h.8 ∙ one d.kind first h.2 h.0 from h.4 first_is parts.0 h.7

  pub value_still : (levels other : ℕ) (kind : TypeRef) (m : Measure) (bytes : List ℕ) (v : Tree) (from to : S) → measure t levels kind ≡ Some m → m.is_fixed ≡ true → SpellsValue port t other kind bytes v from to → to ≡ from
  unfolding measure
  value_still zero other kind m bytes v from to e f h = absurd cc
  value_still (suc levels) zero kind m bytes v from to e f h = absurd h
  value_still (suc levels) (suc other) kinds.Bool m bytes v from to e f h = h.2.1
  value_still (suc levels) (suc other) kinds.Byte m bytes v from to e f h = h.2.1
  value_still (suc levels) (suc other) kinds.Short m bytes v from to e f h = h.2.1
  value_still (suc levels) (suc other) kinds.Int m bytes v from to e f h = h.2.1
  value_still (suc levels) (suc other) kinds.Long m bytes v from to e f h = h.2.1
  value_still (suc levels) (suc other) kinds.Text m bytes v from to e f h = h.2.1
  value_still (suc levels) (suc other) (kinds.Enum at) m bytes v from to e f h = h.2.2.1
  value_still (suc levels) (suc other) (kinds.Proxy at) m bytes v from to e f h = h.2.1
  value_still (suc levels) (suc other) (kinds.Class None) m bytes v from to e f h = open_measure null m e refl f
  value_still (suc levels) (suc other) (kinds.Class (Some at)) m bytes v from to e f h =
      found_by (slice_get t.classes at) (λ _. Some null) m e λ d d_is last. open_measure null m last refl f
  value_still (suc levels) (suc other) (kinds.Seq at) m bytes v from to e f h =
      found_by (slice_get t.seqs at) (λ q. sequence_of (measure t levels q.element)) m e λ q q_is parts.
      found_by (measure t levels q.element) (λ x. Some (container (suc x.depth) x.is_built)) m parts λ x x_is last.
      open_measure (container (suc x.depth) x.is_built) m last refl f
  value_still (suc zero) (suc other) (kinds.Dict at) m bytes v from to e f h = absurd cc
  value_still (suc (suc levels)) (suc other) (kinds.Dict at) m bytes v from to e f h =
      found_by (slice_get t.dicts at) (λ d. dictionary_of (measure t levels d.key) (measure t levels d.value)) m e λ d d_is parts.
      found_by (measure t levels d.key) (λ k. measured (measure t levels d.value) (λ w. Some (container (suc (suc (max k.depth w.depth))) (k.is_built && w.is_built)))) m parts λ k k_is more.
      found_by (measure t levels d.value) (λ w. Some (container (suc (suc (max k.depth w.depth))) (k.is_built && w.is_built))) m more λ w w_is last.
      open_measure (container (suc (suc (max k.depth w.depth))) (k.is_built && w.is_built)) m last refl f
  value_still (suc levels) (suc other) (kinds.Struct at) m bytes v from to e f h =
      found_by (slice_get t.structs at) (λ d. struct_of (measure_members (measure t levels) d.members)) m e λ d d_is parts.
      found_by (measure_members (measure t levels) d.members) (λ x. Some (structure x)) m parts λ x x_is last.
      let same : d ≡ h.0 = some_is (λ y. d ≡ y) d h.0 (sym d_is ∙ h.1) refl in
      let found : measure_members (measure t levels) h.0.members ≡ Some x = subst (λ (y : StructDecl). measure_members (measure t levels) y.members ≡ Some x) same x_is in
      let fixed : x.is_fixed ≡ true = some_is (λ y. y.is_fixed ≡ true → x.is_fixed ≡ true) (structure x) m last (λ g. g) f in
      members_still (SpellsValue port t other) (measure t levels) (value_still levels other) h.0.members x bytes h.2.0 from to found fixed h.2.2

  -- a type of one length
  pub fixed_still : (levels : ℕ) (kind : TypeRef) (bytes : List ℕ) (v : Tree) (from to : S) → is_some (fixed_size t kind) ≡ true → SpellsValue port t levels kind bytes v from to → to ≡ from
  fixed_still levels kind bytes v from to e h = by_size (fixed_size t kind) refl e
    where
      by_size : (o : Option ℕ) → fixed_size t kind ≡ o → is_some o ≡ true → to ≡ from
      by_size None is e = absurd cc
      by_size (Some n) is e = let m = fixed_one (measure t 100 kind) n is in value_still 100 levels kind m.0 bytes v from to m.1 m.2 h

  pub each_still : (levels : ℕ) (kind : TypeRef) → is_some (fixed_size t kind) ≡ true → (n : ℕ) (bytes : List ℕ) (values : Trees) (from to : S) → Each (SpellsValue port t levels) (replicate n kind) bytes values from to → to ≡ from
  each_still levels kind e zero bytes values from to h = h.2
  each_still levels kind e (suc n) bytes values from to h = each_still levels kind e n h.3 h.1 h.4 to h.8 ∙ fixed_still levels kind h.2 h.0 from h.4 e h.7

  pub pairs_still : (levels : ℕ) (key held : TypeRef) → is_some (fixed_size t key) ≡ true → is_some (fixed_size t held) ≡ true → (n : ℕ) (earlier : Entries) (bytes : List ℕ) (values : Entries) (from to : S)
      → Pairs (SpellsValue port t levels key) (SpellsValue port t levels held) n earlier bytes values from to → to ≡ from
  pairs_still levels key held e f zero earlier bytes values from to h = h.2
  pairs_still levels key held e f (suc n) earlier bytes values from to (k, v, a, b, c, mid, last, parts, is_key, lacks_key, is_held, rest) =
      pairs_still levels key held e f n (insert k v earlier) c values last to rest ∙ fixed_still levels held b v mid last f is_held ∙ fixed_still levels key a k from mid e is_key
