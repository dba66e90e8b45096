-- A value in a sized slice notes more places at most, and one elsewhere that may be passed over changes nothing.
use Rattle.std.proofs.Common.{ℕ, zero, suc, ◌≡◌, ◌==◌, Bool, true, false, ◌&&◌, List, [], ◌∷◌, ◌++◌, map, replicate, refl, sym, ap, ◌∙◌, Option, Some, None}
use Rattle.std.proofs.lemmas.List.{append-nil, append_assoc}
use Rattle.ice_types.specs.declared.kind.TypeRef.{TypeRef}
use Rattle.ice_types.specs.declared.kind.TypeRef.TheVariants as kinds
use Rattle.ice_types.specs.declared.schema.TheConstants.{MOST_DEPTH}
use Rattle.ice_types.specs.declared.optional_format.TheConstants.{FORMAT_CLASS, FORMAT_FSIZE}
use Rattle.ice_types.specs.Tables.{Tables}
use Rattle.ice_types.specs.Formats.{optional_format, of_parts, is_fixed}
use Rattle.ice_encoding.specs.Tree.{Tree, Entries, no_entry}
use Rattle.ice_encoding.specs.Order.{insert}
use Rattle.ice_encoding.specs.Port.{Port, Speller}
use Rattle.ice_encoding.specs.Spelling.{Each, Pairs, SpellsValue}
use Rattle.ice_encoding.specs.Prefixes.{Prefix, no_length, own_size, as_size, as_int, prefix_of, Framed}
use Rattle.ice_encoding.specs.References.{met_at, in_table}
use Rattle.graph_laws.proofs.Stays.{Uses}
use Rattle.graph_laws.proofs.Fixed.{fixed_still, each_still, pairs_still}

-- what is framed is there
pub inside : {S : Type 0} (prefix : Prefix) (Spells : Speller S Tree) (bytes : List ℕ) (v : Tree) (from to : S) → Framed prefix Spells bytes v from to → (body : List ℕ) × Spells body v from to
inside no_length Spells bytes v from to h = (bytes, h)
inside own_size Spells bytes v from to h = (bytes, h)
inside as_size Spells bytes v from to h = (h.1, h.4)
inside as_int Spells bytes v from to h = (h.1, h.4)

-- ---- places in a table

abbrev pub Grows : Uses → Uses → Type 0
Grows from to = (more : Uses) × (to ≡ from ++ more)

grows_same : (from to : Uses) → to ≡ from → Grows from to
grows_same from to e = ([], e ∙ sym (append-nil from))

grows_on : (a b c : Uses) → Grows a b → Grows b c → Grows a c
grows_on a b c (x, p) (y, q) = (x ++ y, q ∙ ap (λ (l : Uses). l ++ y) p ∙ append_assoc a x y)

module _ (tabled : Bool) (t : Tables) where
  abbrev AllGrow : {A : Type 0} → Speller Uses A → Type 0
  AllGrow {A} Spells = (bytes : List ℕ) (x : A) (from to : Uses) → Spells bytes x from to → Grows from to

  each_grows : (One : TypeRef → Speller Uses Tree) → ((kind : TypeRef) → AllGrow (One kind)) → (ks : List TypeRef) → AllGrow (Each One ks)
  each_grows One one [] bytes x from to h = grows_same from to h.2
  each_grows One one (k ∷ ks) bytes x from to h = grows_on from h.4 to (one k h.2 h.0 from h.4 h.7) (each_grows One one ks h.3 h.1 h.4 to h.8)

  pairs_grow : (Key Held : Speller Uses Tree) → AllGrow Key → AllGrow Held → (n : ℕ) (earlier : Entries) → AllGrow (Pairs Key Held n earlier)
  pairs_grow Key Held key held zero earlier bytes x from to h = grows_same from to h.2
  pairs_grow Key Held key held (suc n) earlier bytes x from to (k, v, a, b, c, mid, last, parts, is_key, lacks_key, is_held, rest) =
      grows_on from mid to (key a k from mid is_key) (grows_on mid last to (held b v mid last is_held) (pairs_grow Key Held key held n (insert k v earlier) c x last to rest))

  refer_grows : (declared n : Option ℕ) (bytes : List ℕ) (from to : Uses) → (in_table tabled).Spells declared bytes n from to → Grows from to
  refer_grows declared None bytes from to h = grows_same from to h.1
  refer_grows declared (Some n) bytes from to h = (met_at tt declared n ∷ [], h.2)

  pub value_grows : (levels : ℕ) (kind : TypeRef) → AllGrow (SpellsValue (in_table tabled) t levels kind)
  value_grows zero kind bytes v from to h = absurd h
  value_grows (suc levels) kinds.Bool bytes v from to h = grows_same from to h.2.1
  value_grows (suc levels) kinds.Byte bytes v from to h = grows_same from to h.2.1
  value_grows (suc levels) kinds.Short bytes v from to h = grows_same from to h.2.1
  value_grows (suc levels) kinds.Int bytes v from to h = grows_same from to h.2.1
  value_grows (suc levels) kinds.Long bytes v from to h = grows_same from to h.2.1
  value_grows (suc levels) kinds.Text bytes v from to h = grows_same from to h.2.1
  value_grows (suc levels) (kinds.Enum at) bytes v from to h = grows_same from to h.2.2.1
  value_grows (suc levels) (kinds.Proxy at) bytes v from to h = grows_same from to h.2.1
  value_grows (suc levels) (kinds.Class at) bytes v from to h = refer_grows at h.0 bytes from to h.2
  value_grows (suc levels) (kinds.Seq at) bytes v from to (q, row, (items, is, (n, front, body, parts, size, each))) =
      each_grows (SpellsValue (in_table tabled) t levels) (value_grows levels) (replicate n q.element) body items from to each
  value_grows (suc levels) (kinds.Dict at) bytes v from to (d, row, (pairs, is, (n, front, body, parts, size, some))) =
      pairs_grow (SpellsValue (in_table tabled) t levels d.key) (SpellsValue (in_table tabled) t levels d.value) (value_grows levels d.key) (value_grows levels d.value) n no_entry body pairs from to some
  value_grows (suc levels) (kinds.Struct at) bytes v from to (d, row, (members, is, each)) =
      each_grows (SpellsValue (in_table tabled) t levels) (value_grows levels) (map (λ m. m.kind) d.members) bytes members from to each

-- ---- a value of neither format 6 nor 7 has no reference

by_test : {C : Type 0} (b : Bool) → (b ≡ true → C) → (b ≡ false → C) → C
by_test true fine loose = fine refl
by_test false fine loose = loose refl

both_true : (a b : Bool) → (a && b) ≡ true → (a ≡ true) × (b ≡ true)
both_true true b e = (refl, e)
both_true false b e = absurd cc

module _ {R S : Type 0} (port : Port R S) (t : Tables) where
  open_value : (levels : ℕ) (kind : TypeRef) → (optional_format t kind == FORMAT_CLASS) ≡ false → (optional_format t kind ≡ FORMAT_FSIZE → ⊥) → (bytes : List ℕ) (v : Tree) (from to : S)
      → SpellsValue port t levels kind bytes v from to → to ≡ from
  open_value zero kind e apart bytes v from to h = absurd h
  open_value (suc levels) kinds.Bool e apart bytes v from to h = h.2.1
  open_value (suc levels) kinds.Byte e apart bytes v from to h = h.2.1
  open_value (suc levels) kinds.Short e apart bytes v from to h = h.2.1
  open_value (suc levels) kinds.Int e apart bytes v from to h = h.2.1
  open_value (suc levels) kinds.Long e apart bytes v from to h = h.2.1
  open_value (suc levels) kinds.Text e apart bytes v from to h = h.2.1
  open_value (suc levels) (kinds.Enum at) e apart bytes v from to h = h.2.2.1
  open_value (suc levels) (kinds.Proxy at) e apart bytes v from to h = absurd (apart refl)
  open_value (suc levels) (kinds.Class at) e apart bytes v from to h = absurd cc
  open_value (suc levels) (kinds.Seq at) e apart bytes v from to (q, row, (items, is, (n, front, body, parts, size, each))) =
      by_test (is_fixed t q.element)
      (λ fine. each_still port t levels q.element fine n body items from to each)
      (λ loose. absurd (apart (ap (λ (o : Option _). elim o [ None ↦ FORMAT_FSIZE | Some q ↦ of_parts (is_fixed t q.element) ]) row ∙ ap of_parts loose)))
  open_value (suc levels) (kinds.Dict at) e apart bytes v from to (d, row, (pairs, is, (n, front, body, parts, size, some))) =
      by_test (is_fixed t d.key && is_fixed t d.value)
      (λ fine. let two = both_true (is_fixed t d.key) (is_fixed t d.value) fine in pairs_still port t levels d.key d.value two.0 two.1 n no_entry body pairs from to some)
      (λ loose. absurd (apart (ap (λ (o : Option _). elim o [ None ↦ FORMAT_FSIZE | Some d ↦ of_parts (is_fixed t d.key && is_fixed t d.value) ]) row ∙ ap of_parts loose)))
  open_value (suc levels) (kinds.Struct at) e apart bytes v from to h =
      by_test (is_fixed t (kinds.Struct at))
      (λ fine. fixed_still port t (suc levels) (kinds.Struct at) bytes v from to fine h)
      (λ loose. absurd (apart (ap of_parts loose)))

  pub open_still : (kind : TypeRef) → (optional_format t kind == FORMAT_CLASS) ≡ false → (optional_format t kind ≡ FORMAT_FSIZE → ⊥) → (bytes : List ℕ) (v : Tree) (from to : S)
      → Framed (prefix_of t kind) (SpellsValue port t MOST_DEPTH kind) bytes v from to → to ≡ from
  open_still kind e apart bytes v from to h = let i = inside (prefix_of t kind) (SpellsValue port t MOST_DEPTH kind) bytes v from to h in open_value MOST_DEPTH kind e apart i.0 v from to i.1
