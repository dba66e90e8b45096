-- The members of a slice with a table: each place in them is within the table, so other names in the table are other names
-- in them.
use Rattle.std.proofs.Common.{ℕ, zero, suc, ◌≡◌, ◌<◌, ◌==◌, Bool, true, false, List, [], ◌∷◌, ◌++◌, length, map, replicate, refl, sym, ap, ◌∙◌, subst, Option, Some, None, arith}
use Rattle.std.specs.Prelude.{if◌then◌else◌}
use Rattle.std.specs.Ordering.{is_lt}
use Rattle.std.specs.Int.{w16, w32, w64}
use Rattle.ice_types.specs.declared.kind.TypeRef.{TypeRef}
use Rattle.ice_types.specs.declared.kind.TypeRef.TheVariants as kinds
use Rattle.ice_types.specs.declared.declarations.Member.{Member}
use Rattle.ice_types.specs.declared.declarations.Shape.{Shape}
use Rattle.ice_types.specs.declared.optional_format.TheConstants.{FORMAT_CLASS}
use Rattle.ice_types.specs.declared.schema.TheConstants.{MOST_DEPTH}
use Rattle.ice_types.specs.Tables.{Tables}
use Rattle.ice_encoding.specs.Tree.{Tree, boolean, byte, short, int, long, text, sequence, dictionary, struct, enumerator, proxy, reference, Trees, none, tree, Entries, no_entry, entry}
use Rattle.ice_encoding.specs.Order.{tree_cmp, insert}
use Rattle.ice_prims.specs.Number.{SpellsBool, SpellsByte, SpellsSigned, SpellsText}
use Rattle.ice_encoding.specs.Proxy as parts
use Rattle.ice_encoding.specs.Enum.{SpellsEnumerator}
use Rattle.ice_encoding.specs.Port.{Port, Speller}
use Rattle.ice_encoding.specs.Spelling.{Plain, Made, Each, Pairs, SpellsValue}
use Rattle.ice_encoding.specs.Prefixes.{Prefix, no_length, own_size, as_size, as_int, prefix_of, Framed}
use Rattle.ice_encoding.specs.Optionals.{Present, with_option, kind_tagged, SkippedBy, Tagged, Options, AllOptions}
use Rattle.ice_encoding.specs.OptionalMembers.{Members, required_kinds, IfFlagged, SpellsSliceMembers}
use Rattle.ice_encoding.specs.Graph.{known}
use Rattle.ice_encoding.specs.Names.{names, names_each, names_pairs, names_present, names_of, renamed, renamed_each, renamed_pairs, renamed_present, renamed_slice}
use Rattle.ice_encoding.specs.References.{Reference, met_at, in_table, entry_in, AreWithin}
use Rattle.ice_encoding.specs.Slices.{by_table}
use Rattle.graph_arena.specs.Arena.{AreBelow}
use Rattle.graph_arena.proofs.Agreeing.{below-left, below-right}
use Rattle.graph_laws.proofs.Stays.{Uses}

pub below_both : (limit : ℕ) (a b : List ℕ) → AreBelow limit a → AreBelow limit b → AreBelow limit (a ++ b)
below_both limit [] b p q = q
below_both limit (n ∷ a) b p q = (p.0, below_both limit a b p.1 q)

-- ---- each place was met

module _ (limit : ℕ) (tabled : Bool) (t : Tables) where
  abbrev port : Port (List (Reference ℕ)) Uses
  port = in_table tabled

  -- where each reference that was met is within the table, each name is
  abbrev Within : {A : Type 0} → (A → List ℕ) → Speller Uses A → Type 0
  Within {A} named Spells = (bytes : List ℕ) (x : A) (from to : Uses) → Spells bytes x from to → AreWithin limit to → AreWithin limit from × AreBelow limit (named x)

  before_within : (us : Uses) (m : Reference (Unit {0})) → AreWithin limit (us ++ m ∷ []) → AreWithin limit us × (m.name < limit)
  before_within [] m h = (tt {0}, h.0)
  before_within (u ∷ us) m h = let rest = before_within us m h.1 in ((h.0, rest.0), rest.1)

  still : (from to : Uses) → to ≡ from → AreWithin limit to → AreWithin limit from
  still from to e h = subst (AreWithin limit) e h

  is_so : (v w : Tree) → v ≡ w → AreBelow limit (names w) → AreBelow limit (names v)
  is_so v w e h = subst (λ (x : Tree). AreBelow limit (names x)) (sym e) h

  each_within : (One : TypeRef → Speller Uses Tree) → ((kind : TypeRef) → Within names (One kind)) → (ks : List TypeRef) → Within names_each (Each One ks)
  each_within One one [] bytes x from to h good = (still from to h.2 good, subst (λ (l : Trees). AreBelow limit (names_each l)) (sym h.1) tt)
  each_within One one (kind ∷ ks) bytes x from to h good =
      let rest = each_within One one ks h.3 h.1 h.4 to h.8 good in
      let head = one kind h.2 h.0 from h.4 h.7 rest.0 in
      (head.0, subst (λ (l : Trees). AreBelow limit (names_each l)) (sym h.5) (below_both limit (names h.0) (names_each h.1) head.1 rest.1))

  by_order : (b : Bool) (k v l w : Tree) (ps qs : Entries) → AreBelow limit (names v) → AreBelow limit (names_pairs (entry l w ps)) → AreBelow limit (names_pairs qs)
      → AreBelow limit (names_pairs (if b then entry k v (entry l w ps) else entry l w qs))
  by_order true k v l w ps qs value before after = below_both limit (names v) (names_pairs (entry l w ps)) value before
  by_order false k v l w ps qs value before after = below_both limit (names w) (names_pairs qs) (below-left limit (names w) (names_pairs ps) before) after

  insert_within : (k v : Tree) (ps : Entries) → AreBelow limit (names v) → AreBelow limit (names_pairs ps) → AreBelow limit (names_pairs (insert k v ps))
  insert_within k v no_entry value h = below_both limit (names v) [] value tt
  insert_within k v (entry l w ps) value h = by_order (is_lt (tree_cmp k l)) k v l w ps (insert k v ps) value h (insert_within k v ps value (below-right limit (names w) (names_pairs ps) h))

  pairs_within : (Key Held : Speller Uses Tree) → Within names Key → Within names Held → (n : ℕ) (earlier : Entries) (bytes : List ℕ) (x : Entries) (from to : Uses) → Pairs Key Held n earlier bytes x from to → AreWithin limit to
      → AreWithin limit from × (AreBelow limit (names_pairs earlier) → AreBelow limit (names_pairs x))
  pairs_within Key Held key held zero earlier bytes x from to h good = (still from to h.2 good, λ e. subst (λ (l : Entries). AreBelow limit (names_pairs l)) (sym h.1) e)
  pairs_within Key Held key held (suc n) earlier bytes x from to (k, v, a, b, c, mid, last, parts, is_key, lacks_key, is_held, rest) good =
      let more = pairs_within Key Held key held n (insert k v earlier) c x last to rest good in
      let value = held b v mid last is_held more.0 in
      let head = key a k from mid is_key value.0 in
      (head.0, λ e. more.1 (insert_within k v earlier value.1 e))

  plain_within : {A : Type 0} (make : A → Tree) (Spells : List ℕ → A → Type 0) → ((x : A) → AreBelow limit (names (make x))) → Within names (Made make (Plain Spells))
  plain_within make Spells unnamed bytes v from to h good = (still from to h.2.1 good, is_so v (make h.0) h.1 (unnamed h.0))

  value_within : (levels : ℕ) (kind : TypeRef) → Within names (SpellsValue port t levels kind)
  value_within zero kind bytes v from to h good = absurd h
  value_within (suc levels) kinds.Bool bytes v from to h good = plain_within boolean SpellsBool (λ x. tt) bytes v from to h good
  value_within (suc levels) kinds.Byte bytes v from to h good = plain_within byte SpellsByte (λ x. tt) bytes v from to h good
  value_within (suc levels) kinds.Short bytes v from to h good = plain_within short (SpellsSigned w16) (λ x. tt) bytes v from to h good
  value_within (suc levels) kinds.Int bytes v from to h good = plain_within int (SpellsSigned w32) (λ x. tt) bytes v from to h good
  value_within (suc levels) kinds.Long bytes v from to h good = plain_within long (SpellsSigned w64) (λ x. tt) bytes v from to h good
  value_within (suc levels) kinds.Text bytes v from to h good = plain_within text SpellsText (λ x. tt) bytes v from to h good
  value_within (suc levels) (kinds.Enum at) bytes v from to h good = plain_within enumerator (SpellsEnumerator h.0.entries) (λ x. tt) bytes v from to h.2 good
  value_within (suc levels) (kinds.Proxy at) bytes v from to h good = plain_within proxy parts.proxy.Spells (λ x. tt) bytes v from to h good
  value_within (suc levels) (kinds.Class at) bytes v from to (None, is, h) good = (still from to h.1 good, is_so v (reference None) is tt)
  value_within (suc levels) (kinds.Class at) bytes v from to (Some n, is, h) good =
      let e = before_within from (met_at tt at n) (subst (AreWithin limit) h.2 good) in
      (e.0, is_so v (reference (Some n)) is (e.1, tt))
  value_within (suc levels) (kinds.Seq at) bytes v from to (q, row, (items, is, (n, front, body, parts, size, each))) good =
      let e = each_within (SpellsValue port t levels) (value_within levels) (replicate n q.element) body items from to each good in
      (e.0, is_so v (sequence items) is e.1)
  value_within (suc levels) (kinds.Dict at) bytes v from to (d, row, (pairs, is, (n, front, body, parts, size, some))) good =
      let e = pairs_within (SpellsValue port t levels d.key) (SpellsValue port t levels d.value) (value_within levels d.key) (value_within levels d.value) n no_entry body pairs from to some good in
      (e.0, is_so v (dictionary pairs) is (e.1 tt))
  value_within (suc levels) (kinds.Struct at) bytes v from to (d, row, (members, is, each)) good =
      let e = each_within (SpellsValue port t levels) (value_within levels) (map (λ m. m.kind) d.members) bytes members from to each good in
      (e.0, is_so v (struct members) is e.1)

  framed_within : (prefix : Prefix) (Spells : Speller Uses Tree) → Within names Spells → Within names (Framed prefix Spells)
  framed_within no_length Spells one = one
  framed_within own_size Spells one = one
  framed_within as_size Spells one = λ bytes v from to h good. one h.1 v from to h.4 good
  framed_within as_int Spells one = λ bytes v from to h good. one h.1 v from to h.4 good

  -- what a known tag keeps
  abbrev option_names : Option Tree → List ℕ
  option_names None = []
  option_names (Some v) = names v

  none_so : (o : Option Tree) → o ≡ None → AreBelow limit (option_names o)
  none_so o e = subst (λ (o : Option Tree). AreBelow limit (option_names o)) (sym e) tt

  skipped_within : (refers : Bool) (format : ℕ) → Within option_names (SkippedBy port t refers format)
  skipped_within true format bytes v from to (None, is, h) good = (still from to h.1 good, none_so v is)
  skipped_within true format bytes v from to (Some n, is, h) good = ((before_within from (met_at tt None n) (subst (AreWithin limit) h.2 good)).0, none_so v is)
  skipped_within false format bytes v from to h good = (still from to h.2 good, none_so v h.1)

  tagged_within : (kind : Option TypeRef) (format : ℕ) → Within option_names (Tagged port t kind format)
  tagged_within None format = skipped_within (format == FORMAT_CLASS) format
  tagged_within (Some kind) format = λ bytes v from to (test, (x, is, h)) good.
      let e = framed_within (prefix_of t kind) (SpellsValue port t MOST_DEPTH kind) (value_within MOST_DEPTH kind) bytes x from to h good in
      (e.0, subst (λ (o : Option Tree). AreBelow limit (option_names o)) (sym is) e.1)

  with_within : (number : ℕ) (v : Option Tree) (others : Present) → AreBelow limit (option_names v) → AreBelow limit (names_present others) → AreBelow limit (names_present (with_option number v others))
  with_within number None others p q = q
  with_within number (Some v) others p q = below_both limit (names v) (names_present others) p q

  options_within : (marked : Bool) (members : List Member) (n : ℕ) (last : Option ℕ) → Within names_present (Options port t marked members n last)
  options_within marked members zero last bytes x from to h good = (still from to h.2 good, subst (λ (l : Present). AreBelow limit (names_present l)) (sym h.1) tt)
  options_within marked members (suc n) last bytes x from to (number, format, v, others, lead, a, b, mid, parts, is_tag, rise, is_value, is_list, rest) good =
      let more = options_within marked members n (Some number) b others mid to rest good in
      let head = tagged_within (kind_tagged number members) format a v from mid is_value more.0 in
      (head.0, subst (λ (l : Present). AreBelow limit (names_present l)) (sym is_list) (with_within number v others head.1 more.1))

  flagged_within : (flagged : Bool) (members : List Member) → Within names_present (IfFlagged port t flagged (AllOptions port t true members))
  flagged_within true members = λ bytes x from to h good. options_within true members h.0 None bytes x from to h.1 good
  flagged_within false members = λ bytes x from to h good. (still from to h.2 good, subst (λ (l : Present). AreBelow limit (names_present l)) (sym h.1) tt)

  slice_within : (flagged : Bool) (shape : Shape) → Within names_of (SpellsSliceMembers port t flagged shape)
  slice_within flagged shape bytes c from to (required, a, b, mid, parts, each, (optional, is, h)) good =
      let more = flagged_within flagged shape.optional b optional mid to h good in
      let head = each_within (SpellsValue port t MOST_DEPTH) (value_within MOST_DEPTH) (required_kinds shape) a required from mid each more.0 in
      (head.0, subst (λ (l : Members). AreBelow limit (names_of l)) (sym is) (below_both limit (names_each required) (names_present optional) head.1 more.1))

-- the places in the members of a slice are within the table, where what was met is
pub places_within : (t : Tables) (tabled flagged : Bool) (shape : Shape) (bytes : List ℕ) (raw : Members) (uses : Uses) (limit : ℕ) → SpellsSliceMembers (in_table tabled) t flagged shape bytes raw [] uses → AreWithin limit uses → AreBelow limit (names_of raw)
places_within t tabled flagged shape bytes raw uses limit h within = (slice_within limit tabled t flagged shape bytes raw [] uses h within).1

-- ---- other names in a table

module _ (f : ℕ → ℕ) where
  pub entry_renamed : (table : List ℕ) (n : ℕ) → n < length table → entry_in (map f table) n ≡ f (entry_in table n)
  entry_renamed [] n lt = absurd (omega (arith, lt))
  entry_renamed (m ∷ ms) zero lt = refl
  entry_renamed (m ∷ ms) (suc n) lt = entry_renamed ms n (omega (arith, lt))

  module _ (table : List ℕ) where
    abbrev L : ℕ
    L = length table

    mutual
      twice : (v : Tree) → AreBelow L (names v) → renamed f (renamed (entry_in table) v) ≡ renamed (entry_in (map f table)) v
      twice (boolean b) h = refl
      twice (byte n) h = refl
      twice (short z) h = refl
      twice (int z) h = refl
      twice (long z) h = refl
      twice (text s) h = refl
      twice (sequence items) h = ap sequence (twice_each items h)
      twice (dictionary pairs) h = ap dictionary (twice_pairs pairs h)
      twice (struct members) h = ap struct (twice_each members h)
      twice (enumerator n) h = refl
      twice (proxy p) h = refl
      twice (reference None) h = refl
      twice (reference (Some n)) h = ap (λ (m : ℕ). reference (Some m)) (sym (entry_renamed table n h.0))

      twice_each : (vs : Trees) → AreBelow L (names_each vs) → renamed_each f (renamed_each (entry_in table) vs) ≡ renamed_each (entry_in (map f table)) vs
      twice_each none h = refl
      twice_each (tree v vs) h = ap (λ (x : Tree). tree x (renamed_each f (renamed_each (entry_in table) vs))) (twice v (below-left L (names v) (names_each vs) h))
          ∙ ap (λ (x : Trees). tree (renamed (entry_in (map f table)) v) x) (twice_each vs (below-right L (names v) (names_each vs) h))

      twice_pairs : (ps : Entries) → AreBelow L (names_pairs ps) → renamed_pairs f (renamed_pairs (entry_in table) ps) ≡ renamed_pairs (entry_in (map f table)) ps
      twice_pairs no_entry h = refl
      twice_pairs (entry k v ps) h = ap (λ (x : Tree). entry k x (renamed_pairs f (renamed_pairs (entry_in table) ps))) (twice v (below-left L (names v) (names_pairs ps) h))
          ∙ ap (λ (x : Entries). entry k (renamed (entry_in (map f table)) v) x) (twice_pairs ps (below-right L (names v) (names_pairs ps) h))

    twice_present : (os : Present) → AreBelow L (names_present os) → renamed_present f (renamed_present (entry_in table) os) ≡ renamed_present (entry_in (map f table)) os
    twice_present [] h = refl
    twice_present (o ∷ os) h = ap (λ (x : Tree). (o.0, x) ∷ renamed_present f (renamed_present (entry_in table) os)) (twice o.1 (below-left L (names o.1) (names_present os) h))
        ∙ ap (λ (x : Present). (o.0, renamed (entry_in (map f table)) o.1) ∷ x) (twice_present os (below-right L (names o.1) (names_present os) h))

    -- a reopened slice with other names is reopened by the table with those names
    pub by_table_renamed : (class : ℕ) (raw : Members) → AreBelow L (names_of raw) → renamed_slice f (by_table class raw table) ≡ by_table class raw (map f table)
    by_table_renamed class raw h =
        let required = twice_each raw.required (below-left L (names_each raw.required) (names_present raw.optional) h) in
        let optional = twice_present raw.optional (below-right L (names_each raw.required) (names_present raw.optional) h) in
        λ i. known class (record { required = required i; optional = optional i })
