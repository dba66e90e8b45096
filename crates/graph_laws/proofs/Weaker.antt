-- What is spelled within a reach is spelled within the whole.
use Rattle.std.proofs.Common.{ℕ, zero, suc, ◌≡◌, ◌==◌, Bool, true, false, List, [], ◌∷◌, map, replicate, refl, Option, Some, None, inl, inr}
use Rattle.ice_types.specs.declared.kind.TypeRef.{TypeRef}
use Rattle.ice_types.specs.declared.kind.TypeRef.TheVariants as kinds
use Rattle.ice_types.specs.declared.declarations.Member.{Member}
use Rattle.ice_types.specs.declared.declarations.Shape.{Shape}
use Rattle.ice_types.specs.declared.optional_format.TheConstants.{FORMAT_CLASS}
use Rattle.ice_types.specs.declared.schema.TheConstants.{MOST_DEPTH}
use Rattle.ice_types.specs.Tables.{Tables}
use Rattle.ice_encoding.specs.Tree.{Tree, Entries, no_entry}
use Rattle.ice_encoding.specs.Order.{insert}
use Rattle.ice_encoding.specs.Port.{Port, Speller}
use Rattle.ice_encoding.specs.Spelling.{Each, Pairs, SpellsValue}
use Rattle.ice_encoding.specs.Prefixes.{Prefix, no_length, own_size, as_size, as_int, prefix_of, Framed}
use Rattle.ice_encoding.specs.Optionals.{kind_tagged, SkippedBy, Tagged, Options, AllOptions}
use Rattle.ice_encoding.specs.OptionalMembers.{required_kinds, IfFlagged, SpellsSliceMembers, SpellsContent}
use Rattle.ice_encoding.specs.Classes.{own_members}
use Rattle.ice_encoding.specs.Graph.{Slice}
use Rattle.ice_encoding.specs.References.{State, Reference, SpellsEntries, SpellsTable, SpellsInline}
use Rattle.ice_encoding.specs.Flags.{Flags, Reach, all_slices, known_classes, Before, first}
use Rattle.ice_encoding.specs.TypeIds.{class_in, can_be_read, before_next}
use Rattle.ice_encoding.specs.Slices.{SpellsBody, SpellsSlices, SpellsInstance}
use Rattle.ice_encoding.specs.Slices.{Behind as Others}
use Rattle.ice_encoding.specs.Instances.{instances}
use Rattle.graph_laws.proofs.TypeIds.{Spelled}

-- what is spelled one way is spelled the other
abbrev pub Goes : {S A : Type 0} → Speller S A → Speller S A → Type 0
Goes {S} {A} Spells Others = (bytes : List ℕ) (v : A) (from to : S) → Spells bytes v from to → Others bytes v from to

module _ {R S : Type 0} (port other : Port R S) (t : Tables) (refers : (declared : Option ℕ) → Goes (port.Spells declared) (other.Spells declared)) where
  each_goes : (One Two : TypeRef → Speller S Tree) → ((kind : TypeRef) → Goes (One kind) (Two kind)) → (ks : List TypeRef) → Goes (Each One ks) (Each Two ks)
  each_goes One Two one [] bytes vs from to h = h
  each_goes One Two one (kind ∷ ks) bytes vs from to h = (h.0, h.1, h.2, h.3, h.4, h.5, h.6, one kind h.2 h.0 from h.4 h.7, each_goes One Two one ks h.3 h.1 h.4 to h.8)

  pairs_goes : (Key Held Key' Held' : Speller S Tree) → Goes Key Key' → Goes Held Held' → (n : ℕ) (earlier : Entries) → Goes (Pairs Key Held n earlier) (Pairs Key' Held' n earlier)
  pairs_goes Key Held Key' Held' key held zero earlier bytes ps from to h = h
  pairs_goes Key Held Key' Held' key held (suc n) earlier bytes ps from to h =
      (h.0, h.1, h.2, h.3, h.4, h.5, h.6, h.7, key h.2 h.0 from h.5 h.8, h.9, held h.3 h.1 h.5 h.6 h.10, pairs_goes Key Held Key' Held' key held n (insert h.0 h.1 earlier) h.4 ps h.6 to h.11)

  value_goes : (levels : ℕ) (kind : TypeRef) → Goes (SpellsValue port t levels kind) (SpellsValue other t levels kind)
  value_goes zero kind bytes v from to h = h
  value_goes (suc levels) kinds.Bool bytes v from to h = h
  value_goes (suc levels) kinds.Byte bytes v from to h = h
  value_goes (suc levels) kinds.Short bytes v from to h = h
  value_goes (suc levels) kinds.Int bytes v from to h = h
  value_goes (suc levels) kinds.Long bytes v from to h = h
  value_goes (suc levels) kinds.Text bytes v from to h = h
  value_goes (suc levels) (kinds.Enum at) bytes v from to h = h
  value_goes (suc levels) (kinds.Proxy at) bytes v from to h = h
  value_goes (suc levels) (kinds.Class declared) bytes v from to h = (h.0, h.1, refers declared bytes h.0 from to h.2)
  value_goes (suc levels) (kinds.Seq at) bytes v from to (q, row, (items, is, (n, front, body, parts, size, each))) =
      (q, row, (items, is, (n, front, body, parts, size, each_goes (SpellsValue port t levels) (SpellsValue other t levels) (value_goes levels) (replicate n q.element) body items from to each)))
  value_goes (suc levels) (kinds.Dict at) bytes v from to (d, row, (pairs, is, (n, front, body, parts, size, some))) = (
    d,
    row,
    (
      pairs,
      is,
      (
        n,
        front,
        body,
        parts,
        size,
        pairs_goes (SpellsValue port t levels d.key) (SpellsValue port t levels d.value) (SpellsValue other t levels d.key) (SpellsValue other t levels d.value)
            (value_goes levels d.key) (value_goes levels d.value) n no_entry body pairs from to some,
      ),
    ),
  )
  value_goes (suc levels) (kinds.Struct at) bytes v from to (d, row, (members, is, each)) =
      (d, row, (members, is, each_goes (SpellsValue port t levels) (SpellsValue other t levels) (value_goes levels) (map (λ m. m.kind) d.members) bytes members from to each))

  framed_goes : (prefix : Prefix) (Spells Others : Speller S Tree) → Goes Spells Others → Goes (Framed prefix Spells) (Framed prefix Others)
  framed_goes no_length Spells Others one = one
  framed_goes own_size Spells Others one = one
  framed_goes as_size Spells Others one = λ bytes v from to h. (h.0, h.1, h.2, h.3, one h.1 v from to h.4)
  framed_goes as_int Spells Others one = λ bytes v from to h. (h.0, h.1, h.2, h.3, one h.1 v from to h.4)

  skipped_goes : (reference : Bool) (format : ℕ) → Goes (SkippedBy port t reference format) (SkippedBy other t reference format)
  skipped_goes true format bytes v from to h = (h.0, h.1, refers None bytes h.0 from to h.2)
  skipped_goes false format bytes v from to h = h

  tagged_goes : (kind : Option TypeRef) (format : ℕ) → Goes (Tagged port t kind format) (Tagged other t kind format)
  tagged_goes None format = skipped_goes (format == FORMAT_CLASS) format
  tagged_goes (Some kind) format = λ bytes v from to h.
      (h.0, (h.1.0, h.1.1, framed_goes (prefix_of t kind) (SpellsValue port t MOST_DEPTH kind) (SpellsValue other t MOST_DEPTH kind) (value_goes MOST_DEPTH kind) bytes h.1.0 from to h.1.2))

  options_goes : (marked : Bool) (members : List Member) (n : ℕ) (last : Option ℕ) → Goes (Options port t marked members n last) (Options other t marked members n last)
  options_goes marked members zero last bytes os from to h = h
  options_goes marked members (suc n) last bytes os from to (number, format, v, others, lead, a, b, mid, parts, is_tag, rise, is_value, is_list, rest) =
      (number, format, v, others, lead, a, b, mid, parts, is_tag, rise, tagged_goes (kind_tagged number members) format a v from mid is_value, is_list, options_goes marked members n (Some number) b others mid to rest)

  all_goes : (marked : Bool) (members : List Member) → Goes (AllOptions port t marked members) (AllOptions other t marked members)
  all_goes marked members bytes os from to h = (h.0, options_goes marked members h.0 None bytes os from to h.1)

  flagged_goes : (flagged : Bool) (members : List Member) → Goes (IfFlagged port t flagged (AllOptions port t true members)) (IfFlagged other t flagged (AllOptions other t true members))
  flagged_goes true members = all_goes true members
  flagged_goes false members = λ bytes os from to h. h

  slice_goes : (flagged : Bool) (shape : Shape) → Goes (SpellsSliceMembers port t flagged shape) (SpellsSliceMembers other t flagged shape)
  slice_goes flagged shape bytes c from to (required, a, b, mid, parts, each, (optional, is, h)) =
      (required, a, b, mid, parts, each_goes (SpellsValue port t MOST_DEPTH) (SpellsValue other t MOST_DEPTH) (value_goes MOST_DEPTH) (required_kinds shape) a required from mid each, (optional, is, flagged_goes flagged shape.optional b optional mid to h))

  pub content_goes : (shape : Shape) → Goes (SpellsContent port t shape) (SpellsContent other t shape)
  content_goes shape bytes c from to (required, a, b, mid, parts, each, (optional, is, h)) =
      (required, a, b, mid, parts, each_goes (SpellsValue port t MOST_DEPTH) (SpellsValue other t MOST_DEPTH) (value_goes MOST_DEPTH) (required_kinds shape) a required from mid each, (optional, is, all_goes false shape.optional b optional mid to h))

-- ---- what is asked within a reach, is there within the whole

read_more : (reach : Reach) (class : Option ℕ) (f : Flags) → can_be_read reach class f ≡ true → can_be_read all_slices class f ≡ true
read_more all_slices class f h = h
read_more known_classes None f h = absurd cc
read_more known_classes (Some class) f h = refl

module _ (t : Tables) (reach : Reach) where
  module _ (port other : Port (State ℕ) Spelled) (refers : (declared : Option ℕ) → Goes (port.Spells declared) (other.Spells declared)) where
    entries_go : (n : ℕ) → Goes (SpellsEntries port n) (SpellsEntries other n)
    entries_go zero bytes names from to h = h
    entries_go (suc n) bytes names from to h = (h.0, h.1, h.2, h.3, h.4, h.5, h.6, refers None h.2 (Some h.0) from h.4 h.7, entries_go n h.3 h.1 h.4 to h.8)

    table_goes : (tabled : Bool) (uses : List (Reference (Unit {0}))) → Goes (SpellsTable port tabled uses) (SpellsTable other tabled uses)
    table_goes false uses bytes table from to h = h
    table_goes true uses bytes table from to h = (h.0, h.1, h.2, h.3, h.4, h.5, h.6, entries_go h.0 h.2 table from h.3 h.7, h.8)

    body_goes : (f : Flags) (id : List ℕ) (sized : Bool) (class : Option ℕ) → Goes (SpellsBody port t f id sized class) (SpellsBody other t f id sized class)
    body_goes f id true (Some class) bytes s from to (raw, uses, a, b, parts, members, (table, is, h)) = (raw, uses, a, b, parts, members, (table, is, table_goes f.has_table uses b table from to h))
    body_goes f id true None bytes s from to (content, a, b, mid, parts, unknown, (table, is, h)) = (content, a, b, mid, parts, unknown, (table, is, table_goes f.has_table [] b table mid to h))
    body_goes f id false (Some class) bytes s from to (content, is, h) = (content, is, slice_goes port other t refers f.has_optional (own_members t class) bytes content from to h)
    body_goes f id false None bytes s from to h = h

    behind_goes : (Next Next' : Before → Speller Spelled (List Slice)) → ((ahead : Before) → Goes (Next ahead) (Next' ahead)) → (last : Bool) (ahead : Before) → Goes (Others port t Next last ahead) (Others other t Next' last ahead)
    behind_goes Next Next' next true ahead bytes ss from to h = h
    behind_goes Next Next' next false ahead bytes ss from to h = next ahead bytes ss from to h

    pub slices_go : (n : ℕ) (ahead : Before) → Goes (SpellsSlices port t reach n ahead) (SpellsSlices other t all_slices n ahead)
    slices_go zero ahead bytes ss from to h = h
    slices_go (suc n) ahead bytes ss from to (f, a, b, mid, parts, flags, (id, c, d, next, cut, is_id, (base, (read, (ends, (slice, g, h, end, pieces, body, (others, is, rest))))))) =
        let class = class_in t ahead id in (
          f,
          a,
          b,
          mid,
          parts,
          flags,
          (
            id,
            c,
            d,
            next,
            cut,
            is_id,
            (
              base,
              (
                read_more reach class f read,
                (
                  ends,
                  (slice, g, h, end, pieces, body_goes f id f.has_size class g slice next end body, (others, is, behind_goes (SpellsSlices port t reach n) (SpellsSlices other t all_slices n) (slices_go n) f.is_last (before_next t class f) h others end to rest)),
                ),
              ),
            ),
          ),
        )

  pub inline_goes : (limit : ℕ) (Slices Slices' : Speller Spelled (List Slice)) → Goes Slices Slices' → (declared : Option ℕ) → Goes (SpellsInline limit Slices declared) (SpellsInline limit Slices' declared)
  inline_goes limit Slices Slices' one declared bytes None from to h = h
  inline_goes limit Slices Slices' one declared bytes (Some n) from to (inl (ss, front, rest, end, parts, size, number, room, h, ends)) = inl (ss, front, rest, end, parts, size, number, room, one rest ss _ end h, ends)
  inline_goes limit Slices Slices' one declared bytes (Some n) from to (inr h) = inr h

  instances_go : (limit more : ℕ) (declared : Option ℕ) → Goes ((instances t reach limit more).Spells declared) ((instances t all_slices limit more).Spells declared)
  instances_go limit zero declared = inline_goes limit (λ bytes slices from to. ⊥) (λ bytes slices from to. ⊥) (λ bytes slices from to h. h) declared
  instances_go limit (suc more) declared =
      inline_goes limit (SpellsInstance (instances t reach limit more) t reach) (SpellsInstance (instances t all_slices limit more) t all_slices)
      (λ bytes ss from to h. (h.0, slices_go (instances t reach limit more) (instances t all_slices limit more) (instances_go limit more) h.0 first bytes ss from to h.1)) declared

  pub content_weaker : (limit more : ℕ) (shape : Shape) → Goes (SpellsContent (instances t reach limit more) t shape) (SpellsContent (instances t all_slices limit more) t shape)
  content_weaker limit more shape = content_goes (instances t reach limit more) (instances t all_slices limit more) t (instances_go limit more) shape
