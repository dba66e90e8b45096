-- What is spelled without kept slices and skipped tags is a spelling.
use Rattle.std.proofs.Common.{ℕ, zero, suc, ◌≡◌, Bool, true, false, List, [], ◌∷◌, map, replicate, refl, sym, subst, Option, Some, None}
use Rattle.std.proofs.lemmas.Bool.{eq-eqb}
use Rattle.std.proofs.lemmas.List.{append-nil}
use Rattle.ice_types.specs.declared.kind.TypeRef.{TypeRef}
use Rattle.ice_types.specs.declared.kind.TypeRef.TheVariants as kinds
use Rattle.ice_types.specs.declared.declarations.Member.{Member}
use Rattle.ice_types.specs.declared.declarations.Shape.{Shape}
use Rattle.ice_types.specs.declared.schema.TheConstants.{MOST_DEPTH}
use Rattle.ice_types.specs.Tables.{Tables}
use Rattle.ice_types.specs.Formats.{optional_format}
use Rattle.ice_encoding.specs.Tree.{Tree, Entries, no_entry, none, tree}
use Rattle.ice_encoding.specs.Order.{insert}
use Rattle.ice_encoding.specs.Port.{Port, Speller}
use Rattle.ice_encoding.specs.Spelling.{Each, Pairs, SpellsValue}
use Rattle.ice_encoding.specs.Prefixes.{Prefix, no_length, own_size, as_size, as_int, prefix_of, Framed}
use Rattle.ice_encoding.specs.Optionals.{Tagged, Options, AllOptions}
use Rattle.ice_encoding.specs.OptionalMembers.{required_kinds, IfFlagged, SpellsSliceMembers}
use Rattle.ice_encoding.specs.Classes.{own_members}
use Rattle.ice_encoding.specs.Graph.{Slice, Graph}
use Rattle.ice_encoding.specs.References.{State, Reference, in_table, SpellsEntries, SpellsTable}
use Rattle.ice_encoding.specs.Flags.{Flags, all_slices, Before, first}
use Rattle.ice_encoding.specs.TypeIds.{is_base, ends_well, before_next}
use Rattle.ice_encoding.specs.Slices.{SpellsBody, FromId, SpellsSlices, SpellsInstance}
use Rattle.ice_encoding.specs.Slices.{Behind as Others}
use Rattle.ice_encoding.specs.Instances.{instances, most_instances, SpellsGraph, SpellsNumbered}
use Rattle.graph_laws.proofs.TypeIds.{Spelled}
use Rattle.graph_laws.proofs.Weaker.{Goes, inline_goes}
use Rattle.graph_laws.specs.PlainSlices.{any_member, StandsOpen, KnownOptions, KnownIfFlagged, KnownMembers, PlainBody, PlainSlices, PlainInstance, plain_instances, SpellsPlainGraph, SpellsPlainNumbered}
use Rattle.graph_laws.specs.ReadingThere.{alone}

module _ {R S : Type 0} (port other : Port R S) (t : Tables) (refers : (declared : Option ℕ) → Goes (port.Spells declared) (other.Spells declared)) where
  each_goes : (One Two : TypeRef → Speller S Tree) → ((kind : TypeRef) → Goes (One kind) (Two kind)) → (ks : List TypeRef) → Goes (Each One ks) (Each Two ks)
  each_goes One Two one [] bytes vs from to h = h
  each_goes One Two one (kind ∷ ks) bytes vs from to h = (h.0, h.1, h.2, h.3, h.4, h.5, h.6, one kind h.2 h.0 from h.4 h.7, each_goes One Two one ks h.3 h.1 h.4 to h.8)

  pairs_goes : (K H K' H' : Speller S Tree) → Goes K K' → Goes H H' → (n : ℕ) (earlier : Entries) → Goes (Pairs K H n earlier) (Pairs K' H' n earlier)
  pairs_goes K H K' H' key held zero earlier bytes ps from to h = h
  pairs_goes K H K' H' key held (suc n) earlier bytes ps from to h =
      (h.0, h.1, h.2, h.3, h.4, h.5, h.6, h.7, key h.2 h.0 from h.5 h.8, h.9, held h.3 h.1 h.5 h.6 h.10, pairs_goes K H K' H' key held n (insert h.0 h.1 earlier) h.4 ps h.6 to h.11)

  value_goes : (levels : ℕ) (kind : TypeRef) → Goes (SpellsValue port t levels kind) (SpellsValue other t levels kind)
  value_goes zero kind bytes v from to h = h
  value_goes (suc levels) kinds.Bool bytes v from to h = h
  value_goes (suc levels) kinds.Byte bytes v from to h = h
  value_goes (suc levels) kinds.Short bytes v from to h = h
  value_goes (suc levels) kinds.Int bytes v from to h = h
  value_goes (suc levels) kinds.Long bytes v from to h = h
  value_goes (suc levels) kinds.Text bytes v from to h = h
  value_goes (suc levels) (kinds.Enum at) bytes v from to h = h
  value_goes (suc levels) (kinds.Proxy at) bytes v from to h = h
  value_goes (suc levels) (kinds.Class declared) bytes v from to h = (h.0, h.1, refers declared bytes h.0 from to h.2)
  value_goes (suc levels) (kinds.Seq at) bytes v from to (q, row, (items, is, (n, front, body, parts, size, each))) =
      (q, row, (items, is, (n, front, body, parts, size, each_goes (SpellsValue port t levels) (SpellsValue other t levels) (value_goes levels) (replicate n q.element) body items from to each)))
  value_goes (suc levels) (kinds.Dict at) bytes v from to (d, row, (pairs, is, (n, front, body, parts, size, some))) =
      (d, row, (pairs, is, (n, front, body, parts, size, pairs_goes (SpellsValue port t levels d.key) (SpellsValue port t levels d.value) (SpellsValue other t levels d.key) (SpellsValue other t levels d.value) (value_goes levels d.key) (value_goes levels d.value) n no_entry body pairs from to some)))
  value_goes (suc levels) (kinds.Struct at) bytes v from to (d, row, (members, is, each)) =
      (d, row, (members, is, each_goes (SpellsValue port t levels) (SpellsValue other t levels) (value_goes levels) (map (λ m. m.kind) d.members) bytes members from to each))

  framed_goes : (prefix : Prefix) (Spells Others : Speller S Tree) → Goes Spells Others → Goes (Framed prefix Spells) (Framed prefix Others)
  framed_goes no_length Spells Others one = one
  framed_goes own_size Spells Others one = one
  framed_goes as_size Spells Others one = λ bytes v from to h. (h.0, h.1, h.2, h.3, one h.1 v from to h.4)
  framed_goes as_int Spells Others one = λ bytes v from to h. (h.0, h.1, h.2, h.3, one h.1 v from to h.4)

  options_sound : (May : ℕ → TypeRef → Type 0) (marked : Bool) (members : List Member) (n : ℕ) (last : Option ℕ) → Goes (KnownOptions port t May marked members n last) (Options other t marked members n last)
  options_sound May marked members zero last bytes os from to h = h
  options_sound May marked members (suc n) last bytes os from to (number, format, kind, v, others, lead, a, b, mid, parts, is_tag, rise, here, may, is_format, is_value, is_list, rest) = (
    number,
    format,
    Some v,
    others,
    lead,
    a,
    b,
    mid,
    parts,
    is_tag,
    rise,
    subst (λ (o : Option TypeRef). Tagged other t o format a (Some v) from mid) (sym here)
        (eq-eqb format (optional_format t kind) is_format, (v, refl, framed_goes (prefix_of t kind) (SpellsValue port t MOST_DEPTH kind) (SpellsValue other t MOST_DEPTH kind) (value_goes MOST_DEPTH kind) a v from mid is_value)),
    is_list,
    options_sound May marked members n (Some number) b others mid to rest,
  )

  flagged_sound : (May : ℕ → TypeRef → Type 0) (flagged : Bool) (members : List Member) → Goes (KnownIfFlagged port t May flagged members) (IfFlagged other t flagged (AllOptions other t true members))
  flagged_sound May true members = λ bytes os from to h. (h.0, options_sound May true members h.0 None bytes os from to h.1)
  flagged_sound May false members = λ bytes os from to h. h

  members_sound : (May : ℕ → TypeRef → Type 0) (flagged : Bool) (shape : Shape) → Goes (KnownMembers port t May flagged shape) (SpellsSliceMembers other t flagged shape)
  members_sound May flagged shape bytes c from to (required, a, b, mid, parts, each, (optional, is, h)) =
      (required, a, b, mid, parts, each_goes (SpellsValue port t MOST_DEPTH) (SpellsValue other t MOST_DEPTH) (value_goes MOST_DEPTH) (required_kinds shape) a required from mid each, (optional, is, flagged_sound May flagged shape.optional b optional mid to h))

module _ (t u : Tables) (root : TypeRef) where
  module _ (port other : Port (State ℕ) Spelled) (refers : (declared : Option ℕ) → Goes (port.Spells declared) (other.Spells declared)) where
    entries_go : (n : ℕ) → Goes (SpellsEntries port n) (SpellsEntries other n)
    entries_go zero bytes names from to h = h
    entries_go (suc n) bytes names from to h = (h.0, h.1, h.2, h.3, h.4, h.5, h.6, refers None h.2 (Some h.0) from h.4 h.7, entries_go n h.3 h.1 h.4 to h.8)

    table_goes : (tabled : Bool) (uses : List (Reference (Unit {0}))) → Goes (SpellsTable port tabled uses) (SpellsTable other tabled uses)
    table_goes false uses bytes table from to h = h
    table_goes true uses bytes table from to h = (h.0, h.1, h.2, h.3, h.4, h.5, h.6, entries_go h.0 h.2 table from h.3 h.7, h.8)

    body_sound : (f : Flags) (id : List ℕ) (sized : Bool) (class : ℕ) → Goes (PlainBody t u root port f sized class) (SpellsBody other t f id sized (Some class))
    body_sound f id true class bytes s from to (raw, uses, a, b, parts, (front, body, cut, size, members), (table, is, h)) =
        (raw, uses, a, b, parts, (front, body, cut, size, members_sound (in_table f.has_table) (in_table f.has_table) t (λ declared bytes v from to h. h) (any_member t u root) f.has_optional (own_members t class) body raw [] uses members), (table, is, table_goes f.has_table uses b table from to h))
    body_sound f id false class bytes s from to (content, is, h) = (content, is, members_sound port other t refers (StandsOpen t u root class) f.has_optional (own_members t class) bytes content from to h)

    behind_sound : (Next Next' : Before → Speller Spelled (List Slice)) → ((ahead : Before) → Goes (Next ahead) (Next' ahead)) → (last : Bool) (ahead : Before) → Goes (Others port t Next last ahead) (Others other t Next' last ahead)
    behind_sound Next Next' next true ahead bytes ss from to h = h
    behind_sound Next Next' next false ahead bytes ss from to h = next ahead bytes ss from to h

    slices_sound : (n : ℕ) (ahead : Before) → Goes (PlainSlices t u root port n ahead) (SpellsSlices other t all_slices n ahead)
    slices_sound zero ahead bytes ss from to h = h
    slices_sound (suc n) ahead bytes ss from to (f, a, b, mid, parts, flags, (id, c, d, next, cut, is_id, (own, named, reached, base, ends, (slice, g, h, end, pieces, body, (others, is, rest))))) =
        let follows = behind_sound (PlainSlices t u root port n) (SpellsSlices other t all_slices n) (slices_sound n) f.is_last (before_next t (Some own) f) h others end to
        (subst (λ (o : Option ℕ). Others port t (PlainSlices t u root port n) f.is_last (before_next t o f) h others end to) named rest) in (
          f,
          a,
          b,
          mid,
          parts,
          flags,
          (
            id,
            c,
            d,
            next,
            cut,
            is_id,
            subst (λ (o : Option ℕ). FromId other t all_slices (Others other t (SpellsSlices other t all_slices n) f.is_last (before_next t o f)) (ends_well t o f) ahead f id o d ss next to) (sym named) (
              subst (λ (o : Option ℕ). is_base ahead o ≡ true) named base,
              (refl, (subst (λ (o : Option ℕ). ends_well t o f ≡ true) named ends, (slice, g, h, end, pieces, body_sound f id f.has_size own g slice next end body, (others, is, follows)))),
            ),
          ),
        )

  instances_sound : (limit more : ℕ) (declared : Option ℕ) → Goes ((plain_instances t u root limit more).Spells declared) ((instances t all_slices limit more).Spells declared)
  instances_sound limit zero declared = inline_goes t all_slices limit (λ bytes slices from to. ⊥) (λ bytes slices from to. ⊥) (λ bytes slices from to h. h) declared
  instances_sound limit (suc more) declared =
      inline_goes t all_slices limit (PlainInstance t u root (plain_instances t u root limit more)) (SpellsInstance (instances t all_slices limit more) t all_slices)
      (λ bytes ss from to h. (h.0, slices_sound (plain_instances t u root limit more) (instances t all_slices limit more) (instances_sound limit more) h.0 first bytes ss from to h.1)) declared

graph_sound : (t u : Tables) (root : TypeRef) (bytes : List ℕ) (g : Graph) → SpellsPlainGraph t u root bytes g → SpellsGraph t all_slices (alone root) bytes g
unfolding SpellsPlainGraph SpellsGraph
graph_sound t u root bytes g (v, end, h, roots, same, fit) = (
  end,
  (
    tree v none,
    bytes,
    [],
    end,
    sym (append-nil bytes),
    (v, none, bytes, [], end, refl, sym (append-nil bytes), value_goes (plain_instances t u root most_instances most_instances) (instances t all_slices most_instances most_instances) t (instances_sound t u root most_instances most_instances) MOST_DEPTH root bytes v _ end h, (refl, refl, refl)),
    ([], roots, (0, (refl, refl, refl))),
  ),
  same,
  fit,
)

pub numbered_sound : (t u : Tables) (root : TypeRef) (bytes : List ℕ) (g : Graph) → SpellsPlainNumbered t u root bytes g → SpellsNumbered t all_slices (alone root) bytes g
numbered_sound t u root bytes g (content, is, small, h) = (content, is, small, graph_sound t u root content g h)
