-- Where known classes are read alone, every instance that was read has slices of no others.
use Rattle.std.proofs.Common.{ℕ, pos, zero, suc, ◌+◌, ◌≡◌, Bool, true, false, List, [], ◌∷◌, ◌++◌, length, refl, sym, subst, Option, Some, None, inl, inr}
use Rattle.std.specs.Int.{w32}
use Rattle.ice_types.specs.declared.declarations.Shape.{Shape}
use Rattle.ice_types.specs.Tables.{Tables}
use Rattle.ice_prims.specs.Rest.{IsBytes}
use Rattle.ice_prims.specs.Bytes.{signed_bytes}
use Rattle.ice_encoding.specs.declared.limits.TheConstants.{SMALLEST}
use Rattle.ice_encoding.specs.Port.{Port, Speller}
use Rattle.ice_encoding.specs.Typed.{Refers}
use Rattle.ice_encoding.specs.OptionalMembers.{Members, SpellsContent}
use Rattle.ice_encoding.specs.Classes.{own_members}
use Rattle.ice_encoding.specs.Graph.{Slice, known, unknown, Graph}
use Rattle.ice_encoding.specs.Names.{renamed_members}
use Rattle.ice_encoding.specs.References.{State, Reference, entry_in, SpellsEntries, SpellsTable, SpellsInline, replaced, beginning, opening}
use Rattle.ice_encoding.specs.Flags.{IdForm, no_id, as_text, as_index, as_number, Flags, known_classes, Before, first}
use Rattle.ice_encoding.specs.Slices.{SpellsBody, SpellsSlices, SpellsInstance}
use Rattle.ice_encoding.specs.Slices.{Behind as Others}
use Rattle.ice_encoding.specs.TypeIds.{SpellsId, class_in, can_be_read, before_next}
use Rattle.ice_encoding.specs.Instances.{instances, slices_of, most_instances, SpellsGraph, SpellsNumbered}
use Rattle.ice_encoding.specs.Visiting.{order}
use Rattle.ice_encoding.specs.TypedGraph.{IsInstance, RefersIn, OfType}
use Rattle.ice_encoding.specs.CanonicalGraph.{compact, IsWritable, Compact}
use Rattle.graph_laws.proofs.Carried.{Steps, slice_carried, content_carried, front_fits, rest_fits}
use Rattle.graph_laws.proofs.Formed.{Reached, listed-below}

-- each slice is of a known class
abbrev AreKnown : List Slice → Type 0
AreKnown [] = Unit {0}
AreKnown (known class content ∷ ss) = AreKnown ss
AreKnown (unknown id bytes optionals table ∷ ss) = ⊥

abbrev pub EachKnown : List (List Slice) → Type 0
EachKnown [] = Unit {0}
EachKnown (ss ∷ is) = AreKnown ss × EachKnown is

one_begun : (is : List (List Slice)) → EachKnown is → EachKnown (is ++ [] ∷ [])
one_begun [] h = (tt, tt)
one_begun (ss ∷ is) h = (h.0, one_begun is h.1)

one_ended : (n : ℕ) (ss : List Slice) (is : List (List Slice)) → AreKnown ss → EachKnown is → EachKnown (replaced n ss is)
one_ended n ss [] one h = h
one_ended zero ss (x ∷ is) one h = (one, h.1)
one_ended (suc n) ss (x ∷ is) one h = (h.0, one_ended n ss is one h.1)

known_at : (is : List (List Slice)) (n : ℕ) → EachKnown is → AreKnown (slices_of is n)
known_at [] n h = tt
known_at (ss ∷ is) zero h = h.0
known_at (ss ∷ is) (suc n) h = known_at is n h.1

-- ---- what is spelled

abbrev Spelled : Type 0
Spelled = State (Unit {0})

abbrev any_reference : Refers
any_reference = record { Held = λ declared n. Unit {0}; most = 0 }

abbrev Good : Spelled → Type 0
Good s = EachKnown s.instances

abbrev Keeps : Spelled → Spelled → Type 0
Keeps from to = Good from → Good to

abbrev known_steps : Steps Spelled
known_steps = record { Fine = λ s. Unit {0}; Step = Keeps; same = λ s h. h; joined = λ a b c p q h. q (p h); back = λ a b step fine. tt }

stay : (from to : Spelled) → to ≡ from → Keeps from to
stay from to e u = subst Good (sym e) u

id_keeps : (form : IdForm) (bytes id : List ℕ) (from to : Spelled) → SpellsId form bytes id from to → Keeps from to
id_keeps no_id bytes id from to h = stay from to h.2
id_keeps as_text bytes id from to h = λ u. subst Good (sym h.1) u
id_keeps as_index bytes id from to h = stay from to h.3
id_keeps as_number bytes id from to h = stay from to h.3

module _ (t : Tables) where
  module _ (port : Port (State ℕ) Spelled) (port_keeps : (declared n : Option ℕ) (bytes : List ℕ) (from to : Spelled) → IsBytes bytes → port.Spells declared bytes n from to → Keeps from to) where
    entries_keep : (n : ℕ) (bytes : List ℕ) (names : List ℕ) (from to : Spelled) → IsBytes bytes → SpellsEntries port n bytes names from to → Keeps from to
    entries_keep zero bytes names from to fits h u = stay from to h.2 u
    entries_keep (suc n) bytes names from to fits h u =
        entries_keep n h.3 h.1 h.4 to (rest_fits bytes h.2 h.3 h.6 fits) h.8 (port_keeps None (Some h.0) h.2 from h.4 (front_fits bytes h.2 h.3 h.6 fits) h.7 u)

    table_keeps : (tabled : Bool) (uses : List (Reference (Unit {0}))) (bytes : List ℕ) (table : List ℕ) (from to : Spelled) → IsBytes bytes → SpellsTable port tabled uses bytes table from to → Keeps from to
    table_keeps false uses bytes table from to fits h u = stay from to h.2 u
    table_keeps true uses bytes table from to fits (n, front, body, end, parts, size, within, entries, to_is) u =
        subst Good (sym to_is) (entries_keep n body table from end (rest_fits bytes front body parts fits) entries u)

    refers : (declared n : Option ℕ) (bytes : List ℕ) (from to : Spelled) → IsBytes bytes → port.Spells declared bytes n from to → Unit {0} → Keeps from to × any_reference.Held declared n
    refers declared n bytes from to fits h fine = (port_keeps declared n bytes from to fits h, tt)

    -- a slice of a known class
    abbrev IsKnown : Slice → Type 0
    IsKnown s = (class : ℕ) × (content : Members) × (s ≡ known class content)

    body_keeps : (f : Flags) (id : List ℕ) (sized : Bool) (class : Option ℕ) (bytes : List ℕ) (s : Slice) (from to : Spelled) → can_be_read known_classes class f ≡ true → IsBytes bytes → SpellsBody port t f id sized class bytes s from to → Keeps from to × IsKnown s
    body_keeps f id sized None bytes s from to read fits h = absurd cc
    body_keeps f id true (Some class) bytes s from to read fits (raw, uses, a, b, parts, members, (table, is, h)) =
        (table_keeps f.has_table uses b table from to (rest_fits bytes a b parts fits) h, (class, renamed_members (entry_in table) raw, is))
    body_keeps f id false (Some class) bytes s from to read fits (content, is, h) =
        ((slice_carried port t known_steps any_reference refers f.has_optional (own_members t class) bytes content from to fits h tt).0, (class, content, is))

    abbrev SlicesKeep : Speller Spelled (List Slice) → Type 0
    SlicesKeep Spells = (bytes : List ℕ) (ss : List Slice) (from to : Spelled) → IsBytes bytes → Spells bytes ss from to → Good from → Good to × AreKnown ss

    behind_keeps : (Next : Before → Speller Spelled (List Slice)) → ((ahead : Before) → SlicesKeep (Next ahead)) → (last : Bool) (ahead : Before) → SlicesKeep (Others port t Next last ahead)
    behind_keeps Next next true ahead bytes ss from to fits h u = (stay from to h.2 u, subst AreKnown (sym h.1) tt)
    behind_keeps Next next false ahead bytes ss from to fits h u = next ahead bytes ss from to fits h u

    with_known : (slice : Slice) (others ss : List Slice) → IsKnown slice → ss ≡ slice ∷ others → AreKnown others → AreKnown ss
    with_known slice others ss one is more = subst AreKnown (sym is) (subst (λ (s : Slice). AreKnown (s ∷ others)) (sym one.2) more)

    slices_keep : (n : ℕ) (ahead : Before) → SlicesKeep (SpellsSlices port t known_classes n ahead)
    slices_keep zero ahead bytes ss from to fits h u = absurd h
    slices_keep (suc n) ahead bytes ss from to fits (f, a, b, mid, parts, (flags, first_is), (id, c, d, next, cut, is_id, (base, (read, (ends, (slice, g, h, end, pieces, body, (others, is, rest))))))) u =
        let class = class_in t ahead id in
        let fits_d = rest_fits b c d cut (rest_fits bytes a b parts fits) in
        let head = id_keeps f.id c id mid next is_id (stay from mid first_is u) in
        let one = body_keeps f id f.has_size class g slice next end read (front_fits d g h pieces fits_d) body in
        let more = behind_keeps (SpellsSlices port t known_classes n) (slices_keep n) f.is_last (before_next t class f) h others end to (rest_fits d g h pieces fits_d) rest (one.0 head) in
        (more.0, with_known slice others ss one.1 is more.1)

  inline_keeps : (limit : ℕ) (Slices : Speller Spelled (List Slice)) → ((bytes : List ℕ) (ss : List Slice) (from to : Spelled) → IsBytes bytes → Slices bytes ss from to → Good from → Good to × AreKnown ss)
      → (declared n : Option ℕ) (bytes : List ℕ) (from to : Spelled) → IsBytes bytes → SpellsInline limit Slices declared bytes n from to → Keeps from to
  inline_keeps limit Slices one declared None bytes from to fits h u = stay from to h.1 u
  inline_keeps limit Slices one declared (Some n) bytes from to fits (inl (ss, front, rest, end, parts, size, number, room, h, ends)) u =
      let o = one rest ss (beginning tt declared from) end (rest_fits bytes front rest parts fits) h (one_begun from.instances u) in
      subst Good (sym ends) (one_ended n ss end.instances o.1 o.0)
  inline_keeps limit Slices one declared (Some n) bytes from to fits (inr h) u = subst Good (sym h.2) u

  instances_keep : (limit more : ℕ) (declared n : Option ℕ) (bytes : List ℕ) (from to : Spelled) → IsBytes bytes → (instances t known_classes limit more).Spells declared bytes n from to → Keeps from to
  instances_keep limit zero declared n bytes from to fits h u = inline_keeps limit (λ bytes slices from to. ⊥) (λ bytes ss from to fits h u. absurd h) declared n bytes from to fits h u
  instances_keep limit (suc more) declared n bytes from to fits h u =
      inline_keeps limit (SpellsInstance (instances t known_classes limit more) t known_classes) (λ bytes ss from to fits h u. slices_keep (instances t known_classes limit more) (instances_keep limit more) h.0 first bytes ss from to fits h.1 u)
      declared n bytes from to fits h u

  content_known : (limit more : ℕ) (shape : Shape) (bytes : List ℕ) (c : Members) (to : Spelled) → IsBytes bytes → SpellsContent (instances t known_classes limit more) t shape bytes c opening to → EachKnown to.instances
  content_known limit more shape bytes c to fits h =
      (content_carried (instances t known_classes limit more) t known_steps any_reference (refers (instances t known_classes limit more) (instances_keep limit more)) shape bytes c opening to fits h tt).0 tt

module _ (t : Tables) (shape : Shape) where
  graph_known : (bytes : List ℕ) (g : Graph) → IsBytes bytes → SpellsGraph t known_classes shape bytes g → EachKnown g.instances
  unfolding SpellsGraph
  graph_known bytes g fits (end, h, same, fit) = subst EachKnown same (content_known t most_instances most_instances shape bytes g.roots end fits h)

  numbered_known : (bytes : List ℕ) (g : Graph) → IsBytes bytes → SpellsNumbered t known_classes shape bytes g → EachKnown g.instances
  numbered_known bytes g fits (content, is, short, h) =
      let inside = rest_fits bytes (signed_bytes w32 (pos (SMALLEST + length content))) (1 ∷ 1 ∷ content) is fits in
      graph_known content g (rest_fits (1 ∷ 1 ∷ content) (1 ∷ 1 ∷ []) content refl inside) h

-- an instance has a slice, so the first is of a known class
compact_of : (t : Tables) (Refer : Refers) (ss : List Slice) → AreKnown ss → IsInstance t Refer ss → Compact ss
compact_of t Refer [] one is = absurd is
compact_of t Refer (known class content ∷ ss) one is = tt
compact_of t Refer (unknown id bytes optionals table ∷ ss) one is = absurd one

-- what was read so can be written in each format
pub read_compact : (t : Tables) (shape : Shape) (bytes : List ℕ) (g : Graph) → IsBytes bytes → SpellsNumbered t known_classes shape bytes g → OfType t shape g → Reached g → IsWritable compact g
read_compact t shape bytes g fits h typed reached n lt =
    let ss : List Slice = slices_of g.instances n in
    compact_of t (RefersIn t g.instances) ss (known_at g.instances n (numbered_known t shape bytes g fits h)) (typed.instances n (listed-below (length g.instances) (order g) n reached.is.below lt))
