-- A graph that is read from bytes can be noted.
use Rattle.std.proofs.Common.{ℕ, pos, zero, suc, ◌+◌, ◌≡◌, Bool, true, false, List, [], ◌∷◌, ◌++◌, length, refl, sym, subst, Option, Some, None, inl, inr}
use Rattle.std.specs.Int.{w32}
use Rattle.ice_types.specs.declared.declarations.Shape.{Shape}
use Rattle.ice_types.specs.Tables.{Tables}
use Rattle.ice_prims.specs.Rest.{IsBytes}
use Rattle.ice_prims.specs.Bytes.{signed_bytes}
use Rattle.ice_encoding.specs.declared.limits.TheConstants.{SMALLEST}
use Rattle.ice_encoding.specs.Port.{Port, Speller}
use Rattle.ice_encoding.specs.OptionalMembers.{Members, SpellsSliceMembers, SpellsContent}
use Rattle.ice_encoding.specs.Classes.{own_members}
use Rattle.ice_encoding.specs.Graph.{Slice, Graph}
use Rattle.ice_encoding.specs.References.{State, Reference, in_table, entry_in, SpellsEntries, SpellsTable, SpellsInline, replaced, beginning, opening}
use Rattle.ice_encoding.specs.Flags.{IdForm, no_id, as_text, as_index, as_number, Flags, Reach, Before, first}
use Rattle.ice_encoding.specs.Slices.{SpellsBody, SpellsSlices, SpellsInstance}
use Rattle.ice_encoding.specs.Slices.{Behind as Others}
use Rattle.ice_encoding.specs.TypeIds.{SpellsId, class_in, before_next}
use Rattle.ice_encoding.specs.Instances.{instances, slices_of, most_instances, SpellsGraph, SpellsNumbered}
use Rattle.graph_json.specs.Contents.{ContentIsShort}
use Rattle.graph_json.specs.Typed.{SliceNotable, InstanceNotable, IsNotable}
use Rattle.graph_json.proofs.Notable.{members_renamed}
use Rattle.graph_json.proofs.ShortValues.{Few, front_few, rest_few, Keeping, slice_short, content_short}

abbrev EachNotable : List (List Slice) → Type 0
EachNotable [] = Unit {0}
EachNotable (ss ∷ is) = InstanceNotable ss × EachNotable is

one_begun : (is : List (List Slice)) → EachNotable is → EachNotable (is ++ [] ∷ [])
one_begun [] h = (tt, tt)
one_begun (ss ∷ is) h = (h.0, one_begun is h.1)

one_ended : (n : ℕ) (ss : List Slice) (is : List (List Slice)) → InstanceNotable ss → EachNotable is → EachNotable (replaced n ss is)
one_ended n ss [] one h = h
one_ended zero ss (x ∷ is) one h = (one, h.1)
one_ended (suc n) ss (x ∷ is) one h = (h.0, one_ended n ss is one h.1)

notable_at : (is : List (List Slice)) (n : ℕ) → EachNotable is → InstanceNotable (slices_of is n)
notable_at [] n h = tt
notable_at (ss ∷ is) zero h = h.0
notable_at (ss ∷ is) (suc n) h = notable_at is n h.1

-- ---- what is spelled

abbrev Spelled : Type 0
Spelled = State (Unit {0})

abbrev Good : Spelled → Type 0
Good s = EachNotable s.instances

abbrev Keeps : Spelled → Spelled → Type 0
Keeps from to = Good from → Good to

stay : (from to : Spelled) → to ≡ from → Keeps from to
stay from to e u = subst Good (sym e) u

id_keeps : (form : IdForm) (bytes id : List ℕ) (from to : Spelled) → SpellsId form bytes id from to → Keeps from to
id_keeps no_id bytes id from to h = stay from to h.2
id_keeps as_text bytes id from to h = λ u. subst Good (sym h.1) u
id_keeps as_index bytes id from to h = stay from to h.3
id_keeps as_number bytes id from to h = stay from to h.3

abbrev notable_keeping : Keeping Spelled
notable_keeping = record { Keeps = Keeps; same = λ s h. h; joined = λ a b c p q h. q (p h) }

-- of places in a table nothing is asked
abbrev Uses : Type 0
Uses = List (Reference (Unit {0}))

abbrev any_uses : Keeping Uses
any_uses = record { Keeps = λ from to. Unit {0}; same = λ s. tt; joined = λ a b c p q. tt }

module _ (t : Tables) (reach : Reach) where
  placed_short : (tabled flagged : Bool) (shape : Shape) (bytes : List ℕ) (raw : Members) (uses : Uses) → Few bytes → SpellsSliceMembers (in_table tabled) t flagged shape bytes raw [] uses → ContentIsShort raw
  placed_short tabled flagged shape bytes raw uses few h = (slice_short (in_table tabled) t any_uses (λ declared n b from to small is. tt) flagged shape bytes raw [] uses few h).1

  module _ (port : Port (State ℕ) Spelled) (port_keeps : (declared n : Option ℕ) (bytes : List ℕ) (from to : Spelled) → Few bytes → port.Spells declared bytes n from to → Keeps from to) where
    entries_keep : (n : ℕ) (bytes : List ℕ) (names : List ℕ) (from to : Spelled) → Few bytes → SpellsEntries port n bytes names from to → Keeps from to
    entries_keep zero bytes names from to few h u = stay from to h.2 u
    entries_keep (suc n) bytes names from to few h u =
        entries_keep n h.3 h.1 h.4 to (rest_few bytes h.2 h.3 h.6 few) h.8 (port_keeps None (Some h.0) h.2 from h.4 (front_few bytes h.2 h.3 h.6 few) h.7 u)

    table_keeps : (tabled : Bool) (uses : Uses) (bytes : List ℕ) (table : List ℕ) (from to : Spelled) → Few bytes → SpellsTable port tabled uses bytes table from to → Keeps from to
    table_keeps false uses bytes table from to few h u = stay from to h.2 u
    table_keeps true uses bytes table from to few (n, front, body, end, parts, size, within, entries, to_is) u =
        subst Good (sym to_is) (entries_keep n body table from end (rest_few bytes front body parts few) entries u)

    body_keeps : (f : Flags) (id : List ℕ) (sized : Bool) (class : Option ℕ) (bytes : List ℕ) (s : Slice) (from to : Spelled) → Few bytes → SpellsBody port t f id sized class bytes s from to → Keeps from to × SliceNotable s
    body_keeps f id true (Some class) bytes s from to few (raw, uses, a, b, parts, (front, body, cut, size, members), (table, is, h)) =
        let inner = rest_few a front body cut (front_few bytes a b parts few) in
        let short = placed_short f.has_table f.has_optional (own_members t class) body raw uses inner members in
        (table_keeps f.has_table uses b table from to (rest_few bytes a b parts few) h, subst SliceNotable (sym is) (members_renamed (entry_in table) raw short))
    body_keeps f id true None bytes s from to few (content, a, b, mid, parts, (is_unknown, still), (table, is, h)) =
        (λ u. table_keeps f.has_table [] b table mid to (rest_few bytes a b parts few) h (stay from mid still u), subst SliceNotable (sym is) tt)
    body_keeps f id false (Some class) bytes s from to few (content, is, h) =
        let x = slice_short port t notable_keeping port_keeps f.has_optional (own_members t class) bytes content from to few h in
        (x.0, subst SliceNotable (sym is) x.1)
    body_keeps f id false None bytes s from to few h = absurd h

    abbrev SlicesKeep : Speller Spelled (List Slice) → Type 0
    SlicesKeep Spells = (bytes : List ℕ) (ss : List Slice) (from to : Spelled) → Few bytes → Spells bytes ss from to → Good from → Good to × InstanceNotable ss

    behind_keeps : (Next : Before → Speller Spelled (List Slice)) → ((ahead : Before) → SlicesKeep (Next ahead)) → (last : Bool) (ahead : Before) → SlicesKeep (Others port t Next last ahead)
    behind_keeps Next next true ahead bytes ss from to few h u = (stay from to h.2 u, subst InstanceNotable (sym h.1) tt)
    behind_keeps Next next false ahead bytes ss from to few h u = next ahead bytes ss from to few h u

    slices_keep : (n : ℕ) (ahead : Before) → SlicesKeep (SpellsSlices port t reach n ahead)
    slices_keep zero ahead bytes ss from to few h u = absurd h
    slices_keep (suc n) ahead bytes ss from to few (f, a, b, mid, parts, (flags, first_is), (id, c, d, next, cut, is_id, (base, (read, (ends, (slice, g, h, end, pieces, body, (others, is, rest))))))) u =
        let class = class_in t ahead id in
        let few_d = rest_few b c d cut (rest_few bytes a b parts few) in
        let head = id_keeps f.id c id mid next is_id (stay from mid first_is u) in
        let one = body_keeps f id f.has_size class g slice next end (front_few d g h pieces few_d) body in
        let more = behind_keeps (SpellsSlices port t reach n) (slices_keep n) f.is_last (before_next t class f) h others end to (rest_few d g h pieces few_d) rest (one.0 head) in
        (more.0, subst InstanceNotable (sym is) (one.1, more.1))

  inline_keeps : (limit : ℕ) (Slices : Speller Spelled (List Slice)) → ((bytes : List ℕ) (ss : List Slice) (from to : Spelled) → Few bytes → Slices bytes ss from to → Good from → Good to × InstanceNotable ss)
      → (declared n : Option ℕ) (bytes : List ℕ) (from to : Spelled) → Few bytes → SpellsInline limit Slices declared bytes n from to → Keeps from to
  inline_keeps limit Slices one declared None bytes from to few h u = stay from to h.1 u
  inline_keeps limit Slices one declared (Some n) bytes from to few (inl (ss, front, rest, end, parts, size, number, room, h, ends)) u =
      let o = one rest ss (beginning tt declared from) end (rest_few bytes front rest parts few) h (one_begun from.instances u) in
      subst Good (sym ends) (one_ended n ss end.instances o.1 o.0)
  inline_keeps limit Slices one declared (Some n) bytes from to few (inr h) u = subst Good (sym h.2) u

  instances_keep : (limit more : ℕ) (declared n : Option ℕ) (bytes : List ℕ) (from to : Spelled) → Few bytes → (instances t reach limit more).Spells declared bytes n from to → Keeps from to
  instances_keep limit zero declared n bytes from to few h u = inline_keeps limit (λ bytes slices from to. ⊥) (λ bytes ss from to few h u. absurd h) declared n bytes from to few h u
  instances_keep limit (suc more) declared n bytes from to few h u =
      inline_keeps limit (SpellsInstance (instances t reach limit more) t reach) (λ bytes ss from to few h u. slices_keep (instances t reach limit more) (instances_keep limit more) h.0 first bytes ss from to few h.1 u)
      declared n bytes from to few h u

  content_notable : (limit more : ℕ) (shape : Shape) (bytes : List ℕ) (c : Members) (to : Spelled) → Few bytes → SpellsContent (instances t reach limit more) t shape bytes c opening to → EachNotable to.instances × ContentIsShort c
  content_notable limit more shape bytes c to few h =
      let x = content_short (instances t reach limit more) t notable_keeping (instances_keep limit more) shape bytes c opening to few h in
      (x.0 tt, x.1)

module _ (t : Tables) (reach : Reach) (shape : Shape) where
  graph_notable : (bytes : List ℕ) (g : Graph) → Few bytes → SpellsGraph t reach shape bytes g → IsNotable g
  unfolding SpellsGraph
  graph_notable bytes g few (end, h, same, fit) =
      let x = content_notable t reach most_instances most_instances shape bytes g.roots end few h in
      let each = subst EachNotable same x.0 in
      record { roots = x.1; instances = λ n lt. notable_at g.instances n each }

  pub read_notable : (bytes : List ℕ) (g : Graph) → IsBytes bytes → SpellsNumbered t reach shape bytes g → IsNotable g
  read_notable bytes g fits (content, is, short, h) =
      let inside = rest_few bytes (signed_bytes w32 (pos (SMALLEST + length content))) (1 ∷ 1 ∷ content) is (record { fits = fits; small = short }) in
      graph_notable content g (rest_few (1 ∷ 1 ∷ content) (1 ∷ 1 ∷ []) content refl inside) h
