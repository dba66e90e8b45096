-- Type ids that stood as texts are UTF-8.
use Rattle.std.proofs.Common.{ℕ, zero, suc, ◌≡◌, Bool, true, false, List, [], ◌∷◌, ◌++◌, sym, subst, Option, Some, None, inl, inr}
use Rattle.ice_types.specs.declared.declarations.Shape.{Shape}
use Rattle.ice_types.specs.Tables.{Tables}
use Rattle.ice_prims.specs.Rest.{IsBytes}
use Rattle.ice_encoding.specs.Port.{Port, Speller}
use Rattle.ice_encoding.specs.Typed.{Refers}
use Rattle.ice_encoding.specs.OptionalMembers.{Members, SpellsContent}
use Rattle.ice_encoding.specs.Classes.{own_members}
use Rattle.ice_encoding.specs.Graph.{Slice}
use Rattle.ice_encoding.specs.References.{State, Reference, SpellsEntries, SpellsTable, SpellsInline, beginning, opening}
use Rattle.ice_encoding.specs.Flags.{IdForm, no_id, as_text, as_index, as_number, Flags, Reach, Before, first}
use Rattle.ice_encoding.specs.Slices.{SpellsBody, SpellsSlices, SpellsInstance}
use Rattle.ice_encoding.specs.Slices.{Behind as Others}
use Rattle.ice_encoding.specs.TypeIds.{SpellsId}
use Rattle.ice_encoding.specs.Instances.{instances}
use Rattle.graph_laws.proofs.ClassIds.{IsText}
use Rattle.graph_laws.proofs.Carried.{Steps, slice_carried, content_carried, front_fits, rest_fits}

abbrev pub AllTexts : List (List ℕ) → Type 0
AllTexts [] = Unit {0}
AllTexts (id ∷ ids) = IsText id × AllTexts ids

all_more : (ids : List (List ℕ)) (id : List ℕ) → AllTexts ids → IsText id → AllTexts (ids ++ id ∷ [])
all_more [] id h utf8 = (utf8, tt)
all_more (i ∷ ids) id h utf8 = (h.0, all_more ids id h.1 utf8)

abbrev pub Spelled : Type 0
Spelled = State (Unit {0})

abbrev pub Texts : Spelled → Spelled → Type 0
Texts from to = AllTexts from.ids → AllTexts to.ids

abbrev text_steps : Steps Spelled
text_steps = record { Fine = λ s. Unit {0}; Step = Texts; same = λ s h. h; joined = λ a b c p q h. q (p h); back = λ a b step fine. tt }

abbrev any_reference : Refers
any_reference = record { Held = λ declared n. Unit {0}; most = 0 }

pub stay : (from to : Spelled) → to ≡ from → Texts from to
stay from to e u = subst (λ (s : Spelled). AllTexts s.ids) (sym e) u

module _ (t : Tables) (reach : Reach) where
  module _ (port : Port (State ℕ) Spelled) (port_texts : (declared n : Option ℕ) (bytes : List ℕ) (from to : Spelled) → IsBytes bytes → port.Spells declared bytes n from to → Texts from to) where
    entries_texts : (n : ℕ) (bytes : List ℕ) (names : List ℕ) (from to : Spelled) → IsBytes bytes → SpellsEntries port n bytes names from to → Texts from to
    entries_texts zero bytes names from to fits h u = stay from to h.2 u
    entries_texts (suc n) bytes names from to fits h u =
        entries_texts n h.3 h.1 h.4 to (rest_fits bytes h.2 h.3 h.6 fits) h.8 (port_texts None (Some h.0) h.2 from h.4 (front_fits bytes h.2 h.3 h.6 fits) h.7 u)

    table_texts : (tabled : Bool) (uses : List (Reference (Unit {0}))) (bytes : List ℕ) (table : List ℕ) (from to : Spelled) → IsBytes bytes → SpellsTable port tabled uses bytes table from to → Texts from to
    table_texts false uses bytes table from to fits h u = stay from to h.2 u
    table_texts true uses bytes table from to fits (n, front, body, end, parts, size, within, entries, to_is) u =
        subst (λ (s : Spelled). AllTexts s.ids) (sym to_is) (entries_texts n body table from end (rest_fits bytes front body parts fits) entries u)

    refers : (declared n : Option ℕ) (bytes : List ℕ) (from to : Spelled) → IsBytes bytes → port.Spells declared bytes n from to → Unit {0} → Texts from to × any_reference.Held declared n
    refers declared n bytes from to fits h fine = (port_texts declared n bytes from to fits h, tt)

    pub body_texts : (f : Flags) (id : List ℕ) (sized : Bool) (class : Option ℕ) (bytes : List ℕ) (s : Slice) (from to : Spelled) → IsBytes bytes → SpellsBody port t f id sized class bytes s from to → Texts from to
    body_texts f id true (Some class) bytes s from to fits (raw, uses, a, b, parts, members, (table, is, h)) u = table_texts f.has_table uses b table from to (rest_fits bytes a b parts fits) h u
    body_texts f id true None bytes s from to fits (content, a, b, mid, parts, (unknown, still), (table, is, h)) u = table_texts f.has_table [] b table mid to (rest_fits bytes a b parts fits) h (stay from mid still u)
    body_texts f id false (Some class) bytes s from to fits (content, is, h) u =
        (slice_carried port t text_steps any_reference refers f.has_optional (own_members t class) bytes content from to fits h tt).0 u
    body_texts f id false None bytes s from to fits h u = absurd h

    id_texts : (form : IdForm) (bytes id : List ℕ) (from to : Spelled) → SpellsId form bytes id from to → Texts from to
    id_texts no_id bytes id from to h u = stay from to h.2 u
    id_texts as_text bytes id from to h u = subst (λ (s : Spelled). AllTexts s.ids) (sym h.1) (all_more from.ids id u (h.0.0.2, h.0.1))
    id_texts as_index bytes id from to h u = stay from to h.3 u
    id_texts as_number bytes id from to h u = stay from to h.3 u

    behind_texts : (Next : Before → Speller Spelled (List Slice)) → ((ahead : Before) (bytes : List ℕ) (ss : List Slice) (from to : Spelled) → IsBytes bytes → Next ahead bytes ss from to → Texts from to)
        → (last : Bool) (ahead : Before) (bytes : List ℕ) (ss : List Slice) (from to : Spelled) → IsBytes bytes → Others port t Next last ahead bytes ss from to → Texts from to
    behind_texts Next next true ahead bytes ss from to fits h u = stay from to h.2 u
    behind_texts Next next false ahead bytes ss from to fits h u = next ahead bytes ss from to fits h u

    slices_texts : (n : ℕ) (ahead : Before) (bytes : List ℕ) (ss : List Slice) (from to : Spelled) → IsBytes bytes → SpellsSlices port t reach n ahead bytes ss from to → Texts from to
    slices_texts zero ahead bytes ss from to fits h u = absurd h
    slices_texts (suc n) ahead bytes ss from to fits (f, a, b, mid, parts, (flags, first_is), (id, c, d, next, cut, is_id, (base, (read, (ends, (slice, g, h, end, pieces, body, (others, is, rest))))))) u =
        let fits_d = rest_fits b c d cut (rest_fits bytes a b parts fits) in
        behind_texts (SpellsSlices port t reach n) (slices_texts n) f.is_last _ h others end to (rest_fits d g h pieces fits_d) rest
        (body_texts f id f.has_size _ g slice next end (front_fits d g h pieces fits_d) body (id_texts f.id c id mid next is_id (stay from mid first_is u)))

  inline_texts : (limit : ℕ) (Slices : Speller Spelled (List Slice)) → ((bytes : List ℕ) (ss : List Slice) (from to : Spelled) → IsBytes bytes → Slices bytes ss from to → Texts from to)
      → (declared n : Option ℕ) (bytes : List ℕ) (from to : Spelled) → IsBytes bytes → SpellsInline limit Slices declared bytes n from to → Texts from to
  inline_texts limit Slices one declared None bytes from to fits h u = stay from to h.1 u
  inline_texts limit Slices one declared (Some n) bytes from to fits (inl (ss, front, rest, end, parts, size, number, room, h, ends)) u =
      subst (λ (s : Spelled). AllTexts s.ids) (sym ends) (one rest ss (beginning tt declared from) end (rest_fits bytes front rest parts fits) h u)
  inline_texts limit Slices one declared (Some n) bytes from to fits (inr h) u = subst (λ (s : Spelled). AllTexts s.ids) (sym h.2) u

  pub instances_texts : (limit more : ℕ) (declared n : Option ℕ) (bytes : List ℕ) (from to : Spelled) → IsBytes bytes → (instances t reach limit more).Spells declared bytes n from to → Texts from to
  instances_texts limit zero declared n bytes from to fits h u = inline_texts limit (λ bytes slices from to. ⊥) (λ bytes ss from to fits h. absurd h) declared n bytes from to fits h u
  instances_texts limit (suc more) declared n bytes from to fits h u =
      inline_texts limit (SpellsInstance (instances t reach limit more) t reach) (λ bytes ss from to fits h. slices_texts (instances t reach limit more) (instances_texts limit more) h.0 first bytes ss from to fits h.1) declared n bytes from to fits h u

  pub content_texts : (limit more : ℕ) (shape : Shape) (bytes : List ℕ) (c : Members) (to : Spelled) → IsBytes bytes → SpellsContent (instances t reach limit more) t shape bytes c opening to → AllTexts to.ids
  content_texts limit more shape bytes c to fits h =
      (content_carried (instances t reach limit more) t text_steps any_reference (refers (instances t reach limit more) (instances_texts limit more)) shape bytes c opening to fits h tt).0 tt
