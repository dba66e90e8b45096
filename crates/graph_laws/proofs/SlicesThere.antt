-- Slices, instances and a whole graph as the second reader sees them: the same bytes, and slices without the members that it lacks.
use Rattle.std.proofs.Common.{ℕ, zero, suc, ◌≡◌, ◌<◌, Bool, true, false, ◌&&◌, List, [], ◌∷◌, ◌++◌, length, refl, sym, ap, ◌∙◌, subst, Option, Some, None, inl, inr}
use Rattle.std.specs.Prelude.{slice_get, nat_lt}
use Rattle.ice_types.specs.declared.kind.TypeRef.{TypeRef}
use Rattle.ice_types.specs.declared.declarations.Member.{Member}
use Rattle.ice_types.specs.declared.schema.TheConstants.{MOST_DEPTH}
use Rattle.ice_types.specs.Tables.{Tables}
use Rattle.ice_types.specs.Rules.{IsSchema}
use Rattle.ice_encoding.specs.Tree.{Tree}
use Rattle.ice_encoding.specs.Port.{Port, Speller}
use Rattle.ice_encoding.specs.Spelling.{SpellsValue}
use Rattle.ice_encoding.specs.Prefixes.{prefix_of}
use Rattle.ice_encoding.specs.Optionals.{Present, kind_tagged, with_option}
use Rattle.ice_encoding.specs.OptionalMembers.{Members, with_optional}
use Rattle.ice_encoding.specs.Classes.{own_members}
use Rattle.ice_encoding.specs.Graph.{Slice, known}
use Rattle.ice_encoding.specs.Names.{renamed, renamed_each, renamed_present, renamed_members}
use Rattle.ice_encoding.specs.References.{State, met_at, with_met, with_ended, beginning, opening, in_table, entry_in, SpellsInline}
use Rattle.ice_encoding.specs.Flags.{IdForm, no_id, as_text, as_index, as_number, Flags, all_slices, Before, first}
use Rattle.ice_encoding.specs.TypeIds.{SpellsId, with_id, is_base, ends_well, before_next}
use Rattle.ice_encoding.specs.Slices.{by_table, SpellsBody, FromId, SpellsSlices, SpellsInstance}
use Rattle.ice_encoding.specs.Slices.{Behind as Others}
use Rattle.ice_encoding.specs.Instances.{instances}
use Rattle.graph_laws.proofs.TypeIds.{Spelled}
use Rattle.graph_laws.proofs.Stays.{Uses}
use Rattle.slice_compat.specs.Reading.{ReadsClass, ReadsWithin}
use Rattle.slice_compat.specs.Reached.{IsReached}
use Rattle.slice_compat.specs.Tests.{ClassPasses}
use Rattle.graph_laws.specs.PlainSlices.{any_member, StandsOpen, PlainBody, PlainSlices, PlainInstance, plain_instances}
use Rattle.graph_laws.specs.SeeingOther.{if_typed, left, left_members, SeenAs, AllSeen}
use Rattle.graph_laws.proofs.CarriedOver.{Goes, value_carried}
use Rattle.graph_laws.proofs.Options.{members_carried}
use Rattle.graph_laws.proofs.RelatedThere.{AreSome, some_one, some_grown, entries_carried, Related, each_length, related_met, related_begun, related_ended, table_carried}
use Rattle.graph_laws.proofs.Still.{value_grows, open_still, inside}
use Rattle.graph_laws.proofs.Classes.{Tied, pair_of, required_read, options_read, BeforeAs, class_there, base_there, ends_there, next_there, stands_there}

-- ---- other names

with_renamed : (f : ℕ → ℕ) (number : ℕ) (v : Tree) (o : Option TypeRef) (os : Present) → renamed_present f (with_option number (if_typed o v) os) ≡ with_option number (if_typed o (renamed f v)) (renamed_present f os)
with_renamed f number v None os = refl
with_renamed f number v (Some k) os = refl

left_renamed : (f : ℕ → ℕ) (ns : List Member) (os : Present) → renamed_present f (left ns os) ≡ left ns (renamed_present f os)
left_renamed f ns [] = refl
left_renamed f ns (o ∷ os) = with_renamed f o.0 o.1 (kind_tagged o.0 ns) (left ns os) ∙ ap (with_option o.0 (if_typed (kind_tagged o.0 ns) (renamed f o.1))) (left_renamed f ns os)

members_renamed : (f : ℕ → ℕ) (ns : List Member) (c : Members) → renamed_members f (left_members ns c) ≡ left_members ns (renamed_members f c)
members_renamed f ns c = ap (with_optional (renamed_each f c.required)) (left_renamed f ns c.optional)

module _ (t u : Tables) (here : IsSchema t) (there : IsSchema u) (root : TypeRef) (passes : (a : ℕ) → IsReached t root a → ClassPasses t u a) where
  abbrev Rel : Spelled → Spelled → Type 0
  Rel = Related t u root

  moved : (from to begin : Spelled) → to ≡ from → Rel from begin → Rel to begin
  moved from to begin e r = subst (λ (s : Spelled). Rel s begin) (sym e) r

  id_carried : (form : IdForm) → Goes Rel (SpellsId form) (SpellsId form)
  id_carried no_id bytes id from to begin h r = (begin, (h.0, h.1, refl), moved from to begin h.2 r)
  id_carried as_text bytes id from to begin h r =
      (with_id id begin, (h.0, refl), moved (with_id id from) to (with_id id begin) h.1 (record { ids = ap (λ (l : List (List ℕ)). l ++ id ∷ []) r.ids; instances = r.instances; met = r.met }))
  id_carried as_index bytes id from to begin h r = (begin, (h.0, h.1, subst (λ (l : List (List ℕ)). slice_get l h.0 ≡ Some id) (sym r.ids) h.2, refl), moved from to begin h.3 r)
  id_carried as_number bytes id from to begin h r = (begin, (h.0, h.1, h.2, refl), moved from to begin h.3 r)

  -- what is seen as something else
  abbrev Shows : {A : Type 0} → (A → A → Type 0) → Speller Spelled A → Speller Spelled A → Type 0
  Shows {A} As One Two = (bytes : List ℕ) (x : A) (from to begin : Spelled) → One bytes x from to → Rel from begin → (y : A) × (end : Spelled) × Two bytes y begin end × As x y × Rel to end

  module _ (one two : Port (State ℕ) Spelled) (refer : (a b : Option ℕ) → ReadsClass t u a b → Goes Rel (one.Spells a) (two.Spells b)) where
    body_seen : (f : Flags) (id : List ℕ) (sized : Bool) (a b : ℕ) → IsReached t root a → Tied t u here there root passes a b → Shows (SeenAs t u root) (PlainBody t u root one f sized a) (SpellsBody two u f id sized (Some b))
    body_seen f id false a b reached tied bytes x from to begin (content, is, h) r =
        let pair = pair_of t u here there root passes a b reached tied in
        let p = members_carried Rel one two t u refer (StandsOpen t u root a) (own_members t a) (own_members u b) (required_read t u here there root passes a b pair) (options_read t u here there root passes a b pair)
        (λ number kind may lost e bytes v from to begin h r. moved from to begin (open_still one t kind e (may b tied lost) bytes v from to h) r)
        f.has_optional bytes content from to begin h r in
        (known b (left_members ((own_members u b).optional) content), p.0, (left_members ((own_members u b).optional) content, refl, p.1), subst (λ (s : Slice). SeenAs t u root s (known b (left_members ((own_members u b).optional) content))) (sym is) (b, reached, tied, refl), p.2)
    body_seen f id true a b reached tied bytes x from to begin (raw, uses, c, d, parts, (front, body, cut, size, members), (table, is, h)) r =
        let pair = pair_of t u here there root passes a b reached tied in
        let ns = (own_members u b).optional in
        let m = members_carried (AreSome t u) (in_table f.has_table) (in_table f.has_table) t u (entries_carried t u f.has_table) (any_member t u root) (own_members t a) (own_members u b) (required_read t u here there root passes a b pair) (options_read t u here there root passes a b pair)
        (λ number kind may lost e bytes v from to begin h r.
        let i = inside (prefix_of t kind) (SpellsValue (in_table f.has_table) t MOST_DEPTH kind) bytes v from to h in
        let g = value_grows f.has_table t MOST_DEPTH kind i.0 v from to i.1 in
        subst (λ (s : Uses). AreSome t u s begin) (sym g.1) (some_grown t u from begin g.0 r))
        f.has_optional body raw [] uses [] members refl in
        let g = table_carried t u root one two refer f.has_table uses m.0 m.2 d table from to begin h r in (
          by_table b (left_members ns raw) table,
          g.0,
          (left_members ns raw, m.0, c, d, parts, (front, body, cut, size, m.1), (table, refl, g.1)),
          subst (λ (s : Slice). SeenAs t u root s (by_table b (left_members ns raw) table)) (sym is) (b, reached, tied, ap (known b) (members_renamed (entry_in table) ns raw)),
          g.2,
        )

    -- ---- slices

    behind_seen : (Next Other : Before → Speller Spelled (List Slice)) → ((x y : Before) → BeforeAs t u here there root passes x y → Shows (AllSeen t u root) (Next x) (Other y))
        → (last : Bool) (x y : Before) → BeforeAs t u here there root passes x y → Shows (AllSeen t u root) (Others one t Next last x) (Others two u Other last y)
    behind_seen Next Other go true x y before = λ bytes ss from to begin h r. ([], begin, (h.0, refl, refl), subst (λ (l : List Slice). AllSeen t u root l []) (sym h.1) refl, moved from to begin h.2 r)
    behind_seen Next Other go false x y before = go x y before

    slices_seen : (n : ℕ) (x y : Before) → BeforeAs t u here there root passes x y → Shows (AllSeen t u root) (PlainSlices t u root one n x) (SpellsSlices two u all_slices n y)
    slices_seen zero x y before bytes ss from to begin h r = absurd h
    slices_seen (suc n) x y before bytes ss from to begin (f, a, b, mid, parts, ((byte, a_is, f_is, stands), still), (id, c, d, next, cut, is_id, (own, named, reached, base, ends, (slice, g, h, end, pieces, body, (others, is, rest))))) r =
        let k = class_there t u here there root passes x y before id own named reached in
        let pair = pair_of t u here there root passes own k.0 reached k.2 in
        let i = id_carried f.id c id mid next begin is_id (moved from mid begin still r) in
        let p = body_seen f id f.has_size own k.0 reached k.2 g slice next end i.0 body i.2 in
        let then = next_there t u here there root passes f own k.0 pair in
        let left_over : Others one t (PlainSlices t u root one n) f.is_last (before_next t (Some own) f) h others end to = subst (λ (o : Option ℕ). Others one t (PlainSlices t u root one n) f.is_last (before_next t o f) h others end to) named rest in
        let q = behind_seen (PlainSlices t u root one n) (SpellsSlices two u all_slices n) (slices_seen n) f.is_last (before_next t (Some own) f) (before_next u (Some k.0) f) then h others end to p.1 left_over p.4 in (
          p.0 ∷ q.0,
          q.1,
          (
            f,
            a,
            b,
            begin,
            parts,
            ((byte, a_is, f_is, subst (λ (z : Bool). (nat_lt byte 64 && z) ≡ true) (stands_there t u here there root passes x y before f) stands), refl),
            (
              id,
              c,
              d,
              i.0,
              cut,
              i.1,
              subst (λ (o : Option ℕ). FromId two u all_slices (Others two u (SpellsSlices two u all_slices n) f.is_last (before_next u o f)) (ends_well u o f) y f id o d (p.0 ∷ q.0) i.0 q.1) (sym k.1) (
                base_there t u here there root passes x y before own k.0 k.2 (subst (λ (o : Option ℕ). is_base x o ≡ true) named base),
                (refl, (ends_there t u here there root passes f own k.0 pair (subst (λ (o : Option ℕ). ends_well t o f ≡ true) named ends), (p.0, g, h, p.1, pieces, p.2, (q.0, refl, q.2)))),
              ),
            ),
          ),
          subst (λ (l : List Slice). AllSeen t u root l (p.0 ∷ q.0)) (sym is) (p.0, q.0, refl, p.3, q.3),
          q.4,
        )

  -- ---- instances

  inline_seen : (limit : ℕ) (Slices Other : Speller Spelled (List Slice)) → Shows (AllSeen t u root) Slices Other → (a b : Option ℕ) → ReadsClass t u a b → Goes Rel (SpellsInline limit Slices a) (SpellsInline limit Other b)
  inline_seen limit Slices Other go a b tied bytes None from to begin h r = (begin, (h.0, refl), moved from to begin h.1 r)
  inline_seen limit Slices Other go a b tied bytes (Some n) from to begin (inl (ss, front, rest, end, parts, size, number, room, h, ends)) r =
      let count = each_length t u root from.instances begin.instances r.instances in
      let met : AreSome t u (met_at tt a (length from.instances) ∷ []) (met_at tt b (length begin.instances) ∷ []) =
      subst (λ (k : ℕ). AreSome t u (met_at tt a (length from.instances) ∷ []) (met_at tt b k ∷ [])) (sym count) (some_one t u a b (length from.instances) tied) in
      let start : Rel (beginning tt a from) (beginning tt b begin) = related_begun t u root _ _ (related_met t u root from begin (met_at tt a (length from.instances) ∷ []) (met_at tt b (length begin.instances) ∷ []) met r) in
      let g = go rest ss (beginning tt a from) end (beginning tt b begin) h start in (
        with_ended n g.0 g.1,
        inl (g.0, front, rest, g.1, parts, size, number ∙ sym count, room, g.2, refl),
        moved (with_ended n ss end) to (with_ended n g.0 g.1) ends (related_ended t u root n ss g.0 end g.1 g.3 g.4),
      )
  inline_seen limit Slices Other go a b tied bytes (Some n) from to begin (inr h) r =
      let count = each_length t u root from.instances begin.instances r.instances in (
        with_met (met_at tt b n ∷ []) begin,
        inr (h.0, subst (λ (k : ℕ). n < k) (sym count) h.1, refl),
        moved (with_met (met_at tt a n ∷ []) from) to (with_met (met_at tt b n ∷ []) begin) h.2 (related_met t u root from begin (met_at tt a n ∷ []) (met_at tt b n ∷ []) (some_one t u a b n tied) r),
      )

  pub instances_seen : (limit more : ℕ) (a b : Option ℕ) → ReadsClass t u a b → Goes Rel ((plain_instances t u root limit more).Spells a) ((instances u all_slices limit more).Spells b)
  instances_seen limit zero a b tied = inline_seen limit (λ bytes slices from to. ⊥) (λ bytes slices from to. ⊥) (λ bytes ss from to begin h r. absurd h) a b tied
  instances_seen limit (suc more) a b tied = inline_seen limit (PlainInstance t u root (plain_instances t u root limit more)) (SpellsInstance (instances u all_slices limit more) u all_slices)
      (λ bytes ss from to begin h r.
      let g = slices_seen (plain_instances t u root limit more) (instances u all_slices limit more) (instances_seen limit more) h.0 first first refl bytes ss from to begin h.1 r in
      (g.0, g.1, (h.0, g.2), g.3, g.4)) a b tied

  pub value_seen : (limit more levels : ℕ) (kind other : TypeRef) → ReadsWithin t u levels kind other → (bytes : List ℕ) (v : Tree) (end : Spelled) → SpellsValue (plain_instances t u root limit more) t levels kind bytes v opening end
      → (to : Spelled) × SpellsValue (instances u all_slices limit more) u levels other bytes v opening to × Related t u root end to
  value_seen limit more levels kind other tied bytes v end h =
      value_carried Rel (plain_instances t u root limit more) (instances u all_slices limit more) t u (instances_seen limit more) levels kind other tied bytes v opening end opening h (record { ids = refl; instances = refl; met = refl })
