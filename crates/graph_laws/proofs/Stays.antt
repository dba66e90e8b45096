-- What is spelled goes on from what was there: no instance that had begun changes, but those that are open end, and no
-- reference that was met is lost.
use Rattle.std.proofs.Common.{ℕ, zero, suc, ◌+◌, ◌≡◌, ◌<◌, ◌≤◌, ◌⊎◌, Bool, true, false, List, [], ◌∷◌, ◌++◌, length, refl, sym, ap, ◌∙◌, subst, Option, Some, None, inl, inr, arith}
use Rattle.std.proofs.lemmas.Bool.{cases_lt}
use Rattle.std.proofs.lemmas.List.{length-append, append_assoc, append-nil, get_or_append_left}
use Rattle.ice_types.specs.Tables.{Tables}
use Rattle.ice_encoding.specs.Port.{Port, Speller}
use Rattle.ice_encoding.specs.Classes.{own_members}
use Rattle.ice_encoding.specs.Graph.{Slice}
use Rattle.ice_encoding.specs.References.{State, Reference, met_at, replaced, resolved, with_met, beginning, SpellsEntries, SpellsTable, SpellsInline}
use Rattle.ice_encoding.specs.Flags.{IdForm, no_id, as_text, as_index, as_number, Flags, all_slices, Before, first}
use Rattle.ice_encoding.specs.TypeIds.{SpellsId}
use Rattle.ice_encoding.specs.Slices.{SpellsBody, SpellsSlices, SpellsInstance}
use Rattle.ice_encoding.specs.Slices.{Behind as Others}
use Rattle.ice_encoding.specs.Instances.{slices_of, instances, AllFit}
use Rattle.graph_laws.proofs.TypeIds.{Spelled}
use Rattle.graph_laws.proofs.WrittenGraphs.{replaced_length, replaced_else}
use Rattle.graph_laws.specs.Sized.{starts_sized, sized_instances}
use Rattle.graph_laws.specs.Readable.{CanBeRead, readable_instances}
use Rattle.graph_laws.proofs.Rows.{Agrees}
use Rattle.graph_laws.proofs.Keeping.{members_keep, own_itself}

abbrev pub Uses : Type 0
Uses = List (Reference (Unit {0}))

-- ---- lists of instances

pub past_end : (is : List (List Slice)) (n : ℕ) → length is ≤ n → slices_of is n ≡ []
past_end [] n le = refl
past_end (i ∷ is) zero le = absurd (omega (arith, le))
past_end (i ∷ is) (suc n) le = past_end is n (omega (arith, le))

pub others_stay : (n : ℕ) (x : List Slice) (is : List (List Slice)) (m : ℕ) → (m ≡ n → ⊥) → slices_of (replaced n x is) m ≡ slices_of is m
others_stay n x is m apart = replaced_else n m x is (λ e. apart (sym e))

-- ---- references that fit

pub fit_front : (t : Tables) (is : List (List Slice)) (a b : Uses) → AllFit t is (a ++ b) → AllFit t is a
fit_front t is [] b h = tt
fit_front t is (m ∷ a) b h = (h.0, fit_front t is a b h.1)

pub fit_rest : (t : Tables) (is : List (List Slice)) (a b : Uses) → AllFit t is (a ++ b) → AllFit t is b
fit_rest t is [] b h = h
fit_rest t is (m ∷ a) b h = fit_rest t is a b h.1

-- ---- states

pub record Stays (a b : Spelled) : Type 0 where
  pub longer : length a.instances ≤ length b.instances
  pub earlier : (m : ℕ) → m < length a.instances → slices_of b.instances m ≡ slices_of a.instances m
  pub met : (ms : Uses) × (b.met ≡ a.met ++ ms)

pub stays_same : (s : Spelled) → Stays s s
stays_same s = record { longer = omega arith; earlier = λ m lt. refl; met = ([], sym (append-nil s.met)) }

pub stays_joined : (a b c : Spelled) → Stays a b → Stays b c → Stays a c
stays_joined a b c p q = record {
  longer = omega (arith, p.longer, q.longer);
  earlier = λ m lt. q.earlier m (omega (arith, lt, p.longer)) ∙ p.earlier m lt;
  met = (p.met.0 ++ q.met.0, q.met.1 ∙ ap (λ (l : Uses). l ++ q.met.0) p.met.1 ∙ append_assoc a.met p.met.0 q.met.0);
}

pub here_stays : (a b : Spelled) → b ≡ a → Stays a b
here_stays a b e = subst (λ (s : Spelled). Stays a s) (sym e) (stays_same a)

pub noted : (s : Spelled) (ms : Uses) → Stays s (with_met ms s)
noted s ms = record { longer = omega arith; earlier = λ m lt. refl; met = (ms, refl) }

pub fit_before : (t : Tables) (is : List (List Slice)) (a b : Spelled) → Stays a b → AllFit t is b.met → AllFit t is a.met
fit_before t is a b stays h = fit_front t is a.met stays.met.0 (subst (AllFit t is) stays.met.1 h)

-- what a table names for the members that stand before it fits
pub table_fits : (t : Tables) (is : List (List Slice)) (port : Port (State ℕ) Spelled) (tabled : Bool) (x : Uses) (bytes table : List ℕ) (from to : Spelled) → (tabled ≡ false → x ≡ [])
    → SpellsTable port tabled x bytes table from to → AllFit t is to.met → AllFit t is (resolved table x)
table_fits t is port false x bytes table from to none h good = subst (λ (l : Uses). AllFit t is (resolved table l)) (sym (none refl)) tt
table_fits t is port true x bytes table from to none h good = fit_rest t is h.3.met (resolved table x) (subst (λ (s : Spelled). AllFit t is s.met) h.8 good)

module _ (t : Tables) (agrees : Agrees t t) where
  module _ (port : Port (State ℕ) Spelled) (port_stays : (declared n : Option ℕ) (bytes : List ℕ) (from to : Spelled) → port.Spells declared bytes n from to → Stays from to) where
    pub entries_stay : (n : ℕ) (bytes names : List ℕ) (from to : Spelled) → SpellsEntries port n bytes names from to → Stays from to
    entries_stay zero bytes names from to h = here_stays from to h.2
    entries_stay (suc n) bytes names from to h = stays_joined from h.4 to (port_stays None (Some h.0) h.2 from h.4 h.7) (entries_stay n h.3 h.1 h.4 to h.8)

    pub table_stays : (tabled : Bool) (uses : Uses) (bytes table : List ℕ) (from to : Spelled) → SpellsTable port tabled uses bytes table from to → Stays from to
    table_stays false uses bytes table from to h = here_stays from to h.2
    table_stays true uses bytes table from to (n, front, body, end, parts, size, within, entries, is) =
        subst (λ (s : Spelled). Stays from s) (sym is) (stays_joined from end (with_met (resolved table uses) end) (entries_stay n body table from end entries) (noted end (resolved table uses)))

    pub body_stays : (f : Flags) (id : List ℕ) (sized : Bool) (class : Option ℕ) (bytes : List ℕ) (s : Slice) (from to : Spelled) → SpellsBody port t f id sized class bytes s from to → Stays from to
    body_stays f id true (Some class) bytes s from to (raw, uses, a, b, parts, members, (table, is, h)) = table_stays f.has_table uses b table from to h
    body_stays f id true None bytes s from to (content, a, b, mid, parts, (is_unknown, still), (table, is, h)) =
        stays_joined from mid to (here_stays from mid still) (table_stays f.has_table [] b table mid to h)
    body_stays f id false (Some class) bytes s from to (content, is, h) = members_keep port t agrees Stays stays_same stays_joined port_stays f.has_optional (own_members t class) (own_itself t agrees class) bytes content from to h
    body_stays f id false None bytes s from to h = absurd h

    pub id_stays : (form : IdForm) (bytes id : List ℕ) (from to : Spelled) → SpellsId form bytes id from to → Stays from to
    id_stays no_id bytes id from to h = here_stays from to h.2
    id_stays as_text bytes id from to h = subst (λ (s : Spelled). Stays from s) (sym h.1) (record { longer = omega arith; earlier = λ m lt. refl; met = ([], sym (append-nil from.met)) })
    id_stays as_index bytes id from to h = here_stays from to h.3
    id_stays as_number bytes id from to h = here_stays from to h.3

    behind_stays : (Next : Before → Speller Spelled (List Slice)) → ((ahead : Before) (bytes : List ℕ) (ss : List Slice) (from to : Spelled) → Next ahead bytes ss from to → Stays from to)
        → (last : Bool) (ahead : Before) (bytes : List ℕ) (ss : List Slice) (from to : Spelled) → Others port t Next last ahead bytes ss from to → Stays from to
    behind_stays Next next true ahead bytes ss from to h = here_stays from to h.2
    behind_stays Next next false ahead bytes ss from to h = next ahead bytes ss from to h

    pub slices_stay : (n : ℕ) (ahead : Before) (bytes : List ℕ) (ss : List Slice) (from to : Spelled) → SpellsSlices port t all_slices n ahead bytes ss from to → Stays from to
    slices_stay zero ahead bytes ss from to h = absurd h
    slices_stay (suc n) ahead bytes ss from to (f, a, b, mid, parts, (flags, first_is), (id, c, d, next, cut, is_id, (base, (read, (ends, (slice, g, h, end, pieces, body, (others, is, rest))))))) =
        stays_joined from mid to (here_stays from mid first_is) (stays_joined mid next to (id_stays f.id c id mid next is_id)
        (stays_joined next end to (body_stays f id f.has_size _ g slice next end body) (behind_stays (SpellsSlices port t all_slices n) (slices_stay n) f.is_last _ h others end to rest)))

    -- what stands behind the first slice
    pub rest_stays : (n : ℕ) (last : Bool) (ahead : Before) (bytes : List ℕ) (ss : List Slice) (from to : Spelled) → Others port t (SpellsSlices port t all_slices n) last ahead bytes ss from to → Stays from to
    rest_stays n = behind_stays (SpellsSlices port t all_slices n) (slices_stay n)

  inline_stays : (limit : ℕ) (Slices : Speller Spelled (List Slice)) → ((bytes : List ℕ) (ss : List Slice) (from to : Spelled) → Slices bytes ss from to → Stays from to)
      → (declared n : Option ℕ) (bytes : List ℕ) (from to : Spelled) → SpellsInline limit Slices declared bytes n from to → Stays from to
  inline_stays limit Slices one declared None bytes from to h = here_stays from to h.1
  inline_stays limit Slices one declared (Some n) bytes from to (inl (ss, front, rest, end, parts, size, number, room, h, ends)) =
      let s = one rest ss (beginning tt declared from) end h in
      let m : Reference (Unit {0}) = met_at tt declared (length from.instances) in
      let more : length (from.instances ++ [] ∷ []) ≡ length from.instances + 1 = length-append from.instances ([] ∷ []) in
      subst (λ (z : Spelled). Stays from z) (sym ends) (record {
        longer = omega (arith, s.longer, more, replaced_length n ss end.instances);
        earlier = λ m lt. others_stay n ss end.instances m (λ e. absurd (omega (arith, lt, e, number))) ∙ s.earlier m (omega (arith, lt, more)) ∙ get_or_append_left from.instances ([] ∷ []) [] m lt;
        met = (m ∷ s.met.0, s.met.1 ∙ append_assoc from.met (m ∷ []) s.met.0);
      })
  inline_stays limit Slices one declared (Some n) bytes from to (inr h) = subst (λ (s : Spelled). Stays from s) (sym h.2) (noted from (met_at tt declared n ∷ []))

  pub instances_stay : (limit more : ℕ) (declared n : Option ℕ) (bytes : List ℕ) (from to : Spelled) → (instances t all_slices limit more).Spells declared bytes n from to → Stays from to
  instances_stay limit zero declared n bytes from to h = inline_stays limit (λ bytes slices from to. ⊥) (λ bytes ss from to h. absurd h) declared n bytes from to h
  instances_stay limit (suc more) declared n bytes from to h =
      inline_stays limit (SpellsInstance (instances t all_slices limit more) t all_slices) (λ bytes ss from to h. slices_stay (instances t all_slices limit more) (instances_stay limit more) h.0 first bytes ss from to h.1) declared n bytes from to h

  pub sized_stay : (limit more : ℕ) (declared n : Option ℕ) (bytes : List ℕ) (from to : Spelled) → (sized_instances t limit more).Spells declared bytes n from to → Stays from to
  sized_stay limit zero declared n bytes from to h = inline_stays limit (λ bytes slices from to. ⊥) (λ bytes ss from to h. absurd h) declared n bytes from to h
  sized_stay limit (suc more) declared n bytes from to h =
      inline_stays limit (λ bytes slices from to. (starts_sized bytes ≡ true) × SpellsInstance (sized_instances t limit more) t all_slices bytes slices from to)
      (λ bytes ss from to h. slices_stay (sized_instances t limit more) (sized_stay limit more) h.1.0 first bytes ss from to h.1.1) declared n bytes from to h

  pub readable_stay : (u : Tables) (limit more : ℕ) (declared n : Option ℕ) (bytes : List ℕ) (from to : Spelled) → (readable_instances t u limit more).Spells declared bytes n from to → Stays from to
  readable_stay u limit zero declared n bytes from to h = inline_stays limit (λ bytes slices from to. ⊥) (λ bytes ss from to h. absurd h) declared n bytes from to h
  readable_stay u limit (suc more) declared n bytes from to h =
      inline_stays limit (λ bytes slices from to. CanBeRead t u bytes slices × SpellsInstance (readable_instances t u limit more) t all_slices bytes slices from to)
      (λ bytes ss from to h. slices_stay (readable_instances t u limit more) (readable_stay u limit more) h.1.0 first bytes ss from to h.1.1) declared n bytes from to h

-- ---- states whose instances have ended as those of a graph, or are open

abbrev pub EndAs : List (List Slice) → Spelled → Type 0
EndAs is s = (m : ℕ) → (slices_of s.instances m ≡ []) ⊎ (slices_of s.instances m ≡ slices_of is m)

pub end_before : (is : List (List Slice)) (a b : Spelled) → Stays a b → EndAs is b → EndAs is a
end_before is a b stays good m = elim (cases_lt m (length a.instances)) [
  | inl lt ↦ subst (λ (l : List Slice). (l ≡ []) ⊎ (l ≡ slices_of is m)) (stays.earlier m lt) (good m)
  | inr le ↦ inl (past_end a.instances m le)
]
