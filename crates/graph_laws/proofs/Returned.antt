-- Slices under the schema that lacks classes, read again under the whole one: the same bytes, and what was kept is members.
use Rattle.std.proofs.Common.{ℕ, zero, suc, ◌≡◌, ◌<◌, ◌⊎◌, Bool, true, false, ◌&&◌, List, [], ◌∷◌, ◌++◌, length, refl, sym, ap, ◌∙◌, subst, Option, Some, None, inl, inr}
use Rattle.std.specs.Prelude.{slice_get, nat_lt}
use Rattle.ice_types.specs.declared.kind.RowRef.TheVariants as rows
use Rattle.ice_types.specs.Tables.{Tables}
use Rattle.ice_types.specs.Lacking.{SameBase, SameShape}
use Rattle.ice_encoding.specs.Port.{Port}
use Rattle.ice_encoding.specs.OptionalMembers.{Members}
use Rattle.ice_encoding.specs.Classes.{base_of, own_members}
use Rattle.ice_encoding.specs.Graph.{Slice, known, unknown}
use Rattle.ice_encoding.specs.Names.{renamed_members}
use Rattle.ice_encoding.specs.References.{State, with_met, resolved, entry_in, in_table, AreWithin, SpellsEntries, SpellsTable}
use Rattle.ice_encoding.specs.Flags.{IdForm, no_id, as_text, as_index, as_number, Flags, all_slices, Before, first, only_unknown, derived}
use Rattle.ice_encoding.specs.TypeIds.{SpellsId, with_id, class_in, ends_well, before_base, before_next}
use Rattle.ice_encoding.specs.Slices.{unknown_bytes, SpellsBody, SpellsSlices, FromId}
use Rattle.ice_encoding.specs.Slices.{Behind as Others}
use Rattle.ice_encoding.specs.Instances.{slices_of, class_of, class_fits, AllFit}
use Rattle.ice_encoding.specs.CanonicalGraph.{is_there}
use Rattle.graph_laws.proofs.Carried.{Steps}
use Rattle.graph_laws.proofs.TypeIds.{Spelled}
use Rattle.graph_laws.proofs.InlineRules.{all_fit_more}
use Rattle.graph_laws.specs.Seeing.{SameClassId, OpensAs, SeenAs, AllSeen, EachSeen}
use Rattle.graph_laws.proofs.Rows.{Agrees, agrees_itself}
use Rattle.graph_laws.proofs.Measured.{own_same}
use Rattle.graph_laws.proofs.RelayedCarried.{Carries, slice_carried}
use Rattle.graph_laws.proofs.Keeping.{own_itself}
use Rattle.graph_laws.proofs.Stays.{Uses, Stays, stays_same, stays_joined, noted, fit_before, entries_stay, rest_stays, table_fits, EndAs, end_before}
use Rattle.graph_laws.proofs.Tabled.{bare, entries_length, tabled_as}
use Rattle.graph_laws.proofs.RelayedRelated.{any_steps, TiedUses, entries_carried, uses_within}
use Rattle.graph_laws.proofs.Classed.{Both, rows_agree}
use Rattle.graph_laws.proofs.Standing.{Follow, Stands}
use Rattle.graph_laws.proofs.RelayedFitting.{each_like, fits_back}
use Rattle.graph_laws.proofs.Flipped.{base_flipped, shape_flipped, rows_flipped}
use Rattle.graph_laws.proofs.Back.{known_is, known_unknown, slice_class, FormedAs, body_form, BackAs, Ready, flags_back, known_ready, base_ready, class_back, read_back, before_back, none_back, slices_some, well_back}

known_content : {C : Type 0} (a b : ℕ) (x y : Members) → known a x ≡ known b y → (x ≡ y → C) → C
known_content a b x y e go = go cc

unknown_parts : {C : Type 0} (i j x y : List ℕ) (o p : Bool) (k l : List ℕ) → unknown i x o k ≡ unknown j y p l → (x ≡ y → o ≡ p → k ≡ l → C) → C
unknown_parts i j x y o p k l e go = let bytes : x ≡ y = cc in let flag : o ≡ p = cc in let table : k ≡ l = cc in go bytes flag table

slices_parts : {C : Type 0} (x y : Slice) (xs ys : List Slice) → x ∷ xs ≡ y ∷ ys → (x ≡ y → xs ≡ ys → C) → C
slices_parts x y xs ys e go = let head : x ≡ y = cc in let tail : xs ≡ ys = cc in go head tail

-- the second state, of the whole schema, has the slices of the graph wherever an instance has ended
pub record Returns (t : Tables) (ks : List (List Slice)) (b a : Spelled) : Type 0 where
  pub ids : a.ids ≡ b.ids
  pub count : length a.instances ≡ length b.instances
  pub each : (m : ℕ) → ((slices_of b.instances m ≡ []) × (slices_of a.instances m ≡ [])) ⊎ (slices_of a.instances m ≡ slices_of ks m)
  pub met : AllFit t ks a.met

-- it leads well where instances end as those of a graph, and each reference fits
abbrev pub EndsWell : Tables → List (List Slice) → Spelled → Type 0
EndsWell u hs s = EndAs hs s × AllFit u hs s.met

pub well_before : (u : Tables) (hs : List (List Slice)) (a b : Spelled) → Stays a b → EndsWell u hs b → EndsWell u hs a
well_before u hs a b p h = (end_before hs a b p h.0, fit_before u hs a b p h.1)

abbrev pub end_steps : Tables → List (List Slice) → Steps Spelled
end_steps u hs = record { Fine = EndsWell u hs; Step = Stays; same = stays_same; joined = stays_joined; back = well_before u hs }

module _ (t u : Tables) (both : Both t u) (ks hs : List (List Slice)) (seen : EachSeen t u ks ks hs) (stands : (n : ℕ) → n < length ks → Stands t (slices_of ks n)) where
  abbrev Rel : Spelled → Spelled → Type 0
  Rel = Returns t ks

  abbrev Fine : Spelled → Type 0
  Fine = EndsWell u hs

  abbrev own : Agrees u u
  own = agrees_itself u both.node

  moved : (from to a : Spelled) → to ≡ from → Rel from a → Rel to a
  moved from to a e r = subst (λ (s : Spelled). Rel s a) (sym e) r

  -- what a table names fits again
  uses_back : (table : List ℕ) (ms ns : Uses) → TiedUses u t hs ms ns → AllFit u hs (resolved table ms) → AllFit t ks (resolved table ns)
  uses_back table [] ns e h = subst (λ (l : Uses). AllFit t ks (resolved table l)) (sym e) tt
  uses_back table (m ∷ ms) ns (o, others, same, name, class, rest) h = subst (λ (l : Uses). AllFit t ks (resolved table l)) (sym same) (
    fits_back t u both ks hs (each_like t u ks hs seen) stands o.declared m.declared (entry_in table o.name) (base_flipped u t m.declared o.declared class)
        (subst (λ (k : ℕ). class_fits u m.declared (class_of (slices_of hs (entry_in table k))) ≡ true) (sym name) h.0),
    uses_back table ms others rest h.1,
  )

  shapes_back : (a b e : ℕ) → SameClassId t u a b → e ≡ b → SameShape u t (own_members u e) (own_members t a)
  shapes_back a b e tied same = subst (λ (c : ℕ). SameShape u t (own_members u c) (own_members t a)) (sym same) (shape_flipped t u (own_members t a) (own_members u b) (own_same t u (rows_agree t u both) a b tied))

  module _ (two one : Port (State ℕ) Spelled) (stays : (a n : Option ℕ) (bytes : List ℕ) (from to : Spelled) → two.Spells a bytes n from to → Stays from to)
      (refer : (b a : Option ℕ) → SameBase u t rows.Class b a → Carries (end_steps u hs) Rel (two.Spells b) (one.Spells a)) where
    entries_back : (n : ℕ) (bytes names : List ℕ) (from to begin : Spelled) → SpellsEntries two n bytes names from to → Rel from begin → Fine to → (end : Spelled) × SpellsEntries one n bytes names begin end × Rel to end
    entries_back zero bytes names from to begin h r good = (begin, (h.0, h.1, refl), moved from to begin h.2 r)
    entries_back (suc n) bytes names from to begin h r good =
        let p = (refer None None refl h.2 (Some h.0) from h.4 h.7).1 begin r (well_before u hs h.4 to (entries_stay u own two stays n h.3 h.1 h.4 to h.8) good) in
        let q = entries_back n h.3 h.1 h.4 to p.0 h.8 p.2 good in
        (q.0, (h.0, h.1, h.2, h.3, p.0, h.5, h.6, p.1, q.1), q.2)

    table_back : (tabled : Bool) (x y : Uses) (bytes table : List ℕ) (from to begin : Spelled) → ((n : ℕ) → length table ≡ n → AreWithin n x → AreWithin n y) → AllFit t ks (resolved table y)
        → SpellsTable two tabled x bytes table from to → Rel from begin → Fine to → (end : Spelled) × SpellsTable one tabled y bytes table begin end × Rel to end
    table_back false x y bytes table from to begin within fits h r good = (begin, (h.0, h.1, refl), moved from to begin h.2 r)
    table_back true x y bytes table from to begin within fits h r good =
        let p = entries_back h.0 h.2 table from h.3 begin h.7 r (well_before u hs h.3 (with_met (resolved table x) h.3) (noted h.3 (resolved table x)) (subst (λ (s : Spelled). Fine s) h.8 good)) in (
          with_met (resolved table y) p.0,
          (h.0, h.1, h.2, p.0, h.4, h.5, within h.0 (entries_length two h.0 h.2 table from h.3 h.7) h.6, p.1, refl),
          moved (with_met (resolved table x) h.3) to (with_met (resolved table y) p.0) h.8 (record { ids = p.2.ids; count = p.2.count; each = p.2.each; met = all_fit_more t ks p.0.met (resolved table y) p.2.met fits }),
        )

    unlisted : (tabled : Bool) (bytes table : List ℕ) (from to : Spelled) → SpellsTable two tabled [] bytes table from to → tabled ≡ false → table ≡ []
    unlisted false bytes table from to h e = h.1
    unlisted true bytes table from to h e = absurd cc

    abbrev Goes : Flags → List ℕ → Bool → Option ℕ → Slice → Slice → Type 0
    Goes f id sized d s r = (bytes : List ℕ) (from to begin : Spelled) → SpellsBody two u f id sized d bytes r from to → Rel from begin → Fine to
        → (end : Spelled) × SpellsBody one t f id sized (slice_class s) bytes s begin end × Rel to end

    body_back : (f : Flags) (id : List ℕ) (sized : Bool) (d : Option ℕ) (s r : Slice) → SeenAs t u ks s r → Goes f id sized d s r
    body_back f id false None s r seen = λ bytes from to begin h k good. absurd h
    body_back f id true (Some e) (unknown i x o l) r (r_is, hidden) = λ bytes from to begin (raw, uses, a, b, parts, members, (table, is, h)) k good. known_unknown e _ i x o l (sym is ∙ r_is)
    body_back f id false (Some e) (unknown i x o l) r (r_is, hidden) = λ bytes from to begin (content, is, h) k good. known_unknown e content i x o l (sym is ∙ r_is)
    body_back f id true None (unknown i x o l) r (r_is, hidden) = λ bytes from to begin (y, a, b, mid, parts, (is_unknown, still), (table, is, h)) k good.
        let g = table_back f.has_table [] [] b table mid to begin (λ n e w. w) tt h (moved from mid begin still k) good in
        (g.0, (y, a, b, begin, parts, (is_unknown, refl), (table, sym r_is ∙ is, g.1)), g.2)
    body_back f id true None (known a content) r (inl (b, r_is, tied)) = λ bytes from to begin (y, p, q, mid, parts, front, (table, is, h)) k good. known_unknown b content id y f.has_optional table (sym r_is ∙ is)
    body_back f id true (Some e) (known a content) r (inl (b, r_is, tied)) = λ bytes from to begin (raw, uses, p, q, parts, (front, body, cut, size, members), (table, is, h)) k good.
        known_is e b (renamed_members (entry_in table) raw) content (sym is ∙ r_is) λ same.
        known_content e b (renamed_members (entry_in table) raw) content (sym is ∙ r_is) λ equal.
        let m = (slice_carried any_steps (TiedUses u t hs) (in_table f.has_table) (in_table f.has_table) u t (rows_flipped t u (rows_agree t u both)) (entries_carried u t hs f.has_table) f.has_optional (own_members u e) (own_members t a)
        (shapes_back a b e tied same) body raw [] uses members).1 [] refl tt in
        let none = bare u both.node f.has_table f.has_optional e body raw uses members in
        let fits = uses_back table uses m.0 m.2 (table_fits u hs two f.has_table uses q table from to none h good.1) in
        let g = table_back f.has_table uses m.0 q table from to begin (λ n e w. uses_within u t hs n uses m.0 m.2 w) fits h k good in
        (g.0, (raw, m.0, p, q, parts, (front, body, cut, size, m.1), (table, ap (known a) (sym equal), g.1)), g.2)
    body_back f id false (Some e) (known a content) r (inl (b, r_is, tied)) = λ bytes from to begin (c, is, h) k good.
        known_is e b c content (sym is ∙ r_is) λ same.
        known_content e b c content (sym is ∙ r_is) λ equal.
        let m = (slice_carried (end_steps u hs) Rel two one u t (rows_flipped t u (rows_agree t u both)) refer f.has_optional (own_members u e) (own_members t a) (shapes_back a b e tied same) bytes c from to h).1 begin k good in
        (m.0, (c, ap (known a) (sym equal), m.1), m.2)
    body_back f id true (Some e) (known a content) r (inr (i, x, o, l, r_is, named, hidden, opens)) = λ bytes from to begin (raw, uses, p, q, parts, members, (table, is, h)) k good. known_unknown e _ i x o l (sym is ∙ r_is)
    body_back f id false (Some e) (known a content) r (inr (i, x, o, l, r_is, named, hidden, opens)) = λ bytes from to begin (c, is, h) k good. known_unknown e c i x o l (sym is ∙ r_is)
    body_back f id true None (known a content) r (inr (i, x, o, l, r_is, named, hidden, opens)) = λ bytes from to begin (y, p, q, mid, parts, ((front, cut, size), still), (table, is, h)) k good.
        unknown_parts i id x y o f.has_optional l table (sym r_is ∙ is) λ bytes_same flag_same table_same.
        let there : OpensAs t ks a y f.has_optional table content =
        subst (λ (z : List ℕ). OpensAs t ks a z f.has_optional table content) bytes_same (subst (λ (z : Bool). OpensAs t ks a x z table content) flag_same (subst (λ (z : List ℕ). OpensAs t ks a x o z content) table_same opens)) in
        let m = tabled_as t both.reader (is_there table) f.has_table f.has_optional (own_members t a) (own_itself t (agrees_itself t both.reader) a) (unknown_bytes f.has_optional y) there.0 there.1 table (unlisted f.has_table q table mid to h) there.3 there.2 in
        let g = table_back f.has_table [] there.1 q table mid to begin (λ n e w. subst (λ (c : ℕ). AreWithin c there.1) e there.3) there.4 h (moved from mid begin still k) good in
        (g.0, (there.0, there.1, p, q, parts, (front, unknown_bytes f.has_optional y, cut, size, m), (table, there.5, g.1)), g.2)

    id_back : (form : IdForm) (bytes id : List ℕ) (from to begin : Spelled) → SpellsId form bytes id from to → Rel from begin → (end : Spelled) × SpellsId form bytes id begin end × Rel to end
    id_back no_id bytes id from to begin h r = (begin, (h.0, h.1, refl), moved from to begin h.2 r)
    id_back as_text bytes id from to begin h r =
        (with_id id begin, (h.0, refl), moved (with_id id from) to (with_id id begin) h.1 (record { ids = ap (λ (l : List (List ℕ)). l ++ id ∷ []) r.ids; count = r.count; each = r.each; met = r.met }))
    id_back as_index bytes id from to begin h r = (begin, (h.0, h.1, subst (λ (l : List (List ℕ)). slice_get l h.0 ≡ Some id) (sym r.ids) h.2, refl), moved from to begin h.3 r)
    id_back as_number bytes id from to begin h r = (begin, (h.0, h.1, h.2, refl), moved from to begin h.3 r)

    -- ---- slices

    ready_next : (f : Flags) (x : Before) (s : Slice) (ss : List Slice) → Ready t u both ks x (s ∷ ss) → (ss ≡ [] → ⊥) → Ready t u both ks (before_next t (slice_class s) f) ss
    ready_next f first (unknown i y o l) [] h some = absurd (some refl)
    ready_next f first (unknown i y o l) (s ∷ ss) h some = h.1
    ready_next f only_unknown (unknown i y o l) [] h some = absurd (some refl)
    ready_next f only_unknown (unknown i y o l) (s ∷ ss) h some = h.1
    ready_next f (derived z b) (unknown i y o l) ss h some = absurd h
    ready_next f x (known a content) ss h some = by_base (base_of t a) (known_ready t u both ks x a content ss h).0
      where
        by_base : (o : Option ℕ) → Follow t o ss → Ready t u both ks (before_base f.has_size o) ss
        by_base None h = absurd (some h)
        by_base (Some b) h = h

    abbrev Back : ℕ → Type 0
    Back n = (y x : Before) → BackAs t u both ks y x → (bytes : List ℕ) (ss rs : List Slice) (from to begin : Spelled) → SpellsSlices two u all_slices n y bytes rs from to → AllSeen t u ks ss rs → Ready t u both ks x ss → Rel from begin → Fine to
        → (end : Spelled) × SpellsSlices one t all_slices n x bytes ss begin end × Rel to end

    behind_back : (n : ℕ) → Back n → (last : Bool) (y x : Before) → BackAs t u both ks y x → (bytes : List ℕ) (ss rs : List Slice) (from to begin : Spelled) → Others two u (SpellsSlices two u all_slices n) last y bytes rs from to → AllSeen t u ks ss rs
        → ((ss ≡ [] → ⊥) → Ready t u both ks x ss) → Rel from begin → Fine to → (end : Spelled) × Others one t (SpellsSlices one t all_slices n) last x bytes ss begin end × Rel to end
    behind_back n go true y x sees bytes ss rs from to begin h seen ready r good = (begin, (h.0, none_back t u both ks ss rs seen h.1, refl), moved from to begin h.2 r)
    behind_back n go false y x sees bytes ss rs from to begin h seen ready r good =
        go y x sees bytes ss rs from to begin h seen (ready (λ e. slices_some t u both ks two n y bytes rs from to h (subst (λ (l : List Slice). AllSeen t u ks l rs) e seen))) r good

    pub slices_back : (n : ℕ) → Back n
    slices_back zero y x sees bytes ss rs from to begin h seen ready r good = absurd h
    slices_back (suc n) y x sees bytes [] rs from to begin h seen ready r good = slices_some t u both ks two (suc n) y bytes rs from to h seen
    slices_back (suc n) y x sees bytes (s ∷ ss) rs from to begin (f, a, b, mid, parts, ((byte, a_is, f_is, stand), still), (id, c, d, next, cut, is_id, (base, (read, (ends, (slice, g, h, end, pieces, body, (others, is, rest))))))) (q, qs, split, one_seen, rest_seen) ready r good =
        slices_parts slice q others qs (sym is ∙ split) λ slice_same others_same.
        let seen : SeenAs t u ks s slice = subst (λ (z : Slice). SeenAs t u ks s z) (sym slice_same) one_seen in
        let seen_rest : AllSeen t u ks ss others = subst (λ (l : List Slice). AllSeen t u ks ss l) (sym others_same) rest_seen in
        let formed : FormedAs id f.has_size (class_in u y id) slice = body_form two u f id f.has_size (class_in u y id) g slice next end body in
        let class : class_in t x id ≡ slice_class s = class_back t u both ks y x sees id f.has_size s slice ss seen ready formed in
        let i = id_back f.id c id mid next begin is_id (moved from mid begin still r) in
        let good_end : Fine end = well_before u hs end to (rest_stays u own two stays n f.is_last (before_next u (class_in u y id) f) h others end to rest) good in
        let p = body_back f id f.has_size (class_in u y id) s slice seen g next end i.0 body i.2 good_end in
        let v = behind_back n (slices_back n) f.is_last (before_next u (class_in u y id) f) (before_next t (slice_class s) f) (before_back t u both ks f id s slice (class_in u y id) seen formed) h ss others end to p.0 rest seen_rest (ready_next f x s ss ready) p.2 good in (
          v.0,
          (
            f,
            a,
            b,
            begin,
            parts,
            ((byte, a_is, f_is, subst (λ (z : Bool). (nat_lt byte 64 && z) ≡ true) (flags_back t u both ks y x sees f) stand), refl),
            (
              id,
              c,
              d,
              i.0,
              cut,
              i.1,
              subst (λ (o : Option ℕ). FromId one t all_slices (Others one t (SpellsSlices one t all_slices n) f.is_last (before_next t o f)) (ends_well t o f) x f id o d (s ∷ ss) i.0 v.0) (sym class) (
                base_ready t u both ks x s ss ready,
                (
                  read_back t u both ks f id s slice (class_in u y id) seen formed,
                  (well_back t u both ks two n (before_next u (class_in u y id) f) h ss others end to seen_rest f x s ready rest, (s, g, h, p.0, pieces, p.1, (ss, refl, v.1))),
                ),
              ),
            ),
          ),
          v.2,
        )
