-- Slices and instances that one can read who lacks some of their classes, as one sees them: the same bytes, and slices of
-- those classes kept.
use Rattle.std.proofs.Common.{ℕ, zero, suc, ◌≡◌, ◌<◌, Bool, true, false, ◌&&◌, List, [], ◌∷◌, ◌++◌, length, refl, sym, ap, ◌∙◌, subst, Option, Some, None, inl, inr}
use Rattle.std.specs.Prelude.{slice_get, nat_lt}
use Rattle.ice_types.specs.declared.kind.RowRef.TheVariants as rows
use Rattle.ice_types.specs.declared.declarations.Shape.{Shape}
use Rattle.ice_types.specs.Tables.{Tables}
use Rattle.ice_types.specs.Lacking.{SameShape, SameBase}
use Rattle.ice_encoding.specs.Port.{Port, Speller}
use Rattle.ice_encoding.specs.OptionalMembers.{Members, SpellsSliceMembers, SpellsContent}
use Rattle.ice_encoding.specs.Classes.{own_members}
use Rattle.ice_encoding.specs.Graph.{Slice, known, unknown}
use Rattle.ice_encoding.specs.References.{State, met_at, with_met, with_ended, beginning, opening, in_table, resolved, AreWithin, SpellsInline, SpellsTable}
use Rattle.ice_encoding.specs.Flags.{IdForm, no_id, as_text, as_index, as_number, Flags, all_slices, Before, first, may_stand}
use Rattle.ice_encoding.specs.TypeIds.{SpellsId, with_id, class_in, before_next}
use Rattle.ice_encoding.specs.Slices.{by_table, SpellsBody, SpellsSlices, SpellsInstance}
use Rattle.ice_encoding.specs.Slices.{Behind as Others}
use Rattle.ice_encoding.specs.Instances.{instances, slices_of, class_of, class_fits, AllFit}
use Rattle.ice_encoding.specs.CanonicalGraph.{is_there}
use Rattle.graph_laws.proofs.TypeIds.{Spelled}
use Rattle.graph_laws.specs.Sized.{starts_sized}
use Rattle.graph_laws.specs.Readable.{IsOfBoth, CanBeRead, readable_instances}
use Rattle.graph_laws.specs.Seeing.{SameClassId, OpensAs, SeenAs, AllSeen}
use Rattle.graph_laws.proofs.Rows.{Agrees, agrees_itself}
use Rattle.graph_laws.proofs.Measured.{own_same}
use Rattle.graph_laws.proofs.RelayedCarried.{Carries, slice_carried, content_carried}
use Rattle.graph_laws.proofs.Keeping.{own_itself}
use Rattle.graph_laws.proofs.Stays.{Uses, Stays, fit_before, fit_rest, rest_stays, slices_stay, readable_stay, table_fits}
use Rattle.graph_laws.proofs.Tabled.{members_unknown, unknown_spelled, bare, entries_length, tabled_as, unlisted}
use Rattle.graph_laws.proofs.RelayedRelated.{any_steps, AllTied, Related, fit_steps, related_met, related_begun, related_ended, each_length, TiedUses, entries_carried, uses_within, uses_tied, table_carried}
use Rattle.graph_laws.proofs.Classed.{none_some, Both, rows_agree, ClassAs, BeforeAs, class_before, hidden_untied, base_as, SizedOr, read_as, ends_as, next_as, sized_before, stands_as, not_first}
use Rattle.graph_laws.proofs.Back.{FormedAs, body_form}

and_rest : (a b : Bool) → (a && b) ≡ true → b ≡ true
and_rest true b e = e
and_rest false b e = absurd cc

module _ (t u : Tables) (both : Both t u) (ks : List (List Slice)) where
  abbrev own : Agrees t t
  own = agrees_itself t both.reader

  abbrev Rel : Spelled → Spelled → Type 0
  Rel = Related t u ks

  abbrev Fine : Spelled → Type 0
  Fine s = AllFit t ks s.met

  moved : (from to begin : Spelled) → to ≡ from → Rel from begin → Rel to begin
  moved from to begin e r = subst (λ (s : Spelled). Rel s begin) (sym e) r

  id_carried : (form : IdForm) (bytes id : List ℕ) (from to begin : Spelled) → SpellsId form bytes id from to → Rel from begin → (end : Spelled) × SpellsId form bytes id begin end × Rel to end
  id_carried no_id bytes id from to begin h r = (begin, (h.0, h.1, refl), moved from to begin h.2 r)
  id_carried as_text bytes id from to begin h r =
      (with_id id begin, (h.0, refl), moved (with_id id from) to (with_id id begin) h.1 (record { ids = ap (λ (l : List (List ℕ)). l ++ id ∷ []) r.ids; instances = r.instances; met = r.met }))
  id_carried as_index bytes id from to begin h r = (begin, (h.0, h.1, subst (λ (l : List (List ℕ)). slice_get l h.0 ≡ Some id) (sym r.ids) h.2, refl), moved from to begin h.3 r)
  id_carried as_number bytes id from to begin h r = (begin, (h.0, h.1, h.2, refl), moved from to begin h.3 r)

  -- what is seen as something else
  abbrev Shows : {A : Type 0} → (A → A → Type 0) → Speller Spelled A → Speller Spelled A → Type 0
  Shows {A} As One Two = (bytes : List ℕ) (x : A) (from to begin : Spelled) → One bytes x from to → Rel from begin → Fine to → (y : A) × (end : Spelled) × Two bytes y begin end × As x y × Rel to end

  module _ (one two : Port (State ℕ) Spelled) (stays : (declared n : Option ℕ) (bytes : List ℕ) (from to : Spelled) → one.Spells declared bytes n from to → Stays from to)
      (refer : (a b : Option ℕ) → SameBase t u rows.Class a b → Carries (fit_steps t u ks) Rel (one.Spells a) (two.Spells b)) where
    -- the places of a slice are within its table
    all_within : (tabled : Bool) (uses : Uses) → (tabled ≡ false → uses ≡ []) → (bytes table : List ℕ) (from to : Spelled) → SpellsTable one tabled uses bytes table from to → AreWithin (length table) uses
    all_within false uses none bytes table from to h = subst (λ (l : Uses). AreWithin (length table) l) (sym (none refl)) tt
    all_within true uses none bytes table from to h = subst (λ (n : ℕ). AreWithin n uses) (sym (entries_length one h.0 h.2 table from h.3 h.7)) h.6

    table_seen : (tabled : Bool) (x y : Uses) → ((n : ℕ) → AreWithin n x → AreWithin n y) → (bytes table : List ℕ) (from to begin : Spelled)
        → SpellsTable one tabled x bytes table from to → Rel from begin → Fine to → AllTied t u ks (resolved table y) → (end : Spelled) × SpellsTable two tabled y bytes table begin end × Rel to end
    table_seen = table_carried t u ks own one two stays refer

    body_seen : (f : Flags) (id : List ℕ) (sized : Bool) (c d : Option ℕ) → SizedOr t u both sized d → ClassAs t u both id c d → Shows (SeenAs t u ks) (SpellsBody one t f id sized c) (SpellsBody two u f id sized d)
    body_seen f id false None d e class = λ bytes x from to begin h r good. absurd h
    body_seen f id false (Some c) d (inl e) (inl (is_none, named, hidden)) = absurd cc
    body_seen f id false (Some c) d (inr (b, here)) (inl (is_none, named, hidden)) = none_some d b is_none here
    body_seen f id false (Some c) d e (inr (o, is_some, tied)) = subst (λ (d : Option ℕ). Shows (SeenAs t u ks) (SpellsBody one t f id false (Some c)) (SpellsBody two u f id false d)) (sym is_some)
        (λ bytes x from to begin (content, is, h) r good.
        let p = (slice_carried (fit_steps t u ks) Rel one two t u (rows_agree t u both) refer f.has_optional (own_members t c) (own_members u o) (own_same t u (rows_agree t u both) c o tied) bytes content from to h).1 begin r good in
        (known o content, p.0, (content, refl, p.1), subst (λ (s : Slice). SeenAs t u ks s (known o content)) (sym is) (inl (o, refl, tied)), p.2))
    body_seen f id true None d e class = subst (λ (d : Option ℕ). Shows (SeenAs t u ks) (SpellsBody one t f id true None) (SpellsBody two u f id true d)) (sym class.0)
        (λ bytes x from to begin (content, a, b, mid, parts, (is_unknown, still), (table, is, h)) r good.
        let g = table_seen f.has_table [] [] (λ n w. w) b table mid to begin h (moved from mid begin still r) good tt in (
          unknown id content f.has_optional table,
          g.0,
          (content, a, b, begin, parts, (is_unknown, refl), (table, refl, g.1)),
          subst (λ (s : Slice). SeenAs t u ks s (unknown id content f.has_optional table)) (sym is) (refl, class.1),
          g.2,
        ))
    body_seen f id true (Some c) d e (inl (is_none, named, hidden)) = subst (λ (d : Option ℕ). Shows (SeenAs t u ks) (SpellsBody one t f id true (Some c)) (SpellsBody two u f id true d)) (sym is_none)
        (λ bytes x from to begin (raw, uses, a, b, parts, (front, body, cut, size, members), (table, is, h)) r good.
        let k = members_unknown (in_table f.has_table) t f.has_optional (own_members t c) body raw [] uses members in
        let none = bare t both.reader f.has_table f.has_optional c body raw uses members in
        let within = all_within f.has_table uses none b table from to h in
        let g = table_seen f.has_table uses [] (λ n w. tt) b table from to begin h r good tt in
        let as_members = tabled_as t both.reader f.has_table (is_there table) f.has_optional (own_members t c) (own_itself t own c) body raw uses table (unlisted table) within members in
        let opens : OpensAs t ks c k.0 f.has_optional table _ = (
          raw,
          uses,
          subst (λ (l : List ℕ). SpellsSliceMembers (in_table (is_there table)) t f.has_optional (own_members t c) l raw [] uses) k.1 as_members,
          within,
          table_fits t ks one f.has_table uses b table from to none h good,
          refl,
        ) in (
          unknown id k.0 f.has_optional table,
          g.0,
          (k.0, a, b, begin, parts, (unknown_spelled f.has_optional a front body k.0 cut size k.1, refl), (table, refl, g.1)),
          subst (λ (s : Slice). SeenAs t u ks s (unknown id k.0 f.has_optional table)) (sym is) (inr (id, k.0, f.has_optional, table, refl, named, hidden, opens)),
          g.2,
        ))
    body_seen f id true (Some c) d e (inr (o, is_some, tied)) = subst (λ (d : Option ℕ). Shows (SeenAs t u ks) (SpellsBody one t f id true (Some c)) (SpellsBody two u f id true d)) (sym is_some)
        (λ bytes x from to begin (raw, uses, a, b, parts, (front, body, cut, size, members), (table, is, h)) r good.
        let none = bare t both.reader f.has_table f.has_optional c body raw uses members in
        let m = (slice_carried any_steps (TiedUses t u ks) (in_table f.has_table) (in_table f.has_table) t u (rows_agree t u both) (entries_carried t u ks f.has_table) f.has_optional (own_members t c) (own_members u o)
        (own_same t u (rows_agree t u both) c o tied) body raw [] uses members).1 [] refl tt in
        let met = uses_tied t u ks table uses m.0 m.2 (table_fits t ks one f.has_table uses b table from to none h good) in
        let g = table_seen f.has_table uses m.0 (λ n w. uses_within t u ks n uses m.0 m.2 w) b table from to begin h r good met in (
          by_table o raw table,
          g.0,
          (raw, m.0, a, b, parts, (front, body, cut, size, m.1), (table, refl, g.1)),
          subst (λ (s : Slice). SeenAs t u ks s (by_table o raw table)) (sym is) (inl (o, refl, tied)),
          g.2,
        ))

    -- ---- slices

    behind_seen : (Next Other : Before → Speller Spelled (List Slice)) → ((x y : Before) → BeforeAs t u both x y → (x ≡ first → ⊥) → Shows (AllSeen t u ks) (Next x) (Other y))
        → (last : Bool) (x y : Before) → BeforeAs t u both x y → (x ≡ first → ⊥) → Shows (AllSeen t u ks) (Others one t Next last x) (Others two u Other last y)
    behind_seen Next Other go true x y before behind = λ bytes ss from to begin h r good.
        ([], begin, (h.0, refl, refl), subst (λ (l : List Slice). AllSeen t u ks l []) (sym h.1) refl, moved from to begin h.2 r)
    behind_seen Next Other go false x y before behind = go x y before behind

    -- the first slice has a size, or is of a class that both have
    first_read : (bytes : List ℕ) (ss : List Slice) (slice : Slice) (others : List Slice) (f : Flags) (id : List ℕ) (c d : Option ℕ) → (starts_sized bytes ≡ true → f.has_size ≡ true) → ss ≡ slice ∷ others → FormedAs id f.has_size c slice → ClassAs t u both id c d
        → CanBeRead t u bytes ss → SizedOr t u both f.has_size d
    first_read bytes ss slice others f id c d byte is formed class (inl sized) = inl (byte sized)
    first_read bytes ss slice others f id c d byte is (inl (none_is, sized, x, o, table, form)) class (inr here) = inl sized
    first_read bytes ss slice others f id c d byte is (inr (e, content, c_is, form)) class (inr here) =
        let there : IsOfBoth t u (known e content ∷ others) = subst (λ (s : Slice). IsOfBoth t u (s ∷ others)) form (subst (IsOfBoth t u) is here) in
        by_class there.0 (subst (λ (c : Option ℕ). ClassAs t u both id c d) c_is class) there.1
      where
        by_class : (b : ℕ) → ClassAs t u both id (Some e) d → SameClassId t u e b → SizedOr t u both f.has_size d
        by_class b (inl (is_none, named, hidden)) tied = hidden_untied t u both id e b named hidden tied
        by_class b (inr (o, is_some, tied)) other = inr (o, is_some)

    abbrev ShowsRead : (Before → Speller Spelled (List Slice)) → (Before → Speller Spelled (List Slice)) → Type 0
    ShowsRead Next Other = (x y : Before) → BeforeAs t u both x y → (bytes : List ℕ) (ss : List Slice) (from to begin : Spelled) → (x ≡ first → CanBeRead t u bytes ss) → Next x bytes ss from to → Rel from begin → Fine to
        → (rs : List Slice) × (end : Spelled) × Other y bytes rs begin end × AllSeen t u ks ss rs × Rel to end

    slices_seen : (n : ℕ) → ShowsRead (SpellsSlices one t all_slices n) (SpellsSlices two u all_slices n)
    slices_seen zero x y before bytes ss from to begin start h r good = absurd h
    slices_seen (suc n) x y before bytes ss from to begin start (f, a, b, mid, parts, ((byte, a_is, f_is, stands), still), (id, c, d, next, cut, is_id, (base, (read, (ends, (slice, g, h, end, pieces, body, (others, is, rest))))))) r good =
        let class : ClassAs t u both id (class_in t x id) (class_in u y id) = class_before t u both x y before id in
        let formed : FormedAs id f.has_size (class_in t x id) slice = body_form one t f id f.has_size (class_in t x id) g slice next end body in
        let sized : SizedOr t u both f.has_size (class_in u y id) = sized_before t u both x y before f id (and_rest (nat_lt byte 64) (may_stand x f) stands) (λ e.
        first_read bytes ss slice others f id (class_in t x id) (class_in u y id) (λ s. ap (λ (f : Flags). f.has_size) f_is ∙ subst (λ (l : List ℕ). starts_sized l ≡ true) (parts ∙ ap (λ (l : List ℕ). l ++ b) a_is) s) is formed class (start e)) in
        let good_end : Fine end = fit_before t ks end to (rest_stays t own one stays n f.is_last (before_next t (class_in t x id) f) h others end to rest) good in
        let i = id_carried f.id c id mid next begin is_id (moved from mid begin still r) in
        let p = body_seen f id f.has_size (class_in t x id) (class_in u y id) sized class g slice next end i.0 body i.2 good_end in
        let q = behind_seen (SpellsSlices one t all_slices n) (SpellsSlices two u all_slices n)
        (λ x y before behind bytes ss from to begin h r good. slices_seen n x y before bytes ss from to begin (λ e. absurd (behind e)) h r good)
        f.is_last (before_next t (class_in t x id) f) (before_next u (class_in u y id) f) (next_as t u both f id (class_in t x id) (class_in u y id) sized class)
        (not_first t u both f (class_in t x id)) h others end to p.1 rest p.4 good in (
          p.0 ∷ q.0,
          q.1,
          (
            f,
            a,
            b,
            begin,
            parts,
            ((byte, a_is, f_is, subst (λ (z : Bool). (nat_lt byte 64 && z) ≡ true) (stands_as t u both x y before f) stands), refl),
            (
              id,
              c,
              d,
              i.0,
              cut,
              i.1,
              (
                base_as t u both x y before id (class_in t x id) (class_in u y id) class base,
                (
                  read_as t u both f (class_in u y id) sized,
                  (
                    ends_as t u both f id (class_in t x id) (class_in u y id) class ends,
                    (p.0, g, h, p.1, pieces, p.2, (q.0, refl, q.2)),
                  ),
                ),
              ),
            ),
          ),
          subst (λ (l : List Slice). AllSeen t u ks l (p.0 ∷ q.0)) (sym is) (p.0, q.0, refl, p.3, q.3),
          q.4,
        )

  -- ---- instances

  inline_seen : (limit : ℕ) (Slices Other : Speller Spelled (List Slice)) → ((bytes : List ℕ) (ss : List Slice) (from to : Spelled) → Slices bytes ss from to → Stays from to) → Shows (AllSeen t u ks) Slices Other
      → (a b : Option ℕ) → SameBase t u rows.Class a b → (bytes : List ℕ) (n : Option ℕ) (from to begin : Spelled) → SpellsInline limit Slices a bytes n from to → Rel from begin → Fine to → (end : Spelled) × SpellsInline limit Other b bytes n begin end × Rel to end
  inline_seen limit Slices Other stays go a b tied bytes None from to begin h r good = (begin, (h.0, refl), moved from to begin h.1 r)
  inline_seen limit Slices Other stays go a b tied bytes (Some n) from to begin (inl (ss, front, rest, end, parts, size, number, room, h, ends)) r good =
      let count = each_length t u ks from.instances begin.instances r.instances in
      let good_end : Fine end = subst (λ (s : Spelled). Fine s) ends good in
      let good_start : Fine (beginning tt a from) = fit_before t ks (beginning tt a from) end (stays rest ss (beginning tt a from) end h) good_end in
      let fits = fit_rest t ks from.met (met_at tt a (length from.instances) ∷ []) good_start in
      let met : AllTied t u ks (met_at tt b (length begin.instances) ∷ []) = ((a, tied, subst (λ (k : ℕ). class_fits t a (class_of (slices_of ks k)) ≡ true) (sym count) fits.0), tt) in
      let start : Rel (beginning tt a from) (beginning tt b begin) = related_begun t u ks _ _ (related_met t u ks from begin (met_at tt a (length from.instances) ∷ []) (met_at tt b (length begin.instances) ∷ []) met r) in
      let g = go rest ss (beginning tt a from) end (beginning tt b begin) h start good_end in (
        with_ended n g.0 g.1,
        inl (g.0, front, rest, g.1, parts, size, number ∙ sym count, room, g.2, refl),
        moved (with_ended n ss end) to (with_ended n g.0 g.1) ends (related_ended t u ks n ss g.0 end g.1 g.3 g.4),
      )
  inline_seen limit Slices Other stays go a b tied bytes (Some n) from to begin (inr h) r good =
      let count = each_length t u ks from.instances begin.instances r.instances in
      let fits = fit_rest t ks from.met (met_at tt a n ∷ []) (subst (λ (s : Spelled). Fine s) h.2 good) in (
        with_met (met_at tt b n ∷ []) begin,
        inr (h.0, subst (λ (k : ℕ). n < k) (sym count) h.1, refl),
        moved (with_met (met_at tt a n ∷ []) from) to (with_met (met_at tt b n ∷ []) begin) h.2 (related_met t u ks from begin (met_at tt a n ∷ []) (met_at tt b n ∷ []) ((a, tied, fits.0), tt) r),
      )

  instances_seen : (limit more : ℕ) (a b : Option ℕ) → SameBase t u rows.Class a b → Carries (fit_steps t u ks) Rel ((readable_instances t u limit more).Spells a) ((instances u all_slices limit more).Spells b)
  instances_seen limit zero a b tied bytes n from to h = (
    readable_stay t own u limit zero a n bytes from to h,
    λ begin r good. inline_seen limit (λ bytes slices from to. ⊥) (λ bytes slices from to. ⊥) (λ bytes ss from to h. absurd h) (λ bytes ss from to begin h r good. absurd h) a b tied bytes n from to begin h r good,
  )
  instances_seen limit (suc more) a b tied bytes n from to h = (
    readable_stay t own u limit (suc more) a n bytes from to h,
    λ begin r good.
        inline_seen limit (λ bytes slices from to. CanBeRead t u bytes slices × SpellsInstance (readable_instances t u limit more) t all_slices bytes slices from to) (SpellsInstance (instances u all_slices limit more) u all_slices)
        (λ bytes ss from to h. slices_stay t own (readable_instances t u limit more) (readable_stay t own u limit more) h.1.0 first bytes ss from to h.1.1)
        (λ bytes ss from to begin h r good.
        let g = slices_seen (readable_instances t u limit more) (instances u all_slices limit more) (readable_stay t own u limit more) (instances_seen limit more) h.1.0 first first refl bytes ss from to begin (λ e. h.0) h.1.1 r good in
        (g.0, g.1, (h.1.0, g.2), g.3, g.4)) a b tied bytes n from to begin h r good,
  )

  pub content_seen : (limit more : ℕ) (shape other : Shape) → SameShape t u shape other → (bytes : List ℕ) (c : Members) (to : Spelled) → SpellsContent (readable_instances t u limit more) t shape bytes c opening to → AllFit t ks to.met
      → (end : Spelled) × SpellsContent (instances u all_slices limit more) u other bytes c opening end × Related t u ks to end
  content_seen limit more shape other tied bytes c to h good =
      (content_carried (fit_steps t u ks) Rel (readable_instances t u limit more) (instances u all_slices limit more) t u (rows_agree t u both) (instances_seen limit more) shape other tied bytes c opening to h).1 opening
      (record { ids = refl; instances = refl; met = tt }) good
