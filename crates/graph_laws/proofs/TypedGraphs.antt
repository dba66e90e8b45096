-- What bytes spell is a graph of its type.
use Rattle.std.proofs.Common.{ℕ, zero, suc, ◌<◌, ◌≤◌, ◌≡◌, ◌⊎◌, Bool, true, false, List, [], ◌∷◌, ◌++◌, length, refl, sym, ap, ◌∙◌, subst, arith, inl, inr, Option, Some, None}
use Rattle.std.specs.Prelude.{slice_get, slice_index, is_none}
use Rattle.std.proofs.lemmas.Bool.{cases_lt, eqb-true, ltb-true}
use Rattle.std.proofs.lemmas.Str.{IsUtf8-nil}
use Rattle.std.proofs.lemmas.List.{length-append, get_or_append_left}
use Rattle.ice_types.specs.declared.declarations.Shape.{Shape}
use Rattle.ice_types.specs.Tables.{Tables}
use Rattle.ice_types.specs.CompactIds.{IsSliceId}
use Rattle.ice_types.specs.Rules.{IsSchema}
use Rattle.ice_prims.specs.Rest.{IsBytes}
use Rattle.ice_encoding.specs.declared.limits.TheConstants.{LARGEST}
use Rattle.ice_encoding.specs.Port.{Port, Speller}
use Rattle.ice_encoding.specs.Typed.{Refers}
use Rattle.ice_encoding.specs.OptionalMembers.{Members, SpellsSliceMembers, SpellsContent}
use Rattle.ice_encoding.specs.Classes.{class_by_id, base_of, own_members}
use Rattle.ice_encoding.specs.Graph.{Slice, known, unknown}
use Rattle.ice_encoding.specs.Names.{renamed_members, renamed_name}
use Rattle.ice_encoding.specs.References.{State, Reference, met_at, SpellsEntry, in_table, entry_in, resolved, AreWithin, SpellsEntries, SpellsTable, SpellsInline, with_met, with_ended, replaced, beginning, opening}
use Rattle.ice_encoding.specs.Flags.{IdForm, no_id, as_text, as_index, as_number, Flags, Reach, Before, first, only_unknown, derived}
use Rattle.ice_encoding.specs.TypeIds.{SpellsId, class_in, is_base, same_bool, ends_well, before_base, before_next}
use Rattle.ice_encoding.specs.Slices.{unknown_bytes, SpellsBody, SpellsSlices, SpellsInstance}
use Rattle.ice_encoding.specs.Slices.{Behind as Others}
use Rattle.ice_encoding.specs.Instances.{instances, slices_of, class_of, class_fits, AllFit}
use Rattle.ice_encoding.specs.TypedGraph.{AreReferred, AreMembers, IsKnown, AreBases, IsUnknown, IsInstance, IsHeldIn, RefersUpTo}
use Rattle.graph_laws.proofs.PutBytes.{kept_bytes}
use Rattle.graph_laws.proofs.Texts.{AllTexts}
use Rattle.graph_laws.proofs.Ranged.{AreBelow}
use Rattle.graph_laws.proofs.ClassIds.{IsText, text_id, number_id, size_small, row_by_id}
use Rattle.graph_laws.proofs.Bases.{IsRow, base_is_row}
use Rattle.graph_laws.proofs.Carried.{Steps, front_fits, rest_fits}
use Rattle.graph_laws.proofs.Renamed.{Moves, members-renamed}
use Rattle.graph_laws.proofs.TypedMembers.{slice_typed, content_typed}

abbrev pub Spelled : Type 0
Spelled = State (Unit {0})

abbrev pub Uses : Type 0
Uses = List (Reference (Unit {0}))

-- ---- the item at a place is another

pub replaced_length : {A : Type 0} (n : ℕ) (x : A) (l : List A) → length (replaced n x l) ≡ length l
replaced_length n x [] = refl
replaced_length zero x (y ∷ l) = refl
replaced_length (suc n) x (y ∷ l) = ap suc (replaced_length n x l)

pub replaced_at : (n : ℕ) (x : List Slice) (l : List (List Slice)) → n < length l → slices_of (replaced n x l) n ≡ x
replaced_at n x [] lt = absurd (omega (arith, lt))
replaced_at zero x (y ∷ l) lt = refl
replaced_at (suc n) x (y ∷ l) lt = replaced_at n x l (omega (arith, lt))

pub replaced_else : (n m : ℕ) (x : List Slice) (l : List (List Slice)) → (n ≡ m → ⊥) → slices_of (replaced n x l) m ≡ slices_of l m
replaced_else n m x [] apart = refl
replaced_else zero zero x (y ∷ l) apart = absurd (apart refl)
replaced_else zero (suc m) x (y ∷ l) apart = refl
replaced_else (suc n) zero x (y ∷ l) apart = refl
replaced_else (suc n) (suc m) x (y ∷ l) apart = replaced_else n m x l (λ e. apart (ap suc e))

-- ---- type ids

utf8_at : (ids : List (List ℕ)) (i : ℕ) (id : List ℕ) → AllTexts ids → slice_get ids i ≡ Some id → IsText id
utf8_at [] i id h e = absurd cc
utf8_at (x ∷ ids) zero id h e = let same : x ≡ id = cc in subst IsText same h.0
utf8_at (x ∷ ids) (suc i) id h e = utf8_at ids i id h.1 e

utf8_front : (a b : List (List ℕ)) → AllTexts (a ++ b) → AllTexts a
utf8_front [] b h = tt
utf8_front (x ∷ a) b h = (h.0, utf8_front a b h.1)

module _ (t : Tables) (rules : IsSchema t) (reach : Reach) (is : List (List Slice)) (room : ℕ) where
  abbrev pub limit : ℕ
  limit = length is

  abbrev pub Refer : Refers
  Refer = RefersUpTo t LARGEST is

  fit_front : (a b : Uses) → AllFit t is (a ++ b) → AllFit t is a
  fit_front [] b h = tt
  fit_front (m ∷ a) b h = (h.0, fit_front a b h.1)

  fit_rest : (a b : Uses) → AllFit t is (a ++ b) → AllFit t is b
  fit_rest [] b h = h
  fit_rest (m ∷ a) b h = fit_rest a b h.1

  -- ---- places in a table

  module _ (table : List ℕ) (tabled : Bool) (below : (place : ℕ) → place < length table → entry_in table place < limit) where
    abbrev Placed : Uses → Type 0
    Placed us = tabled ≡ true → AreWithin (length table) us × AllFit t is (resolved table us)

    within_front : (us : Uses) (m : Reference (Unit {0})) → AreWithin (length table) (us ++ m ∷ []) → AreWithin (length table) us × (m.name < length table)
    within_front [] m h = (tt {0}, h.0)
    within_front (u ∷ us) m h = let rest = within_front us m h.1 in ((h.0, rest.0), rest.1)

    resolved_front : (us : Uses) (m : Reference (Unit {0})) → AllFit t is (resolved table (us ++ m ∷ [])) → AllFit t is (resolved table us) × (class_fits t m.declared (class_of (slices_of is (entry_in table m.name))) ≡ true)
    resolved_front [] m h = (tt {0}, h.0)
    resolved_front (u ∷ us) m h = let rest = resolved_front us m h.1 in ((h.0, rest.0), rest.1)

    abbrev table_steps : Steps Uses
    table_steps = record { Fine = Placed; Step = λ a b. Placed b → Placed a; same = λ s h. h; joined = λ a b c p q h. p (q h); back = λ a b step h. step h }

    abbrev IsPlaced : Option ℕ → Option ℕ → Type 0
    IsPlaced declared None = Unit {0}
    IsPlaced declared (Some place) = (place < length table) × (class_fits t declared (class_of (slices_of is (entry_in table place))) ≡ true)

    abbrev RefersTo : Refers
    RefersTo = record { Held = IsPlaced; most = LARGEST }

    entry_refers : (declared n : Option ℕ) (bytes : List ℕ) (from to : Uses) → IsBytes bytes → SpellsEntry tabled declared bytes n from to → Placed to → (Placed to → Placed from) × IsPlaced declared n
    entry_refers declared None bytes from to fits h fine = ((λ p. subst Placed h.1 p), tt)
    entry_refers declared (Some n) bytes from to fits h fine =
        let m : Reference (Unit {0}) = met_at tt declared n in
        let last : Placed (from ++ m ∷ []) = subst Placed h.2 fine in
        let at = last h.1 in
        ((λ p e. ((within_front from m at.0).0, (resolved_front from m at.1).0)), ((within_front from m at.0).1, (resolved_front from m at.1).1))

    to_name : (declared n : Option ℕ) → IsPlaced declared n → IsHeldIn t is declared (renamed_name (entry_in table) n)
    to_name declared None h = tt
    to_name declared (Some place) h = (below place h.0, h.1)

    to_names : Moves (entry_in table) RefersTo Refer
    to_names = (omega arith, to_name)

    sized_typed : (flagged : Bool) (shape : Shape) (bytes : List ℕ) (raw : Members) (uses : Uses) → IsBytes bytes → SpellsSliceMembers (in_table tabled) t flagged shape bytes raw [] uses → Placed uses → AreMembers t Refer shape (renamed_members (entry_in table) raw)
    sized_typed flagged shape bytes raw uses fits h fine =
        let typed = slice_typed (in_table tabled) t rules table_steps RefersTo (omega arith) entry_refers flagged shape bytes raw [] uses fits h fine in
        members-renamed t (entry_in table) RefersTo Refer to_names shape raw typed.1

  -- ---- states

  pub record Fine (s : Spelled) : Type 0 where
    pub met : AllFit t is s.met
    pub many : length s.instances ≤ limit
    pub ids : AllTexts s.ids

  abbrev pub Done : List Slice → Type 0
  Done ss = IsInstance t Refer ss

  -- what has begun between two states has ended, and is of its type
  pub record Step (from to : Spelled) : Type 0 where
    pub longer : length from.instances ≤ length to.instances
    pub fewer : length from.instances ≤ room → length to.instances ≤ room
    pub met : (ms : Uses) × (to.met ≡ from.met ++ ms)
    pub ids : (more : List (List ℕ)) × (to.ids ≡ from.ids ++ more)
    pub earlier : (m : ℕ) → m < length from.instances → slices_of to.instances m ≡ slices_of from.instances m
    pub done : (m : ℕ) → length from.instances ≤ m → m < length to.instances → Done (slices_of to.instances m)

  none_behind : {A : Type 0} (l : List A) → l ≡ l ++ []
  none_behind [] = refl
  none_behind (x ∷ l) = ap (λ (r : List _). x ∷ r) (none_behind l)

  behind_both : {A : Type 0} (a b c : List A) → (a ++ b) ++ c ≡ a ++ (b ++ c)
  behind_both [] b c = refl
  behind_both (x ∷ a) b c = ap (λ (r : List _). x ∷ r) (behind_both a b c)

  same_step : (s : Spelled) → Step s s
  same_step s = record { longer = omega arith; fewer = λ h. h; met = ([], none_behind s.met); ids = ([], none_behind s.ids); earlier = λ m lt. refl; done = λ m le lt. absurd (omega (arith, le, lt)) }

  pub joined_step : (a b c : Spelled) → Step a b → Step b c → Step a c
  joined_step a b c p q = record {
    longer = omega (arith, p.longer, q.longer);
    fewer = λ h. q.fewer (p.fewer h);
    met = (p.met.0 ++ q.met.0, q.met.1 ∙ ap (λ (l : Uses). l ++ q.met.0) p.met.1 ∙ behind_both a.met p.met.0 q.met.0);
    ids = (p.ids.0 ++ q.ids.0, q.ids.1 ∙ ap (λ (l : List (List ℕ)). l ++ q.ids.0) p.ids.1 ∙ behind_both a.ids p.ids.0 q.ids.0);
    earlier = λ m lt. q.earlier m (omega (arith, lt, p.longer)) ∙ p.earlier m lt;
    done = λ m le lt. elim (cases_lt m (length b.instances)) [
      | inl less ↦ subst Done (sym (q.earlier m less)) (p.done m le less)
      | inr more ↦ q.done m more lt
    ];
  }

  pub back_step : (a b : Spelled) → Step a b → Fine b → Fine a
  back_step a b p f = record {
    met = fit_front a.met p.met.0 (subst (AllFit t is) p.met.1 f.met);
    many = omega (arith, p.longer, f.many);
    ids = utf8_front a.ids p.ids.0 (subst AllTexts p.ids.1 f.ids);
  }

  abbrev state_steps : Steps Spelled
  state_steps = record { Fine = Fine; Step = Step; same = same_step; joined = joined_step; back = back_step }

  pub stays : (from to : Spelled) → to ≡ from → Step from to
  stays from to e = subst (λ (s : Spelled). Step from s) (sym e) (same_step from)

  noted : (s : Spelled) (ms : Uses) → Step s (with_met ms s)
  noted s ms = record { longer = omega arith; fewer = λ h. h; met = (ms, refl); ids = ([], none_behind s.ids); earlier = λ m lt. refl; done = λ m le lt. absurd (omega (arith, le, lt)) }

  -- ---- what slices are of, by the tables of their classes

  module _ (u : Tables) where
    -- what a body is
    abbrev pub BodyIs : List ℕ → Option ℕ → Slice → Type 0
    BodyIs id (Some class) s = (content : Members) × (s ≡ known class content) × AreMembers u Refer (own_members u class) content
    BodyIs id None s = (bytes : List ℕ) × (optionals : Bool) × (table : List ℕ) × (s ≡ unknown id bytes optionals table) × AreBelow limit table × IsBytes bytes

    -- what the slices are, by what stands before them
    abbrev pub Come : Before → List Slice → Type 0
    Come first ss = IsInstance u Refer ss
    Come only_unknown ss = IsInstance u Refer ss
    Come (derived sized base) ss = AreBases u Refer (Some base) ss

    -- what follows an unknown slice, or one of a class
    abbrev pub After : Option ℕ → List Slice → Type 0
    After None others = (others ≡ []) ⊎ IsInstance u Refer others
    After (Some class) others = AreBases u Refer (base_of u class) others

    referred : (table : List ℕ) → AreBelow limit table → AreReferred Refer table
    referred [] below = tt
    referred (n ∷ ns) below = ((below.0, refl), referred ns below.1)

    unknown_comes : (id bytes : List ℕ) (optionals : Bool) (table : List ℕ) (others : List Slice) → IsUnknown u Refer id bytes table → After None others → IsInstance u Refer (unknown id bytes optionals table ∷ others)
    unknown_comes id bytes optionals table [] k (inl e) = k
    unknown_comes id bytes optionals table [] k (inr h) = absurd h
    unknown_comes id bytes optionals table (s ∷ ss) k (inl e) = absurd cc
    unknown_comes id bytes optionals table (s ∷ ss) k (inr h) = (k, h)

    known_comes : (ahead : Before) (class : ℕ) (content : Members) (others : List Slice) → is_base ahead (Some class) ≡ true → IsKnown u Refer class content → AreBases u Refer (base_of u class) others → Come ahead (known class content ∷ others)
    known_comes first class content others based k bases = (k, bases)
    known_comes only_unknown class content others based k bases = (k, bases)
    known_comes (derived sized base) class content others based k bases =
        let same : class ≡ base = eqb-true class base based in
        (same, subst (λ (c : ℕ). IsKnown u Refer c content) same k, subst (λ (c : ℕ). AreBases u Refer (base_of u c) others) same bases)

    pub one_comes : (ahead : Before) (id : List ℕ) (class : Option ℕ) (slice : Slice) (others : List Slice) → (class ≡ None → class_by_id u id ≡ None) → ((c : ℕ) → class ≡ Some c → IsRow u.classes c) → IsSliceId id → is_base ahead class ≡ true → BodyIs id class slice
        → After class others → Come ahead (slice ∷ others)
    one_comes first id None slice others lacks row is_id based (bytes, optionals, table, s_is, below, kept) after =
        subst (λ (s : Slice). Come first (s ∷ others)) (sym s_is) (unknown_comes id bytes optionals table others (lacks refl, is_id, referred table below, kept) after)
    one_comes only_unknown id None slice others lacks row is_id based (bytes, optionals, table, s_is, below, kept) after =
        subst (λ (s : Slice). Come only_unknown (s ∷ others)) (sym s_is) (unknown_comes id bytes optionals table others (lacks refl, is_id, referred table below, kept) after)
    one_comes (derived sized base) id None slice others lacks row is_id based body after = absurd cc
    one_comes ahead id (Some class) slice others lacks row is_id based (content, s_is, h) after =
        let d = row class refl in
        let k : IsKnown u Refer class content = (d.0, d.1, h) in
        subst (λ (s : Slice). Come ahead (s ∷ others)) (sym s_is) (known_comes ahead class content others based k after)

  -- ---- slices, by what references refer to

  module _ (port : Port (State ℕ) Spelled) (refers : (declared n : Option ℕ) (bytes : List ℕ) (from to : Spelled) → IsBytes bytes → port.Spells declared bytes n from to → Fine to → Step from to × IsHeldIn t is declared n) where
    entries_typed : (n : ℕ) (bytes names : List ℕ) (from to : Spelled) → IsBytes bytes → SpellsEntries port n bytes names from to → Fine to → Step from to × AreBelow limit names × (length names ≡ n)
    entries_typed zero bytes names from to fits h fine = (stays from to h.2, subst (AreBelow limit) (sym h.1) tt, ap length h.1)
    entries_typed (suc n) bytes names from to fits (name, others, a, b, mid, is_names, parts, one, more) fine =
        let rest = entries_typed n b others mid to (rest_fits bytes a b parts fits) more fine in
        let head = refers None (Some name) a from mid (front_fits bytes a b parts fits) one (back_step mid to rest.0 fine) in
        (joined_step from mid to head.0 rest.0, subst (AreBelow limit) (sym is_names) (head.1.0, rest.1), ap length is_names ∙ ap suc rest.2)

    record TableIs (tabled : Bool) (uses : Uses) (table : List ℕ) (from to : Spelled) : Type 0 where
      step : Step from to
      below : AreBelow limit table
      placed : tabled ≡ true → AreWithin (length table) uses × AllFit t is (resolved table uses)

    table_typed : (tabled : Bool) (uses : Uses) (bytes table : List ℕ) (from to : Spelled) → IsBytes bytes → SpellsTable port tabled uses bytes table from to → Fine to → TableIs tabled uses table from to
    table_typed false uses bytes table from to fits h fine = record { step = stays from to h.2; below = subst (AreBelow limit) (sym h.1) tt; placed = λ e. absurd cc }
    table_typed true uses bytes table from to fits (n, front, body, end, parts, size, within, entries, to_is) fine =
        let last : Fine (with_met (resolved table uses) end) = subst Fine to_is fine in
        let whole : Step end (with_met (resolved table uses) end) = noted end (resolved table uses) in
        let e = entries_typed n body table from end (rest_fits bytes front body parts fits) entries (back_step end (with_met (resolved table uses) end) whole last) in
        record {
          step = subst (λ (s : Spelled). Step from s) (sym to_is) (joined_step from end (with_met (resolved table uses) end) e.0 whole);
          below = e.1;
          placed = λ is_true. (subst (λ (k : ℕ). AreWithin k uses) (sym e.2) within, fit_rest end.met (resolved table uses) last.met);
        }

    below_at : (ns : List ℕ) → AreBelow limit ns → (place : ℕ) → place < length ns → slice_index ns place < limit
    below_at [] h place lt = absurd (omega (arith, lt))
    below_at (n ∷ ns) h zero lt = h.0
    below_at (n ∷ ns) h (suc place) lt = below_at ns h.1 place (omega (arith, lt))

    -- the values of members in the tables u are as in t
    pub record Alike (u : Tables) : Type 0 where
      pub placed : (tabled flagged : Bool) (shape : Shape) (bytes : List ℕ) (c : Members) (from to : Uses) → SpellsSliceMembers (in_table tabled) u flagged shape bytes c from to → SpellsSliceMembers (in_table tabled) t flagged shape bytes c from to
      pub inline : (flagged : Bool) (shape : Shape) (bytes : List ℕ) (c : Members) (from to : Spelled) → SpellsSliceMembers port u flagged shape bytes c from to → SpellsSliceMembers port t flagged shape bytes c from to
      pub members : (shape : Shape) (c : Members) → AreMembers t Refer shape c → AreMembers u Refer shape c

    pub body_typed : (u : Tables) → Alike u → (f : Flags) (id : List ℕ) (sized : Bool) (class : Option ℕ) (bytes : List ℕ) (s : Slice) (from to : Spelled) → IsBytes bytes → SpellsBody port u f id sized class bytes s from to → Fine to → Step from to × BodyIs u id class s
    body_typed u alike f id true (Some class) bytes s from to fits (raw, uses, a, b, parts, (front, body, cut, size, members), (table, s_is, h)) fine =
        let tb = table_typed f.has_table uses b table from to (rest_fits bytes a b parts fits) h fine in
        let inner = rest_fits a front body cut (front_fits bytes a b parts fits) in
        let shape : Shape = own_members u class in
        let content : Members = renamed_members (entry_in table) raw in
        let typed = sized_typed table f.has_table (below_at table tb.below) f.has_optional shape body raw uses inner (alike.placed f.has_table f.has_optional shape body raw [] uses members) tb.placed in
        (tb.step, (content, s_is, alike.members shape content typed))
    body_typed u alike f id true None bytes s from to fits (content, a, b, mid, parts, ((front, cut, size), still), (table, s_is, h)) fine =
        let tb = table_typed f.has_table [] b table mid to (rest_fits bytes a b parts fits) h fine in
        (joined_step from mid to (stays from mid still) tb.step, (content, f.has_optional, table, s_is, tb.below, kept_bytes f.has_optional content (rest_fits a front (unknown_bytes f.has_optional content) cut (front_fits bytes a b parts fits))))
    body_typed u alike f id false (Some class) bytes s from to fits (content, s_is, h) fine =
        let shape : Shape = own_members u class in
        let m = slice_typed port t rules state_steps Refer (omega arith) refers f.has_optional shape bytes content from to fits (alike.inline f.has_optional shape bytes content from to h) fine in
        (m.0, (content, s_is, alike.members shape content m.1))
    body_typed u alike f id false None bytes s from to fits h fine = absurd h

    -- ---- the slices of an instance

    -- a base that is awaited is a class of the tables
    abbrev InTable : Before → Type 0
    InTable first = Unit {0}
    InTable only_unknown = Unit {0}
    InTable (derived sized base) = IsRow t.classes base

    id_typed : (form : IdForm) (bytes id : List ℕ) (from to : Spelled) → SpellsId form bytes id from to → Step from to × (AllTexts to.ids → IsSliceId id)
    id_typed no_id bytes id from to h = (stays from to h.2, λ u. subst IsSliceId (sym h.1) (IsUtf8-nil, inl refl))
    id_typed as_text bytes id from to h =
        (subst (λ (s : Spelled). Step from s) (sym h.1) (record { longer = omega arith; fewer = λ h. h; met = ([], none_behind from.met); ids = (id ∷ [], refl); earlier = λ m lt. refl; done = λ m le lt. absurd (omega (arith, le, lt)) }), λ u. text_id id (h.0.0.2, h.0.1))
    id_typed as_index bytes id from to h = (stays from to h.3, λ u. text_id id (utf8_at to.ids h.0 id u (subst (λ (s : Spelled). slice_get s.ids h.0 ≡ Some id) (sym h.3) h.2)))
    id_typed as_number bytes id from to h = (stays from to h.3, λ u. number_id h.0 id (size_small bytes h.0 h.1) h.2)

    -- what is known of the slices behind
    abbrev Rest : Bool → Before → List Slice → Type 0
    Rest last next others = (last ≡ true → others ≡ []) × (last ≡ false → Come t next others)

    ended_or : (last : Bool) (others : List Slice) → Rest last only_unknown others → After t None others
    ended_or true others r = inl (r.0 refl)
    ended_or false others r = inr (r.1 refl)

    -- the bases of a class are behind it
    bases_behind : (base : Option ℕ) (sized last : Bool) (others : List Slice) → same_bool last (is_none base) ≡ true → Rest last (before_base sized base) others → AreBases t Refer base others
    bases_behind None sized true others e r = r.0 refl
    bases_behind None sized false others e r = absurd cc
    bases_behind (Some base) sized true others e r = absurd cc
    bases_behind (Some base) sized false others e r = r.1 refl

    after_of : (class : Option ℕ) (f : Flags) (others : List Slice) → ends_well t class f ≡ true → Rest f.is_last (before_next t class f) others → After t class others
    after_of None f others ends rest = ended_or f.is_last others rest
    after_of (Some class) f others ends rest = bases_behind (base_of t class) f.has_size f.is_last others ends rest

    lacks_in : (ahead : Before) (id : List ℕ) → class_in t ahead id ≡ None → class_by_id t id ≡ None
    lacks_in first id e = e
    lacks_in only_unknown id e = e
    lacks_in (derived true base) id e = e
    lacks_in (derived false base) id e = absurd cc

    class_is_known : (ahead : Before) → InTable ahead → (id : List ℕ) (class : ℕ) → class_in t ahead id ≡ Some class → IsRow t.classes class
    class_is_known first in_table id class e = row_by_id t id class e
    class_is_known only_unknown in_table id class e = row_by_id t id class e
    class_is_known (derived true base) in_table id class e = row_by_id t id class e
    class_is_known (derived false base) in_table id class e =
        let same : base ≡ class = cc in
        subst (IsRow t.classes) same in_table

    own : Alike t
    own = record { placed = λ tabled flagged shape bytes c from to h. h; inline = λ flagged shape bytes c from to h. h; members = λ shape c h. h }

    base_in_table : (sized : Bool) (class : ℕ) (base : Option ℕ) → base_of t class ≡ base → InTable (before_base sized base)
    base_in_table sized class None e = tt
    base_in_table sized class (Some base) e = base_is_row t class base rules e

    next_in_table : (class : Option ℕ) (f : Flags) → InTable (before_next t class f)
    next_in_table None f = tt
    next_in_table (Some class) f = base_in_table f.has_size class (base_of t class) refl

    abbrev SlicesTyped : (Before → Speller Spelled (List Slice)) → Type 0
    SlicesTyped Next = (ahead : Before) → InTable ahead → (bytes : List ℕ) (ss : List Slice) (from to : Spelled) → IsBytes bytes → Next ahead bytes ss from to → Fine to → Step from to × Come t ahead ss

    behind_typed : (Next : Before → Speller Spelled (List Slice)) → SlicesTyped Next → (last : Bool) (ahead : Before) → InTable ahead → (bytes : List ℕ) (ss : List Slice) (from to : Spelled) → IsBytes bytes → Others port t Next last ahead bytes ss from to → Fine to → Step from to × Rest last ahead ss
    behind_typed Next next true ahead in_table bytes ss from to fits h fine = (stays from to h.2, ((λ e. h.1), λ e. absurd cc))
    behind_typed Next next false ahead in_table bytes ss from to fits h fine = let r = next ahead in_table bytes ss from to fits h fine in (r.0, ((λ e. absurd cc), λ e. r.1))

    slices_typed : (n : ℕ) → SlicesTyped (SpellsSlices port t reach n)
    slices_typed zero ahead in_table bytes ss from to fits h fine = absurd h
    slices_typed (suc n) ahead in_table bytes ss from to fits (f, a, b, mid, parts, (flags, first_is), (id, c, d, next, cut, is_id, (base, (read, (ends, (slice, g, h, end, pieces, body, (others, is_list, rest))))))) fine =
        let class = class_in t ahead id in
        let fits_d = rest_fits b c d cut (rest_fits bytes a b parts fits) in
        let more = behind_typed (SpellsSlices port t reach n) (slices_typed n) f.is_last (before_next t class f) (next_in_table class f) h others end to (rest_fits d g h pieces fits_d) rest fine in
        let fine_end = back_step end to more.0 fine in
        let one = body_typed t own f id f.has_size class g slice next end (front_fits d g h pieces fits_d) body fine_end in
        let fine_next = back_step next end one.0 fine_end in
        let head = id_typed f.id c id mid next is_id in
        let step = joined_step from mid to (stays from mid first_is) (joined_step mid next to head.0 (joined_step next end to one.0 more.0)) in
        (step, subst (Come t ahead) (sym is_list) (one_comes t ahead id class slice others (lacks_in ahead id) (class_is_known ahead in_table id) (head.1 fine_next.ids) base one.1 (after_of class f others ends more.1)))

    all_typed : (bytes : List ℕ) (ss : List Slice) (from to : Spelled) → IsBytes bytes → SpellsInstance port t reach bytes ss from to → Fine to → Step from to × Done ss
    all_typed bytes ss from to fits h fine = slices_typed h.0 first tt bytes ss from to fits h.1 fine

  -- ---- references outside of sized slices

  module _ (Slices : Speller Spelled (List Slice)) (one : (bytes : List ℕ) (ss : List Slice) (from to : Spelled) → IsBytes bytes → Slices bytes ss from to → Fine to → Step from to × Done ss) where
    begins_typed : (declared : Option ℕ) (n : ℕ) (ss : List Slice) (from end : Spelled) → n ≡ length from.instances → n < room → Step (beginning tt declared from) end × Done ss → Fine end → Step from (with_ended n ss end) × IsHeldIn t is declared (Some n)
    begins_typed declared n ss from end at small (inner, done) fine =
        let start : Spelled = beginning tt declared from in
        let m : Reference (Unit {0}) = met_at tt declared (length from.instances) in
        let started : length start.instances ≡ suc n = length-append from.instances ([] ∷ []) ∙ omega (arith, at) in
        let there : n < length end.instances = omega (arith, started, inner.longer) in
        let same_long = replaced_length n ss end.instances in
        let fit : AllFit t is (from.met ++ m ∷ []) = (back_step start end inner fine).met in
        let fits_m = fit_rest from.met (m ∷ []) fit in (
          record {
            longer = omega (arith, same_long, there, at);
            fewer = λ h. omega (arith, same_long, inner.fewer (omega (arith, started, small)));
            met = (m ∷ inner.met.0, inner.met.1 ∙ behind_both from.met (m ∷ []) inner.met.0);
            ids = inner.ids;
            earlier = λ i lt. replaced_else n i ss end.instances (λ same. omega (arith, same, at, lt)) ∙ inner.earlier i (omega (arith, started, lt, at)) ∙ get_or_append_left from.instances ([] ∷ []) [] i lt;
            done = λ i le lt. elim (cases_lt n i) [
              | inl less ↦ subst Done (sym (replaced_else n i ss end.instances (λ same. omega (arith, same, less)))) (inner.done i (omega (arith, started, less)) (omega (arith, lt, same_long)))
              | inr ge ↦ (let same : n ≡ i = omega (arith, ge, le, at) in subst (λ (k : ℕ). Done (slices_of (replaced n ss end.instances) k)) same (subst Done (sym (replaced_at n ss end.instances there)) done))
            ];
          },
          (omega (arith, there, fine.many), subst (λ (k : ℕ). class_fits t declared (class_of (slices_of is k)) ≡ true) (sym at) fits_m.0),
        )

    fine_ended : (n : ℕ) (ss : List Slice) (end : Spelled) → Fine (with_ended n ss end) → Fine end
    fine_ended n ss end f = record { met = f.met; many = omega (arith, f.many, replaced_length n ss end.instances); ids = f.ids }

    inline_typed : (declared n : Option ℕ) (bytes : List ℕ) (from to : Spelled) → IsBytes bytes → SpellsInline room Slices declared bytes n from to → Fine to → Step from to × IsHeldIn t is declared n
    inline_typed declared None bytes from to fits h fine = (stays from to h.1, tt)
    inline_typed declared (Some n) bytes from to fits (inl (ss, front, rest, end, parts, size, at, small, h, to_is)) fine =
        let fine_end = fine_ended n ss end (subst Fine to_is fine) in
        let r = begins_typed declared n ss from end at (ltb-true n room small) (one rest ss (beginning tt declared from) end (rest_fits bytes front rest parts fits) h fine_end) fine_end in
        (subst (λ (s : Spelled). Step from s) (sym to_is) r.0, r.1)
    inline_typed declared (Some n) bytes from to fits (inr (size, there, to_is)) fine =
        let m : Reference (Unit {0}) = met_at tt declared n in
        let last : Fine (with_met (m ∷ []) from) = subst Fine to_is fine in
        (subst (λ (s : Spelled). Step from s) (sym to_is) (noted from (m ∷ [])), (omega (arith, there, last.many), (fit_rest from.met (m ∷ []) last.met).0))

  pub instances_typed : (more : ℕ) (declared n : Option ℕ) (bytes : List ℕ) (from to : Spelled) → IsBytes bytes → (instances t reach room more).Spells declared bytes n from to → Fine to → Step from to × IsHeldIn t is declared n
  instances_typed zero declared n bytes from to fits h fine = inline_typed (λ bytes slices from to. ⊥) (λ bytes ss from to fits h fine. absurd h) declared n bytes from to fits h fine
  instances_typed (suc more) declared n bytes from to fits h fine =
      inline_typed (SpellsInstance (instances t reach room more) t reach) (all_typed (instances t reach room more) (instances_typed more)) declared n bytes from to fits h fine

  -- ---- a whole content

  pub graph_typed : (more : ℕ) (shape : Shape) (bytes : List ℕ) (roots : Members) (end : Spelled) → IsBytes bytes → SpellsContent (instances t reach room more) t shape bytes roots opening end → end.instances ≡ is → AllFit t is end.met → AllTexts end.ids
      → AreMembers t Refer shape roots × ((n : ℕ) → n < limit → IsInstance t Refer (slices_of is n)) × (limit ≤ room)
  graph_typed more shape bytes roots end fits h same fit utf8 =
      let fine : Fine end = record { met = fit; many = omega (arith, ap length same); ids = utf8 } in
      let r = content_typed (instances t reach room more) t rules state_steps Refer (omega arith) (instances_typed more) shape bytes roots opening end fits h fine in
      (r.1, (λ n lt. subst (λ (l : List (List Slice)). Done (slices_of l n)) same (r.0.done n (omega arith) (omega (arith, lt, ap length same)))), omega (arith, ap length same, r.0.fewer (omega arith)))
