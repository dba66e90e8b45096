-- What both schemas read, the node can read: an instance without sizes is of a class that it has.
use Rattle.std.proofs.Common.{ℕ, zero, suc, ◌≡◌, ◌⊎◌, Bool, true, false, List, [], ◌∷◌, ◌++◌, length, take, refl, sym, ap, ◌∙◌, subst, Option, Some, None, inl, inr, arith}
use Rattle.std.specs.Prelude.{slice_get}
use Rattle.std.proofs.lemmas.List.{length-append, append_assoc, take_at}
use Rattle.ice_types.specs.declared.kind.RowRef.TheVariants as rows
use Rattle.ice_types.specs.declared.declarations.Shape.{Shape}
use Rattle.ice_types.specs.Tables.{Tables}
use Rattle.ice_types.specs.CompactIds.{numbered_id}
use Rattle.ice_types.specs.Lacking.{SameShape, SameBase}
use Rattle.ice_prims.specs.Number.{SpellsText}
use Rattle.ice_encoding.specs.Parts.{size}
use Rattle.ice_encoding.proofs.Joined.{size_lawful}
use Rattle.ice_encoding.specs.Port.{Port, Speller}
use Rattle.ice_encoding.proofs.Values.{text_lawful}
use Rattle.ice_encoding.specs.Steps.{Followed}
use Rattle.ice_encoding.specs.Classes.{own_members}
use Rattle.ice_encoding.specs.Graph.{Slice, Graph}
use Rattle.ice_encoding.specs.References.{State, with_met, with_ended, resolved, beginning, opening, SpellsEntries, SpellsTable, SpellsInline}
use Rattle.ice_encoding.specs.Flags.{IdForm, no_id, as_text, as_index, as_number, Flags, flags_of, all_slices, Before, first}
use Rattle.ice_encoding.specs.TypeIds.{SpellsId, with_id, class_in, can_be_read, ends_well, before_next}
use Rattle.ice_encoding.specs.Slices.{slice_size, unknown_bytes, SpellsBody, FromId, SpellsSlices, SpellsInstance}
use Rattle.ice_encoding.specs.Slices.{Behind as Others}
use Rattle.ice_encoding.specs.Instances.{instances, most_instances, SpellsGraph}
use Rattle.ice_encoding.proofs.GraphSizes.{slice_size_lawful}
use Rattle.graph_laws.proofs.TypeIds.{Spelled}
use Rattle.graph_laws.proofs.WrittenGraphs.{replaced_length}
use Rattle.graph_laws.specs.Sized.{starts_sized}
use Rattle.graph_laws.specs.Seeing.{SameClassId}
use Rattle.graph_laws.specs.Readable.{IsOfBoth, CanBeRead, readable_instances, SpellsReadableGraph}
use Rattle.graph_laws.proofs.Measured.{own_same}
use Rattle.graph_laws.proofs.Stays.{Uses}
use Rattle.graph_laws.proofs.Classed.{none_some, Both, rows_agree, ClassAs, BeforeAs, class_before, SizedOr, next_as}
use Rattle.graph_laws.proofs.Back.{FormedAs, body_form}
use Rattle.graph_laws.proofs.Locked.{Locks, law_of, part_apart, joined, slice_locked, content_locked}

-- ---- parts

size_apart : (a b r s : List ℕ) (n m : ℕ) → a ++ r ≡ b ++ s → size.Spells a n → size.Spells b m → (a ≡ b) × (n ≡ m)
size_apart a b r s n m e h g = part_apart size.read size.Spells (law_of size size_lawful) a b r s n m e h g

front_same : (a b r s : List ℕ) → length a ≡ length b → a ++ r ≡ b ++ s → a ≡ b
front_same a b r s long e = sym (take_at a r (length a) refl) ∙ ap (take (length a)) e ∙ take_at b s (length a) (sym long)

-- a slice's size and what it counts
counted_apart : (p i r s front body lead rest : List ℕ) → p ≡ front ++ body → i ≡ lead ++ rest → slice_size.Spells front (length body) → slice_size.Spells lead (length rest) → p ++ r ≡ i ++ s → (p ≡ i) × Unit {0}
counted_apart p i r s front body lead rest here there many many' e =
    let m = joined p i r s front body lead rest here there e (λ e. part_apart slice_size.read slice_size.Spells (law_of slice_size slice_size_lawful) front lead (body ++ r) (rest ++ s) (length body) (length rest) e many many')
    (λ long e. front_unit body rest r s long e) in
    (m.0, tt)
  where
    front_unit : (a b r s : List ℕ) → length a ≡ length b → a ++ r ≡ b ++ s → (a ≡ b) × Unit {0}
    front_unit a b r s long e = (front_same a b r s long e, tt)

flags_apart : (p i r s : List ℕ) (b c : ℕ) (f g : Flags) → p ≡ b ∷ [] → i ≡ c ∷ [] → f ≡ flags_of b → g ≡ flags_of c → p ++ r ≡ i ++ s → (p ≡ i) × (f ≡ g)
flags_apart p i r s b c f g here there f_is g_is e =
    let whole : b ∷ r ≡ c ∷ s = ap (λ (l : List ℕ). l ++ r) (sym here) ∙ e ∙ ap (λ (l : List ℕ). l ++ s) there in
    let same : b ≡ c = cc in
    (here ∙ ap (λ (n : ℕ). n ∷ []) same ∙ sym there, f_is ∙ ap flags_of same ∙ sym g_is)

read_sized : (t u : Tables) (both : Both t u) (f : Flags) (d : Option ℕ) → can_be_read all_slices d f ≡ true → SizedOr t u both f.has_size d
read_sized t u both f None h = inl h
read_sized t u both f (Some b) h = inr (b, refl)

module _ (t u : Tables) (both : Both t u) where
  -- as many type ids and instances
  abbrev Rel : Spelled → Spelled → Type 0
  Rel a b = (b.ids ≡ a.ids) × (length b.instances ≡ length a.instances)

  moved : (from to begin end : Spelled) → to ≡ from → end ≡ begin → Rel from begin → Rel to end
  moved from to begin end e f r = subst (λ (s : Spelled). Rel s end) (sym e) (subst (Rel from) (sym f) r)

  id_locked : (form : IdForm) (a b r s id other : List ℕ) (from to begin end : Spelled) → a ++ r ≡ b ++ s → SpellsId form a id from to → SpellsId form b other begin end → Rel from begin → (a ≡ b) × ((id ≡ other) × Rel to end)
  id_locked no_id a b r s id other from to begin end e h g rel = (h.0 ∙ sym g.0, (h.1 ∙ sym g.1, moved from to begin end h.2 g.2 rel))
  id_locked as_text a b r s id other from to begin end e h g rel =
      let m = part_apart _ SpellsText text_lawful a b r s id other e h.0.0 g.0.0 in
      (m.0, (m.1, moved (with_id id from) to (with_id other begin) end h.1 g.1 (ap (λ (l : List (List ℕ)). l ++ other ∷ []) rel.0 ∙ ap (λ (i : List ℕ). from.ids ++ i ∷ []) (sym m.1), rel.1)))
  id_locked as_index a b r s id other from to begin end e h g rel =
      let m = size_apart a b r s (suc h.0) (suc g.0) e h.1 g.1 in
      let place : h.0 ≡ g.0 = omega (arith, m.1) in
      let both_ids : Some id ≡ Some other = sym h.2 ∙ ap (slice_get from.ids) place ∙ ap (λ (l : List (List ℕ)). slice_get l g.0) (sym rel.0) ∙ g.2 in
      (m.0, ((let same : id ≡ other = cc in same), moved from to begin end h.3 g.3 rel))
  id_locked as_number a b r s id other from to begin end e h g rel =
      let m = size_apart a b r s h.0 g.0 e h.1 g.1 in
      (m.0, (h.2 ∙ ap numbered_id m.1 ∙ sym g.2, moved from to begin end h.3 g.3 rel))

  module _ (one three two : Port (State ℕ) Spelled) (refer : (a b : Option ℕ) → SameBase t u rows.Class a b → Locks Rel (one.Spells a) (two.Spells b) (three.Spells a)) where
    entries_locked : (n : ℕ) → Locks Rel (SpellsEntries one n) (SpellsEntries two n) (SpellsEntries three n)
    entries_locked zero a b r s x y from to begin end e h g rel = (h.0 ∙ sym g.0, (moved from to begin end h.2 g.2 rel, h))
    entries_locked (suc n) a b r s x y from to begin end e h g rel =
        let m = joined a b r s h.2 h.3 g.2 g.3 h.6 g.6 e
        (λ e. refer None None refl h.2 g.2 (h.3 ++ r) (g.3 ++ s) (Some h.0) (Some g.0) from h.4 begin g.4 e h.7 g.7 rel)
        (λ p e. entries_locked n h.3 g.3 r s h.1 g.1 h.4 to g.4 end e h.8 g.8 p.0) in
        (m.0, (m.2.0, (h.0, h.1, h.2, h.3, h.4, h.5, h.6, m.1.1, m.2.1)))

    table_locked : (tabled : Bool) (x y : Uses) → Locks Rel (SpellsTable one tabled x) (SpellsTable two tabled y) (SpellsTable three tabled x)
    table_locked false x y a b r s table other from to begin end e h g rel = (h.0 ∙ sym g.0, (moved from to begin end h.2 g.2 rel, h))
    table_locked true x y a b r s table other from to begin end e (n, front, body, last, cut, many, within, entries, is) (m, lead, rest, last', cut', many', within', entries', is') rel =
        let g = joined a b r s front body lead rest cut cut' e (λ e. size_apart front lead (body ++ r) (rest ++ s) n m e many many')
        (λ same e. entries_locked n body rest r s table other from last begin last' e entries (subst (λ (k : ℕ). SpellsEntries two k rest other begin last') (sym same) entries') rel) in
        (g.0, (moved (with_met (resolved table x) last) to (with_met (resolved other y) last') end is is' g.2.0, (n, front, body, last, cut, many, within, g.2.1, is)))

    body_locked : (f : Flags) (id : List ℕ) (sized : Bool) (c d : Option ℕ) → ClassAs t u both id c d → Locks Rel (SpellsBody one t f id sized c) (SpellsBody two u f id sized d) (SpellsBody three t f id sized c)
    body_locked f id true (Some c) (Some d) class a b r s x y from to begin end e (raw, uses, p, q, parts, (front, body, cut, many, members), (table, is, h)) (raw', uses', i, j, parts', (lead, rest, cut', many', members'), (table', is', g)) rel =
        let m = joined a b r s p q i j parts parts' e (counted_apart p i (q ++ r) (j ++ s) front body lead rest cut cut' many many')
        (λ z e. table_locked f.has_table uses uses' q j r s table table' from to begin end e h g rel) in
        (m.0, (m.2.0, (raw, uses, p, q, parts, (front, body, cut, many, members), (table, is, m.2.1))))
    body_locked f id true (Some c) None class a b r s x y from to begin end e (raw, uses, p, q, parts, (front, body, cut, many, members), (table, is, h)) (content', i, j, mid', parts', ((lead, cut', many'), still'), (table', is', g)) rel =
        let m = joined a b r s p q i j parts parts' e (counted_apart p i (q ++ r) (j ++ s) front body lead (unknown_bytes f.has_optional content') cut cut' many many')
        (λ z e. table_locked f.has_table uses [] q j r s table table' from to mid' end e h g (moved from from begin mid' refl still' rel)) in
        (m.0, (m.2.0, (raw, uses, p, q, parts, (front, body, cut, many, members), (table, is, m.2.1))))
    body_locked f id true None None class a b r s x y from to begin end e (content, p, q, mid, parts, ((front, cut, many), still), (table, is, h)) (content', i, j, mid', parts', ((lead, cut', many'), still'), (table', is', g)) rel =
        let m = joined a b r s p q i j parts parts' e (counted_apart p i (q ++ r) (j ++ s) front (unknown_bytes f.has_optional content) lead (unknown_bytes f.has_optional content') cut cut' many many')
        (λ z e. table_locked f.has_table [] [] q j r s table table' mid to mid' end e h g (moved from mid begin mid' still still' rel)) in
        (m.0, (m.2.0, (content, p, q, mid, parts, ((front, cut, many), still), (table, is, m.2.1))))
    body_locked f id true None (Some d) class a b r s x y from to begin end e h g rel = let no : Some d ≡ None = class.0 in absurd cc
    body_locked f id false (Some c) (Some d) (inl (is_none, named, hidden)) a b r s x y from to begin end e h g rel = absurd cc
    body_locked f id false (Some c) (Some d) (inr (o, is_some, tied)) a b r s x y from to begin end e (content, is, h) (content', is', g) rel =
        let same : d ≡ o = cc in
        let shapes : SameShape t u (own_members t c) (own_members u d) = subst (λ (k : ℕ). SameShape t u (own_members t c) (own_members u k)) (sym same) (own_same t u (rows_agree t u both) c o tied) in
        let m = slice_locked Rel one three two t u (rows_agree t u both) refer f.has_optional (own_members t c) (own_members u d) shapes a b r s content content' from to begin end e h g rel in
        (m.0, (m.1.0, (content, is, m.1.1)))
    body_locked f id false (Some c) None class a b r s x y from to begin end e h g rel = absurd g
    body_locked f id false None d class a b r s x y from to begin end e h g rel = absurd h

    -- ---- slices

    -- what stands behind the flags
    abbrev After : Port (State ℕ) Spelled → Tables → ℕ → Before → Flags → Speller Spelled (List Slice)
    After port x n ahead f = Followed (SpellsId f.id) (λ id. let class = class_in x ahead id in FromId port x all_slices (Others port x (SpellsSlices port x all_slices n) f.is_last (before_next x class f)) (ends_well x class f) ahead f id class)

    -- the first slice has a size, or is of a class that both have
    abbrev HeadRead : Flags → List Slice → Type 0
    HeadRead f ss = (f.has_size ≡ true) ⊎ IsOfBoth t u ss

    head_read : (f : Flags) (id : List ℕ) (c d : Option ℕ) (ss : List Slice) (slice : Slice) (others : List Slice) → ss ≡ slice ∷ others → SizedOr t u both f.has_size d → ClassAs t u both id c d → FormedAs id f.has_size c slice → HeadRead f ss
    head_read f id c d ss slice others is (inl sized) class formed = inl sized
    head_read f id c d ss slice others is (inr (b, here)) class (inl (none_is, sized, x, o, table, form)) = inl sized
    head_read f id c d ss slice others is (inr (b, here)) class (inr (e, content, c_is, form)) =
        inr (subst (IsOfBoth t u) (sym is) (subst (λ (s : Slice). IsOfBoth t u (s ∷ others)) (sym form) (by_class (subst (λ (c : Option ℕ). ClassAs t u both id c d) c_is class))))
      where
        by_class : ClassAs t u both id (Some e) d → (o : ℕ) × SameClassId t u e o
        by_class (inl (is_none, named, hidden)) = none_some d b is_none here
        by_class (inr (o, is_some, tied)) = (o, tied)

    abbrev Slices : ℕ → ℕ → Type 0
    Slices n m = (x y : Before) → BeforeAs t u both x y → (a b r s : List ℕ) (ss rs : List Slice) (from to begin end : Spelled) → a ++ r ≡ b ++ s → SpellsSlices one t all_slices n x a ss from to → SpellsSlices two u all_slices m y b rs begin end → Rel from begin
        → (a ≡ b) × (Rel to end × (SpellsSlices three t all_slices n x a ss from to × CanBeRead t u a ss))

    behind_locked : (n m : ℕ) → Slices n m → (last : Bool) (x y : Before) → BeforeAs t u both x y → Locks Rel (Others one t (SpellsSlices one t all_slices n) last x) (Others two u (SpellsSlices two u all_slices m) last y) (Others three t (SpellsSlices three t all_slices n) last x)
    behind_locked n m go true x y sees a b r s ss rs from to begin end e h g rel = (h.0 ∙ sym g.0, (moved from to begin end h.2 g.2 rel, h))
    behind_locked n m go false x y sees a b r s ss rs from to begin end e h g rel = let k = go x y sees a b r s ss rs from to begin end e h g rel in (k.0, (k.1.0, k.1.1.0))

    from_locked : (n m : ℕ) → Slices n m → (x y : Before) → BeforeAs t u both x y → (f : Flags) (id a b r s : List ℕ) (ss rs : List Slice) (from to begin end : Spelled) → a ++ r ≡ b ++ s
        → FromId one t all_slices (Others one t (SpellsSlices one t all_slices n) f.is_last (before_next t (class_in t x id) f)) (ends_well t (class_in t x id) f) x f id (class_in t x id) a ss from to
        → FromId two u all_slices (Others two u (SpellsSlices two u all_slices m) f.is_last (before_next u (class_in u y id) f)) (ends_well u (class_in u y id) f) y f id (class_in u y id) b rs begin end → Rel from begin
        → (a ≡ b) × (Rel to end × (FromId three t all_slices (Others three t (SpellsSlices three t all_slices n) f.is_last (before_next t (class_in t x id) f)) (ends_well t (class_in t x id) f) x f id (class_in t x id) a ss from to × HeadRead f ss))
    from_locked n m go x y sees f id a b r s ss rs from to begin end e (base, (read, (ends, (slice, p, q, mid, pieces, body, (others, is, rest))))) (base', (read', (ends', (slice', i, j, mid', pieces', body', (others', is', rest'))))) rel =
        let class = class_before t u both x y sees id in
        let sized = read_sized t u both f (class_in u y id) read' in
        let k = joined a b r s p q i j pieces pieces' e
        (λ e. body_locked f id f.has_size (class_in t x id) (class_in u y id) class p i (q ++ r) (j ++ s) slice slice' from mid begin mid' e body body' rel)
        (λ z e. behind_locked n m go f.is_last (before_next t (class_in t x id) f) (before_next u (class_in u y id) f) (next_as t u both f id (class_in t x id) (class_in u y id) sized class) q j r s others others' mid to mid' end e rest rest' z.0) in
        (k.0, (k.2.0, ((base, (read, (ends, (slice, p, q, mid, pieces, k.1.1, (others, is, k.2.1))))), head_read f id (class_in t x id) (class_in u y id) ss slice others is sized class (body_form one t f id f.has_size (class_in t x id) p slice from mid body))))

    after_locked : (n m : ℕ) → Slices n m → (x y : Before) → BeforeAs t u both x y → (f : Flags) (a b r s : List ℕ) (ss rs : List Slice) (from to begin end : Spelled) → a ++ r ≡ b ++ s → After one t n x f a ss from to → After two u m y f b rs begin end → Rel from begin
        → (a ≡ b) × (Rel to end × (After three t n x f a ss from to × HeadRead f ss))
    after_locked n m go x y sees f a b r s ss rs from to begin end e (id, c, d, next, cut, is_id, h) (id', i, j, next', cut', is_id', g) rel =
        let k = joined a b r s c d i j cut cut' e
        (λ e. id_locked f.id c i (d ++ r) (j ++ s) id id' from next begin next' e is_id is_id' rel)
        (λ z e. from_locked n m go x y sees f id d j r s ss rs next to next' end e h
        (subst (λ (w : List ℕ). FromId two u all_slices (Others two u (SpellsSlices two u all_slices m) f.is_last (before_next u (class_in u y w) f)) (ends_well u (class_in u y w) f) y f w (class_in u y w) j rs next' end) (sym z.0) g) z.1) in
        (k.0, (k.2.0, ((id, c, d, next, cut, is_id, k.2.1.0), k.2.1.1)))

    read_here : (f : Flags) (byte : ℕ) (a p q : List ℕ) (ss : List Slice) → a ≡ p ++ q → p ≡ byte ∷ [] → f ≡ flags_of byte → HeadRead f ss → CanBeRead t u a ss
    read_here f byte a p q ss parts p_is f_is (inl sized) = inl (ap starts_sized (parts ∙ ap (λ (l : List ℕ). l ++ q) p_is) ∙ (ap (λ (f : Flags). f.has_size) (sym f_is) ∙ sized))
    read_here f byte a p q ss parts p_is f_is (inr here) = inr here

    slices_locked : (n m : ℕ) → Slices n m
    slices_locked zero m x y sees a b r s ss rs from to begin end e h g rel = absurd h
    slices_locked (suc n) zero x y sees a b r s ss rs from to begin end e h g rel = absurd g
    slices_locked (suc n) (suc m) x y sees a b r s ss rs from to begin end e (f, p, q, mid, parts, ((byte, p_is, f_is, stands), still), h) (f', i, j, mid', parts', ((byte', i_is, f_is', stands'), still'), g) rel =
        let k = joined a b r s p q i j parts parts' e (flags_apart p i (q ++ r) (j ++ s) byte byte' f f' p_is i_is f_is f_is')
        (λ same e. after_locked n m (slices_locked n m) x y sees f q j r s ss rs mid to mid' end e h (subst (λ (w : Flags). After two u m y w j rs mid' end) (sym same) g) (moved from mid begin mid' still still' rel)) in
        (k.0, (k.2.0, ((f, p, q, mid, parts, ((byte, p_is, f_is, stands), still), k.2.1.0), read_here f byte a p q ss parts p_is f_is k.2.1.1)))

  -- ---- instances

  inline_locked : (limit : ℕ) (One Two Three : Speller Spelled (List Slice)) → Locks Rel One Two Three → (a b : Option ℕ) → SameBase t u rows.Class a b → Locks Rel (SpellsInline limit One a) (SpellsInline limit Two b) (SpellsInline limit Three a)
  inline_locked limit One Two Three go at bt tied a b r s None None from to begin end e h g rel = ((size_apart a b r s 0 0 e h.0 g.0).0, (moved from to begin end h.1 g.1 rel, h))
  inline_locked limit One Two Three go at bt tied a b r s None (Some m) from to begin end e h (inl (rs, front, rest, last, parts, many, number, room, g, ends)) rel =
      let no : 0 ≡ 1 = (size_apart a front r (rest ++ s) 0 1 (e ∙ ap (λ (l : List ℕ). l ++ s) parts ∙ append_assoc front rest s) h.0 many).1 in absurd (omega (arith, no))
  inline_locked limit One Two Three go at bt tied a b r s None (Some m) from to begin end e h (inr g) rel = let no : 0 ≡ suc (suc m) = (size_apart a b r s 0 (suc (suc m)) e h.0 g.0).1 in absurd (omega (arith, no))
  inline_locked limit One Two Three go at bt tied a b r s (Some n) None from to begin end e (inl (ss, front, rest, last, parts, many, number, room, h, ends)) g rel =
      let no : 1 ≡ 0 = (size_apart front b (rest ++ r) s 1 0 (sym (append_assoc front rest r) ∙ ap (λ (l : List ℕ). l ++ r) (sym parts) ∙ e) many g.0).1 in absurd (omega (arith, no))
  inline_locked limit One Two Three go at bt tied a b r s (Some n) None from to begin end e (inr h) g rel = let no : suc (suc n) ≡ 0 = (size_apart a b r s (suc (suc n)) 0 e h.0 g.0).1 in absurd (omega (arith, no))
  inline_locked limit One Two Three go at bt tied a b r s (Some n) (Some m) from to begin end e (inl (ss, front, rest, last, parts, many, number, room, h, ends)) (inr g) rel =
      let no : 1 ≡ suc (suc m) = (size_apart front b (rest ++ r) s 1 (suc (suc m)) (sym (append_assoc front rest r) ∙ ap (λ (l : List ℕ). l ++ r) (sym parts) ∙ e) many g.0).1 in absurd (omega (arith, no))
  inline_locked limit One Two Three go at bt tied a b r s (Some n) (Some m) from to begin end e (inr h) (inl (rs, front, rest, last, parts, many, number, room, g, ends)) rel =
      let no : suc (suc n) ≡ 1 = (size_apart a front r (rest ++ s) (suc (suc n)) 1 (e ∙ ap (λ (l : List ℕ). l ++ s) parts ∙ append_assoc front rest s) h.0 many).1 in absurd (omega (arith, no))
  inline_locked limit One Two Three go at bt tied a b r s (Some n) (Some m) from to begin end e (inr h) (inr g) rel =
      ((size_apart a b r s (suc (suc n)) (suc (suc m)) e h.0 g.0).0, (moved (with_met _ from) to (with_met _ begin) end h.2 g.2 rel, inr h))
  inline_locked limit One Two Three go at bt tied a b r s (Some n) (Some m) from to begin end e (inl (ss, front, rest, last, parts, many, number, room, h, ends)) (inl (rs, front', rest', last', parts', many', number', room', g, ends')) rel =
      let start : Rel (beginning tt at from) (beginning tt bt begin) = (rel.0, omega (arith, rel.1, length-append from.instances ([] ∷ []), length-append begin.instances ([] ∷ []))) in
      let k = joined a b r s front rest front' rest' parts parts' e (λ e. size_apart front front' (rest ++ r) (rest' ++ s) 1 1 e many many')
      (λ same e. go rest rest' r s ss rs (beginning tt at from) last (beginning tt bt begin) last' e h g start) in
      (k.0, (moved (with_ended n ss last) to (with_ended m rs last') end ends ends' (k.2.0.0, omega (arith, k.2.0.1, replaced_length n ss last.instances, replaced_length m rs last'.instances)), inl (ss, front, rest, last, parts, many, number, room, k.2.1, ends)))

  instances_locked : (limit more : ℕ) (a b : Option ℕ) → SameBase t u rows.Class a b → Locks Rel ((instances t all_slices limit more).Spells a) ((instances u all_slices limit more).Spells b) ((readable_instances t u limit more).Spells a)
  instances_locked limit zero a b tied = inline_locked limit (λ bytes slices from to. ⊥) (λ bytes slices from to. ⊥) (λ bytes slices from to. ⊥) (λ a b r s x y from to begin end e h g rel. absurd h) a b tied
  instances_locked limit (suc more) a b tied =
      inline_locked limit (SpellsInstance (instances t all_slices limit more) t all_slices) (SpellsInstance (instances u all_slices limit more) u all_slices)
      (λ bytes slices from to. CanBeRead t u bytes slices × SpellsInstance (readable_instances t u limit more) t all_slices bytes slices from to)
      (λ a b r s x y from to begin end e h g rel.
      let k = slices_locked (instances t all_slices limit more) (readable_instances t u limit more) (instances u all_slices limit more) (instances_locked limit more) h.0 g.0 first first refl a b r s x y from to begin end e h.1 g.1 rel in
      (k.0, (k.1.0, (k.1.1.1, (h.0, k.1.1.0))))) a b tied

  pub graph_locked : (shape other : Shape) → SameShape t u shape other → (bytes : List ℕ) (g h : Graph) → SpellsGraph t all_slices shape bytes g → SpellsGraph u all_slices other bytes h → SpellsReadableGraph t u shape bytes g
  unfolding SpellsGraph SpellsReadableGraph
  graph_locked shape other tied bytes g h (end, here, same, fit) (last, there, same', fit') =
      let k = content_locked Rel (instances t all_slices most_instances most_instances) (readable_instances t u most_instances most_instances) (instances u all_slices most_instances most_instances) t u (rows_agree t u both) (instances_locked most_instances most_instances)
      shape other tied bytes g.roots h.roots opening end opening last here there (refl, refl) in
      (end, k.1, same, fit)
