-- The laws of slices, by those of the references that stand outside of sized slices.
use Rattle.std.proofs.Common.{◌≡◌, ℕ, zero, suc, ◌≤◌, ◌<◌, Bool, true, false, cond, ltb, ◌&&◌, List, [], ◌∷◌, length, map, Option, Some, None, Ok, refl, sym, ap, subst, ◌∙◌, arith, inl, inr}
use Rattle.std.specs.Prelude.{slice_get}
use Rattle.std.proofs.lemmas.Bool.{ltb-true}
use Rattle.std.proofs.lemmas.List.{length-append}
use Rattle.ice_types.specs.Tables.{Tables}
use Rattle.ice_types.specs.CompactIds.{is_numbered, numbered_id}
use Rattle.ice_prims.specs.declared.fault.Kind.TheVariants.{BadFlags, BadLast, BadTypeId, WrongBase, UnknownClass}
use Rattle.ice_prims.specs.Rest.{Rest, fault, ◌>>=◌, Took}
use Rattle.ice_prims.specs.Number.{SpellsSize, byte_at, size_at, text_at}
use Rattle.ice_prims.proofs.Parts.{chosen, then_ok, ok_is}
use Rattle.ice_prims.proofs.Numbers.{size_found, size_only, text_found, text_only, byte_found, byte_only}
use Rattle.ice_encoding.specs.Port.{Port, IsLawful, Reader, Speller, Found, Only, nowhere}
use Rattle.ice_encoding.specs.Spelling.{Plain}
use Rattle.ice_encoding.proofs.Values.{Lawful, LawfulPart, lands, plain_lawful, made_lawful}
use Rattle.ice_encoding.specs.Steps.{Followed}
use Rattle.ice_encoding.specs.OptionalMembers.{SpellsSliceMembers, slice_members_at}
use Rattle.ice_encoding.proofs.Stepping.{followed_lawful, given_lawful, tested_lawful}
use Rattle.ice_encoding.proofs.Prefixed.{prefixed_lawful}
use Rattle.ice_encoding.proofs.Contents.{slice_members_lawful}
use Rattle.ice_encoding.specs.Classes.{own_members}
use Rattle.ice_encoding.specs.Graph.{Slice, known, unknown}
use Rattle.ice_encoding.specs.References.{State, Reference, seen, unplaced, in_table, SpellsTable, table_at}
use Rattle.ice_encoding.specs.Flags.{Flags, Reach, IdForm, no_id, as_text, as_index, as_number, flags_of, Before, first, may_stand, SpellsFlags, flags_at}
use Rattle.ice_encoding.specs.TypeIds.{SpellsTypeId, unless_numbered, type_id_at, with_id, SpellsId, id_found, id_indexed, id_at, class_in, is_base, can_be_read, ends_well, before_next}
use Rattle.ice_encoding.specs.Slices.{slice_size, SpellsUnknown, unknown_at, by_table, SpellsBody, body_at, one_more, Behind, next_slices, FromId, from_id, SpellsSlices, slices_at, SpellsInstance, instance_at}
use Rattle.ice_encoding.specs.Instances.{instances}
use Rattle.ice_encoding.proofs.Joining.{placed_lawful, by_itself_lawful, alike}
use Rattle.ice_encoding.proofs.GraphSizes.{slice_size_lawful, unknown_lawful}
use Rattle.ice_encoding.proofs.References.{in_table_lawful, inline_lawful, table_lawful}

-- ---- the flags

pub flags_lawful : (may : Flags → Bool) → LawfulPart (flags_at may) (SpellsFlags may)
flags_lawful may = record {
  found = λ r x fits e. then_ok (byte_at r) (λ b. cond (ltb b.0 64 && may (flags_of b.0)) (Ok (flags_of b.0, b.1)) (fault r.place BadFlags)) x e λ b b_is last.
      let f = byte_found r b fits b_is in
      elim (chosen (ltb b.0 64 && may (flags_of b.0)) (Ok (flags_of b.0, b.1)) (fault r.place BadFlags) (Ok x) last) [
        | inl c ↦ subst (λ (y : Flags × Rest). (bytes : List ℕ) × Took r bytes y.1 × SpellsFlags may bytes y.0) (ok_is (flags_of b.0, b.1) x c.1) (f.0, f.1, (b.0, f.2.1, refl, c.0))
        | inr c ↦ absurd cc
      ];
  only = λ r s bytes v k h.
      let test : (ltb h.0 64 && may (flags_of h.0)) ≡ true = ap (λ (f : Flags). ltb h.0 64 && may f) (sym h.2) ∙ h.3 in
      flags_is r s h.0 (byte_only r s (h.0 ∷ []) h.0 (subst (λ (l : List ℕ). Took r l s) h.1 k) (below h.0 (may (flags_of h.0)) test, refl)) test ∙ (λ i. Ok (sym h.2 i, s));
}
  where
    flags_is : (r s : Rest) (b : ℕ) → byte_at r ≡ Ok (b, s) → (ltb b 64 && may (flags_of b)) ≡ true → flags_at may r ≡ Ok (flags_of b, s)
    flags_is r s b is test = rw (is, test) refl

    below : (b : ℕ) (other : Bool) → (ltb b 64 && other) ≡ true → b < 256
    below b other e = small b (ltb b 64) refl other e
      where
        small : (b : ℕ) (c : Bool) → ltb b 64 ≡ c → (other : Bool) → (c && other) ≡ true → b < 256
        small b true is other e = let lt : b < 64 = ltb-true b 64 is in omega (arith, lt)
        small b false is other e = absurd cc

-- ---- ids

pub type_id_lawful : LawfulPart type_id_at SpellsTypeId
type_id_lawful = record {
  found = λ r x fits e. then_ok (text_at r) (unless_numbered r.place) x e λ id id_is last.
      let f = text_found r id fits id_is in
      elim (chosen (is_numbered id.0) (fault r.place BadTypeId) (Ok id) (Ok x) last) [
        | inl c ↦ absurd cc
        | inr c ↦ subst (λ (y : List ℕ × Rest). (bytes : List ℕ) × Took r bytes y.1 × SpellsTypeId bytes y.0) (ok_is id x c.1) (f.0, f.1, (f.2, c.0))
      ];
  only = λ r s bytes v k h. rw (text_only r s bytes v k h.0, h.1) refl;
}

id_indexed_ok : {C : Type 0} (place n : ℕ) (s : State ℕ) (r : Rest) (x : List ℕ × State ℕ × Rest) → id_indexed place n s r ≡ Ok x → ((i : ℕ) → n ≡ suc i → slice_get s.ids i ≡ Some x.0 → s ≡ x.1 → r ≡ x.2 → C) → C
id_indexed_ok {C} place zero s r x e go = absurd cc
id_indexed_ok {C} place (suc i) s r x e go = by_row (slice_get s.ids i) refl e
  where
    by_row : (row : Option (List ℕ)) → slice_get s.ids i ≡ row → id_found place row s r ≡ Ok x → C
    by_row None is e = absurd cc
    by_row (Some id) is e =
        let same = ok_is (id, s, r) x e in
        go i refl (is ∙ ap (λ (y : List ℕ × State ℕ × Rest). Some y.0) same) (ap (λ (y : List ℕ × State ℕ × Rest). y.1) same) (ap (λ (y : List ℕ × State ℕ × Rest). y.2) same)

id_lawful : (form : IdForm) → Lawful seen (id_at form) (SpellsId form)
id_lawful no_id = given_lawful seen []
id_lawful as_text = record {
  found = λ s r x fits e. then_ok (type_id_at r) (λ id. Ok (id.0, with_id id.0 s, id.1)) x e λ id id_is last.
      let f = type_id_lawful.found r id fits id_is in
      lands seen (SpellsId as_text) s r (id.0, with_id id.0 s, id.1) x f.0 f.1 (f.2, refl) last;
  only = λ s to r after bytes v k h. (with_id v s, sym h.1, rw (type_id_lawful.only r after bytes v k h.0) refl);
}
id_lawful as_index = record {
  found = λ s r x fits e. then_ok (size_at r) (λ n. id_indexed r.place n.0 s n.1) x e λ n n_is last.
      id_indexed_ok r.place n.0 s n.1 x last λ i is row same end.
      let f = size_found r n fits n_is in
      (f.0, subst (λ (q : Rest). Took r f.0 q) end f.1, (i, subst (λ (k : ℕ). SpellsSize f.0 k) is f.2, row, ap seen (sym same)));
  only = λ s to r after bytes v k h. (s, sym h.3, indexed_is s r after h.0 v (size_only r after bytes (suc h.0) k h.1) h.2);
}
  where
    indexed_is : (s : State ℕ) (r after : Rest) (i : ℕ) (id : List ℕ) → size_at r ≡ Ok (suc i, after) → slice_get s.ids i ≡ Some id → (size_at r >>= λ n. id_indexed r.place n.0 s n.1) ≡ Ok (id, s, after)
    indexed_is s r after i id size row = rw (size, row) refl
id_lawful as_number = record {
  found = λ s r x fits e. then_ok (size_at r) (λ n. Ok (numbered_id n.0, s, n.1)) x e λ n n_is last.
      let f = size_found r n fits n_is in
      lands seen (SpellsId as_number) s r (numbered_id n.0, s, n.1) x f.0 f.1 (n.0, f.2, refl, refl) last;
  only = λ s to r after bytes v k h. (s, sym h.3, numbered_is s r after h.0 v (size_only r after bytes h.0 k h.1) h.2);
}
  where
    numbered_is : (s : State ℕ) (r after : Rest) (n : ℕ) (id : List ℕ) → size_at r ≡ Ok (n, after) → id ≡ numbered_id n → (◌>>=◌ {B = List ℕ × State ℕ × Rest} (size_at r) (λ n. Ok (numbered_id n.0, s, n.1))) ≡ Ok (id, s, after)
    numbered_is s r after n id size is = rw size (ap (λ (id : List ℕ). Ok (id, s, after)) (sym is))

-- ---- what stands behind the type id

module _ (port : Port (State ℕ) (State (Unit {0}))) (same : port.seen ≡ seen) (lawful : IsLawful port) (t : Tables) where
  port_found : (at : Option ℕ) → Found seen (port.read at) (port.Spells at)
  port_found at = subst (λ (f : State ℕ → State (Unit {0})). Found f (port.read at) (port.Spells at)) same (lawful.found at)

  port_only : (at : Option ℕ) → Only seen (port.read at) (port.Spells at)
  port_only at = subst (λ (f : State ℕ → State (Unit {0})). Only f (port.read at) (port.Spells at)) same (lawful.only at)

  tables_lawful : (tabled : Bool) (uses : List (Reference ℕ)) → Lawful seen (table_at port.read tabled uses) (SpellsTable port tabled (map unplaced uses))
  tables_lawful = table_lawful port port_found port_only

  pub body_lawful : (f : Flags) (id : List ℕ) (sized : Bool) (class : Option ℕ) → Lawful seen (body_at port.read t f id sized class) (SpellsBody port t f id sized class)
  body_lawful f id true (Some class) =
      by_itself_lawful seen (map unplaced) [] _ _ _ _
      (prefixed_lawful (map unplaced) _ _ (slice_members_lawful (in_table f.has_table) (in_table_lawful f.has_table) t (own_members t class) f.has_optional) slice_size slice_size_lawful)
      (λ content uses. made_lawful seen (by_table class content) _ _ (tables_lawful f.has_table uses))
  body_lawful f id true None =
      followed_lawful seen _ _ _ _ (plain_lawful seen (unknown_at f.has_optional) (SpellsUnknown f.has_optional) (unknown_lawful f.has_optional))
      (λ content. made_lawful seen (unknown id content f.has_optional) _ _ (tables_lawful f.has_table []))
  body_lawful f id false (Some class) =
      made_lawful seen (known class) _ _ (subst (λ (see : State ℕ → State (Unit {0})). Lawful see (slice_members_at port.read t f.has_optional (own_members t class)) (SpellsSliceMembers port t f.has_optional (own_members t class))) same
      (slice_members_lawful port lawful t (own_members t class) f.has_optional))
  body_lawful f id false None = record { found = λ s r x fits e. absurd cc; only = λ s to r after bytes v k h. absurd h }

  -- ---- one slice after the other

  next_lawful : (next : Before → Reader (State ℕ) (List Slice)) (Next : Before → Speller (State (Unit {0})) (List Slice)) → ((before : Before) → Lawful seen (next before) (Next before))
      → (last : Bool) (before : Before) → Lawful seen (next_slices port.read t next last before) (Behind port t Next last before)
  next_lawful next Next one true before = given_lawful seen []
  next_lawful next Next one false before = one before

  module _ (reach : Reach) where
    from_lawful : (next : Reader (State ℕ) (List Slice)) (Next : Speller (State (Unit {0})) (List Slice)) → Lawful seen next Next → (ends : Bool) (before : Before) (f : Flags) (flags_place id_place : ℕ) (id : List ℕ) (class : Option ℕ)
        → Lawful seen (from_id port.read t reach next ends before f flags_place id_place id class) (FromId port t reach Next ends before f id class)
    from_lawful next Next one ends before f flags_place id_place id class =
        tested_lawful seen (is_base before class) id_place WrongBase _ _ (tested_lawful seen (can_be_read reach class f) id_place UnknownClass _ _ (tested_lawful seen ends flags_place BadLast _ _
        (followed_lawful seen _ _ _ _ (body_lawful f id f.has_size class) (λ slice. made_lawful seen (one_more slice) _ _ one))))

    -- within so many steps
    abbrev Within : ℕ → Before → Speller (State (Unit {0})) (List Slice)
    Within steps before bytes slices from to = (n : ℕ) × (n ≤ steps) × SpellsSlices port t reach n before bytes slices from to

    abbrev Step : (Before → Speller (State (Unit {0})) (List Slice)) → Before → Speller (State (Unit {0})) (List Slice)
    Step Next before = Followed (Plain (SpellsFlags (may_stand before))) (λ f. Followed (SpellsId f.id) (λ id. let class = class_in t before id in FromId port t reach (Behind port t Next f.is_last (before_next t class f)) (ends_well t class f) before f id class))

    behind_there : (steps : ℕ) (last : Bool) (before : Before) (bytes : List ℕ) (slices : List Slice) (from to : State (Unit {0})) → Behind port t (Within steps) last before bytes slices from to → (n : ℕ) × (n ≤ steps) × Behind port t (SpellsSlices port t reach n) last before bytes slices from to
    behind_there steps true before bytes slices from to h = (0, omega arith, h)
    behind_there steps false before bytes slices from to h = h

    behind_back : (steps n : ℕ) → n ≤ steps → (last : Bool) (before : Before) (bytes : List ℕ) (slices : List Slice) (from to : State (Unit {0})) → Behind port t (SpellsSlices port t reach n) last before bytes slices from to → Behind port t (Within steps) last before bytes slices from to
    behind_back steps n le true before bytes slices from to h = h
    behind_back steps n le false before bytes slices from to h = (n, le, h)

    step_there : (steps : ℕ) (before : Before) (bytes : List ℕ) (slices : List Slice) (from to : State (Unit {0})) → Step (Within steps) before bytes slices from to → Within (suc steps) before bytes slices from to
    step_there steps before bytes slices from to (f, a, b, mid, parts, flags, (id, c, d, next, cut, is_id, (base, (read, (ends, (slice, g, h, end, pieces, body, (others, is, rest))))))) =
        let more = behind_there steps f.is_last (before_next t (class_in t before id) f) h others end to rest in
        (suc more.0, omega (arith, more.1), (f, a, b, mid, parts, flags, (id, c, d, next, cut, is_id, (base, (read, (ends, (slice, g, h, end, pieces, body, (others, is, more.2))))))))

    step_back : (steps : ℕ) (before : Before) (bytes : List ℕ) (slices : List Slice) (from to : State (Unit {0})) → Within (suc steps) before bytes slices from to → Step (Within steps) before bytes slices from to
    step_back steps before bytes slices from to (zero, le, h) = absurd h
    step_back steps before bytes slices from to (suc n, le, (f, a, b, mid, parts, flags, (id, c, d, next, cut, is_id, (base, (read, (ends, (slice, g, h, end, pieces, body, (others, is, rest)))))))) =
        (f, a, b, mid, parts, flags, (id, c, d, next, cut, is_id, (base, (read, (ends, (slice, g, h, end, pieces, body, (others, is, behind_back steps n (omega (arith, le)) f.is_last (before_next t (class_in t before id) f) h others end to rest)))))))

    slices_lawful : (steps : ℕ) (before : Before) → Lawful seen (slices_at port.read t reach steps before) (Within steps before)
    slices_lawful zero before = record { found = λ s r x fits e. absurd cc; only = λ s to r after bytes v k h. absurd (none h) }
      where
        none : {bytes : List ℕ} {v : List Slice} {from to : State (Unit {0})} → Within 0 before bytes v from to → ⊥
        none (zero, le, h) = h
        none (suc n, le, h) = omega (arith, le)
    slices_lawful (suc steps) before =
        alike seen (slices_at port.read t reach (suc steps) before) (Step (Within steps) before) (Within (suc steps) before) (step_there steps before) (step_back steps before)
        (placed_lawful seen _ _ (λ flags_place. followed_lawful seen _ _ _ _ (plain_lawful seen (flags_at (may_stand before)) (SpellsFlags (may_stand before)) (flags_lawful (may_stand before)))
        (λ f. placed_lawful seen _ _ (λ id_place. followed_lawful seen _ _ _ _ (id_lawful f.id)
        (λ id. let class = class_in t before id in from_lawful _ _ (next_lawful (slices_at port.read t reach steps) (Within steps) (slices_lawful steps) f.is_last (before_next t class f)) (ends_well t class f) before f flags_place id_place id class)))))

    -- Each takes a byte at least, so there are no more of them than bytes.

    behind_fewer : (n : ℕ) → ((before : Before) (bytes : List ℕ) (slices : List Slice) (from to : State (Unit {0})) → SpellsSlices port t reach n before bytes slices from to → Within (length bytes) before bytes slices from to)
        → (last : Bool) (before : Before) (bytes : List ℕ) (slices : List Slice) (from to : State (Unit {0})) → Behind port t (SpellsSlices port t reach n) last before bytes slices from to → (m : ℕ) × (m ≤ length bytes) × Behind port t (SpellsSlices port t reach m) last before bytes slices from to
    behind_fewer n fewer true before bytes slices from to h = (0, omega arith, h)
    behind_fewer n fewer false before bytes slices from to h = fewer before bytes slices from to h

    fewer : (n : ℕ) (before : Before) (bytes : List ℕ) (slices : List Slice) (from to : State (Unit {0})) → SpellsSlices port t reach n before bytes slices from to → Within (length bytes) before bytes slices from to
    fewer zero before bytes slices from to h = absurd h
    fewer (suc n) before bytes slices from to (f, a, b, mid, parts, flags, (id, c, d, next, cut, is_id, (base, (read, (ends, (slice, g, h, end, pieces, body, (others, is, rest))))))) =
        let later = behind_fewer n (fewer n) f.is_last (before_next t (class_in t before id) f) h others end to rest in
        let one : length a ≡ 1 = ap length flags.0.1 in (
          suc later.0,
          omega (arith, later.1, ap length parts, length-append a b, ap length cut, length-append c d, ap length pieces, length-append g h, one),
          (f, a, b, mid, parts, flags, (id, c, d, next, cut, is_id, (base, (read, (ends, (slice, g, h, end, pieces, body, (others, is, later.2))))))),
        )

    pub instance_lawful : Lawful seen (instance_at port.read t reach) (SpellsInstance port t reach)
    instance_lawful = record {
      found = λ s r x fits e. let f = (slices_lawful (length r.bytes) first).found s r x fits e in (f.0, f.1, (f.2.0, f.2.2));
      only = λ s to r after bytes v k h.
          let w = fewer h.0 first bytes v (seen s) to h.1 in
          (slices_lawful (length r.bytes) first).only s to r after bytes v k (w.0, omega (arith, w.1, ap length k.parts, length-append bytes after.bytes), w.2);
    }

-- ---- the knot

pub instances_seen : (t : Tables) (reach : Reach) (limit more : ℕ) → (instances t reach limit more).seen ≡ seen
instances_seen t reach limit zero = refl
instances_seen t reach limit (suc more) = refl

-- What is read where a reference stands is spelled there, and what is spelled is read: with all instances that begin in it.
pub instances_lawful : (t : Tables) (reach : Reach) (limit more : ℕ) → IsLawful (instances t reach limit more)
instances_lawful t reach limit zero = inline_lawful limit (λ s r. nowhere r) (λ bytes slices from to. ⊥) (record { found = λ s r x fits e. absurd cc; only = λ s to r after bytes v k h. absurd h })
instances_lawful t reach limit (suc more) = inline_lawful limit _ _ (instance_lawful (instances t reach limit more) (instances_seen t reach limit more) (instances_lawful t reach limit more) t reach)
