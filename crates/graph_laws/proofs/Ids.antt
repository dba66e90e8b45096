-- Flags and ids: a fault is read exactly where they have the defect.
use Rattle.std.proofs.Common.{◌≡◌, ℕ, zero, suc, ◌+◌, ◌≤◌, Bool, true, false, cond, ltb, ◌&&◌, List, [], length, Option, None, Some, Ok, Err, refl, sym, ap, subst, ◌∙◌, inl, inr, arith}
use Rattle.std.specs.Prelude.{slice_get}
use Rattle.std.proofs.lemmas.Bool.{cases_lt, ltb-false, le-ltb}
use Rattle.std.proofs.lemmas.Option.{slice_get-get_or, slice_get_past}
use Rattle.ice_types.specs.CompactIds.{is_numbered, numbered_id}
use Rattle.ice_prims.specs.declared.fault.Fault.{Fault}
use Rattle.ice_prims.specs.declared.fault.Kind.TheVariants.{BadFlags, BadTypeId}
use Rattle.ice_prims.specs.Rest.{Rest, fault, ◌>>=◌, Took, IsBytes}
use Rattle.ice_prims.specs.Number.{SpellsSize, byte_at, size_at, text_at}
use Rattle.ice_prims.proofs.Parts.{chosen as choice, then_ok, ok_is}
use Rattle.ice_prims.proofs.Numbers.{size_found, size_only}
use Rattle.ice_encoding.specs.Parts.{size}
use Rattle.ice_encoding.proofs.Joined.{byte_lawful, size_lawful, text_lawful}
use Rattle.ice_encoding.proofs.Values.{Lawful, lands}
use Rattle.ice_encoding.specs.Flags.{Flags, IdForm, no_id, as_text, as_index, as_number, flags_of, flags_at}
use Rattle.ice_encoding.specs.References.{State, seen}
use Rattle.ice_encoding.specs.TypeIds.{unless_numbered, type_id_at, with_id, SpellsId, id_found, id_indexed, id_at}
use Rattle.ice_encoding.proofs.Slices.{type_id_lawful}
use Rattle.ice_encoding.proofs.Stepping.{given_lawful}
use Rattle.graph_laws.specs.Defects.{At}
use Rattle.graph_laws.specs.Heads.{IsOffFlags, FlagsBreak, TypeIdBreaks, IsNoIndex, IdBreaks}
use Rattle.graph_laws.proofs.Breaking.{failed, same_err, no_err, then_err, Agrees}
use Rattle.graph_laws.proofs.Primitives.{byte_agrees, size_agrees, text_agrees}
use Rattle.graph_laws.proofs.From.{goes, stops, Tells}

-- ---- flags

off_flags : (may : Flags → Bool) (b : ℕ) → (ltb b 64 && may (flags_of b)) ≡ false → IsOffFlags may b
off_flags may b e = by_test (ltb b 64) refl e
  where
    by_test : (c : Bool) → ltb b 64 ≡ c → (c && may (flags_of b)) ≡ false → IsOffFlags may b
    by_test true is h = inr h
    by_test false is h = inl (ltb-false b 64 is)

flags_off : (may : Flags → Bool) (b : ℕ) → IsOffFlags may b → (ltb b 64 && may (flags_of b)) ≡ false
flags_off may b (inl large) = let out : ltb b 64 ≡ false = le-ltb b 64 large in rw out refl
flags_off may b (inr refused) = by_test (ltb b 64)
  where
    by_test : (c : Bool) → (c && may (flags_of b)) ≡ false
    by_test true = refused
    by_test false = refl

pub flags_agree : (may : Flags → Bool) → Agrees (flags_at may) (FlagsBreak may)
flags_agree may = record {
  broken = λ r e fits h. then_err (byte_at r) (λ b. cond (ltb b.0 64 && may (flags_of b.0)) (Ok (flags_of b.0, b.1)) (fault r.place BadFlags)) e h
      (λ bad. inl (byte_agrees.broken r e fits bad))
      (λ b b_is later. elim (choice (ltb b.0 64 && may (flags_of b.0)) (Ok (flags_of b.0, b.1)) (fault r.place BadFlags) (Err e) later) [
        | inl good ↦ no_err (flags_of b.0, b.1) e good.1
        | inr bad ↦
            let f = byte_lawful.found r b fits b_is in
            inr (b.0, f.0, b.1.bytes, f.1.parts, f.2, off_flags may b.0 bad.0, sym (same_err (record { place = r.place; kind = BadFlags }) e bad.1))
      ]);
  breaks = breaks;
}
  where
    breaks : (r : Rest) (e : Fault) → FlagsBreak may r.place r.bytes e → flags_at may r ≡ failed e
    breaks r e (inl h) = rw (byte_agrees.breaks r e h) refl
    breaks r e (inr (b, a, rest, parts, spells, off, at)) =
        let m : Rest = record { place = r.place + length a; bytes = rest } in
        let stands : byte_at r ≡ Ok (b, m) = byte_lawful.only r m a b (record { parts = parts; moved = refl }) spells in
        let out : (ltb b 64 && may (flags_of b)) ≡ false = flags_off may b off in
        rw (stands, out, at) refl

-- ---- ids

type_id_agrees : Agrees type_id_at TypeIdBreaks
type_id_agrees = record {
  broken = λ r e fits h. then_err (text_at r) (unless_numbered r.place) e h
      (λ bad. inl (text_agrees.broken r e fits bad))
      (λ id id_is later. elim (choice (is_numbered id.0) (fault r.place BadTypeId) (Ok id) (Err e) later) [
        | inl bad ↦
            let f = text_lawful.found r id fits id_is in
            inr (id.0, f.0, id.1.bytes, f.1.parts, f.2, bad.0, sym (same_err (record { place = r.place; kind = BadTypeId }) e bad.1))
        | inr good ↦ no_err id e good.1
      ]);
  breaks = breaks;
}
  where
    breaks : (r : Rest) (e : Fault) → TypeIdBreaks r.place r.bytes e → type_id_at r ≡ failed e
    breaks r e (inl h) = rw (text_agrees.breaks r e h) refl
    breaks r e (inr (id, a, rest, parts, spells, numbered, at)) =
        let m : Rest = record { place = r.place + length a; bytes = rest } in
        let stands : text_at r ≡ Ok (id, m) = text_lawful.only r m a id (record { parts = parts; moved = refl }) spells in
        rw (stands, numbered, at) refl

none_past : (ids : List (List ℕ)) (i : ℕ) → slice_get ids i ≡ None → length ids ≤ i
none_past ids i none = elim (cases_lt i (length ids)) [
  | inl lt ↦ absurd (no (sym none ∙ slice_get-get_or ids i [] lt))
  | inr le ↦ le
]
  where
    no : {x : List ℕ} → None ≡ Some x → ⊥
    no e = cc

indexed_broken : (place n : ℕ) (s : State ℕ) (m : Rest) (e : Fault) → id_indexed place n s m ≡ failed e → IsNoIndex s.ids n × At place BadTypeId e
indexed_broken place zero s m e h = (inl refl, sym (same_err (record { place = place; kind = BadTypeId }) e h))
indexed_broken place (suc i) s m e h = by_row (slice_get s.ids i) refl h
  where
    by_row : (row : Option (List ℕ)) → slice_get s.ids i ≡ row → id_found place row s m ≡ failed e → IsNoIndex s.ids (suc i) × At place BadTypeId e
    by_row None is h = (inr (omega (arith, none_past s.ids i is)), sym (same_err (record { place = place; kind = BadTypeId }) e h))
    by_row (Some id) is h = no_err (id, s, m) e h

indexed_breaks : (place n : ℕ) (s : State ℕ) (m : Rest) (e : Fault) → IsNoIndex s.ids n → At place BadTypeId e → id_indexed place n s m ≡ failed e
indexed_breaks place zero s m e off at = rw at refl
indexed_breaks place (suc i) s m e (inl none) at = absurd (omega (arith, none))
indexed_breaks place (suc i) s m e (inr past) at = let none : slice_get s.ids i ≡ None = slice_get_past s.ids i (omega (arith, past)) in rw (none, at) refl

module _ (Good : State (Unit {0}) → Type 0) where
  index_broken : (s : State ℕ) (r : Rest) (e : Fault) → IsBytes r.bytes → id_at as_index s r ≡ failed e → IdBreaks as_index (seen s) r.place r.bytes e
  index_broken s r e fits h = then_err (size_at r) (λ n. id_indexed r.place n.0 s n.1) e h
      (λ bad. inl (size_agrees.broken r e fits bad))
      (λ n n_is later.
      let f = size_lawful.found r n fits n_is in
      let k = indexed_broken r.place n.0 s n.1 e later in
      inr (n.0, f.0, n.1.bytes, f.1.parts, f.2, k.0, k.1))

  index_breaks : (s : State ℕ) (r : Rest) (e : Fault) → IdBreaks as_index (seen s) r.place r.bytes e → id_at as_index s r ≡ failed e
  index_breaks s r e (inl h) = stops (size_at r) (λ n. id_indexed r.place n.0 s n.1) e (size_agrees.breaks r e h)
  index_breaks s r e (inr (n, a, rest, parts, spells, off, at)) =
      let m : Rest = record { place = r.place + length a; bytes = rest } in
      goes (size_at r) (λ n. id_indexed r.place n.0 s n.1) (n, m) (size_lawful.only r m a n (record { parts = parts; moved = refl }) spells) ∙ indexed_breaks r.place n s m e off at

  pub id_tells : (form : IdForm) → Tells seen Good (id_at form) (IdBreaks form)
  id_tells no_id = record { broken = λ s r e good fits h. no_err ([], s, r) e h; breaks = λ s r e h. absurd h }
  id_tells as_text = record {
    broken = λ s r e good fits h. then_err (type_id_at r) (λ id. Ok (id.0, with_id id.0 s, id.1)) e h (λ bad. type_id_agrees.broken r e fits bad) (λ id id_is later. no_err (id.0, with_id id.0 s, id.1) e later);
    breaks = λ s r e h. rw (type_id_agrees.breaks r e h) refl;
  }
  id_tells as_index = record { broken = λ s r e good fits h. index_broken s r e fits h; breaks = index_breaks }
  id_tells as_number = record {
    broken = λ s r e good fits h. then_err (size_at r) (λ n. Ok (numbered_id n.0, s, n.1)) e h (λ bad. size_agrees.broken r e fits bad) (λ n n_is later. no_err (numbered_id n.0, s, n.1) e later);
    breaks = λ s r e h. rw (size_agrees.breaks r e h) refl;
  }

-- ---- an id is read exactly where it is spelled

indexed_ok : {C : Type 0} (place n : ℕ) (s : State ℕ) (r : Rest) (x : List ℕ × State ℕ × Rest) → id_indexed place n s r ≡ Ok x → ((i : ℕ) → n ≡ suc i → slice_get s.ids i ≡ Some x.0 → s ≡ x.1 → r ≡ x.2 → C) → C
indexed_ok {C} place zero s r x e go = absurd cc
indexed_ok {C} place (suc i) s r x e go = by_row (slice_get s.ids i) refl e
  where
    by_row : (row : Option (List ℕ)) → slice_get s.ids i ≡ row → id_found place row s r ≡ Ok x → C
    by_row None is e = absurd cc
    by_row (Some id) is e =
        let same = ok_is (id, s, r) x e in
        go i refl (is ∙ ap (λ (y : List ℕ × State ℕ × Rest). Some y.0) same) (ap (λ (y : List ℕ × State ℕ × Rest). y.1) same) (ap (λ (y : List ℕ × State ℕ × Rest). y.2) same)

pub id_lawful : (form : IdForm) → Lawful seen (id_at form) (SpellsId form)
id_lawful no_id = given_lawful seen []
id_lawful as_text = record {
  found = λ s r x fits e. then_ok (type_id_at r) (λ id. Ok (id.0, with_id id.0 s, id.1)) x e λ id id_is last.
      let f = type_id_lawful.found r id fits id_is in
      lands seen (SpellsId as_text) s r (id.0, with_id id.0 s, id.1) x f.0 f.1 (f.2, refl) last;
  only = λ s to r after bytes v k h. (with_id v s, sym h.1, rw (type_id_lawful.only r after bytes v k h.0) refl);
}
id_lawful as_index = record {
  found = λ s r x fits e. then_ok (size_at r) (λ n. id_indexed r.place n.0 s n.1) x e λ n n_is last.
      indexed_ok r.place n.0 s n.1 x last λ i is row same end.
      let f = size_found r n fits n_is in
      (f.0, subst (λ (q : Rest). Took r f.0 q) end f.1, (i, subst (λ (k : ℕ). SpellsSize f.0 k) is f.2, row, ap seen (sym same)));
  only = λ s to r after bytes v k h. (s, sym h.3, indexed_is s r after h.0 v (size_only r after bytes (suc h.0) k h.1) h.2);
}
  where
    indexed_is : (s : State ℕ) (r after : Rest) (i : ℕ) (id : List ℕ) → size_at r ≡ Ok (suc i, after) → slice_get s.ids i ≡ Some id → (size_at r >>= λ n. id_indexed r.place n.0 s n.1) ≡ Ok (id, s, after)
    indexed_is s r after i id size row = rw (size, row) refl
id_lawful as_number = record {
  found = λ s r x fits e. then_ok (size_at r) (λ n. Ok (numbered_id n.0, s, n.1)) x e λ n n_is last.
      let f = size_found r n fits n_is in
      lands seen (SpellsId as_number) s r (numbered_id n.0, s, n.1) x f.0 f.1 (n.0, f.2, refl, refl) last;
  only = λ s to r after bytes v k h. (s, sym h.3, numbered_is s r after h.0 v (size_only r after bytes h.0 k h.1) h.2);
}
  where
    numbered_is : (s : State ℕ) (r after : Rest) (n : ℕ) (id : List ℕ) → size_at r ≡ Ok (n, after) → id ≡ numbered_id n → (◌>>=◌ {B = List ℕ × State ℕ × Rest} (size_at r) (λ n. Ok (numbered_id n.0, s, n.1))) ≡ Ok (id, s, after)
    numbered_is s r after n id size is = rw size (ap (λ (id : List ℕ). Ok (id, s, after)) (sym is))
