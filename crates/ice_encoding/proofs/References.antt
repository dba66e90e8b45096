-- The laws of the three ways in which a reference stands.
use Rattle.std.proofs.Common.{◌≡◌, ℕ, zero, suc, Bool, true, false, ltb, List, [], ◌∷◌, ◌++◌, length, map, Option, Some, None, Result, Ok, refl, sym, ap, subst, ◌∙◌, inl, inr}
use Rattle.std.proofs.lemmas.Bool.{lt-ltb, ltb-true}
use Rattle.std.proofs.lemmas.List.{map-append}
use Rattle.ice_prims.specs.declared.fault.Fault.{Fault}
use Rattle.ice_prims.specs.declared.fault.Kind.TheVariants.{BadReference}
use Rattle.ice_prims.specs.Rest.{Rest, fault, ◌>>=◌, Took, IsBytes}
use Rattle.ice_prims.specs.Number.{SpellsSize, size_at}
use Rattle.ice_prims.proofs.Parts.{chosen, then_ok, ok_is, Took-none, Took-none-is, Took-then, between, Took-fits}
use Rattle.ice_prims.proofs.Numbers.{size_found, size_only}
use Rattle.ice_encoding.specs.Port.{Port, IsLawful, Reader, Speller, Found, Only}
use Rattle.ice_encoding.specs.Pausing.{Met, known, begins, met, in_place}
use Rattle.ice_encoding.proofs.Values.{Lawful, lands}
use Rattle.ice_encoding.specs.Graph.{Slice}
use Rattle.ice_encoding.specs.References.{Reference, met_at, unplaced, SpellsEntry, entry_of, in_table, State, seen, with_met, with_ended, beginning, SpellsInline, begun_at, inline_of, inline_at, instance_by, inline, entry_in, resolved, AreWithin, within, SpellsEntries, SpellsTable, not_null, entries_at, table_at}

-- ---- lists without places

pub seen_more : (ms : List (Reference ℕ)) (m : Reference ℕ) → map unplaced (ms ++ m ∷ []) ≡ map unplaced ms ++ unplaced m ∷ []
seen_more ms m = map-append unplaced ms (m ∷ [])

seen_met : (ms : List (Reference ℕ)) (s : State ℕ) → seen (with_met ms s) ≡ with_met (map unplaced ms) (seen s)
seen_met ms s = λ i. record { instances = s.instances; ids = s.ids; met = map-append unplaced s.met ms i }

resolved_seen : (table : List ℕ) (uses : List (Reference ℕ)) → map unplaced (resolved table uses) ≡ resolved table (map unplaced uses)
resolved_seen table [] = refl
resolved_seen table (u ∷ us) = λ i. unplaced (met_at u.place u.declared (entry_in table u.name)) ∷ resolved_seen table us i

-- ---- places in a table

entry_found : {C : Type 0} (tabled : Bool) (declared : Option ℕ) (place n : ℕ) (s : List (Reference ℕ)) (r : Rest) (x : Option ℕ × List (Reference ℕ) × Rest) (bytes : List ℕ) → SpellsSize bytes n → entry_of tabled declared place n s r ≡ Ok x
    → (SpellsEntry tabled declared bytes x.0 (map unplaced s) (map unplaced x.1) → r ≡ x.2 → C) → C
entry_found tabled declared place zero s r x bytes size e go =
    let same = ok_is (None, s, r) x e in
    go (subst (λ (y : Option ℕ × List (Reference ℕ) × Rest). SpellsEntry tabled declared bytes y.0 (map unplaced s) (map unplaced y.1)) same (size, refl)) (ap (λ (y : Option ℕ × List (Reference ℕ) × Rest). y.2) same)
entry_found true declared place (suc n) s r x bytes size e go =
    let same = ok_is (Some n, s ++ met_at place declared n ∷ [], r) x e in
    go (subst (λ (y : Option ℕ × List (Reference ℕ) × Rest). SpellsEntry true declared bytes y.0 (map unplaced s) (map unplaced y.1)) same (size, refl, seen_more s (met_at place declared n))) (ap (λ (y : Option ℕ × List (Reference ℕ) × Rest). y.2) same)
entry_found false declared place (suc n) s r x bytes size e go = absurd cc

entry_only : (tabled : Bool) (declared : Option ℕ) (s : List (Reference ℕ)) (to : List (Reference (Unit {0}))) (r after : Rest) (bytes : List ℕ) (v : Option ℕ) → Took r bytes after → SpellsEntry tabled declared bytes v (map unplaced s) to
    → (end : List (Reference ℕ)) × (map unplaced end ≡ to) × ((size_at r >>= λ n. entry_of tabled declared r.place n.0 s n.1) ≡ Ok (v, end, after))
entry_only tabled declared s to r after bytes None k h = (s, sym h.1, rw (size_only r after bytes 0 k h.0) refl)
entry_only true declared s to r after bytes (Some n) k h = (s ++ met_at r.place declared n ∷ [], seen_more s (met_at r.place declared n) ∙ sym h.2, rw (size_only r after bytes (suc n) k h.0) refl)
entry_only false declared s to r after bytes (Some n) k h = absurd cc

pub in_table_lawful : (tabled : Bool) → IsLawful (in_table tabled)
in_table_lawful tabled = record {
  found = λ at s r x fits e. then_ok (size_at r) (λ n. entry_of tabled at r.place n.0 s n.1) x e λ n n_is last.
      let f = size_found r n fits n_is in
      entry_found tabled at r.place n.0 s n.1 x f.0 f.2 last λ h end. (f.0, subst (λ (q : Rest). Took r f.0 q) end f.1, h);
  only = λ at s to r after bytes v k h. entry_only tabled at s to r after bytes v k h;
}

-- ---- inline references, by the law of an instance's slices

module _ (limit : ℕ) (slices : Reader (State ℕ) (List Slice)) (Slices : Speller (State (Unit {0})) (List Slice)) (one : Lawful seen slices Slices) where
  seen_beginning : (place : ℕ) (declared : Option ℕ) (s : State ℕ) → seen (beginning place declared s) ≡ beginning tt declared (seen s)
  seen_beginning place declared s = λ i. record { instances = s.instances ++ [] ∷ []; ids = s.ids; met = seen_more s.met (met_at place declared (length s.instances)) i }

  abbrev FoundInline : Option ℕ → State ℕ → Rest → Option ℕ × State ℕ × Rest → Type 0
  FoundInline declared s r x = (bytes : List ℕ) × Took r bytes x.2 × SpellsInline limit Slices declared bytes x.0 (seen s) (seen x.1)

  abbrev goes_in : Met × State ℕ × Rest → Result (Option ℕ × State ℕ × Rest) Fault
  goes_in y = met (instance_by limit slices) y.0 y.1 y.2

  begun_found : (room : Bool) (declared : Option ℕ) (s : State ℕ) (r mid : Rest) (y : Met × State ℕ × Rest) (x : Option ℕ × State ℕ × Rest) (front : List ℕ) → ltb (length s.instances) limit ≡ room → IsBytes mid.bytes → Took r front mid → SpellsSize front 1
      → begun_at limit room declared r.place s mid ≡ Ok y → goes_in y ≡ Ok x → FoundInline declared s r x
  begun_found true declared s r mid y x front room fits took size begun e =
      let n = length s.instances in
      let start = beginning r.place declared s in
      let inside : goes_in (begins n, start, mid) ≡ Ok x = ap goes_in (ok_is (begins n, start, mid) y begun) ∙ e in
      then_ok (instance_by limit slices n start mid) (λ z. Ok (Some n, z.0, z.1)) x inside λ z z_is last.
      then_ok (slices start mid) (λ w. Ok (with_ended n w.0 w.1, w.2)) z z_is λ w w_is ends.
      let f = one.found start mid w fits w_is in
      let h : Slices f.0 w.0 (beginning tt declared (seen s)) (seen w.1) = subst (λ (u : State (Unit {0})). Slices f.0 w.0 u (seen w.1)) (seen_beginning r.place declared s) f.2 in
      let same : (Some n, with_ended n w.0 w.1, w.2) ≡ x = ap (λ (q : State ℕ × Rest). (Some n, q.0, q.1)) (ok_is (with_ended n w.0 w.1, w.2) z ends) ∙ ok_is (Some n, z.0, z.1) x last in
      subst (λ (q : Option ℕ × State ℕ × Rest). FoundInline declared s r q) same
      (front ++ f.0, Took-then r mid w.2 front f.0 took f.1, inl (w.0, front, f.0, seen w.1, refl, size, refl, room, h, refl))
  begun_found false declared s r mid y x front room fits took size begun e = absurd cc

  known_found : (declared : Option ℕ) (s to : State ℕ) (r mid : Rest) (v : Option ℕ) (y : Met × State ℕ × Rest) (x : Option ℕ × State ℕ × Rest) (bytes : List ℕ) → Took r bytes mid → SpellsInline limit Slices declared bytes v (seen s) (seen to)
      → (known v, to, mid) ≡ y → goes_in y ≡ Ok x → FoundInline declared s r x
  known_found declared s to r mid v y x bytes took h same e = lands seen (SpellsInline limit Slices declared) s r (v, to, mid) x bytes took h (ap goes_in same ∙ e)

  inline_found : (declared : Option ℕ) (n : ℕ) (s : State ℕ) (r mid : Rest) (y : Met × State ℕ × Rest) (x : Option ℕ × State ℕ × Rest) (front : List ℕ) → IsBytes mid.bytes → Took r front mid → SpellsSize front n
      → inline_of limit declared r.place n s mid ≡ Ok y → goes_in y ≡ Ok x → FoundInline declared s r x
  inline_found declared zero s r mid y x front fits took size taken e = known_found declared s s r mid None y x front took (size, refl) (ok_is (known None, s, mid) y taken) e
  inline_found declared (suc zero) s r mid y x front fits took size taken e = begun_found (ltb (length s.instances) limit) declared s r mid y x front refl fits took size taken e
  inline_found declared (suc (suc n)) s r mid y x front fits took size taken e =
      let to = with_met (met_at r.place declared n ∷ []) s in
      elim (chosen (ltb n (length s.instances)) (Ok (known (Some n), to, mid)) (fault r.place BadReference) (Ok y) taken) [
        | inl c ↦ known_found declared s to r mid (Some n) y x front took (inr (size, ltb-true _ _ c.0, seen_met (met_at r.place declared n ∷ []) s)) (ok_is (known (Some n), to, mid) y c.1) e
        | inr c ↦ absurd cc
      ]

  abbrev reads : Option ℕ → State ℕ → Rest → Result (Option ℕ × State ℕ × Rest) Fault
  reads declared s r = in_place (inline_at limit) (instance_by limit slices) declared s r

  abbrev ReadsInline : Option ℕ → Option ℕ → State ℕ → State (Unit {0}) → Rest → Rest → Type 0
  ReadsInline declared v s to r after = (end : State ℕ) × (seen end ≡ to) × (reads declared s r ≡ Ok (v, end, after))

  null_is : (declared : Option ℕ) (s : State ℕ) (r after : Rest) → size_at r ≡ Ok (0, after) → reads declared s r ≡ Ok (None, s, after)
  null_is declared s r after size = rw size refl

  begun_is : (declared : Option ℕ) (s q : State ℕ) (r mid after : Rest) (found : List Slice) → size_at r ≡ Ok (1, mid) → ltb (length s.instances) limit ≡ true → slices (beginning r.place declared s) mid ≡ Ok (found, q, after)
      → reads declared s r ≡ Ok (Some (length s.instances), with_ended (length s.instances) found q, after)
  begun_is declared s q r mid after found size room is = rw (size, room, is) refl

  back_is : (declared : Option ℕ) (n : ℕ) (s : State ℕ) (r after : Rest) → size_at r ≡ Ok (suc (suc n), after) → ltb n (length s.instances) ≡ true → reads declared s r ≡ Ok (Some n, with_met (met_at r.place declared n ∷ []) s, after)
  back_is declared n s r after size there = rw (size, there) refl

  inline_only : (declared : Option ℕ) (s : State ℕ) (to : State (Unit {0})) (r after : Rest) (bytes : List ℕ) (v : Option ℕ) → Took r bytes after → SpellsInline limit Slices declared bytes v (seen s) to → ReadsInline declared v s to r after
  inline_only declared s to r after bytes None k h = (s, sym h.1, null_is declared s r after (size_only r after bytes 0 k h.0))
  inline_only declared s to r after bytes (Some n) k (inl (found, front, rest, end, parts, size, number, room, h, ends)) =
      let m = between r after front rest (subst (λ (l : List ℕ). Took r l after) parts k) in
      let room_is : ltb (length s.instances) limit ≡ true = ap (λ (i : ℕ). ltb i limit) (sym number) ∙ room in
      let o = one.only (beginning r.place declared s) end m.0 after rest found m.2 (subst (λ (u : State (Unit {0})). Slices rest found u end) (sym (seen_beginning r.place declared s)) h) in
      let n_is : length s.instances ≡ n = sym number in (
        with_ended (length s.instances) found o.0,
        (λ i. with_ended (n_is i) found (o.1 i)) ∙ sym ends,
        begun_is declared s o.0 r m.0 after found (size_only r m.0 front 1 m.1 size) room_is o.2 ∙ (λ i. Ok (Some (n_is i), with_ended (length s.instances) found o.0, after)),
      )
  inline_only declared s to r after bytes (Some n) k (inr h) =
      (with_met (met_at r.place declared n ∷ []) s, seen_met (met_at r.place declared n ∷ []) s ∙ sym h.2, back_is declared n s r after (size_only r after bytes (suc (suc n)) k h.0) (lt-ltb _ _ h.1))

  pub inline_lawful : IsLawful (inline limit slices Slices)
  inline_lawful = record {
    found = λ at s r x fits e. then_ok (inline_at limit at s r) goes_in x e λ y y_is later.
        then_ok (size_at r) (λ n. inline_of limit at r.place n.0 s n.1) y y_is λ n n_is taken.
        let f = size_found r n fits n_is in
        inline_found at n.0 s r n.1 y x f.0 ((Took-fits r n.1 f.0 fits f.1).1) f.1 f.2 taken later;
    only = λ at s to r after bytes v k h. inline_only at s to r after bytes v k h;
  }

-- ---- tables

pub within_ok : {B C : Type 0} (limit : ℕ) (uses : List (Reference ℕ)) (next : Result B Fault) (y : B) → within limit uses next ≡ Ok y → (AreWithin limit (map unplaced uses) → next ≡ Ok y → C) → C
within_ok limit [] next y e go = go tt e
within_ok limit (u ∷ us) next y e go = elim (chosen (ltb u.name limit) (within limit us next) (fault u.place BadReference) (Ok y) e) [
  | inl c ↦ within_ok limit us next y c.1 (λ below is. go (ltb-true _ _ c.0, below) is)
  | inr c ↦ absurd cc
]

pub within_is : {B : Type 0} (limit : ℕ) (uses : List (Reference ℕ)) (next : Result B Fault) → AreWithin limit (map unplaced uses) → within limit uses next ≡ next
within_is limit [] next below = refl
within_is limit (u ∷ us) next below = let test : ltb u.name limit ≡ true = lt-ltb _ _ below.0 in rw test (within_is limit us next below.1)

module _ (port : Port (State ℕ) (State (Unit {0}))) (found : (at : Option ℕ) → Found seen (port.read at) (port.Spells at)) (only : (at : Option ℕ) → Only seen (port.read at) (port.Spells at)) where
  some_ok : {A C : Type 0} (place : ℕ) (v : Option ℕ) (next : ℕ → Result A Fault) (y : A) → not_null place v next ≡ Ok y → ((n : ℕ) → v ≡ Some n → next n ≡ Ok y → C) → C
  some_ok place None next y e go = absurd cc
  some_ok place (Some n) next y e go = go n refl e

  entries_is : (n : ℕ) (s q end : State ℕ) (r mid after : Rest) (name : ℕ) (others : List ℕ) → port.read None s r ≡ Ok (Some name, q, mid) → entries_at port.read n q mid ≡ Ok (others, end, after) → entries_at port.read (suc n) s r ≡ Ok (name ∷ others, end, after)
  entries_is n s q end r mid after name others one more = rw (one, more) refl

  entries_lawful : (n : ℕ) → Lawful seen (entries_at port.read n) (SpellsEntries port n)
  entries_lawful zero = record {
    found = λ s r x fits e. lands seen (SpellsEntries port 0) s r ([], s, r) x [] (Took-none r) (refl, refl, refl) e;
    only = λ s to r after bytes v k h. (s, sym h.2, rw (Took-none-is r after (subst (λ (l : List ℕ). Took r l after) h.0 k), h.1) refl);
  }
  entries_lawful (suc n) = record {
    found = λ s r x fits e.
        then_ok (port.read None s r) (λ y. not_null r.place y.0 (λ name. entries_at port.read n y.1 y.2 >>= λ z. Ok (name ∷ z.0, z.1, z.2))) x e λ y y_is later.
        some_ok r.place y.0 (λ name. entries_at port.read n y.1 y.2 >>= λ z. Ok (name ∷ z.0, z.1, z.2)) x later λ name name_is more.
        then_ok (entries_at port.read n y.1 y.2) (λ z. Ok (name ∷ z.0, z.1, z.2)) x more λ z z_is last.
        let f = found None s r y fits y_is in
        let g = (entries_lawful n).found y.1 y.2 z ((Took-fits r y.2 f.0 fits f.1).1) z_is in
        lands seen (SpellsEntries port (suc n)) s r (name ∷ z.0, z.1, z.2) x (f.0 ++ g.0) (Took-then r y.2 z.2 f.0 g.0 f.1 g.1)
        (name, z.0, f.0, g.0, seen y.1, refl, refl, subst (λ (v : Option ℕ). port.Spells None f.0 v (seen s) (seen y.1)) name_is f.2, g.2) last;
    only = λ s to r after bytes v k h.
        let m = between r after h.2 h.3 (subst (λ (l : List ℕ). Took r l after) h.6 k) in
        let o = only None s h.4 r m.0 h.2 (Some h.0) m.1 h.7 in
        let p = (entries_lawful n).only o.0 to m.0 after h.3 h.1 m.2 (subst (λ (u : State (Unit {0})). SpellsEntries port n h.3 h.1 u to) (sym o.1) h.8) in
        (p.0, p.1, entries_is n s o.0 p.0 r m.0 after h.0 h.1 o.2 p.2 ∙ (λ i. Ok (sym h.5 i, p.0, after)));
  }

  seen_resolved : (table : List ℕ) (uses : List (Reference ℕ)) (s : State ℕ) → seen (with_met (resolved table uses) s) ≡ with_met (resolved table (map unplaced uses)) (seen s)
  seen_resolved table uses s = seen_met (resolved table uses) s ∙ ap (λ (ms : List (Reference (Unit {0}))). with_met ms (seen s)) (resolved_seen table uses)

  table_is : (uses : List (Reference ℕ)) (n : ℕ) (s q : State ℕ) (r mid after : Rest) (table : List ℕ) → size_at r ≡ Ok (n, mid) → AreWithin n (map unplaced uses) → entries_at port.read n s mid ≡ Ok (table, q, after)
      → table_at port.read true uses s r ≡ Ok (table, with_met (resolved table uses) q, after)
  table_is uses n s q r mid after table size below is = rw size (within_is n uses _ below ∙ rw is refl)

  pub table_lawful : (tabled : Bool) (uses : List (Reference ℕ)) → Lawful seen (table_at port.read tabled uses) (SpellsTable port tabled (map unplaced uses))
  table_lawful false uses = record {
    found = λ s r x fits e. lands seen (SpellsTable port false (map unplaced uses)) s r ([], s, r) x [] (Took-none r) (refl, refl, refl) e;
    only = λ s to r after bytes v k h. (s, sym h.2, rw (Took-none-is r after (subst (λ (l : List ℕ). Took r l after) h.0 k), h.1) refl);
  }
  table_lawful true uses = record {
    found = λ s r x fits e.
        then_ok (size_at r) (λ n. within n.0 uses (entries_at port.read n.0 s n.1 >>= λ x. Ok (x.0, with_met (resolved x.0 uses) x.1, x.2))) x e λ n n_is later.
        within_ok n.0 uses (entries_at port.read n.0 s n.1 >>= λ x. Ok (x.0, with_met (resolved x.0 uses) x.1, x.2)) x later λ below more.
        then_ok (entries_at port.read n.0 s n.1) (λ x. Ok (x.0, with_met (resolved x.0 uses) x.1, x.2)) x more λ y y_is last.
        let f = size_found r n fits n_is in
        let g = (entries_lawful n.0).found s n.1 y ((Took-fits r n.1 f.0 fits f.1).1) y_is in
        lands seen (SpellsTable port true (map unplaced uses)) s r (y.0, with_met (resolved y.0 uses) y.1, y.2) x (f.0 ++ g.0) (Took-then r n.1 y.2 f.0 g.0 f.1 g.1)
        (n.0, f.0, g.0, seen y.1, refl, f.2, below, g.2, seen_resolved y.0 uses y.1) last;
    only = λ s to r after bytes v k h.
        let m = between r after h.1 h.2 (subst (λ (l : List ℕ). Took r l after) h.4 k) in
        let o = (entries_lawful h.0).only s h.3 m.0 after h.2 v m.2 h.7 in
        (with_met (resolved v uses) o.0, seen_resolved v uses o.0 ∙ ap (with_met (resolved v (map unplaced uses))) o.1 ∙ sym h.8, table_is uses h.0 s o.0 r m.0 after v (size_only r m.0 h.1 h.0 m.1 h.5) h.6 o.2);
  }
