-- What stands behind the head of a slice is refused exactly where it has the defect.
use Rattle.std.proofs.Common.{◌≡◌, ℕ, zero, suc, ◌+◌, ◌<◌, ◌⊎◌, Bool, true, false, cond, eqb, ltb, List, [], ◌∷◌, ◌++◌, length, map, drop, Option, None, Some, Result, Ok, Err, refl, sym, ap, subst, ◌∙◌, append_assoc, append-nil, inl, inr, arith}
use Rattle.std.proofs.lemmas.Bool.{eqb-false, ne_eqb, ltb-true, ltb-false, lt-ltb, le-ltb}
use Rattle.std.proofs.lemmas.List.{length-append}
use Rattle.ice_types.specs.Fits.{AreOf}
use Rattle.ice_types.specs.Tables.{Tables}
use Rattle.ice_prims.specs.declared.fault.Fault.{Fault}
use Rattle.ice_prims.specs.declared.fault.Kind.TheVariants.{Short, BadTag, BadReference}
use Rattle.ice_prims.specs.Rest.{Rest, fault, ◌>>=◌, Took, IsBytes}
use Rattle.ice_prims.specs.Number.{SpellsSize, size_at}
use Rattle.ice_prims.proofs.Parts.{chosen as choice, then_ok, ok_is, Took-fits, IsBytes-rest}
use Rattle.ice_encoding.specs.Bounds.{ended}
use Rattle.ice_encoding.specs.Parts.{size}
use Rattle.ice_encoding.specs.Port.{Port, Reader, IsLawful, Found, Only}
use Rattle.ice_encoding.specs.Reading.{made}
use Rattle.ice_encoding.specs.Skipping.{bound_behind}
use Rattle.ice_encoding.proofs.Joined.{size_lawful}
use Rattle.ice_encoding.proofs.Passed.{bound_found}
use Rattle.ice_encoding.proofs.Values.{Lawful}
use Rattle.ice_encoding.specs.Classes.{own_members}
use Rattle.ice_encoding.specs.Flags.{Flags}
use Rattle.ice_encoding.specs.Graph.{Slice, known, unknown}
use Rattle.ice_encoding.specs.OptionalMembers.{Members, slice_members_at, SpellsSliceMembers}
use Rattle.ice_encoding.specs.Prefixes.{prefixed}
use Rattle.ice_encoding.specs.References.{Reference, State, seen, unplaced, entry_of, entry_at, in_table, within, AreWithin, not_null, entries_at, table_at, with_met, resolved}
use Rattle.ice_encoding.specs.Slices.{slice_size, unmarked, without_marker, unknown_at, SpellsUnknown, by_table, body_at}
use Rattle.ice_encoding.proofs.Ending.{ended_ok}
use Rattle.ice_encoding.proofs.Contents.{slice_members_lawful}
use Rattle.ice_encoding.proofs.References.{in_table_lawful, within_is}
use Rattle.ice_encoding.proofs.GraphSizes.{slice_size_lawful, unknown_lawful}
use Rattle.graph_laws.specs.Defects.{Defect, At, SizeBreaks}
use Rattle.graph_laws.specs.Members.{PrefixedBreaks, SliceMembersBreak}
use Rattle.graph_laws.specs.Slices.{SliceSizeBreaks, MarkerBreaks, UnknownBreaks, EntryBreaks, place_within, places, PlaceBreaks, EntriesBreak, TableBreaks, BodyBreaks}
use Rattle.graph_laws.proofs.Bounds.{slice_size_agrees, bound_agrees, opens, prefixed_tells}
use Rattle.graph_laws.proofs.Breaking.{failed, same_err, no_err, then_err}
use Rattle.graph_laws.proofs.From.{goes, stops, Tells, Keeps, made_tells, plain_err, plain_is}
use Rattle.graph_laws.proofs.Members.{slice_members_tell}
use Rattle.graph_laws.proofs.Primitives.{size_agrees}
use Rattle.graph_laws.proofs.Twins.{Uses, twin_members}

-- ---- kept bytes

unmarked_broken : (place : ℕ) (bytes : List ℕ) (e : Fault) → unmarked place bytes ≡ failed e → MarkerBreaks true place bytes e
unmarked_broken place [] e h = inl (refl, sym (same_err (record { place = place; kind = Short }) e h))
unmarked_broken place (b ∷ []) e h = elim (choice (eqb b 255) (Ok []) (fault place BadTag) (Err e) h) [
  | inl good ↦ no_err [] e good.1
  | inr bad ↦
      let same : place ≡ place + 0 = omega arith in
      inr ([], b, refl, eqb-false b 255 bad.0, subst (λ (p : ℕ). At p BadTag e) same (sym (same_err (record { place = place; kind = BadTag }) e bad.1)))
]
unmarked_broken place (b ∷ c ∷ cs) e h = then_err (unmarked (suc place) (c ∷ cs)) (λ front. Ok (b ∷ front)) e h
    (λ bad. longer (unmarked_broken (suc place) (c ∷ cs) e bad))
    (λ front front_is later. no_err (b ∷ front) e later)
  where
    longer : MarkerBreaks true (suc place) (c ∷ cs) e → MarkerBreaks true place (b ∷ c ∷ cs) e
    longer (inl h) = absurd cc
    longer (inr (a, x, parts, other, at)) =
        let same : suc place + length a ≡ place + length (b ∷ a) = omega arith in
        inr (b ∷ a, x, ap (λ (z : List ℕ). b ∷ z) parts, other, subst (λ (p : ℕ). At p BadTag e) same at)

unmarked_breaks : (place : ℕ) (bytes : List ℕ) (e : Fault) → MarkerBreaks true place bytes e → unmarked place bytes ≡ failed e
unmarked_breaks place [] e (inl h) = rw h.1 refl
unmarked_breaks place [] e (inr (a, x, parts, other, at)) = absurd (omega (arith, ap length parts, length-append a (x ∷ [])))
unmarked_breaks place (b ∷ []) e (inl h) = absurd cc
unmarked_breaks place (b ∷ []) e (inr (a, x, parts, other, at)) = only a parts at
  where
    only : (a : List ℕ) → b ∷ [] ≡ a ++ x ∷ [] → At (place + length a) BadTag e → unmarked place (b ∷ []) ≡ failed e
    only [] parts at =
        let same : b ≡ x = cc in
        let off : eqb b 255 ≡ false = ne_eqb _ _ (λ is. other (sym same ∙ is)) in
        let here : place + 0 ≡ place = omega arith in
        let stands : At place BadTag e = subst (λ (p : ℕ). At p BadTag e) here at in
        rw (off, stands) refl
    only (y ∷ a) parts at = absurd (omega (arith, ap length parts, length-append a (x ∷ [])))
unmarked_breaks place (b ∷ c ∷ cs) e (inl h) = absurd cc
unmarked_breaks place (b ∷ c ∷ cs) e (inr (a, x, parts, other, at)) = stops (unmarked (suc place) (c ∷ cs)) (λ front. Ok (b ∷ front)) e (unmarked_breaks (suc place) (c ∷ cs) e (shorter a parts at))
  where
    shorter : (a : List ℕ) → b ∷ c ∷ cs ≡ a ++ x ∷ [] → At (place + length a) BadTag e → MarkerBreaks true (suc place) (c ∷ cs) e
    shorter [] parts at = absurd (omega (arith, ap length parts))
    shorter (y ∷ a) parts at =
        let same : place + length (y ∷ a) ≡ suc place + length a = omega arith in
        inr (a, x, ap (drop 1) parts, other, subst (λ (p : ℕ). At p BadTag e) same at)

marker_broken : (flagged : Bool) (bound : Rest) (e : Fault) → without_marker flagged bound ≡ failed e → MarkerBreaks flagged bound.place bound.bytes e
marker_broken true bound e h = unmarked_broken bound.place bound.bytes e h
marker_broken false bound e h = no_err bound.bytes e h

marker_breaks : (flagged : Bool) (bound : Rest) (e : Fault) → MarkerBreaks flagged bound.place bound.bytes e → without_marker flagged bound ≡ failed e
marker_breaks true bound e h = unmarked_breaks bound.place bound.bytes e h
marker_breaks false bound e h = absurd h

module _ (flagged : Bool) where
  abbrev kept_in : Rest × Rest → Result (List ℕ × Rest) Fault
  kept_in bound = without_marker flagged bound.0 >>= λ x. Ok (x, bound.1)

  unknown_broken : (r : Rest) (e : Fault) → IsBytes r.bytes → unknown_at flagged r ≡ failed e → UnknownBreaks flagged r.place r.bytes e
  unknown_broken r e fits h = then_err (bound_behind slice_size r) kept_in e h
      (λ bad. inl ((bound_agrees slice_size slice_size_lawful SliceSizeBreaks slice_size_agrees).broken r e fits bad))
      (λ bound bound_is later.
      let b = bound_found slice_size slice_size_lawful r bound fits bound_is in
      then_err (without_marker flagged bound.0) (λ x. Ok (x, bound.1)) e later
      (λ bad. inr (b.0, bound.0.bytes, bound.1.bytes, b.1.parts ∙ append_assoc b.0 bound.0.bytes bound.1.bytes, b.2, subst (λ (p : ℕ). MarkerBreaks flagged p bound.0.bytes e) b.3 (marker_broken flagged bound.0 e bad)))
      (λ x x_is last. no_err (x, bound.1) e last))

  unknown_breaks : (r : Rest) (e : Fault) → UnknownBreaks flagged r.place r.bytes e → unknown_at flagged r ≡ failed e
  unknown_breaks r e (inl h) = stops (bound_behind slice_size r) kept_in e ((bound_agrees slice_size slice_size_lawful SliceSizeBreaks slice_size_agrees).breaks r e h)
  unknown_breaks r e (inr (front, body, rest, parts, spells, h)) =
      let bound : Rest = record { place = r.place + length front; bytes = body } in
      let m : Rest = record { place = r.place + length (front ++ body); bytes = rest } in
      goes (bound_behind slice_size r) kept_in (bound, m) (opens slice_size slice_size_lawful SliceSizeBreaks slice_size_agrees r front body rest parts spells)
      ∙ stops (without_marker flagged bound) (λ x. Ok (x, m)) e (marker_breaks flagged bound e h)

-- ---- places in a table

abbrev all_states : {S : Type 0} → S → Type 0
all_states s = Unit {0}

entry_broken : (tabled : Bool) (declared : Option ℕ) (s : Uses) (r : Rest) (e : Fault) → IsBytes r.bytes → entry_at tabled declared s r ≡ failed e → EntryBreaks tabled r.place r.bytes e
entry_broken true declared s r e fits h = then_err (size_at r) (λ n. entry_of true declared r.place n.0 s n.1) e h (λ bad. size_agrees.broken r e fits bad) (λ n n_is later. none n.0 n.1 later)
  where
    none : (n : ℕ) (m : Rest) → entry_of true declared r.place n s m ≡ failed e → SizeBreaks r.place r.bytes e
    none zero m h = no_err _ e h
    none (suc n) m h = no_err _ e h
entry_broken false declared s r e fits h = then_err (size_at r) (λ n. entry_of false declared r.place n.0 s n.1) e h
    (λ bad. inl (size_agrees.broken r e fits bad))
    (λ n n_is later.
    let f = size_lawful.found r n fits n_is in
    let k = off n.0 n.1 later in
    inr (n.0, f.0, n.1.bytes, f.1.parts, f.2, k.0, k.1))
  where
    off : (n : ℕ) (m : Rest) → entry_of false declared r.place n s m ≡ failed e → (0 < n) × At r.place BadReference e
    off zero m h = no_err _ e h
    off (suc n) m h = (omega arith, sym (same_err (record { place = r.place; kind = BadReference }) e h))

entry_breaks : (tabled : Bool) (declared : Option ℕ) (s : Uses) (r : Rest) (e : Fault) → EntryBreaks tabled r.place r.bytes e → entry_at tabled declared s r ≡ failed e
entry_breaks true declared s r e h = stops (size_at r) (λ n. entry_of true declared r.place n.0 s n.1) e (size_agrees.breaks r e h)
entry_breaks false declared s r e (inl h) = stops (size_at r) (λ n. entry_of false declared r.place n.0 s n.1) e (size_agrees.breaks r e h)
entry_breaks false declared s r e (inr (n, a, rest, parts, spells, off, at)) =
    let m : Rest = record { place = r.place + length a; bytes = rest } in
    goes (size_at r) (λ n. entry_of false declared r.place n.0 s n.1) (n, m) (size_lawful.only r m a n (record { parts = parts; moved = refl }) spells) ∙ refused n m off
  where
    refused : (n : ℕ) (m : Rest) → 0 < n → entry_of false declared r.place n s m ≡ failed e
    refused zero m off = absurd (omega (arith, off))
    refused (suc n) m off = rw at refl

module _ (most : ℕ) where
  place_found : (n : ℕ) (s : Unit {0}) (r m : Rest) (x : Option ℕ × (Unit {0}) × Rest) (bytes : List ℕ) → Took r bytes m → SpellsSize bytes n → place_within most r.place n m ≡ Ok x
      → (bytes : List ℕ) × Took r bytes x.2 × (places most).Spells None bytes x.0 s x.1
  place_found zero s r m x bytes took size e =
      subst (λ (y : Option ℕ × (Unit {0}) × Rest). (bytes : List ℕ) × Took r bytes y.2 × (places most).Spells None bytes y.0 s y.1) (ok_is (None, tt, m) x e) (bytes, took, (size, (λ n is. absurd cc), refl))
  place_found (suc n) s r m x bytes took size e = elim (choice (ltb n most) (Ok (Some n, tt, m)) (fault r.place BadReference) (Ok x) e) [
    | inl good ↦ subst (λ (y : Option ℕ × (Unit {0}) × Rest). (bytes : List ℕ) × Took r bytes y.2 × (places most).Spells None bytes y.0 s y.1) (ok_is (Some n, tt, m) x good.1)
        (bytes, took, (size, (λ k is. let same : n ≡ k = cc in subst (λ (j : ℕ). j < most) same (ltb-true _ _ good.0)), refl))
    | inr bad ↦ absurd cc
  ]

  place_only : (v : Option ℕ) (s to : Unit {0}) (r after : Rest) (bytes : List ℕ) → Took r bytes after → (places most).Spells None bytes v s to
      → (end : Unit {0}) × (end ≡ to) × ((size_at r >>= λ n. place_within most r.place n.0 n.1) ≡ Ok (v, end, after))
  place_only None s to r after bytes k h = (tt, sym h.2, goes (size_at r) (λ n. place_within most r.place n.0 n.1) (0, after) (size_lawful.only r after bytes 0 k h.0))
  place_only (Some n) s to r after bytes k h =
      let below : ltb n most ≡ true = lt-ltb _ _ (h.1 n refl) in
      (tt, sym h.2, goes (size_at r) (λ n. place_within most r.place n.0 n.1) (suc n, after) (size_lawful.only r after bytes (suc n) k h.0) ∙ (rw below refl))

  pub places_lawful : IsLawful (places most)
  places_lawful = record {
    found = λ at s r x fits e. then_ok (size_at r) (λ n. place_within most r.place n.0 n.1) x e λ n n_is last.
        let f = size_lawful.found r n fits n_is in
        place_found n.0 s r n.1 x f.0 f.1 f.2 last;
    only = λ at s to r after bytes v k h. place_only v s to r after bytes k h;
  }

  place_broken : (declared : Option ℕ) (s : Unit {0}) (r : Rest) (e : Fault) → IsBytes r.bytes → (places most).read declared s r ≡ failed e → PlaceBreaks most r.place r.bytes e
  place_broken declared s r e fits h = then_err (size_at r) (λ n. place_within most r.place n.0 n.1) e h
      (λ bad. inl (size_agrees.broken r e fits bad))
      (λ n n_is later.
      let f = size_lawful.found r n fits n_is in
      let k = off n.0 n.1 later in
      inr (n.0, f.0, n.1.bytes, f.1.parts, f.2, k.0, k.1))
    where
      off : (n : ℕ) (m : Rest) → place_within most r.place n m ≡ failed e → (most < n) × At r.place BadReference e
      off zero m h = no_err _ e h
      off (suc n) m h = elim (choice (ltb n most) (Ok (Some n, tt, m)) (fault r.place BadReference) (Err e) h) [
        | inl good ↦ no_err _ e good.1
        | inr bad ↦ (omega (arith, ltb-false _ _ bad.0), sym (same_err (record { place = r.place; kind = BadReference }) e bad.1))
      ]

  place_breaks : (declared : Option ℕ) (s : Unit {0}) (r : Rest) (e : Fault) → PlaceBreaks most r.place r.bytes e → (places most).read declared s r ≡ failed e
  place_breaks declared s r e (inl h) = stops (size_at r) (λ n. place_within most r.place n.0 n.1) e (size_agrees.breaks r e h)
  place_breaks declared s r e (inr (n, a, rest, parts, spells, off, at)) =
      let m : Rest = record { place = r.place + length a; bytes = rest } in
      goes (size_at r) (λ n. place_within most r.place n.0 n.1) (n, m) (size_lawful.only r m a n (record { parts = parts; moved = refl }) spells) ∙ refused n m off
    where
      refused : (n : ℕ) (m : Rest) → most < n → place_within most r.place n m ≡ failed e
      refused zero m off = absurd (omega (arith, off))
      refused (suc n) m off = let past : ltb n most ≡ false = le-ltb _ _ (omega (arith, off)) in rw (past, at) refl

-- ---- past the end

-- a place that is past the end has this fault
abbrev Past : ℕ → Uses → Fault → Type 0
Past most us e = within {B = ℕ} most us (Ok 0) ≡ failed e

module _ (most : ℕ) where
  test_any : {B D : Type 0} (c : Bool) (one : Result B Fault) (two : Result D Fault) (place : ℕ) (e : Fault) → (one ≡ failed e → two ≡ failed e) → cond c one (fault place BadReference) ≡ failed e → cond c two (fault place BadReference) ≡ failed e
  test_any true one two place e later h = later h
  test_any false one two place e later h = ap failed (same_err (record { place = place; kind = BadReference }) e h)

  -- which fault it is does not go by what follows
  within_any : {B D : Type 0} (us : Uses) (y : B) (other : Result D Fault) (e : Fault) → within most us (Ok y) ≡ failed e → within most us other ≡ failed e
  within_any [] y other e h = no_err y e h
  within_any (u ∷ us) y other e h = test_any (ltb u.name most) (within most us (Ok y)) (within most us other) u.place e (within_any us y other e) h

  -- one is past the end, or none is and what follows has the fault
  abbrev Decided : {B : Type 0} → Uses → Result B Fault → Fault → Type 0
  Decided us next e = Past most us e ⊎ (AreWithin most (map unplaced us) × (next ≡ failed e))

  one_more : {B : Type 0} (u : Reference ℕ) (us : Uses) (next : Result B Fault) (e : Fault) (c : Bool) → ltb u.name most ≡ c → (within most us next ≡ failed e → Decided us next e) → cond c (within most us next) (fault u.place BadReference) ≡ failed e → Decided (u ∷ us) next e
  one_more u us next e true is later h = by_later (later h)
    where
      by_later : Decided us next e → Decided (u ∷ us) next e
      by_later (inl past) = inl (rw is past)
      by_later (inr more) = inr ((ltb-true _ _ is, more.0), more.1)
  one_more u us next e false is later h = inl (rw is (ap failed (same_err (record { place = u.place; kind = BadReference }) e h)))

  within_err : {B : Type 0} (us : Uses) (next : Result B Fault) (e : Fault) → within most us next ≡ failed e → Decided us next e
  within_err [] next e h = inr (tt, h)
  within_err (u ∷ us) next e h = one_more u us next e (ltb u.name most) refl (within_err us next e) h

-- ---- a table, and what stands behind the head of a slice

module _ (port : Port (State ℕ) (State (Unit {0}))) (same : port.seen ≡ seen) (lawful : IsLawful port) (Good : State (Unit {0}) → Type 0) (keeps : (at : Option ℕ) → Keeps Good (port.Spells at)) (ReferenceBreaks : Option ℕ → State (Unit {0}) → Defect) (refer : (at : Option ℕ) → Tells seen Good (port.read at) (ReferenceBreaks at)) (t : Tables)
    (own : (class : ℕ) → AreOf t (own_members t class).required × AreOf t (own_members t class).optional) where
  found : (at : Option ℕ) → Found seen (port.read at) (port.Spells at)
  found at = subst (λ (f : State ℕ → State (Unit {0})). Found f (port.read at) (port.Spells at)) same (lawful.found at)

  only : (at : Option ℕ) → Only seen (port.read at) (port.Spells at)
  only at = subst (λ (f : State ℕ → State (Unit {0})). Only f (port.read at) (port.Spells at)) same (lawful.only at)

  abbrev Behind : ℕ → State (Unit {0}) → Defect
  Behind = EntriesBreak port ReferenceBreaks t

  abbrev named : ℕ → ℕ → Option ℕ × State ℕ × Rest → Result (List ℕ × State ℕ × Rest) Fault
  named n place x = not_null place x.0 (λ name. entries_at port.read n x.1 x.2 >>= λ y. Ok (name ∷ y.0, y.1, y.2))

  abbrev Null : ℕ → ℕ → Option ℕ → State (Unit {0}) → Defect
  Null n start v = λ mid place rest fault. ((v ≡ None) × At start BadReference fault) ⊎ ((name : ℕ) × (v ≡ Some name) × Behind n mid place rest fault)

  named_broken : (n start : ℕ) (v : Option ℕ) (s : State ℕ) (m : Rest) (e : Fault) → (entries_at port.read n s m ≡ failed e → Behind n (seen s) m.place m.bytes e) → named n start (v, s, m) ≡ failed e → Null n start v (seen s) m.place m.bytes e
  named_broken n start None s m e later h = inl (refl, sym (same_err (record { place = start; kind = BadReference }) e h))
  named_broken n start (Some name) s m e later h = inr (name, refl, then_err (entries_at port.read n s m) (λ y. Ok (name ∷ y.0, y.1, y.2)) e h later (λ y y_is last. no_err _ e last))

  named_breaks : (n start : ℕ) (v : Option ℕ) (s : State ℕ) (m : Rest) (e : Fault) → (Behind n (seen s) m.place m.bytes e → entries_at port.read n s m ≡ failed e) → Null n start v (seen s) m.place m.bytes e → named n start (v, s, m) ≡ failed e
  named_breaks n start None s m e later (inl h) = rw h.1 refl
  named_breaks n start None s m e later (inr h) = absurd cc
  named_breaks n start (Some name) s m e later (inl h) = absurd cc
  named_breaks n start (Some name) s m e later (inr h) = stops (entries_at port.read n s m) (λ y. Ok (name ∷ y.0, y.1, y.2)) e (later h.2)

  entries_broken : (n : ℕ) (s : State ℕ) (r : Rest) (e : Fault) → Good (seen s) → IsBytes r.bytes → entries_at port.read n s r ≡ failed e → Behind n (seen s) r.place r.bytes e
  entries_broken zero s r e good fits h = no_err _ e h
  entries_broken (suc n) s r e good fits h = then_err (port.read None s r) (named n r.place) e h
      (λ bad. inl ((refer None).broken s r e good fits bad))
      (λ x x_is later.
      let f = found None s r x fits x_is in
      let left = (Took-fits r x.2 f.0 fits f.1).1 in
      let d = named_broken n r.place x.0 x.1 x.2 e (λ bad. entries_broken n x.1 x.2 e (keeps None f.0 x.0 (seen s) (seen x.1) f.2 good) left bad) later in
      inr (x.0, seen x.1, f.0, x.2.bytes, f.1.parts, f.2, subst (λ (p : ℕ). Null n r.place x.0 (seen x.1) p x.2.bytes e) f.1.moved d))

  entries_break : (n : ℕ) (s : State ℕ) (r : Rest) (e : Fault) → Behind n (seen s) r.place r.bytes e → entries_at port.read n s r ≡ failed e
  entries_break zero s r e h = absurd h
  entries_break (suc n) s r e (inl h) = stops (port.read None s r) (named n r.place) e ((refer None).breaks s r e h)
  entries_break (suc n) s r e (inr (v, mid, a, rest, parts, spells, h)) =
      let m : Rest = record { place = r.place + length a; bytes = rest } in
      let o = only None s mid r m a v (record { parts = parts; moved = refl }) spells in
      goes (port.read None s r) (named n r.place) (v, o.0, m) o.2
      ∙ named_breaks n r.place v o.0 m e (entries_break n o.0 m e) (subst (λ (u : State (Unit {0})). Null n r.place v u m.place rest e) (sym o.1) h)

  abbrev in_entries : Uses → ℕ × Rest → State ℕ → Result (List ℕ × State ℕ × Rest) Fault
  in_entries uses n s = within n.0 uses (entries_at port.read n.0 s n.1 >>= λ x. Ok (x.0, with_met (resolved x.0 uses) x.1, x.2))

  table_broken : (tabled : Bool) (uses : Uses) (PastEnd : ℕ → Fault → Type 0) → ((n : ℕ) (e : Fault) → tabled ≡ true → Past n uses e → PastEnd n e) → (s : State ℕ) (r : Rest) (e : Fault) → Good (seen s) → IsBytes r.bytes
      → table_at port.read tabled uses s r ≡ failed e → TableBreaks port ReferenceBreaks t tabled PastEnd (map unplaced uses) (seen s) r.place r.bytes e
  table_broken false uses PastEnd past s r e good fits h = no_err _ e h
  table_broken true uses PastEnd past s r e good fits h = then_err (size_at r) (λ n. in_entries uses n s) e h
      (λ bad. inl (size_agrees.broken r e fits bad))
      (λ n n_is later.
      let f = size_lawful.found r n fits n_is in
      let left = (Took-fits r n.1 f.0 fits f.1).1 in
      let go_on : Result (List ℕ × State ℕ × Rest) Fault = entries_at port.read n.0 s n.1 >>= λ x. Ok (x.0, with_met (resolved x.0 uses) x.1, x.2) in
      elim (within_err n.0 uses go_on e later) [
        | inl one ↦ inr (n.0, f.0, n.1.bytes, f.1.parts, f.2, inl (past n.0 e refl one))
        | inr more ↦ inr (
          n.0,
          f.0,
          n.1.bytes,
          f.1.parts,
          f.2,
          inr (
            more.0,
            then_err (entries_at port.read n.0 s n.1) (λ x. Ok (x.0, with_met (resolved x.0 uses) x.1, x.2)) e more.1
                (λ bad. subst (λ (p : ℕ). Behind n.0 (seen s) p n.1.bytes e) f.1.moved (entries_broken n.0 s n.1 e good left bad))
                (λ x x_is last. no_err _ e last),
          ),
        )
      ])

  decided : (uses : Uses) (PastEnd : ℕ → Fault → Type 0) (n : ℕ) (s : State ℕ) (m : Rest) (e : Fault) → (PastEnd n e → Past n uses e)
      → (PastEnd n e ⊎ (AreWithin n (map unplaced uses) × Behind n (seen s) m.place m.bytes e)) → in_entries uses (n, m) s ≡ failed e
  decided uses PastEnd n s m e past (inl h) = within_any n uses 0 (entries_at port.read n s m >>= λ x. Ok (x.0, with_met (resolved x.0 uses) x.1, x.2)) e (past h)
  decided uses PastEnd n s m e past (inr h) = within_is n uses (entries_at port.read n s m >>= λ x. Ok (x.0, with_met (resolved x.0 uses) x.1, x.2)) h.0
      ∙ stops (entries_at port.read n s m) (λ x. Ok (x.0, with_met (resolved x.0 uses) x.1, x.2)) e (entries_break n s m e h.1)

  table_breaks : (tabled : Bool) (uses : Uses) (PastEnd : ℕ → Fault → Type 0) → ((n : ℕ) (e : Fault) → tabled ≡ true → PastEnd n e → Past n uses e) → (s : State ℕ) (r : Rest) (e : Fault)
      → TableBreaks port ReferenceBreaks t tabled PastEnd (map unplaced uses) (seen s) r.place r.bytes e → table_at port.read tabled uses s r ≡ failed e
  table_breaks false uses PastEnd past s r e h = absurd h
  table_breaks true uses PastEnd past s r e (inl h) = stops (size_at r) (λ n. in_entries uses n s) e (size_agrees.breaks r e h)
  table_breaks true uses PastEnd past s r e (inr (n, a, rest, parts, spells, h)) =
      let m : Rest = record { place = r.place + length a; bytes = rest } in
      goes (size_at r) (λ n. in_entries uses n s) (n, m) (size_lawful.only r m a n (record { parts = parts; moved = refl }) spells) ∙ decided uses PastEnd n s m e (past n e refl) h

  -- ---- of a known class, with a size

  module _ (tabled flagged : Bool) (class : ℕ) where
    abbrev members : Reader Uses Members
    members = slice_members_at (entry_at tabled) t flagged (own_members t class)

    abbrev Spelled : List ℕ → Members → List (Reference (Unit {0})) → List (Reference (Unit {0})) → Type 0
    Spelled = SpellsSliceMembers (in_table tabled) t flagged (own_members t class)

    abbrev MembersDefect : List (Reference (Unit {0})) → Defect
    MembersDefect = SliceMembersBreak (in_table tabled) (λ declared uses. EntryBreaks tabled) t flagged (own_members t class)

    -- in a table of so many entries
    abbrev InTable : ℕ → List ℕ → ℕ → Fault → Type 0
    InTable place body n = SliceMembersBreak (places n) (λ declared s. PlaceBreaks n) t flagged (own_members t class) tt place body

    members_law : Lawful (map unplaced) members Spelled
    members_law = slice_members_lawful (in_table tabled) (in_table_lawful tabled) t (own_members t class) flagged

    members_told : Tells (map unplaced) all_states members MembersDefect
    members_told = slice_members_tell (in_table tabled) (in_table_lawful tabled) all_states (λ at bytes x from to h good. tt) (λ declared uses. EntryBreaks tabled)
        (λ at. record { broken = λ s r e good fits h. entry_broken tabled at s r e fits h; breaks = entry_breaks tabled at }) t (own_members t class) (own class).0 (own class).1 flagged

    places_told : (n : ℕ) → Tells (λ s. s) all_states (slice_members_at (places n).read t flagged (own_members t class)) (SliceMembersBreak (places n) (λ declared s. PlaceBreaks n) t flagged (own_members t class))
    places_told n = slice_members_tell (places n) (places_lawful n) all_states (λ at bytes x from to h good. tt) (λ declared s. PlaceBreaks n)
        (λ at. record { broken = λ s r e good fits h. place_broken n at s r e fits h; breaks = place_breaks n at }) t (own_members t class) (own class).0 (own class).1 flagged

    prefixed_told : Tells (map unplaced) all_states (prefixed slice_size members) (PrefixedBreaks slice_size SliceSizeBreaks Spelled MembersDefect)
    prefixed_told = prefixed_tells slice_size slice_size_lawful SliceSizeBreaks slice_size_agrees (map unplaced) all_states members Spelled members_law MembersDefect members_told

    -- read against a table, as they were read by themselves
    against : tabled ≡ true → (bound at_end : Rest) (content : Members) (uses : Uses) → members [] bound ≡ Ok (content, uses, at_end) → (n : ℕ)
        → slice_members_at (places n).read t flagged (own_members t class) tt bound ≡ within n uses (Ok (content, tt, at_end))
    against is bound at_end content uses e n =
        let again : slice_members_at (entry_at true) t flagged (own_members t class) [] bound ≡ Ok (content, uses, at_end) = subst (λ (b : Bool). slice_members_at (entry_at b) t flagged (own_members t class) [] bound ≡ Ok (content, uses, at_end)) is e in
        let w = twin_members n t flagged (own_members t class) [] bound (content, uses, at_end) again in
        w.2 ∙ ap (λ (us : Uses). within n us (Ok (content, tt, at_end))) (sym w.1)

    past_broken : (bound at_end : Rest) (content : Members) (uses : Uses) → IsBytes bound.bytes → members [] bound ≡ Ok (content, uses, at_end) → (n : ℕ) (e : Fault) → tabled ≡ true → Past n uses e
        → InTable bound.place bound.bytes n e
    past_broken bound at_end content uses fits read n e is one = (places_told n).broken tt bound e tt fits (against is bound at_end content uses read n ∙ within_any n uses 0 (Ok (content, tt, at_end)) e one)

    past_breaks : (bound at_end : Rest) (content : Members) (uses : Uses) → members [] bound ≡ Ok (content, uses, at_end) → (n : ℕ) (e : Fault) → tabled ≡ true → InTable bound.place bound.bytes n e → Past n uses e
    past_breaks bound at_end content uses read n e is h = within_any n uses (content, tt, at_end) (Ok 0) e (sym (against is bound at_end content uses read n) ∙ (places_told n).breaks tt bound e h)

    abbrev ending : Rest → Members × Uses × Rest → Result (Members × Uses × Rest) Fault
    ending behind y = ended y.2.bytes y.2.place (y.0, y.1, behind)

    abbrev with_table : State ℕ → Members × Uses × Rest → Result (Slice × State ℕ × Rest) Fault
    with_table s x = made (by_table class x.0) (table_at port.read tabled x.1) s x.2

    abbrev TableDefect : ℕ → List ℕ → List (Reference (Unit {0})) → State (Unit {0}) → Defect
    TableDefect place body uses = TableBreaks port ReferenceBreaks t tabled (InTable place body) uses

    abbrev SizedBreaks : State (Unit {0}) → Defect
    SizedBreaks = λ from place bytes fault. PrefixedBreaks slice_size SliceSizeBreaks Spelled MembersDefect [] place bytes fault
        ⊎ ((front body rest : List ℕ) × (content : Members) × (uses : List (Reference (Unit {0}))) × (bytes ≡ front ++ (body ++ rest)) × slice_size.Spells front (length body)
        × Spelled body content [] uses × TableDefect (place + length front) body uses from (place + length front + length body) rest fault)

    sized_broken : (s : State ℕ) (r : Rest) (e : Fault) → Good (seen s) → IsBytes r.bytes → (prefixed slice_size members [] r >>= with_table s) ≡ failed e → SizedBreaks (seen s) r.place r.bytes e
    sized_broken s r e good fits h = then_err (prefixed slice_size members [] r) (with_table s) e h
        (λ bad. inl (prefixed_told.broken [] r e tt fits bad))
        (λ x x_is later.
        then_ok (bound_behind slice_size r) (λ bound. members [] bound.0 >>= ending bound.1) x x_is λ bound bound_is more.
        then_ok (members [] bound.0) (ending bound.1) x more λ y y_is last.
        ended_ok y.2.bytes y.2.place (y.0, y.1, bound.1) x last λ none same.
        let b = bound_found slice_size slice_size_lawful r bound fits bound_is in
        let all = Took-fits r bound.1 (b.0 ++ bound.0.bytes) fits b.1 in
        let inside = IsBytes-rest b.0 bound.0.bytes all.0 in
        let f = members_law.found [] bound.0 y inside y_is in
        let whole : f.0 ≡ bound.0.bytes = sym (f.1.parts ∙ ap (λ (z : List ℕ). f.0 ++ z) none ∙ append-nil f.0) in
        then_err (table_at port.read tabled y.1 s bound.1) (λ z. Ok (by_table class y.0 z.0, z.1, z.2)) e (ap (with_table s) same ∙ later)
        (λ bad.
        let d = table_broken tabled y.1 (InTable bound.0.place bound.0.bytes) (past_broken bound.0 y.2 y.0 y.1 inside y_is) s bound.1 e good all.1 bad in
        let moved : bound.1.place ≡ r.place + length b.0 + length bound.0.bytes = omega (arith, b.1.moved, length-append b.0 bound.0.bytes) in
        inr (
          b.0,
          bound.0.bytes,
          bound.1.bytes,
          y.0,
          map unplaced y.1,
          b.1.parts ∙ append_assoc b.0 bound.0.bytes bound.1.bytes,
          b.2,
          subst (λ (l : List ℕ). Spelled l y.0 [] (map unplaced y.1)) whole f.2,
          subst (λ (p : ℕ). TableDefect (r.place + length b.0) bound.0.bytes (map unplaced y.1) (seen s) p bound.1.bytes e) moved
              (subst (λ (p : ℕ). TableDefect p bound.0.bytes (map unplaced y.1) (seen s) bound.1.place bound.1.bytes e) b.3 d),
        ))
        (λ z z_is done. no_err _ e done))

    sized_breaks : (s : State ℕ) (r : Rest) (e : Fault) → SizedBreaks (seen s) r.place r.bytes e → (prefixed slice_size members [] r >>= with_table s) ≡ failed e
    sized_breaks s r e (inl h) = stops (prefixed slice_size members [] r) (with_table s) e (prefixed_told.breaks [] r e h)
    sized_breaks s r e (inr (front, body, rest, content, uses, parts, spells, members_are, table)) =
        let bound : Rest = record { place = r.place + length front; bytes = body } in
        let m : Rest = record { place = r.place + length (front ++ body); bytes = rest } in
        let at_end : Rest = record { place = r.place + length front + length body; bytes = [] } in
        let o = members_law.only [] uses bound at_end body content (record { parts = sym (append-nil body); moved = refl }) members_are in
        let moved : r.place + length front + length body ≡ m.place = omega (arith, length-append front body) in
        let d : TableDefect bound.place body (map unplaced o.0) (seen s) m.place rest e = subst (λ (p : ℕ). TableDefect bound.place body (map unplaced o.0) (seen s) p rest e) moved
        (subst (λ (us : List (Reference (Unit {0}))). TableDefect bound.place body us (seen s) (r.place + length front + length body) rest e) (sym o.1) table) in
        goes (prefixed slice_size members [] r) (with_table s) (content, o.0, m)
        (goes (bound_behind slice_size r) (λ bound. members [] bound.0 >>= ending bound.1) (bound, m) (opens slice_size slice_size_lawful SliceSizeBreaks slice_size_agrees r front body rest parts spells) ∙ goes (members [] bound) (ending m) (content, o.0, at_end) o.2)
        ∙ stops (table_at port.read tabled o.0 s m) (λ z. Ok (by_table class content z.0, z.1, z.2)) e
        (table_breaks tabled o.0 (InTable bound.place body) (past_breaks bound at_end content o.0 o.2) s m e d)

  -- ---- kept bytes, and their table

  module _ (tabled flagged : Bool) (id : List ℕ) where
    abbrev keeping : List ℕ × State ℕ × Rest → Result (Slice × State ℕ × Rest) Fault
    keeping x = made (unknown id x.0 flagged) (table_at port.read tabled []) x.1 x.2

    abbrev KeptTable : State (Unit {0}) → Defect
    KeptTable = TableBreaks port ReferenceBreaks t tabled (λ n d. ⊥) []

    abbrev KeptBreaks : State (Unit {0}) → Defect
    KeptBreaks = λ from place bytes fault. UnknownBreaks flagged place bytes fault
        ⊎ ((kept a rest : List ℕ) × (bytes ≡ a ++ rest) × SpellsUnknown flagged a kept × KeptTable from (place + length a) rest fault)

    kept_broken : (s : State ℕ) (r : Rest) (e : Fault) → Good (seen s) → IsBytes r.bytes → ((unknown_at flagged r >>= λ x. Ok (x.0, s, x.1)) >>= keeping) ≡ failed e → KeptBreaks (seen s) r.place r.bytes e
    kept_broken s r e good fits h = plain_err (unknown_at flagged r) s keeping e h
        (λ bad. inl (unknown_broken flagged r e fits bad))
        (λ x x_is later.
        let f = (unknown_lawful flagged).found r x fits x_is in
        then_err (table_at port.read tabled [] s x.1) (λ z. Ok (unknown id x.0 flagged z.0, z.1, z.2)) e later
        (λ bad. inr (
          x.0,
          f.0,
          x.1.bytes,
          f.1.parts,
          f.2,
          subst (λ (p : ℕ). KeptTable (seen s) p x.1.bytes e) f.1.moved
              (table_broken tabled [] (λ n d. ⊥) (λ n d is one. no_err 0 d one) s x.1 e good ((Took-fits r x.1 f.0 fits f.1).1) bad),
        ))
        (λ z z_is done. no_err _ e done))

    kept_breaks : (s : State ℕ) (r : Rest) (e : Fault) → KeptBreaks (seen s) r.place r.bytes e → ((unknown_at flagged r >>= λ x. Ok (x.0, s, x.1)) >>= keeping) ≡ failed e
    kept_breaks s r e (inl h) = stops (unknown_at flagged r >>= λ x. Ok (x.0, s, x.1)) keeping e (stops (unknown_at flagged r) (λ x. Ok (x.0, s, x.1)) e (unknown_breaks flagged r e h))
    kept_breaks s r e (inr (kept, a, rest, parts, spells, h)) =
        let m : Rest = record { place = r.place + length a; bytes = rest } in
        goes (unknown_at flagged r >>= λ x. Ok (x.0, s, x.1)) keeping (kept, s, m) (plain_is (unknown_at flagged) s r (kept, m) ((unknown_lawful flagged).only r m a kept (record { parts = parts; moved = refl }) spells))
        ∙ stops (table_at port.read tabled [] s m) (λ z. Ok (unknown id kept flagged z.0, z.1, z.2)) e (table_breaks tabled [] (λ n d. ⊥) (λ n d is none. absurd none) s m e h)

  -- ---- without a size

  unsized_told : (flagged : Bool) (class : ℕ) → Tells seen Good (made (known class) (slice_members_at port.read t flagged (own_members t class))) (SliceMembersBreak port ReferenceBreaks t flagged (own_members t class))
  unsized_told flagged class = made_tells seen Good (known class) _ _ (subst (λ (f : State ℕ → State (Unit {0})). Tells f Good (slice_members_at port.read t flagged (own_members t class)) (SliceMembersBreak port ReferenceBreaks t flagged (own_members t class))) same
      (slice_members_tell port lawful Good keeps ReferenceBreaks (λ at. subst (λ (f : State ℕ → State (Unit {0})). Tells f Good (port.read at) (ReferenceBreaks at)) (sym same) (refer at)) t (own_members t class) (own class).0 (own class).1 flagged))

  -- ---- each of them

  pub body_broken : (f : Flags) (id : List ℕ) (sized : Bool) (class : Option ℕ) → (sized ≡ false → class ≡ None → ⊥) → (s : State ℕ) (r : Rest) (e : Fault) → Good (seen s) → IsBytes r.bytes → body_at port.read t f id sized class s r ≡ failed e
      → BodyBreaks port ReferenceBreaks t f sized class (seen s) r.place r.bytes e
  body_broken f id true (Some class) there s r e good fits h = sized_broken f.has_table f.has_optional class s r e good fits h
  body_broken f id true None there s r e good fits h = kept_broken f.has_table f.has_optional id s r e good fits h
  body_broken f id false (Some class) there s r e good fits h = (unsized_told f.has_optional class).broken s r e good fits h
  body_broken f id false None there s r e good fits h = absurd (there refl refl)

  pub body_breaks : (f : Flags) (id : List ℕ) (sized : Bool) (class : Option ℕ) (s : State ℕ) (r : Rest) (e : Fault) → BodyBreaks port ReferenceBreaks t f sized class (seen s) r.place r.bytes e → body_at port.read t f id sized class s r ≡ failed e
  body_breaks f id true (Some class) s r e h = sized_breaks f.has_table f.has_optional class s r e h
  body_breaks f id true None s r e h = kept_breaks f.has_table f.has_optional id s r e h
  body_breaks f id false (Some class) s r e h = (unsized_told f.has_optional class).breaks s r e h
  body_breaks f id false None s r e h = absurd h
