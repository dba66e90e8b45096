-- The entries of a context: read as they are spelled, and written in rising order of their names.
use Rattle.std.proofs.Common.{◌≡◌, ℕ, zero, suc, ◌+◌, ◌≤◌, Bool, true, false, cond, List, [], ◌∷◌, ◌++◌, length, Option, None, Some, Result, Ok, refl, sym, ap, subst, ◌∙◌, append_assoc, append-nil, arith}
use Rattle.std.specs.List.{flat_map, AllByRecursion}
use Rattle.std.specs.List.Sorted.{IsStrictlySortedBy}
use Rattle.std.specs.Ordering.{is_eq, match_ordering, ordering_reverse}
use Rattle.std.specs.declared.cmp.Ordering.{Ordering}
use Rattle.std.specs.declared.cmp.Ordering.TheVariants.{Less, Equal, Greater}
use Rattle.std.specs.Map.{keys_of}
use Rattle.std.proofs.lemmas.Cmp.{nat_list_cmp_total}
use Rattle.std.proofs.lemmas.List.{length-append}
use Rattle.ice_prims.specs.declared.fault.Fault.{Fault}
use Rattle.ice_prims.specs.Rest.{Rest, ◌>>=◌, Took, IsBytes}
use Rattle.ice_prims.specs.Number.{text_at}
use Rattle.ice_prims.proofs.Parts.{then_ok, Took-none, Took-none-is, Took-then, between, Took-fits, IsBytes-front, IsBytes-rest}
use Rattle.ice_encoding.specs.Parts.{Each, IsLawful, text, both}
use Rattle.ice_encoding.proofs.Joined.{lands, text_lawful}
use Rattle.ice_messages.specs.Context.{Entry, name_cmp, value_of, with_entry, new_name, entries_at, SpellsEntries, entries, AreRising}

-- a name that was new
newly : {A : Type 0} {C : Type 0} (held : Option (List ℕ)) (place : ℕ) (next : Result A Fault) (y : A) → new_name held place next ≡ Ok y → (held ≡ None → next ≡ Ok y → C) → C
newly None place next y e go = go refl e
newly (Some v) place next y e go = absurd cc

pub entries_found : (n : ℕ) (before : List Entry) (r : Rest) (y : List Entry × Rest) → IsBytes r.bytes → entries_at n before r ≡ Ok y
    → (bytes : List ℕ) × Took r bytes y.1 × SpellsEntries n before bytes y.0
entries_found zero before r y fits e = lands (SpellsEntries 0 before) r (before, r) y [] (Took-none r) (refl, refl) e
entries_found (suc n) before r y fits e =
    then_ok (text_at r) (λ name. new_name (value_of before name.0) r.place (text_at name.1) >>= λ value. entries_at n (with_entry before (name.0, value.0)) value.1) y e λ name name_is later.
    then_ok (new_name (value_of before name.0) r.place (text_at name.1)) (λ value. entries_at n (with_entry before (name.0, value.0)) value.1) y later λ value new_is last.
    newly (value_of before name.0) r.place (text_at name.1) value new_is λ free value_is.
    let f = text_lawful.found r name fits name_is in
    let after_name = (Took-fits r name.1 f.0 fits f.1).1 in
    let g = text_lawful.found name.1 value after_name value_is in
    let h = entries_found n (with_entry before (name.0, value.0)) value.1 y ((Took-fits name.1 value.1 g.0 after_name g.1).1) last in
    (f.0 ++ (g.0 ++ h.0), Took-then r name.1 y.1 f.0 (g.0 ++ h.0) f.1 (Took-then name.1 value.1 y.1 g.0 h.0 g.1 h.1), (name.0, value.0, f.0, g.0, h.0, refl, f.2, free, g.2, h.2))

pub entries_only : (n : ℕ) (before : List Entry) (r s : Rest) (bytes : List ℕ) (v : List Entry) → Took r bytes s → SpellsEntries n before bytes v → entries_at n before r ≡ Ok (v, s)
entries_only zero before r s bytes v k h = rw (Took-none-is r s (rw (← h.0) k), h.1) refl
entries_only (suc n) before r s bytes v k h =
    let m = between r s h.2 (h.3 ++ h.4) (rw (← h.5) k) in
    let o = between m.0 s h.3 h.4 m.2 in
    rw (text_lawful.only r m.0 h.2 h.0 m.1 h.6, h.7, text_lawful.only m.0 o.0 h.3 h.1 o.1 h.8) (entries_only n (with_entry before (h.0, h.1)) o.0 s h.4 v o.2 h.9)

-- ---- one entry more

-- what each entry is
abbrev AreEntries : List Entry → Type 0
AreEntries es = Each (both text text).Is es

-- the name is below each of these, or above it
abbrev IsBelow : List ℕ → List Entry → Type 0
IsBelow name es = AllByRecursion (λ other. name_cmp name other ≡ Less) (keys_of es)

abbrev AreBelow : List Entry → List ℕ → Type 0
AreBelow es name = AllByRecursion (λ other. name_cmp other name ≡ Less) (keys_of es)

lower : (a b : List ℕ) (es : List Entry) → name_cmp a b ≡ Less → IsBelow b es → IsBelow a es
lower a b [] less h = tt
lower a b (e ∷ es) less h = (nat_list_cmp_total.trans a b e.0 less h.0, lower a b es less h.1)

turned : (a b : List ℕ) → name_cmp a b ≡ Greater → name_cmp b a ≡ Less
turned a b e = nat_list_cmp_total.antisymm b a ∙ ap ordering_reverse e

below_at : (name k v : List ℕ) (e : Entry) (es more : List Entry) (o : Ordering) → name_cmp name k ≡ Less → IsBelow name (e ∷ es) → IsBelow name more → IsBelow name (match_ordering o ((k, v) ∷ e ∷ es) ((e.0, v) ∷ es) (e ∷ more))
below_at name k v e es more Less less h later = (less, h)
below_at name k v e es more Equal less h later = h
below_at name k v e es more Greater less h later = (h.0, later)

below_new : (name k v : List ℕ) (es : List Entry) → name_cmp name k ≡ Less → IsBelow name es → IsBelow name (with_entry es (k, v))
below_new name k v [] less h = (less, tt)
below_new name k v (e ∷ es) less h = below_at name k v e es (with_entry es (k, v)) (name_cmp k e.0) less h (below_new name k v es less h.1)

-- what an insertion keeps
abbrev Keeps : ℕ → List Entry → Type 0
Keeps n es = AreRising es × AreEntries es × (length es ≡ n)

new_is : (k v : List ℕ) (e : Entry) (es : List Entry) (o : Ordering) → name_cmp k e.0 ≡ o → value_of (e ∷ es) k ≡ None → AreRising (e ∷ es) → AreEntries (e ∷ es) → (both text text).Is (k, v)
    → (value_of es k ≡ None → Keeps (suc (length es)) (with_entry es (k, v))) → Keeps (suc (suc (length es))) (match_ordering o ((k, v) ∷ e ∷ es) ((e.0, v) ∷ es) (e ∷ with_entry es (k, v)))
unfolding IsStrictlySortedBy
new_is k v e es Less e_is free rising are is more = (((e_is, lower k e.0 es e_is rising.0), rising), (is, are), refl)
new_is k v e es Equal e_is free rising are is more = absurd (equal_free e_is)
  where
    equal_free : name_cmp k e.0 ≡ Equal → ⊥
    equal_free same = let taken : is_eq (name_cmp k e.0) ≡ true = rw same refl in absurd cc
new_is k v e es Greater e_is free rising are is more =
    let apart : is_eq (name_cmp k e.0) ≡ false = rw e_is refl in
    let later = more (subst (λ (b : Bool). cond b (Some e.1) (value_of es k) ≡ None) apart free) in
    ((below_new e.0 k v es (turned k e.0 e_is) rising.0, later.0), (are.0, later.1), ap suc later.2)

-- no entries
no_entries : AreRising []
unfolding IsStrictlySortedBy
no_entries = tt

-- a new one, at its place
pub rising_more : (es : List Entry) (k v : List ℕ) → value_of es k ≡ None → AreRising es → AreEntries es → (both text text).Is (k, v) → Keeps (suc (length es)) (with_entry es (k, v))
unfolding IsStrictlySortedBy
rising_more [] k v free rising are is = ((tt, tt), (is, tt), refl)
rising_more (e ∷ es) k v free rising are is = new_is k v e es (name_cmp k e.0) refl free rising are is (λ none. rising_more es k v none rising.1 are.1 is)

pub entries_sort : (n : ℕ) (before : List Entry) (bytes : List ℕ) (es : List Entry) → IsBytes bytes → SpellsEntries n before bytes es → Keeps (length before) before → Keeps (n + length before) es
entries_sort zero before bytes es fits h keeps = rw h.1 (keeps.0, keeps.1, omega arith)
entries_sort (suc n) before bytes es fits h keeps =
    let parts : IsBytes (h.2 ++ (h.3 ++ h.4)) = rw (← h.5) fits in
    let behind = IsBytes-rest h.2 (h.3 ++ h.4) parts in
    let name_is = text_lawful.sort h.2 h.0 (IsBytes-front h.2 (h.3 ++ h.4) parts) h.6 in
    let value_is = text_lawful.sort h.3 h.1 (IsBytes-front h.3 h.4 behind) h.8 in
    let more = rising_more before h.0 h.1 h.7 keeps.0 keeps.1 (name_is, value_is) in
    let count : length (with_entry before (h.0, h.1)) ≡ suc (length before) = more.2 in
    let later = entries_sort n (with_entry before (h.0, h.1)) h.4 es (IsBytes-rest h.3 h.4 behind) h.9 (more.0, more.1, refl) in
    (later.0, later.1, omega (arith, later.2, count))

-- ---- entries in rising order are put one after the other

-- a name above all of these is new, and comes last
last_free : (k : List ℕ) (es : List Entry) → AreBelow es k → value_of es k ≡ None
last_free k [] h = refl
last_free k (e ∷ es) h = let apart : name_cmp k e.0 ≡ Greater = nat_list_cmp_total.antisymm k e.0 ∙ ap ordering_reverse h.0 in rw apart (last_free k es h.1)

last_put : (k v : List ℕ) (es : List Entry) → AreBelow es k → with_entry es (k, v) ≡ es ++ (k, v) ∷ []
last_put k v [] h = refl
last_put k v (e ∷ es) h = let apart : name_cmp k e.0 ≡ Greater = nat_list_cmp_total.antisymm k e.0 ∙ ap ordering_reverse h.0 in rw apart (ap (λ (rest : List Entry). e ∷ rest) (last_put k v es h.1))

under : (before : List Entry) (e : Entry) (behind : List Entry) → AreRising (before ++ e ∷ behind) → AreBelow before e.0
unfolding IsStrictlySortedBy
under [] e behind rising = tt
under (b ∷ bs) e behind rising = (first_under b.0 bs e behind rising.0, under bs e behind rising.1)
  where
    first_under : (name : List ℕ) (bs : List Entry) (e : Entry) (behind : List Entry) → IsBelow name (bs ++ e ∷ behind) → name_cmp name e.0 ≡ Less
    first_under name [] e behind h = h.0
    first_under name (b ∷ bs) e behind h = first_under name bs e behind h.1

pub entries_put : (before es : List Entry) → AreRising (before ++ es) → AreEntries es → SpellsEntries (length es) before (flat_map (both text text).put es) (before ++ es)
entries_put before [] rising are = (refl, append-nil before)
entries_put before (e ∷ es) rising are =
    let below = under before e es rising in
    let grown : with_entry before (e.0, e.1) ≡ before ++ e ∷ [] = last_put e.0 e.1 before below in
    let regroup : (before ++ e ∷ []) ++ es ≡ before ++ e ∷ es = append_assoc before (e ∷ []) es in
    let later = entries_put (before ++ e ∷ []) es (subst AreRising (sym regroup) rising) are.1 in (
      e.0,
      e.1,
      text.put e.0,
      text.put e.1,
      flat_map (both text text).put es,
      append_assoc (text.put e.0) (text.put e.1) (flat_map (both text text).put es),
      text_lawful.put e.0 are.0.0,
      last_free e.0 before below,
      text_lawful.put e.1 are.0.1,
      subst (λ (held : List Entry). SpellsEntries (length es) held (flat_map (both text text).put es) (before ++ e ∷ es)) (sym grown)
          (subst (λ (all : List Entry). SpellsEntries (length es) (before ++ e ∷ []) (flat_map (both text text).put es) all) regroup later),
    )

-- ---- how many there are

one_more : (k v : List ℕ) (e : Entry) (es : List Entry) (o : Ordering) → name_cmp k e.0 ≡ o → value_of (e ∷ es) k ≡ None → (value_of es k ≡ None → length (with_entry es (k, v)) ≡ suc (length es))
    → length (match_ordering o ((k, v) ∷ e ∷ es) ((e.0, v) ∷ es) (e ∷ with_entry es (k, v))) ≡ suc (suc (length es))
one_more k v e es Less e_is free more = refl
one_more k v e es Equal e_is free more = let taken : is_eq (name_cmp k e.0) ≡ true = rw e_is refl in absurd cc
one_more k v e es Greater e_is free more =
    let apart : is_eq (name_cmp k e.0) ≡ false = rw e_is refl in ap suc (more (subst (λ (b : Bool). cond b (Some e.1) (value_of es k) ≡ None) apart free))

grown : (es : List Entry) (k v : List ℕ) → value_of es k ≡ None → length (with_entry es (k, v)) ≡ suc (length es)
grown [] k v free = refl
grown (e ∷ es) k v free = one_more k v e es (name_cmp k e.0) refl free (λ none. grown es k v none)

pub entries_length : (n : ℕ) (before : List Entry) (bytes : List ℕ) (es : List Entry) → SpellsEntries n before bytes es → length es ≡ n + length before
entries_length zero before bytes es h = rw h.1 (omega arith)
entries_length (suc n) before bytes es h = omega (arith, entries_length n (with_entry before (h.0, h.1)) h.4 es h.9, grown before h.0 h.1 h.7)

-- ---- how long they are

abbrev put_all : List Entry → List ℕ
put_all = flat_map (both text text).put

longer_by : (k v : List ℕ) (e : Entry) (es : List Entry) (o : Ordering) → name_cmp k e.0 ≡ o → value_of (e ∷ es) k ≡ None
    → (value_of es k ≡ None → length (put_all (with_entry es (k, v))) ≡ length ((both text text).put (k, v)) + length (put_all es))
    → length (put_all (match_ordering o ((k, v) ∷ e ∷ es) ((e.0, v) ∷ es) (e ∷ with_entry es (k, v)))) ≡ length ((both text text).put (k, v)) + length (put_all (e ∷ es))
longer_by k v e es Less e_is free more = length-append ((both text text).put (k, v)) (put_all (e ∷ es))
longer_by k v e es Equal e_is free more = let taken : is_eq (name_cmp k e.0) ≡ true = rw e_is refl in absurd cc
longer_by k v e es Greater e_is free more =
    let apart : is_eq (name_cmp k e.0) ≡ false = rw e_is refl in
    let later = more (subst (λ (b : Bool). cond b (Some e.1) (value_of es k) ≡ None) apart free) in
    omega (arith, later, length-append ((both text text).put e) (put_all (with_entry es (k, v))), length-append ((both text text).put e) (put_all es))

longer : (es : List Entry) (k v : List ℕ) → value_of es k ≡ None → length (put_all (with_entry es (k, v))) ≡ length ((both text text).put (k, v)) + length (put_all es)
longer [] k v free = length-append ((both text text).put (k, v)) []
longer (e ∷ es) k v free = longer_by k v e es (name_cmp k e.0) refl free (λ none. longer es k v none)

entries_shortest : (n : ℕ) (before : List Entry) (bytes : List ℕ) (es : List Entry) → IsBytes bytes → SpellsEntries n before bytes es → length (put_all es) ≤ length bytes + length (put_all before)
entries_shortest zero before bytes es fits h = rw h.1 (omega arith)
entries_shortest (suc n) before bytes es fits h =
    let parts : IsBytes (h.2 ++ (h.3 ++ h.4)) = rw (← h.5) fits in
    let behind = IsBytes-rest h.2 (h.3 ++ h.4) parts in
    let name = text_lawful.shortest h.2 h.0 (IsBytes-front h.2 (h.3 ++ h.4) parts) h.6 in
    let value = text_lawful.shortest h.3 h.1 (IsBytes-front h.3 h.4 behind) h.8 in
    let later = entries_shortest n (with_entry before (h.0, h.1)) h.4 es (IsBytes-rest h.3 h.4 behind) h.9 in
    omega (
      arith,
      later,
      longer before h.0 h.1 h.7,
      length-append (text.put h.0) (text.put h.1),
      name,
      value,
      ap length h.5,
      length-append h.2 (h.3 ++ h.4),
      length-append h.3 h.4,
    )

-- ---- together

pub entries_lawful : (n : ℕ) → IsLawful (entries n)
entries_lawful n = record {
  found = entries_found n [];
  only = entries_only n [];
  sort = λ bytes es fits h. let keeps = entries_sort n [] bytes es fits h (no_entries, tt, refl) in (omega (arith, keeps.2), keeps.0, keeps.1);
  put = λ es is. subst (λ (m : ℕ). SpellsEntries m [] (flat_map (both text text).put es) es) is.0 (entries_put [] es is.1 is.2);
  shortest = λ bytes es fits h. omega (arith, entries_shortest n [] bytes es fits h);
}
