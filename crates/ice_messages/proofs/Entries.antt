-- Reading entries one after the other, as a loop does, with the entries so far in a map.
use Rattle.std.proofs.Common.{◌≡◌, ℕ, suc, ◌-◌, ◌+◌, ◌<◌, List, [], ◌∷◌, Option, None, Some, Result, Ok, Err, Bor, refl, sym, ap, ◌∙◌, arith, Bool, true, false, cond}
use Rattle.std.specs.Ordering.{is_eq, match_ordering}
use Rattle.std.specs.declared.cmp.Ordering.{Ordering}
use Rattle.std.specs.declared.cmp.Ordering.TheVariants.{Less, Equal, Greater}
use Rattle.std.specs.Option.{is_some}
use Rattle.std.specs.BTreeMap.{insert_entry}
use Rattle.std.specs.Map.{lookup}
use Rattle.ice_prims.specs.declared.fault.Fault.{Fault}
use Rattle.ice_prims.specs.declared.fault.Kind.TheVariants.{EqualKey}
use Rattle.ice_prims.specs.Rest.{Rest}
use Rattle.ice_prims.specs.Number.{text_at}
use Rattle.ice_messages.specs.Context.{Entry, name_cmp, value_of, with_entry, entries_at}
use Rattle.ice_messages.specs.Seen.{all_seen}

-- a text that is lent
abbrev Lent : Type 0
Lent = Bor (List ℕ)

abbrev pub lent_cmp : Lent → Lent → Ordering
lent_cmp a b = name_cmp a.now b.now

inserted_at : (k v : Lent) (e : Lent × Lent) (es : List (Lent × Lent)) (o : Ordering) → all_seen (insert_entry lent_cmp es k v) ≡ with_entry (all_seen es) (k.now, v.now)
    → all_seen (match_ordering o ((k, v) ∷ e ∷ es) ((e.0, v) ∷ es) (e ∷ insert_entry lent_cmp es k v))
    ≡ match_ordering o ((k.now, v.now) ∷ (e.0.now, e.1.now) ∷ all_seen es) ((e.0.now, v.now) ∷ all_seen es) ((e.0.now, e.1.now) ∷ with_entry (all_seen es) (k.now, v.now))
inserted_at k v e es Less later = refl
inserted_at k v e es Equal later = refl
inserted_at k v e es Greater later = ap (λ (rest : List Entry). (e.0.now, e.1.now) ∷ rest) later

pub inserted : (k v : Lent) (es : List (Lent × Lent)) → all_seen (insert_entry lent_cmp es k v) ≡ with_entry (all_seen es) (k.now, v.now)
inserted k v [] = refl
inserted k v (e ∷ es) = inserted_at k v e es (name_cmp k.now e.0.now) (inserted k v es)

found_at : (b : Bool) (k : Lent) (e : Lent × Lent) (es : List (Lent × Lent)) → is_some (lookup (λ other. is_eq (lent_cmp k other)) es) ≡ is_some (value_of (all_seen es) k.now)
    → is_some (cond b (Some e.1) (lookup (λ other. is_eq (lent_cmp k other)) es)) ≡ is_some (cond b (Some e.1.now) (value_of (all_seen es) k.now))
found_at true k e es later = refl
found_at false k e es later = later

pub looked_up : (k : Lent) (es : List (Lent × Lent)) → is_some (lookup (λ other. is_eq (lent_cmp k other)) es) ≡ is_some (value_of (all_seen es) k.now)
looked_up k [] = refl
looked_up k (e ∷ es) = found_at (is_eq (name_cmp k.now e.0.now)) k e es (looked_up k es)

-- ---- a step of the loop

-- Of the entries that are left one stands here.
module _ (count i : ℕ) (lt : i < count) (es : List Entry) (r : Rest) (total : Result (List Entry × Rest) Fault) (so_far : entries_at (count - i) es r ≡ total) where
  step : entries_at (suc (count - (i + 1))) es r ≡ total
  step = let n : count - i ≡ suc (count - (i + 1)) = omega arith in ap (λ (m : ℕ). entries_at m es r) (sym n) ∙ so_far

  pub name_fails : (f : Fault) → text_at r ≡ Err f → total ≡ Err f
  name_fails f h = sym step ∙ (rw h refl)

  pub taken : (name : List ℕ) (behind : Rest) → text_at r ≡ Ok (name, behind) → is_some (value_of es name) ≡ true → total ≡ Err (record { place = r.place; kind = EqualKey })
  taken name behind h some = sym step ∙ taken_at (value_of es name) name behind h refl some
    where
      taken_at : (held : Option (List ℕ)) (name : List ℕ) (behind : Rest) → text_at r ≡ Ok (name, behind) → value_of es name ≡ held → is_some held ≡ true → entries_at (suc (count - (i + 1))) es r ≡ Err (record { place = r.place; kind = EqualKey })
      taken_at None name behind h is some = absurd cc
      taken_at (Some v) name behind h is some = rw (h, is) refl

  free : (held : Option (List ℕ)) → is_some held ≡ false → held ≡ None
  free None e = refl
  free (Some v) e = absurd cc

  pub value_fails : (name : List ℕ) (behind : Rest) (f : Fault) → text_at r ≡ Ok (name, behind) → is_some (value_of es name) ≡ false → text_at behind ≡ Err f → total ≡ Err f
  value_fails name behind f h none g = sym step ∙ (rw (h, free (value_of es name) none, g) refl)

  pub goes_on : (name value : List ℕ) (behind after : Rest) → text_at r ≡ Ok (name, behind) → is_some (value_of es name) ≡ false → text_at behind ≡ Ok (value, after) → entries_at (count - (i + 1)) (with_entry es (name, value)) after ≡ total
  goes_on name value behind after h none g = sym (rw (h, free (value_of es name) none, g) refl) ∙ step
