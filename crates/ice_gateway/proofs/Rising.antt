-- The entries of a context, one more, stay in rising order. (As `Contexts` of `ice_messages` has it for itself.)
use Rattle.std.proofs.Common.{◌≡◌, ℕ, suc, Bool, true, false, cond, List, [], ◌∷◌, length, None, Some, refl, ap, subst, ◌∙◌}
use Rattle.std.specs.List.{AllByRecursion}
use Rattle.std.specs.List.Sorted.{IsStrictlySortedBy}
use Rattle.std.specs.Ordering.{is_eq, match_ordering, ordering_reverse}
use Rattle.std.specs.declared.cmp.Ordering.{Ordering}
use Rattle.std.specs.declared.cmp.Ordering.TheVariants.{Less, Equal, Greater}
use Rattle.std.specs.Map.{keys_of}
use Rattle.std.proofs.lemmas.Cmp.{nat_list_cmp_total}
use Rattle.ice_encoding.specs.Parts.{Each, text, both}
use Rattle.ice_messages.specs.Context.{Entry, name_cmp, value_of, with_entry, AreRising}

-- ---- one entry more

-- what each entry is
abbrev AreEntries : List Entry → Type 0
AreEntries es = Each (both text text).Is es

-- the name is below each of these, or above it
abbrev IsBelow : List ℕ → List Entry → Type 0
IsBelow name es = AllByRecursion (λ other. name_cmp name other ≡ Less) (keys_of es)

abbrev AreBelow : List Entry → List ℕ → Type 0
AreBelow es name = AllByRecursion (λ other. name_cmp other name ≡ Less) (keys_of es)

lower : (a b : List ℕ) (es : List Entry) → name_cmp a b ≡ Less → IsBelow b es → IsBelow a es
lower a b [] less h = tt
lower a b (e ∷ es) less h = (nat_list_cmp_total.trans a b e.0 less h.0, lower a b es less h.1)

turned : (a b : List ℕ) → name_cmp a b ≡ Greater → name_cmp b a ≡ Less
turned a b e = nat_list_cmp_total.antisymm b a ∙ ap ordering_reverse e

below_at : (name k v : List ℕ) (e : Entry) (es more : List Entry) (o : Ordering) → name_cmp name k ≡ Less → IsBelow name (e ∷ es) → IsBelow name more → IsBelow name (match_ordering o ((k, v) ∷ e ∷ es) ((e.0, v) ∷ es) (e ∷ more))
below_at name k v e es more Less less h later = (less, h)
below_at name k v e es more Equal less h later = h
below_at name k v e es more Greater less h later = (h.0, later)

below_new : (name k v : List ℕ) (es : List Entry) → name_cmp name k ≡ Less → IsBelow name es → IsBelow name (with_entry es (k, v))
below_new name k v [] less h = (less, tt)
below_new name k v (e ∷ es) less h = below_at name k v e es (with_entry es (k, v)) (name_cmp k e.0) less h (below_new name k v es less h.1)

-- what an insertion keeps
abbrev Keeps : ℕ → List Entry → Type 0
Keeps n es = AreRising es × AreEntries es × (length es ≡ n)

new_is : (k v : List ℕ) (e : Entry) (es : List Entry) (o : Ordering) → name_cmp k e.0 ≡ o → value_of (e ∷ es) k ≡ None → AreRising (e ∷ es) → AreEntries (e ∷ es) → (both text text).Is (k, v)
    → (value_of es k ≡ None → Keeps (suc (length es)) (with_entry es (k, v))) → Keeps (suc (suc (length es))) (match_ordering o ((k, v) ∷ e ∷ es) ((e.0, v) ∷ es) (e ∷ with_entry es (k, v)))
unfolding IsStrictlySortedBy
new_is k v e es Less e_is free rising are is more = (((e_is, lower k e.0 es e_is rising.0), rising), (is, are), refl)
new_is k v e es Equal e_is free rising are is more = absurd (equal_free e_is)
  where
    equal_free : name_cmp k e.0 ≡ Equal → ⊥
    equal_free same = let taken : is_eq (name_cmp k e.0) ≡ true = rw same refl in absurd cc
new_is k v e es Greater e_is free rising are is more =
    let apart : is_eq (name_cmp k e.0) ≡ false = rw e_is refl in
    let later = more (subst (λ (b : Bool). cond b (Some e.1) (value_of es k) ≡ None) apart free) in
    ((below_new e.0 k v es (turned k e.0 e_is) rising.0, later.0), (are.0, later.1), ap suc later.2)

-- no entries
no_entries : AreRising []
unfolding IsStrictlySortedBy
no_entries = tt

-- a new one, at its place
pub rising_more : (es : List Entry) (k v : List ℕ) → value_of es k ≡ None → AreRising es → AreEntries es → (both text text).Is (k, v) → Keeps (suc (length es)) (with_entry es (k, v))
unfolding IsStrictlySortedBy
rising_more [] k v free rising are is = ((tt, tt), (is, tt), refl)
rising_more (e ∷ es) k v free rising are is = new_is k v e es (name_cmp k e.0) refl free rising are is (λ none. rising_more es k v none rising.1 are.1 is)
