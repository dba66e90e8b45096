-- What is sorted is the same value, and equal keys are keys that stand twice.
use Rattle.std.proofs.Common.{◌≡◌, ◌↔◌, ◌+◌, Bool, true, false, ◌||◌, refl, sym, ap, subst, ◌∙◌, arith, inl, inr, ◌⊎◌}
use Rattle.std.specs.Ordering.{is_lt, is_eq}
use Rattle.std.specs.declared.cmp.Ordering.{Ordering}
use Rattle.std.specs.declared.cmp.Ordering.TheVariants.{Less, Equal, Greater}
use Rattle.ice_encoding.specs.Tree.{Tree, boolean, byte, short, int, long, text, sequence, dictionary, struct, enumerator, proxy, reference, Trees, none, tree, Entries, no_entry, entry, entry_count, Everywhere, InEach, InPairs}
use Rattle.ice_encoding.specs.Order.{tree_cmp, insert}
use Rattle.ice_encoding.specs.Same.{Same, SomePair, SameEach, AreAmong}
use Rattle.ice_encoding.proofs.Order.{equal_is, equal_self}
use Rattle.ice_encoding.proofs.Inserting.{by_test, insert_count}
use Rattle.value_writing.specs.Sorted.{sorted, sorted_each, sorted_onto, has_sorted_key, has_equal_keys, some_has_equal_keys, have_equal_keys}
use Rattle.value_writing.specs.Keys.{Somewhere, InSome, InSomePair, HasKey, HasKeyTwice, RepeatsKey, AreOrderedKeys, HasOrderedKeys}
use Rattle.value_writing.proofs.SortedLaws.{stays}

-- ---- the same value

some_put : (P Q : Tree → Type 0) (k v : Tree) (ps : Entries) → P k → Q v → SomePair P Q (insert k v ps)
some_put P Q k v no_entry p q = inl (p, q)
some_put P Q k v (entry l w rest) p q = by_test (is_lt (tree_cmp k l)) (SomePair P Q) (entry k v (entry l w rest)) (entry l w (insert k v rest)) (inl (p, q)) (inr (some_put P Q k v rest p q))

some_stays : (P Q : Tree → Type 0) (k v : Tree) (ps : Entries) → SomePair P Q ps → SomePair P Q (insert k v ps)
some_stays P Q k v no_entry h = absurd h
some_stays P Q k v (entry l w rest) (inl h) = by_test (is_lt (tree_cmp k l)) (SomePair P Q) (entry k v (entry l w rest)) (entry l w (insert k v rest)) (inr (inl h)) (inl h)
some_stays P Q k v (entry l w rest) (inr h) = by_test (is_lt (tree_cmp k l)) (SomePair P Q) (entry k v (entry l w rest)) (entry l w (insert k v rest)) (inr (inr h)) (inr (some_stays P Q k v rest h))

onto_keeps : (P Q : Tree → Type 0) (earlier ps : Entries) → SomePair P Q earlier → SomePair P Q (sorted_onto earlier ps)
onto_keeps P Q earlier no_entry h = h
onto_keeps P Q earlier (entry k v rest) h = onto_keeps P Q (insert (sorted k) (sorted v) earlier) rest (some_stays P Q (sorted k) (sorted v) earlier h)

onto_count : (earlier ps : Entries) → entry_count (sorted_onto earlier ps) ≡ entry_count earlier + entry_count ps
onto_count earlier no_entry = omega arith
onto_count earlier (entry k v rest) = omega (arith, onto_count (insert (sorted k) (sorted v) earlier) rest, insert_count (sorted k) (sorted v) earlier)

mutual
  pub same_sorted : (v : Tree) → Same v (sorted v)
  same_sorted (boolean b) = refl
  same_sorted (byte n) = refl
  same_sorted (short z) = refl
  same_sorted (int z) = refl
  same_sorted (long z) = refl
  same_sorted (text s) = refl
  same_sorted (enumerator n) = refl
  same_sorted (proxy p) = refl
  same_sorted (reference n) = refl
  same_sorted (sequence items) = (sorted_each items, refl, each_sorted items)
  same_sorted (dictionary pairs) = (sorted_onto no_entry pairs, refl, sym (onto_count no_entry pairs ∙ omega arith), among_sorted no_entry pairs)
  same_sorted (struct members) = (sorted_each members, refl, each_sorted members)

  each_sorted : (vs : Trees) → SameEach vs (sorted_each vs)
  each_sorted none = refl
  each_sorted (tree v vs) = (sorted v, sorted_each vs, refl, same_sorted v, each_sorted vs)

  among_sorted : (earlier ps : Entries) → AreAmong ps (sorted_onto earlier ps)
  among_sorted earlier no_entry = tt
  among_sorted earlier (entry k v rest) = (
    onto_keeps (Same k) (Same v) (insert (sorted k) (sorted v) earlier) rest (some_put (Same k) (Same v) (sorted k) (sorted v) earlier (same_sorted k) (same_sorted v)),
    among_sorted (insert (sorted k) (sorted v) earlier) rest,
  )

-- ---- equal keys

either : (a b : Bool) → (a || b) ≡ true → (a ≡ true) ⊎ (b ≡ true)
either true b e = inl refl
either false b e = inr e

or_left : (a b : Bool) → a ≡ true → (a || b) ≡ true
or_left true b e = refl
or_left false b e = absurd cc

or_right : (a b : Bool) → b ≡ true → (a || b) ≡ true
or_right true b e = refl
or_right false b e = e

-- a test of two, each of which means something
or_is : {A B : Type 0} (a b : Bool) → (a ≡ true) ↔ A → (b ≡ true) ↔ B → ((a || b) ≡ true) ↔ (A ⊎ B)
or_is a b f g = (λ e. elim (either a b e) [ inl x ↦ inl (f.0 x) | inr y ↦ inr (g.0 y) ], λ h. elim h [ inl x ↦ or_left a b (f.1 x) | inr y ↦ or_right a b (g.1 y) ])

never : {A : Type 0} → (A → ⊥) → (false ≡ true) ↔ A
never lacks = ((λ e. absurd cc), (λ a. absurd (lacks a)))

is_equal : (a b : Tree) → (is_eq (tree_cmp a b) ≡ true) ↔ (a ≡ b)
is_equal a b = (by_order (tree_cmp a b) refl, λ e. ap is_eq (subst (λ (c : Tree). tree_cmp a c ≡ Equal) e (equal_self a)))
  where
    by_order : (o : Ordering) → tree_cmp a b ≡ o → is_eq o ≡ true → a ≡ b
    by_order Less o e = absurd cc
    by_order Equal o e = equal_is a b o
    by_order Greater o e = absurd cc

key_is : (k : Tree) (ps : Entries) → AreOrderedKeys ps → (has_sorted_key k ps ≡ true) ↔ HasKey k ps
key_is k no_entry h = never (λ x. x)
key_is k (entry l v rest) h = or_is (is_eq (tree_cmp k (sorted l))) (has_sorted_key k rest) (subst (λ (m : Tree). (is_eq (tree_cmp k m) ≡ true) ↔ (k ≡ l)) (sym (stays l h.0)) (is_equal k l)) (key_is k rest h.1)

-- a key that stands twice, or a place inside where one does, in one order or the other
gathered : {A B C D E : Type 0} → (A ⊎ (B ⊎ (C ⊎ (D ⊎ E)))) ↔ ((A ⊎ D) ⊎ (B ⊎ (C ⊎ E)))
gathered {A} {B} {C} {D} {E} = (to, from)
  where
    to : A ⊎ (B ⊎ (C ⊎ (D ⊎ E))) → (A ⊎ D) ⊎ (B ⊎ (C ⊎ E))
    to (inl a) = inl (inl a)
    to (inr (inl b)) = inr (inl b)
    to (inr (inr (inl c))) = inr (inr (inl c))
    to (inr (inr (inr (inl d)))) = inl (inr d)
    to (inr (inr (inr (inr e)))) = inr (inr (inr e))

    from : (A ⊎ D) ⊎ (B ⊎ (C ⊎ E)) → A ⊎ (B ⊎ (C ⊎ (D ⊎ E)))
    from (inl (inl a)) = inl a
    from (inl (inr d)) = inr (inr (inr (inl d)))
    from (inr (inl b)) = inr (inl b)
    from (inr (inr (inl c))) = inr (inr (inl c))
    from (inr (inr (inr e))) = inr (inr (inr (inr e)))

both_ways : {A B C : Type 0} → A ↔ B → B ↔ C → A ↔ C
both_ways f g = (λ a. g.0 (f.0 a), λ c. f.1 (g.1 c))

-- where nothing is at the value itself
inside_alone : {A B : Type 0} → (A → ⊥) → B ↔ (A ⊎ B)
inside_alone lacks = (λ b. inr b, λ h. elim h [ inl a ↦ absurd (lacks a) | inr b ↦ b ])

mutual
  pub repeats : (v : Tree) → Everywhere HasOrderedKeys v → (has_equal_keys v ≡ true) ↔ Somewhere RepeatsKey v
  repeats (boolean b) h = never (λ x. x)
  repeats (byte n) h = never (λ x. x)
  repeats (short z) h = never (λ x. x)
  repeats (int z) h = never (λ x. x)
  repeats (long z) h = never (λ x. x)
  repeats (text s) h = never (λ x. x)
  repeats (enumerator n) h = never (λ x. x)
  repeats (proxy p) h = never (λ x. x)
  repeats (reference n) h = never (λ x. x)
  repeats (sequence items) h = both_ways (some_repeats items h.1) (inside_alone (λ x. x))
  repeats (dictionary pairs) h = pairs_repeat pairs h.0 h.1
  repeats (struct members) h = both_ways (some_repeats members h.1) (inside_alone (λ x. x))

  some_repeats : (vs : Trees) → InEach HasOrderedKeys vs → (some_has_equal_keys vs ≡ true) ↔ InSome RepeatsKey vs
  some_repeats none h = never (λ x. x)
  some_repeats (tree v vs) h = or_is (has_equal_keys v) (some_has_equal_keys vs) (repeats v h.0) (some_repeats vs h.1)

  pairs_repeat : (ps : Entries) → AreOrderedKeys ps → InPairs HasOrderedKeys ps → (have_equal_keys ps ≡ true) ↔ (HasKeyTwice ps ⊎ InSomePair RepeatsKey ps)
  pairs_repeat no_entry o h = never (λ x. elim x [ inl y ↦ y | inr y ↦ y ])
  pairs_repeat (entry k v rest) o h =
      both_ways (or_is (has_sorted_key (sorted k) rest) (has_equal_keys k || (has_equal_keys v || have_equal_keys rest))
      (subst (λ (m : Tree). (has_sorted_key m rest ≡ true) ↔ HasKey k rest) (sym (stays k o.0)) (key_is k rest o.1))
      (or_is (has_equal_keys k) (has_equal_keys v || have_equal_keys rest) (repeats k h.0)
      (or_is (has_equal_keys v) (have_equal_keys rest) (repeats v h.1) (pairs_repeat rest o.1 h.2)))) gathered
