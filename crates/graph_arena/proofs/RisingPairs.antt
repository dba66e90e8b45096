-- Pairs in rising order: the last of them, and taking them from the end into a map.
use Rattle.std.proofs.Common.{◌≡◌, ◌↔◌, ℕ, zero, suc, Bool, true, false, IsTrue, List, [], ◌∷◌, ◌++◌, ◌-◌, length, Some, refl, sym, ap, subst, ◌∙◌, arith}
use Rattle.std.specs.Prelude.{slice_get}
use Rattle.std.specs.Ordering.{is_lt}
use Rattle.std.specs.declared.cmp.Ordering.{Ordering}
use Rattle.std.specs.declared.cmp.Ordering.TheVariants.{Less, Equal, Greater}
use Rattle.ice_encoding.specs.Tree.{Tree, Entries, no_entry, entry}
use Rattle.ice_encoding.specs.Order.{tree_cmp, IsRising, AreBelow, insert, has_key}
use Rattle.ice_encoding.proofs.Order.{less_then, tail_rising}
use Rattle.ice_encoding.proofs.Inserting.{join, join_join}
use Rattle.graph_arena.specs.declared.value.Value.{Value}
use Rattle.graph_arena.specs.View.{view, view_pairs}
use Rattle.graph_arena.specs.Sorting.{Puts}

-- ---- the last key

lt_is : (a b : Tree) → IsTrue (is_lt (tree_cmp a b)) ↔ (tree_cmp a b ≡ Less)
lt_is a b = by_order (tree_cmp a b)
  where
    by_order : (o : Ordering) → IsTrue (is_lt o) ↔ (o ≡ Less)
    by_order Less = ((λ t. refl), λ e. refl)
    by_order Equal = ((λ t. absurd cc), λ e. absurd cc)
    by_order Greater = ((λ t. absurd cc), λ e. absurd cc)

pub above_last : (ps : List (Value × Value)) (i : ℕ) (p : Value × Value) (k : Tree) → suc i ≡ length ps → slice_get ps i ≡ Some p → IsRising (view_pairs ps) → IsTrue (is_lt (tree_cmp (view p.0) k)) ↔ AreBelow (view_pairs ps) k
above_last [] i p k len at rising = absurd (omega (arith, len))
above_last (x ∷ []) zero p k len at rising =
    let same : x ≡ p = some_same at in
    let h = lt_is (view x.0) k in
    subst (λ (y : Value × Value). IsTrue (is_lt (tree_cmp (view y.0) k)) ↔ AreBelow (view_pairs (x ∷ [])) k) same ((λ t. (h.0 t, tt)), λ b. h.1 b.0)
  where
    some_same : {A : Type 0} {a b : A} → Some a ≡ Some b → a ≡ b
    some_same e = cc
above_last (x ∷ []) (suc i) p k len at rising = absurd (omega (arith, len))
above_last (x ∷ y ∷ ps) zero p k len at rising = absurd (omega (arith, len))
above_last (x ∷ y ∷ ps) (suc i) p k len at rising =
    let h = above_last (y ∷ ps) i p k (omega (arith, len)) at rising.1 in
    ((λ t. let b = h.0 t in (less_then (view x.0) (view y.0) k rising.0 b.0, b)), λ b. h.1 b.1)

-- ---- the last pair, put before the others

pub view_push : (ps : List (Value × Value)) (k v : Value) → view_pairs (ps ++ (k, v) ∷ []) ≡ join (view_pairs ps) (entry (view k) (view v) no_entry)
view_push [] k v = refl
view_push (p ∷ ps) k v = ap (entry (view p.0) (view p.1)) (view_push ps k v)

rising_rest : (earlier rest : Entries) → IsRising (join earlier rest) → IsRising rest
rising_rest no_entry rest h = h
rising_rest (entry k v more) rest h = rising_rest more rest (tail_rising k v (join more rest) h)

goes_first : (k v : Tree) (rest : Entries) → IsRising (entry k v rest) → insert k v rest ≡ entry k v rest
goes_first k v no_entry h = refl
goes_first k v (entry l w rest) h = rw h.0 refl

skip : (k v l w : Tree) (rest : Entries) → IsRising (entry k v (entry l w rest)) → IsRising (entry k v rest)
skip k v l w no_entry h = tt
skip k v l w (entry m x rest) h = (less_then k l m h.0 h.1.0, h.1.1)

is_fresh : (k v : Tree) (rest : Entries) → IsRising (entry k v rest) → has_key k rest ≡ false
is_fresh k v no_entry h = refl
is_fresh k v (entry l w rest) h = rw h.0 (is_fresh k v rest (skip k v l w rest h))

pub pair_moved : (whole : Entries) (ps new : List (Value × Value)) (k v : Value) (es after : List (Value × Value)) (fresh : Bool) → IsRising whole → ps ≡ new ++ (k, v) ∷ [] → join (view_pairs ps) (view_pairs es) ≡ whole
    → Puts (view k) (view v) (view_pairs es) (view_pairs after) fresh → join (view_pairs new) (view_pairs after) ≡ whole
pair_moved whole ps new k v es after fresh rising is so_far puts =
    let moved : join (view_pairs new) (entry (view k) (view v) (view_pairs es)) ≡ whole
    = sym (join_join (view_pairs new) (view k) (view v) (view_pairs es)) ∙ ap (λ (b : Entries). join b (view_pairs es)) (sym (view_push new k v)) ∙ ap (λ (l : List (Value × Value)). join (view_pairs l) (view_pairs es)) (sym is) ∙ so_far in
    let rises : IsRising (entry (view k) (view v) (view_pairs es)) = rising_rest (view_pairs new) (entry (view k) (view v) (view_pairs es)) (subst IsRising (sym moved) rising) in
    by_answer fresh puts moved rises
  where
    by_answer : (b : Bool) → Puts (view k) (view v) (view_pairs es) (view_pairs after) b → join (view_pairs new) (entry (view k) (view v) (view_pairs es)) ≡ whole → IsRising (entry (view k) (view v) (view_pairs es)) → join (view_pairs new) (view_pairs after) ≡ whole
    by_answer true h moved rises = ap (λ (b : Entries). join (view_pairs new) b) (h.1 ∙ goes_first (view k) (view v) (view_pairs es) rises) ∙ moved
    by_answer false h moved rises = let none = is_fresh (view k) (view v) (view_pairs es) rises in absurd cc

pub all_moved : (whole : Entries) (ps es : List (Value × Value)) → ps ≡ [] → join (view_pairs ps) (view_pairs es) ≡ whole → view_pairs es ≡ whole
all_moved whole ps es is so_far = ap (λ (l : List (Value × Value)). join (view_pairs l) (view_pairs es)) (sym is) ∙ so_far

pub some_counted : {A : Type 0} (xs : List A) (x : A) → slice_get xs (length xs - 1) ≡ Some x → suc (length xs - 1) ≡ length xs
some_counted [] x e = absurd cc
some_counted (y ∷ xs) x e = omega arith
