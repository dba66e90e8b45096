-- What a loop over two lists compares.
use Rattle.std.proofs.Common.{rules, ◌≡◌, ℕ, zero, suc, ◌≤◌, nat_cmp, List, [], ◌∷◌, length, drop, refl, sym, ◌∙◌, arith}
use Rattle.std.specs.Cmp.Lexicographic.{slice_cmp}
use Rattle.std.specs.declared.cmp.Ordering.{Ordering}
use Rattle.std.specs.declared.cmp.Ordering.TheVariants.{Less}
use Rattle.ice_encoding.specs.Order.{tree_cmp, trees_cmp, entries_cmp}
use Rattle.graph_arena.specs.declared.value.Value.{Value}
use Rattle.graph_arena.specs.declared.value.Value.TheVariants as variants
use Rattle.graph_arena.specs.View.{view, view_all, view_pairs}
use Rattle.graph_arena.proofs.Shapes.{view_dict}

pub zero_first : (n : ℕ) → nat_cmp 0 (suc n) ≡ Less
zero_first n = search rules

pub both_more : (m n : ℕ) → nat_cmp (suc m) (suc n) ≡ nat_cmp m n
both_more m n = search rules

-- where the first list is at its end
pub each_ends : (a b : List Value) (i : ℕ) → i ≤ length a → i ≤ length b → length a ≤ i → trees_cmp (view_all (drop i a)) (view_all (drop i b)) ≡ nat_cmp (length a) (length b)
each_ends [] [] zero p q e = refl
each_ends [] (y ∷ b) zero p q e = sym (zero_first (length b))
each_ends (x ∷ a) b zero p q e = absurd (omega (arith, e))
each_ends [] b (suc i) p q e = absurd (omega (arith, p))
each_ends (x ∷ a) [] (suc i) p q e = absurd (omega (arith, q))
each_ends (x ∷ a) (y ∷ b) (suc i) p q e = each_ends a b i (omega (arith, p)) (omega (arith, q)) (omega (arith, e)) ∙ sym (both_more (length a) (length b))

pub pairs_end : (a b : List (Value × Value)) (i : ℕ) → i ≤ length a → i ≤ length b → length a ≤ i → entries_cmp (view_pairs (drop i a)) (view_pairs (drop i b)) ≡ nat_cmp (length a) (length b)
pairs_end [] [] zero p q e = refl
pairs_end [] (y ∷ b) zero p q e = sym (zero_first (length b))
pairs_end (x ∷ a) b zero p q e = absurd (omega (arith, e))
pairs_end [] b (suc i) p q e = absurd (omega (arith, p))
pairs_end (x ∷ a) [] (suc i) p q e = absurd (omega (arith, q))
pairs_end (x ∷ a) (y ∷ b) (suc i) p q e = pairs_end a b i (omega (arith, p)) (omega (arith, q)) (omega (arith, e)) ∙ sym (both_more (length a) (length b))

pub slices_end : {A : Type 0} (R : A → A → Ordering) (a b : List A) (i : ℕ) → i ≤ length a → i ≤ length b → length a ≤ i → slice_cmp R (drop i a) (drop i b) ≡ nat_cmp (length a) (length b)
slices_end R [] [] zero p q e = refl
slices_end R [] (y ∷ b) zero p q e = sym (zero_first (length b))
slices_end R (x ∷ a) b zero p q e = absurd (omega (arith, e))
slices_end R [] b (suc i) p q e = absurd (omega (arith, p))
slices_end R (x ∷ a) [] (suc i) p q e = absurd (omega (arith, q))
slices_end R (x ∷ a) (y ∷ b) (suc i) p q e = slices_end R a b i (omega (arith, p)) (omega (arith, q)) (omega (arith, e)) ∙ sym (both_more (length a) (length b))

pub dicts_compared : (v w : Value) (a b s u : List (Value × Value)) (o : Ordering) → v ≡ variants.Pairs a → w ≡ variants.Pairs b → s ≡ a → u ≡ b → o ≡ entries_cmp (view_pairs s) (view_pairs u) → o ≡ tree_cmp (view v) (view w)
dicts_compared v w a b s u o p q e f h = rw (p, q, view_dict a, view_dict b, ← e, ← f) h
