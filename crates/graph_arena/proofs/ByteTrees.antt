-- Bytes as the items of a sequence: they compare as bytes, hold no dictionary, and name nothing.
use Rattle.std.proofs.Common.{◌≡◌, ◌≤◌, ◌<◌, ℕ, zero, suc, nat_cmp, List, [], ◌∷◌, length, drop, refl, sym, ap, ◌∙◌, arith}
use Rattle.std.specs.Ordering.{ordering_then, ordering_reverse}
use Rattle.std.specs.Cmp.Lexicographic.{slice_cmp}
use Rattle.std.specs.declared.cmp.Ordering.{Ordering}
use Rattle.std.specs.declared.cmp.Ordering.TheVariants.{Greater}
use Rattle.ice_encoding.specs.Tree.{byte, sequence, tree, InEach}
use Rattle.ice_encoding.specs.Order.{tree_cmp, trees_cmp, KeysRise}
use Rattle.ice_encoding.proofs.Order.{turns}
use Rattle.ice_encoding.specs.Names.{names_each, renamed_each}
use Rattle.graph_arena.specs.declared.value.Value.{Value}
use Rattle.graph_arena.specs.declared.value.Value.TheVariants as variants
use Rattle.graph_arena.specs.View.{view, view_all, byte_trees}
use Rattle.graph_arena.proofs.Comparisons.{zero_first, both_more}
use Rattle.graph_arena.proofs.Shapes.{view_seq, view_bytes}

pub bytes_compared : (a b : List ℕ) → slice_cmp nat_cmp a b ≡ trees_cmp (byte_trees a) (byte_trees b)
bytes_compared [] [] = refl
bytes_compared [] (n ∷ b) = refl
bytes_compared (m ∷ a) [] = refl
bytes_compared (m ∷ a) (n ∷ b) = ap (ordering_then (nat_cmp m n)) (bytes_compared a b)

-- where the bytes, beside the items of another sequence, are at their end
pub bytes_end : (bytes : List ℕ) (items : List Value) (i : ℕ) → i ≤ length bytes → i ≤ length items → length bytes ≤ i → trees_cmp (byte_trees (drop i bytes)) (view_all (drop i items)) ≡ nat_cmp (length bytes) (length items)
bytes_end [] [] zero p q e = refl
bytes_end [] (y ∷ items) zero p q e = sym (zero_first (length items))
bytes_end (n ∷ bytes) items zero p q e = absurd (omega (arith, e))
bytes_end [] items (suc i) p q e = absurd (omega (arith, p))
bytes_end (n ∷ bytes) [] (suc i) p q e = absurd (omega (arith, q))
bytes_end (n ∷ bytes) (y ∷ items) (suc i) p q e = bytes_end bytes items i (omega (arith, p)) (omega (arith, q)) (omega (arith, e)) ∙ sym (both_more (length bytes) (length items))

-- where the items of the other sequence are at their end first
pub items_end : (bytes : List ℕ) (items : List Value) (i : ℕ) → i < length bytes → i ≤ length items → length items ≤ i → trees_cmp (byte_trees (drop i bytes)) (view_all (drop i items)) ≡ Greater
items_end [] items i p q e = absurd (omega (arith, p))
items_end (n ∷ bytes) [] zero p q e = refl
items_end (n ∷ bytes) [] (suc i) p q e = absurd (omega (arith, q))
items_end (n ∷ bytes) (y ∷ items) zero p q e = absurd (omega (arith, e))
items_end (n ∷ bytes) (y ∷ items) (suc i) p q e = items_end bytes items i (omega (arith, p)) (omega (arith, q)) (omega (arith, e))

pub bytes_rise : (bytes : List ℕ) → InEach KeysRise (byte_trees bytes)
bytes_rise [] = tt
bytes_rise (n ∷ bytes) = (tt, bytes_rise bytes)

pub bytes_name_nothing : (bytes : List ℕ) → names_each (byte_trees bytes) ≡ []
bytes_name_nothing [] = refl
bytes_name_nothing (n ∷ bytes) = bytes_name_nothing bytes

pub bytes_renamed : (f : ℕ → ℕ) (bytes : List ℕ) → renamed_each f (byte_trees bytes) ≡ byte_trees bytes
bytes_renamed f [] = refl
bytes_renamed f (n ∷ bytes) = ap (tree (byte n)) (bytes_renamed f bytes)

-- ---- of a value that holds bytes

pub bytes_beside_bytes : (v w : Value) (a b s u : List ℕ) (o : Ordering) → v ≡ variants.Bytes a → w ≡ variants.Bytes b → s ≡ a → u ≡ b → o ≡ slice_cmp nat_cmp s u → o ≡ tree_cmp (view v) (view w)
bytes_beside_bytes v w a b s u o p q e f h = rw (p, q, view_bytes a, view_bytes b, ← e, ← f) (h ∙ bytes_compared s u)

pub seq_beside_bytes : (v w : Value) (a s : List Value) (b u : List ℕ) (o turned : Ordering) → v ≡ variants.Seq a → w ≡ variants.Bytes b → s ≡ a → u ≡ b → o ≡ ordering_reverse turned → turned ≡ trees_cmp (byte_trees u) (view_all s) → o ≡ tree_cmp (view v) (view w)
seq_beside_bytes v w a s b u o turned p q e f h g =
    rw (p, q, view_seq a, view_bytes b, ← e, ← f) (h ∙ (ap ordering_reverse g ∙ sym (turns (sequence (view_all s)) (sequence (byte_trees u)))))
