-- Pairs put at their places one after the other, as a loop does, and which keys are equal.
use Rattle.std.proofs.Common.{◌≡◌, ℕ, List, [], ◌∷◌, length, map, take, drop, Bool, true, false, cond, ◌||◌, Option, Some, refl, sym, ap, subst, ◌∙◌}
use Rattle.std.specs.Ordering.{is_lt, is_eq, ordering_reverse}
use Rattle.std.specs.declared.cmp.Ordering.{Ordering}
use Rattle.std.specs.declared.cmp.Ordering.TheVariants.{Less, Equal, Greater}
use Rattle.std.specs.BTreeMap.{BTreeMap}
use Rattle.std.proofs.Math.Seq.{take-length, drop-length}
use Rattle.ice_encoding.specs.Tree.{Tree, dictionary, tree, Entries, no_entry, entry, byte, sequence}
use Rattle.ice_encoding.specs.Order.{tree_cmp, insert, has_key}
use Rattle.ice_encoding.proofs.Order.{turns}
use Rattle.graph_arena.specs.declared.value.Value.{Value}
use Rattle.value_writing.specs.Sorted.{sorted, sorted_each, sorted_onto, has_sorted_key, has_equal_keys, some_has_equal_keys, have_equal_keys}
use Rattle.value_writing.specs.Sorting.{UnlessEqual}
use Rattle.graph_arena.proofs.Shapes.{view_dict, view_bytes}
use Rattle.graph_arena.specs.View.{view, view_all, view_pairs, trees_of, byte_trees}
use Rattle.graph_arena.specs.declared.value.Value.TheVariants as variants

-- ---- which keys are equal

-- two keys are equal, of those before or of what follows
abbrev pub equal_onto : Entries → Entries → Bool
equal_onto before no_entry = false
equal_onto before (entry k v rest) = has_key (sorted k) before || (has_equal_keys k || (has_equal_keys v || equal_onto (insert (sorted k) (sorted v) before) rest))

-- one key stands in both
abbrev meets : Entries → Entries → Bool
meets before no_entry = false
meets before (entry k v rest) = has_key (sorted k) before || meets before rest

eq_turns : (k l : Tree) → is_eq (tree_cmp k l) ≡ is_eq (tree_cmp l k)
eq_turns k l = ap is_eq (turns k l) ∙ at (tree_cmp l k)
  where
    at : (o : Ordering) → is_eq (ordering_reverse o) ≡ is_eq o
    at Less = refl
    at Equal = refl
    at Greater = refl

or_swap : (a b c : Bool) → (a || (b || c)) ≡ (b || (a || c))
or_swap true true c = refl
or_swap true false c = refl
or_swap false b c = refl

has_inserted : (l k v : Tree) (before : Entries) → has_key l (insert k v before) ≡ (is_eq (tree_cmp l k) || has_key l before)
has_inserted l k v no_entry = refl
has_inserted l k v (entry m w rest) = by_test (is_lt (tree_cmp k m)) (has_inserted l k v rest)
  where
    by_test : (b : Bool) → has_key l (insert k v rest) ≡ (is_eq (tree_cmp l k) || has_key l rest)
        → has_key l (cond b (entry k v (entry m w rest)) (entry m w (insert k v rest))) ≡ (is_eq (tree_cmp l k) || (is_eq (tree_cmp l m) || has_key l rest))
    by_test true h = refl
    by_test false h = ap (λ (b : Bool). is_eq (tree_cmp l m) || b) h ∙ or_swap (is_eq (tree_cmp l m)) (is_eq (tree_cmp l k)) (has_key l rest)

or_middle : (a b c d : Bool) → ((a || b) || (c || d)) ≡ ((a || c) || (b || d))
or_middle true b c d = refl
or_middle false true true d = refl
or_middle false true false d = refl
or_middle false false c d = refl

meets_inserted : (k v : Tree) (before rest : Entries) → meets (insert k v before) rest ≡ (has_sorted_key k rest || meets before rest)
meets_inserted k v before no_entry = refl
meets_inserted k v before (entry l w rest) =
    rw (has_inserted (sorted l) k v before, meets_inserted k v before rest, eq_turns (sorted l) k) (or_middle (is_eq (tree_cmp k (sorted l))) (has_key (sorted l) before) (has_sorted_key k rest) (meets before rest))

or_apart : (a x b m r h : Bool) → (a || (x || (b || ((r || m) || h)))) ≡ ((a || m) || (r || (x || (b || h))))
or_apart true x b m r h = refl
or_apart false true b true r h = refl
or_apart false true b false true h = refl
or_apart false true b false false h = refl
or_apart false false true true r h = refl
or_apart false false true false true h = refl
or_apart false false true false false h = refl
or_apart false false false true true h = refl
or_apart false false false true false h = refl
or_apart false false false false true h = refl
or_apart false false false false false h = refl

equal_apart : (before rest : Entries) → equal_onto before rest ≡ (meets before rest || have_equal_keys rest)
equal_apart before no_entry = refl
equal_apart before (entry k v rest) =
    rw (equal_apart (insert (sorted k) (sorted v) before) rest, meets_inserted (sorted k) (sorted v) before rest)
    (or_apart (has_key (sorted k) before) (has_equal_keys k) (has_equal_keys v) (meets before rest) (has_sorted_key (sorted k) rest) (have_equal_keys rest))

meets_none : (rest : Entries) → meets no_entry rest ≡ false
meets_none no_entry = refl
meets_none (entry k v rest) = meets_none rest

pub equal_is : (pairs : Entries) → equal_onto no_entry pairs ≡ have_equal_keys pairs
equal_is pairs = equal_apart no_entry pairs ∙ ap (λ (b : Bool). b || have_equal_keys pairs) (meets_none pairs)

-- ---- what is copied whole

copied_each : (vs : List Tree) → trees_of (map sorted vs) ≡ sorted_each (trees_of vs)
copied_each [] = refl
copied_each (v ∷ vs) = ap (tree (sorted v)) (copied_each vs)

map_sorted : (vs : List Value) → map (λ v. sorted (view v)) vs ≡ map sorted (map view vs)
map_sorted [] = refl
map_sorted (v ∷ vs) = ap (λ (l : List Tree). sorted (view v) ∷ l) (map_sorted vs)

pub items_copied : (items copies : List Value) (i : ℕ) → i ≡ length items → map view copies ≡ map (λ v. sorted (view v)) (take i items) → some_has_equal_keys (view_all (drop i items)) ≡ some_has_equal_keys (view_all items)
    → (some_has_equal_keys (view_all items) ≡ false) × (view_all copies ≡ sorted_each (view_all items))
items_copied items copies i last copied equal =
    let none_left : some_has_equal_keys (view_all (drop i items)) ≡ false = ap (λ (l : List Value). some_has_equal_keys (view_all l)) (ap (λ (n : ℕ). drop n items) last ∙ drop-length items) in
    let all : take i items ≡ items = ap (λ (n : ℕ). take n items) last ∙ take-length items in
    (sym equal ∙ none_left, ap trees_of (copied ∙ ap (λ (l : List Value). map (λ v. sorted (view v)) l) all ∙ map_sorted items) ∙ copied_each (map view items))

pub pairs_copied : (value : Value) (pairs slice copies : List (Value × Value)) (answer : Option (BTreeMap Value Value)) (m : BTreeMap Value Value) → value ≡ variants.Pairs pairs → slice ≡ pairs → answer ≡ Some m
    → UnlessEqual (λ m. view_pairs m.entries) (have_equal_keys (view_pairs slice)) (sorted_onto no_entry (view_pairs slice)) answer → view_pairs copies ≡ view_pairs m.entries
    → (has_equal_keys (view value) ≡ false) × (view (variants.Pairs copies) ≡ sorted (view value))
pairs_copied value pairs slice copies answer m is same found h out =
    let shape : view value ≡ dictionary (view_pairs slice) = ap view is ∙ view_dict pairs ∙ ap (λ (l : List (Value × Value)). dictionary (view_pairs l)) (sym same) in
    let here : (have_equal_keys (view_pairs slice) ≡ false) × (view_pairs m.entries ≡ sorted_onto no_entry (view_pairs slice)) = subst (UnlessEqual (λ m. view_pairs m.entries) (have_equal_keys (view_pairs slice)) (sorted_onto no_entry (view_pairs slice))) found h in
    (ap has_equal_keys shape ∙ here.0, view_dict copies ∙ ap dictionary (out ∙ here.1) ∙ sym (ap sorted shape))

-- ---- bytes

pub bytes_sorted : (bytes : List ℕ) → sorted_each (byte_trees bytes) ≡ byte_trees bytes
bytes_sorted [] = refl
bytes_sorted (n ∷ bytes) = ap (tree (byte n)) (bytes_sorted bytes)

pub bytes_have_no_keys : (bytes : List ℕ) → some_has_equal_keys (byte_trees bytes) ≡ false
bytes_have_no_keys [] = refl
bytes_have_no_keys (n ∷ bytes) = bytes_have_no_keys bytes

pub bytes_copied : (v : Value) (bytes copy : List ℕ) → v ≡ variants.Bytes bytes → copy ≡ bytes → (has_equal_keys (view v) ≡ false) × (view (variants.Bytes copy) ≡ sorted (view v))
bytes_copied v bytes copy is same =
    let shape : view v ≡ sequence (byte_trees bytes) = ap view is ∙ view_bytes bytes in
    (ap has_equal_keys shape ∙ bytes_have_no_keys bytes, ap (λ (l : List ℕ). view (variants.Bytes l)) same ∙ (view_bytes bytes ∙ (ap sequence (sym (bytes_sorted bytes)) ∙ ap sorted (sym shape))))
