-- How a value that holds values is seen.
use Rattle.std.proofs.Common.{ℕ, suc, ◌≡◌, List, [], ◌∷◌, map, length, refl, ap, sym, ◌∙◌}
use Rattle.std.proofs.lemmas.List.{length-map}
use Rattle.ice_encoding.specs.Tree.{Tree, sequence, dictionary, struct, tree_count, entry_count}
use Rattle.graph_arena.specs.declared.value.Value.{Value}
use Rattle.graph_arena.specs.declared.value.Value.TheFolds.{fold-roll-Value}
use Rattle.graph_arena.specs.declared.value.Value.TheVariants as variants
use Rattle.graph_arena.specs.declared.value.Value.TheVariants.{rolls-Seq, rolls-Bytes, rolls-Pairs, rolls-Members}
use Rattle.graph_arena.specs.declared.value.Value.TheOpen.{Value-F}
use Rattle.graph_arena.specs.View.{view, view_step, view_all, view_pair, view_pairs, trees_of, entries_of, byte_trees}

pub view_seq : (items : List Value) → view (variants.Seq items) ≡ sequence (view_all items)
view_seq items = ap view (sym (rolls-Seq items)) ∙ fold-roll-Value Tree view_step (Value-F.Seq items)

pub view_bytes : (bytes : List ℕ) → view (variants.Bytes bytes) ≡ sequence (byte_trees bytes)
view_bytes bytes = ap view (sym (rolls-Bytes bytes)) ∙ fold-roll-Value Tree view_step (Value-F.Bytes bytes)

pub view_dict : (pairs : List (Value × Value)) → view (variants.Pairs pairs) ≡ dictionary (view_pairs pairs)
view_dict pairs = ap view (sym (rolls-Pairs pairs)) ∙ fold-roll-Value Tree view_step (Value-F.Pairs pairs)

pub view_members : (items : List Value) → view (variants.Members items) ≡ struct (view_all items)
view_members items = ap view (sym (rolls-Members items)) ∙ fold-roll-Value Tree view_step (Value-F.Members items)

-- ---- how many they are

count_trees : (ts : List Tree) → tree_count (trees_of ts) ≡ length ts
count_trees [] = refl
count_trees (t ∷ ts) = ap suc (count_trees ts)

pub count_all : (vs : List Value) → tree_count (view_all vs) ≡ length vs
count_all vs = count_trees (map view vs) ∙ length-map vs view

count_entries : (ps : List (Tree × Tree)) → entry_count (entries_of ps) ≡ length ps
count_entries [] = refl
count_entries (p ∷ ps) = ap suc (count_entries ps)

pub count_pairs : (ps : List (Value × Value)) → entry_count (view_pairs ps) ≡ length ps
count_pairs ps = count_entries (map view_pair ps) ∙ length-map ps view_pair
