-- What a map of keys holds.
use Rattle.std.proofs.Common.{◌≡◌, List, [], ◌∷◌, Bool, true, false, cond, ◌||◌, Option, Some, refl, sym, ap, ◌∙◌, not}
use Rattle.std.specs.Ordering.{is_lt, is_eq, match_ordering}
use Rattle.std.specs.declared.cmp.Ordering.{Ordering}
use Rattle.std.specs.declared.cmp.Ordering.TheVariants.{Less, Equal, Greater}
use Rattle.std.specs.Option.{is_some}
use Rattle.std.specs.Map.{lookup}
use Rattle.std.specs.BTreeMap.{insert_entry, is_at}
use Rattle.ice_encoding.specs.Tree.{entry}
use Rattle.ice_encoding.specs.Order.{tree_cmp, insert, has_key}
use Rattle.graph_arena.specs.declared.value.Value.{Value}
use Rattle.graph_arena.specs.Sorting.{Puts}
use Rattle.graph_arena.specs.View.{view, view_pairs}

module _ (cmp : Value → Value → Ordering) (agrees : (a b : Value) → cmp a b ≡ tree_cmp (view a) (view b)) where
  -- whether the key is among those of the map
  pub found_is : (k : Value) (es : List (Value × Value)) → is_some (lookup (is_at (cmp k)) es) ≡ has_key (view k) (view_pairs es)
  found_is k [] = refl
  found_is k (e ∷ es) = rw agrees (by_test (is_eq (tree_cmp (view k) (view e.0))) (found_is k es))
    where
      by_test : (b : Bool) → is_some (lookup (is_at (cmp k)) es) ≡ has_key (view k) (view_pairs es) → is_some (cond b (Some e.1) (lookup (is_at (cmp k)) es)) ≡ (b || has_key (view k) (view_pairs es))
      by_test true h = refl
      by_test false h = h

  -- a new key goes to its place
  pub put_is : (k : Value) (v : Value) (es : List (Value × Value)) → has_key (view k) (view_pairs es) ≡ false → view_pairs (insert_entry cmp es k v) ≡ insert (view k) (view v) (view_pairs es)
  put_is k v [] h = refl
  put_is k v (e ∷ es) h = rw agrees (by_order (tree_cmp (view k) (view e.0)) h (put_is k v es))
    where
      by_order : (o : Ordering) → (is_eq o || has_key (view k) (view_pairs es)) ≡ false → (has_key (view k) (view_pairs es) ≡ false → view_pairs (insert_entry cmp es k v) ≡ insert (view k) (view v) (view_pairs es))
          → view_pairs (match_ordering o ((k, v) ∷ e ∷ es) ((e.0, v) ∷ es) (e ∷ insert_entry cmp es k v)) ≡ cond (is_lt o) (entry (view k) (view v) (entry (view e.0) (view e.1) (view_pairs es))) (entry (view e.0) (view e.1) (insert (view k) (view v) (view_pairs es)))
      by_order Less h g = refl
      by_order Equal h g = absurd cc
      by_order Greater h g = ap (entry (view e.0) (view e.1)) (g h)

-- what the map's own call answers
pub puts : (cmp : Value → Value → Ordering) → ((a b : Value) → cmp a b ≡ tree_cmp (view a) (view b)) → (k : Value) (v : Value) (es new : List (Value × Value)) (old : Option Value) (fresh : Bool)
    → old ≡ lookup (is_at (cmp k)) es → new ≡ insert_entry cmp es k v → is_some old ≡ not fresh → Puts (view k) (view v) (view_pairs es) (view_pairs new) fresh
puts cmp agrees k v es new old true was is test =
    let lacks : has_key (view k) (view_pairs es) ≡ false = sym (found_is cmp agrees k es) ∙ ap is_some (sym was) ∙ test in
    (lacks, ap view_pairs is ∙ put_is cmp agrees k v es lacks)
puts cmp agrees k v es new old false was is test = sym (found_is cmp agrees k es) ∙ ap is_some (sym was) ∙ test
