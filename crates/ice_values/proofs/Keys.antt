-- The keys of a dictionary while it is read.
use Rattle.std.proofs.Common.{◌≡◌, Bool, true, false, List, ◌∷◌, [], ◌++◌, refl, sym, ap, ◌∙◌, not}
use Rattle.std.specs.Option.{is_some}
use Rattle.std.specs.Ordering.{on}
use Rattle.std.specs.Map.{lookup}
use Rattle.std.specs.BTreeMap.{is_at}
use Rattle.ice_encoding.specs.Order.{tree_cmp, IsRising, AreBelow, insert, has_key}
use Rattle.ice_encoding.proofs.Order.{has_none, insert_rising}
use Rattle.ice_encoding.proofs.Inserting.{insert_last, lacks_above}
use Rattle.graph_arena.specs.declared.value.Value.{Value}
use Rattle.graph_arena.specs.View.{view, view_pairs}
use Rattle.graph_arena.proofs.RisingPairs.{view_push}
use Rattle.graph_arena.proofs.Sorting.{found_is}

-- whether a map has the key
pub is_found : (k : Value) (es : List (Value × Value)) → is_some (lookup (is_at (on view tree_cmp k)) es) ≡ has_key (view k) (view_pairs es)
is_found k es = found_is (on view tree_cmp) (λ a b. refl) k es

pub not-true : (b : Bool) → not b ≡ true → b ≡ false
not-true true h = absurd cc
not-true false h = refl

-- a key above the others
module _ (k v : Value) (ps : List (Value × Value)) (below : AreBelow (view_pairs ps) (view k)) where
  pub above_is_new : has_key (view k) (view_pairs ps) ≡ false
  above_is_new = has_none (view k) (view_pairs ps) (lacks_above (view k) (view_pairs ps) below)

  pub put_above : (new : List (Value × Value)) → new ≡ ps ++ (k, v) ∷ [] → view_pairs new ≡ insert (view k) (view v) (view_pairs ps)
  put_above new is = ap view_pairs is ∙ view_push ps k v ∙ sym (insert_last (view k) (view v) (view_pairs ps) below)

  pub rises_above : IsRising (view_pairs ps) → IsRising (insert (view k) (view v) (view_pairs ps))
  rises_above rises = insert_rising (view k) (view v) (view_pairs ps) (lacks_above (view k) (view_pairs ps) below) rises
