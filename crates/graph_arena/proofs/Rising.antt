-- Whether pairs rise, as a loop finds it, and what makes a dictionary sorted.
use Rattle.std.proofs.Common.{◌≡◌, List, Bool, true, false, IsTrue, ◌↔◌, Option, None, Some, sym, ap, ◌∙◌}
use Rattle.std.specs.Borrow.{Bor}
use Rattle.ice_encoding.specs.Tree.{dictionary, Entries, entry, InPairs}
use Rattle.ice_encoding.specs.Order.{IsRising, KeysRise, IsOrdered}
use Rattle.graph_arena.specs.declared.value.Value.{Value}
use Rattle.graph_arena.specs.declared.value.Value.TheVariants as variants
use Rattle.graph_arena.specs.View.{view, view_pairs}
use Rattle.graph_arena.proofs.Shapes.{view_dict}

-- the pairs rise, and their first key is above the last one before them
abbrev pub RisesAfter : Option (Bor Value) → Entries → Type 0
RisesAfter None pairs = IsRising pairs
RisesAfter (Some k) pairs = IsRising (entry (view k.now) (view k.now) pairs)

module _ (value : Value) (pairs slice : List (Value × Value)) (is : value ≡ variants.Pairs pairs) (same : slice ≡ pairs) where
  shape : view value ≡ dictionary (view_pairs slice)
  shape = ap view is ∙ view_dict pairs ∙ ap (λ (l : List (Value × Value)). dictionary (view_pairs l)) (sym same)

  pub rising_dict : (rises values : Bool) → (IsTrue rises ↔ IsRising (view_pairs slice)) → (IsTrue values ↔ InPairs KeysRise (view_pairs slice)) → rises ≡ true → IsTrue values ↔ IsOrdered (view value)
  rising_dict rises values h g holds = rw shape ((λ t. (h.0 holds, g.0 t)), (λ s. g.1 s.1))

  pub falling_dict : (rises : Bool) → (IsTrue rises ↔ IsRising (view_pairs slice)) → rises ≡ false → IsTrue rises ↔ IsOrdered (view value)
  falling_dict rises h fails = rw shape ((λ t. absurd cc), (λ s. h.1 s.0))
