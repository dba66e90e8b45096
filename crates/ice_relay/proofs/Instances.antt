-- What is left of an array of instances, item by item.
use Rattle.std.proofs.Common.{◌≡◌, ℕ, ◌+◌, ◌<◌, ◌≤◌, List, [], ◌∷◌, ◌++◌, length, drop, get_or, true, nat_lt, sym, ap, ◌∙◌, append_assoc, arith}
use Rattle.std.proofs.lemmas.List.{drop_all, drop_more}
use Rattle.serde_json.specs.Data.{Data}
use Rattle.serde_json.specs.Written.{comma_if, compact_text, items_text}
use Rattle.graph_json.specs.Canonical.{items_noted}

behind_one : (i : ℕ) → nat_lt 0 (i + 1) ≡ true
behind_one i = grind arith

module _ {A : Type 0} (note : A → Data) (xs : List A) where
  -- the text of the items from the i-th on
  abbrev pub text_from : ℕ → List ℕ
  text_from i = items_text (nat_lt 0 i) (items_noted note (drop i xs))

  pub one_from : (i : ℕ) (x other : A) → i < length xs → x ≡ get_or xs i other → text_from i ≡ (comma_if (nat_lt 0 i) ++ compact_text (note x)) ++ text_from (i + 1)
  one_from i x other lt is =
      let behind = drop (i + 1) xs in
      ap (λ (l : List A). items_text (nat_lt 0 i) (items_noted note l)) (drop_more xs i other lt ∙ ap (λ (y : A). y ∷ behind) (sym is))
      ∙ sym (append_assoc (comma_if (nat_lt 0 i)) (compact_text (note x)) (items_text true (items_noted note behind)))
      ∙ ap (λ later. (comma_if (nat_lt 0 i) ++ compact_text (note x)) ++ items_text later (items_noted note behind)) (sym (behind_one i))

  pub none_from : (i : ℕ) → length xs ≤ i → text_from i ≡ 93 ∷ []
  none_from i le = ap (λ (l : List A). items_text (nat_lt 0 i) (items_noted note l)) (drop_all i xs le)
