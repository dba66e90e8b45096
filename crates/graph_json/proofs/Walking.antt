-- Items read one after the other, as a loop does.
use Rattle.std.proofs.Common.{◌≡◌, List, [], ◌∷◌, ◌++◌, Option, None, Some, option_map, refl, sym, ap, ◌∙◌}
use Rattle.std.proofs.lemmas.List.{append-nil, append_assoc}
use Rattle.serde_json.specs.Data.{Data, Items, no_items, item}
use Rattle.graph_json.specs.ReadingValues.{Read}
use Rattle.graph_json.specs.Reading.{items_of}

abbrev pub joined : {A : Type 0} → List A → Option (List A) → Option (List A)
joined front read = option_map (λ xs. front ++ xs) read

regroup : {A : Type 0} (front : List A) (x : A) (read : Option (List A)) → joined front (option_map (λ xs. x ∷ xs) read) ≡ joined (front ++ x ∷ []) read
regroup front x (Some xs) = ap (λ (l : List _). Some l) (sym (append_assoc front (x ∷ []) xs))
regroup front x None = refl

module _ {A : Type 0} (of : Read A) (left behind : Items) (d : Data) (is : left ≡ item d behind) (front : List A) (total : Option (List A)) (so_far : joined front (items_of of left) ≡ total) where
  pub items_go_on : (x : A) → Some x ≡ of d → joined (front ++ x ∷ []) (items_of of behind) ≡ total
  items_go_on x h =
      let first : joined front (items_of of left) ≡ joined (front ++ x ∷ []) (items_of of behind) = rw (is, ← h) (regroup front x (items_of of behind)) in
      sym first ∙ so_far

  pub items_stop : None ≡ of d → None ≡ total
  items_stop h =
      let first : joined front (items_of of left) ≡ None = rw (is, ← h) refl in
      sym first ∙ so_far

pub items_done : {A : Type 0} (of : Read A) (left : Items) (front : List A) (total : Option (List A)) → left ≡ no_items → joined front (items_of of left) ≡ total → Some front ≡ total
items_done of left front total is so_far =
    let first : joined front (items_of of left) ≡ Some front = rw (is, append-nil front) refl in
    sym first ∙ so_far
