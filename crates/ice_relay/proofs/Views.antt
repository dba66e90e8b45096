-- The node that is made of what was drawn.
use Rattle.std.proofs.Common.{◌≡◌, ℕ, suc, pos, ◌+◌, ◌*◌, List, [], ◌∷◌, ◌++◌, map, Some, sym, ap, ◌∙◌, arith}
use Rattle.std.specs.List.{range_with_len}
use Rattle.std.proofs.lemmas.List.{map-append}
use Rattle.std.proofs.lemmas.List.FromFn.{map-range_with_len_more}
use Rattle.ice_encoding.specs.Tree.{Tree, int, reference, none, tree}
use Rattle.ice_encoding.specs.OptionalMembers.{with_optional}
use Rattle.ice_encoding.specs.Graph as graphs
use Rattle.graph_arena.specs.declared.value.Value.{Value}
use Rattle.graph_arena.specs.declared.instance.Instance.{Instance}
use Rattle.graph_arena.specs.declared.instance.Slice.{Slice}
use Rattle.graph_arena.specs.declared.instance.Slice.TheVariants.{Known}
use Rattle.graph_arena.specs.Seen.{view_content, view_slices, view_instance}
use Rattle.graph_arena.specs.View.{view}
use Rattle.ice_relay.specs.Drawn.{after, draw, target, node}

abbrev slice_of : List Value → List (ℕ × Value) → Slice
slice_of required optional = Known 0 (record { required = required; optional = optional })

abbrev seen_of : Tree → Tree → Tree → List graphs.Slice
seen_of v left right = graphs.known 0 (with_optional (tree v (tree left (tree right none))) []) ∷ []

pub node-view : (count x m n : ℕ) (v left right : Value) (a b c d : List Value) (optional : List (ℕ × Value)) (e slices : List Slice)
    → a ≡ [] → b ≡ a ++ v ∷ [] → c ≡ b ++ left ∷ [] → d ≡ c ++ right ∷ [] → optional ≡ [] → e ≡ [] → slices ≡ e ++ slice_of d optional ∷ []
    → m ≡ after x 2 → n ≡ after m 2 → view v ≡ int (pos (draw x 1000)) → view left ≡ reference (target count (draw m (count + 1))) → view right ≡ reference (target count (draw n (count + 1)))
    → view_slices slices ≡ node count x
node-view count x m n v left right a b c d optional e slices a_is b_is c_is d_is optional_is e_is slices_is m_is n_is v_is left_is right_is =
    let items : d ≡ v ∷ left ∷ right ∷ [] = d_is ∙ ap (λ (l : List Value). l ++ right ∷ []) (c_is ∙ ap (λ (l : List Value). l ++ left ∷ []) (b_is ∙ ap (λ (l : List Value). l ++ v ∷ []) a_is)) in
    let whole : slices ≡ slice_of (v ∷ left ∷ right ∷ []) [] ∷ [] = slices_is ∙ (λ i. e_is i ++ slice_of (items i) (optional_is i) ∷ []) in
    let first : view left ≡ reference (target count (draw (after x 2) (count + 1))) = left_is ∙ ap (λ (k : ℕ). reference (target count (draw k (count + 1)))) m_is in
    let second : view right ≡ reference (target count (draw (after x 4) (count + 1))) = right_is ∙ ap (λ (k : ℕ). reference (target count (draw k (count + 1)))) (n_is ∙ ap (λ (k : ℕ). after k 2) m_is) in
    ap view_slices whole ∙ (λ i. seen_of (v_is i) (first i) (second i))

pub root-view : (first : Value) (a b : List Value) (optional : List (ℕ × Value)) → view first ≡ reference (Some 0) → a ≡ [] → b ≡ a ++ first ∷ [] → optional ≡ []
    → view_content (record { required = b; optional = optional }) ≡ with_optional (tree (reference (Some 0)) none) []
root-view first a b optional is a_is b_is optional_is =
    let items : b ≡ first ∷ [] = b_is ∙ ap (λ (l : List Value). l ++ first ∷ []) a_is in
    (λ i. view_content (record { required = items i; optional = optional_is i })) ∙ (λ i. with_optional (tree (is i) none) [])

-- ---- one node more

pub six_more : (start counter m n : ℕ) → m ≡ after start (6 * counter) → n ≡ after m 6 → n ≡ after start (6 * (counter + 1))
six_more start counter m n m_is n_is =
    let more : suc (suc (suc (suc (suc (suc (6 * counter)))))) ≡ 6 * (counter + 1) = omega arith in
    n_is ∙ ap (λ (k : ℕ). after k 6) m_is ∙ ap (after start) more

pub one_more : (start count counter m : ℕ) (xs ys : List Instance) (y : Instance) → m ≡ after start (6 * counter) → ys ≡ xs ++ y ∷ [] → view_instance y ≡ node count m
    → map view_instance xs ≡ map (λ at. node count (after start (6 * at))) (range_with_len 0 counter) → map view_instance ys ≡ map (λ at. node count (after start (6 * at))) (range_with_len 0 (counter + 1))
one_more start count counter m xs ys y m_is ys_is y_is xs_are =
    let last : view_instance y ≡ node count (after start (6 * counter)) = y_is ∙ ap (node count) m_is in
    ap (map view_instance) ys_is ∙ map-append view_instance xs (y ∷ []) ∙ (λ i. xs_are i ++ last i ∷ [])
    ∙ sym (map-range_with_len_more (λ at. node count (after start (6 * at))) 0 counter counter (omega arith))
