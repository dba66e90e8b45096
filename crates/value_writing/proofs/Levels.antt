-- How what is still written changes with a step.
use Rattle.std.proofs.Common.{◌≡◌, ℕ, ◌+◌, ◌<◌, ◌≤◌, ◌^◌, List, [], ◌∷◌, ◌++◌, length, Option, Result, Ok, Err, refl, sym, ap, ◌∙◌, subst, append_assoc, arith}
use Rattle.std.proofs.lemmas.List.{append-nil}
use Rattle.std.specs.declared.alloc.AllocError.{AllocError}
use Rattle.ice_prims.specs.Bytes.{size_bytes, Grows}
use Rattle.ice_encoding.specs.Tree.{Tree, sequence, dictionary, struct, none, tree, tree_count, entry_count, InEach, InPairs}
use Rattle.ice_encoding.specs.Canonical.{HasSize, HasSizes}
use Rattle.ice_encoding.specs.Writing.{Piece, exactly, ◌>>◌, written, written_each, written_pairs}
use Rattle.ice_encoding.specs.Pausing.{Put, written_in_place}
use Rattle.graph_arena.specs.declared.value.Value.{Value}
use Rattle.graph_arena.specs.declared.value.Value.TheVariants as variants
use Rattle.graph_arena.specs.View.{view, view_all, view_pairs}
use Rattle.graph_arena.proofs.Shapes.{view_seq, view_dict}
use Rattle.graph_arena.proofs.Shapes.{count_all, count_pairs}
use Rattle.value_parts.specs.declared.paused.Step.{Step}
use Rattle.value_parts.specs.declared.paused.Step.TheVariants as steps
use Rattle.value_parts.specs.Pauses.{LessOnStep}
use Rattle.value_writing.specs.Pauses.{StepsWriting}
use Rattle.value_writing.specs.Putting.{InsideWritten, Written, onto, Waiting, Values, Pairs, level_written, left_written, level_fits, all_fit, level_size, tree_size, work_left}

-- ---- pieces one after the other

pub onto-then : {S : Type 0} (first second : Piece S) (w : Written S) → onto (first >> second) w ≡ onto second (onto first w)
onto-then first second w = ap (λ (l : List ℕ). ((second (first w.0).1).1, l)) (sym (append_assoc w.1 (first w.0).0 (second (first w.0).1).0))

pub onto-nothing : {S : Type 0} (w : Written S) → onto (exactly []) w ≡ w
onto-nothing w = ap (λ (l : List ℕ). (w.0, l)) (append-nil w.1)

-- ---- levels

pub left-push : {S : Type 0} (put : Option ℕ → S → Put S) (inside : InsideWritten S) (ls : List Waiting) (level : Waiting) (w : Written S)
    → onto (left_written put inside (ls ++ level ∷ [])) w ≡ onto (left_written put inside ls) (onto (level_written put inside level) w)
left-push put inside [] level w = onto-then (exactly []) (level_written put inside level) w ∙ ap (onto (level_written put inside level)) (onto-nothing w) ∙ sym (onto-nothing (onto (level_written put inside level) w))
left-push put inside (l ∷ ls) level w =
    onto-then (left_written put inside (ls ++ level ∷ [])) (level_written put inside l) w
    ∙ ap (onto (level_written put inside l)) (left-push put inside ls level w)
    ∙ sym (onto-then (left_written put inside ls) (level_written put inside l) (onto (level_written put inside level) w))

pub fit-push : (ls : List Waiting) (level : Waiting) → all_fit ls → level_fits level → all_fit (ls ++ level ∷ [])
fit-push [] level fits fit = (fit, tt)
fit-push (l ∷ ls) level fits fit = (fits.0, fit-push ls level fits.1 fit)

pub fit-pop : (ls : List Waiting) (level : Waiting) → all_fit (ls ++ level ∷ []) → all_fit ls × level_fits level
fit-pop [] level fits = (tt, fits.0)
fit-pop (l ∷ ls) level fits = let rest = fit-pop ls level fits.1 in ((fits.0, rest.0), rest.1)

pub work-push : (ls : List Waiting) (level : Waiting) → work_left (ls ++ level ∷ []) ≡ work_left ls + (1 + level_size level)
work-push [] level = omega arith
work-push (l ∷ ls) level = let rest = work-push ls level in omega arith

pub steps-along : {S T : Type 0} (inside : InsideWritten S) (now : Written S → Written S) (result : Result (Step T) AllocError) (all all' w : Written S) → all ≡ all' → StepsWriting inside now result all' w → StepsWriting inside now result all w
steps-along {S = S} inside now result all all' w is h = subst (λ (x : Written S). StepsWriting inside now result x w) (sym is) h

-- where the work at hand is no more than that before
pub less-along : {T E : Type 0} (result : Result (Step T) E) (before before' after : ℕ) → before' ≤ before → LessOnStep result before' after → LessOnStep result before after
less-along (Ok steps.On) before before' after le h = omega arith
less-along (Ok (steps.Done x)) before before' after le h = tt
less-along (Ok (steps.Begins n)) before before' after le h = tt
less-along (Err e) before before' after le h = tt

module _ {S : Type 0} (put : Option ℕ → S → Put S) (inside : InsideWritten S) (ls new : List Waiting) where
  pub level-is : (level : Waiting) (w : Written S) → new ≡ ls ++ level ∷ [] → onto (left_written put inside ls) (onto (level_written put inside level) w) ≡ onto (left_written put inside new) w
  level-is level w is = sym (left-push put inside ls level w) ∙ ap (λ (l : List Waiting). onto (left_written put inside l) w) (sym is)

  pub members-written : (v : Tree) (items : List Value) (w : Written S) → v ≡ struct (view_all items) → new ≡ ls ++ Values (view_all items) ∷ [] → onto (left_written put inside ls) (onto (written (written_in_place put inside) v) w) ≡ onto (left_written put inside new) w
  members-written v items w shape is = ap (λ (t : Tree). onto (left_written put inside ls) (onto (written (written_in_place put inside) t) w)) shape ∙ level-is (Values (view_all items)) w is

  sized-written : (v : Tree) (level : Waiting) (s : S) (out out' : List ℕ) (count total : ℕ) → total ≡ count
      → written (written_in_place put inside) v ≡ (exactly (size_bytes total) >> level_written put inside level) → out' ≡ out ++ size_bytes count → new ≡ ls ++ level ∷ []
      → onto (left_written put inside ls) (onto (written (written_in_place put inside) v) (s, out)) ≡ onto (left_written put inside new) (s, out')
  sized-written v level s out out' count total counted shape bytes now =
      ap (λ (p : Piece S). onto (left_written put inside ls) (onto p (s, out))) shape
      ∙ ap (onto (left_written put inside ls)) (onto-then (exactly (size_bytes total)) (level_written put inside level) (s, out))
      ∙ ap (λ (n : ℕ). onto (left_written put inside ls) (onto (level_written put inside level) (s, out ++ size_bytes n))) counted
      ∙ ap (λ (o : List ℕ). onto (left_written put inside ls) (onto (level_written put inside level) (s, o))) (sym bytes)
      ∙ level-is level (s, out') now

  pub seq-written : (v : Tree) (items : List Value) (s : S) (out out' : List ℕ) (count : ℕ) → v ≡ sequence (view_all items) → count ≡ length items → out' ≡ out ++ size_bytes count → new ≡ ls ++ Values (view_all items) ∷ []
      → onto (left_written put inside ls) (onto (written (written_in_place put inside) v) (s, out)) ≡ onto (left_written put inside new) (s, out')
  seq-written v items s out out' count shape counted bytes now =
      sized-written v (Values (view_all items)) s out out' count (tree_count (view_all items)) (count_all items ∙ sym counted) (ap (written (written_in_place put inside)) shape) bytes now

  pub dict-written : (v : Tree) (pairs : List (Value × Value)) (s : S) (out out' : List ℕ) (count : ℕ) → v ≡ dictionary (view_pairs pairs) → count ≡ length pairs → out' ≡ out ++ size_bytes count → new ≡ ls ++ Pairs (view_pairs pairs) ∷ []
      → onto (left_written put inside ls) (onto (written (written_in_place put inside) v) (s, out)) ≡ onto (left_written put inside new) (s, out')
  dict-written v pairs s out out' count shape counted bytes now =
      sized-written v (Pairs (view_pairs pairs)) s out out' count (entry_count (view_pairs pairs)) (count_pairs pairs ∙ sym counted) (ap (written (written_in_place put inside)) shape) bytes now

  -- a level at which nothing is left
  pub level-ends : (level : Waiting) (w : Written S) → new ≡ ls ++ level ∷ [] → level_written put inside level ≡ exactly [] → onto (left_written put inside new) w ≡ onto (left_written put inside ls) w
  level-ends level w is ended = sym (level-is level w is) ∙ ap (λ (p : Piece S). onto (left_written put inside ls) (onto p w)) ended ∙ ap (onto (left_written put inside ls)) (onto-nothing w)

  -- one value is left at a level
  pub one-written : (value : Tree) (w : Written S) → new ≡ ls ++ Values (tree value none) ∷ [] → onto (left_written put inside new) w ≡ onto (left_written put inside ls) (onto (written (written_in_place put inside) value) w)
  one-written value w is =
      sym (level-is (Values (tree value none)) w is)
      ∙ ap (onto (left_written put inside ls)) (onto-then (written (written_in_place put inside) value) (exactly []) w ∙ onto-nothing (onto (written (written_in_place put inside) value) w))

  -- the first value of a level is written, and then the others
  pub first-written : (values others : List Value) (value : Value) (after : List Waiting) (w : Written S) → new ≡ ls ++ Values (view_all values) ∷ [] → values ≡ value ∷ others → after ≡ ls ++ Values (view_all others) ∷ []
      → onto (left_written put inside new) w ≡ onto (left_written put inside after) (onto (written (written_in_place put inside) (view value)) w)
  first-written values others value after w is first now =
      sym (level-is (Values (view_all values)) w is)
      ∙ ap (λ (vs : List Value). onto (left_written put inside ls) (onto (written_each (written_in_place put inside) (view_all vs)) w)) first
      ∙ ap (onto (left_written put inside ls)) (onto-then (written (written_in_place put inside) (view value)) (written_each (written_in_place put inside) (view_all others)) w)
      ∙ sym (left-push put inside ls (Values (view_all others)) (onto (written (written_in_place put inside) (view value)) w))
      ∙ ap (λ (l : List Waiting). onto (left_written put inside l) (onto (written (written_in_place put inside) (view value)) w)) (sym now)

  -- the key of the first pair is written, and then its value and the others
  pub key-written : (pairs others : List (Value × Value)) (pair : Value × Value) (mid after : List Waiting) (w : Written S) → new ≡ ls ++ Pairs (view_pairs pairs) ∷ [] → pairs ≡ pair ∷ others
      → mid ≡ ls ++ Pairs (view_pairs others) ∷ [] → after ≡ mid ++ Values (tree (view pair.1) none) ∷ []
      → onto (left_written put inside new) w ≡ onto (left_written put inside after) (onto (written (written_in_place put inside) (view pair.0)) w)
  key-written pairs others pair mid after w is first middle now =
      let refer = written_in_place put inside in
      let keyed = onto (written refer (view pair.0)) w in
      sym (level-is (Pairs (view_pairs pairs)) w is)
      ∙ ap (λ (ps : List (Value × Value)). onto (left_written put inside ls) (onto (written_pairs refer (view_pairs ps)) w)) first
      ∙ ap (onto (left_written put inside ls)) (onto-then (written refer (view pair.0)) (written refer (view pair.1) >> written_pairs refer (view_pairs others)) w ∙ onto-then (written refer (view pair.1)) (written_pairs refer (view_pairs others)) keyed)
      ∙ sym (left-push put inside ls (Pairs (view_pairs others)) (onto (written refer (view pair.1)) keyed))
      ∙ ap (λ (l : List Waiting). onto (left_written put inside l) (onto (written refer (view pair.1)) keyed)) (sym middle)
      ∙ ap (onto (left_written put inside mid)) (sym (onto-then (written refer (view pair.1)) (exactly []) keyed ∙ onto-nothing (onto (written refer (view pair.1)) keyed)))
      ∙ sym (left-push put inside mid (Values (tree (view pair.1) none)) keyed)
      ∙ ap (λ (l : List Waiting). onto (left_written put inside l) keyed) (sym now)

-- ---- sizes and work

module _ (ls new : List Waiting) where
  pub one-fits : (value : Tree) → new ≡ ls ++ Values (tree value none) ∷ [] → all_fit new → all_fit ls × HasSizes value
  one-fits value is fits = let apart = fit-pop ls (Values (tree value none)) (subst (λ (l : List Waiting). all_fit l) is fits) in (apart.0, apart.1.0)

  -- the first of the values that are left has sizes that fit, and so have the others
  pub values-fit : (values others : List Value) (value : Value) (after : List Waiting) → new ≡ ls ++ Values (view_all values) ∷ [] → values ≡ value ∷ others → after ≡ ls ++ Values (view_all others) ∷ [] → all_fit new → all_fit after × HasSizes (view value)
  values-fit values others value after is first now fits =
      let apart = fit-pop ls (Values (view_all values)) (subst (λ (l : List Waiting). all_fit l) is fits) in
      let both : InEach HasSize (view_all (value ∷ others)) = subst (λ (vs : List Value). InEach HasSize (view_all vs)) first apart.1 in
      (subst (λ (l : List Waiting). all_fit l) (sym now) (fit-push ls (Values (view_all others)) apart.0 both.1), both.0)

  pub pairs-fit : (pairs others : List (Value × Value)) (pair : Value × Value) (mid after : List Waiting) → new ≡ ls ++ Pairs (view_pairs pairs) ∷ [] → pairs ≡ pair ∷ others
      → mid ≡ ls ++ Pairs (view_pairs others) ∷ [] → after ≡ mid ++ Values (tree (view pair.1) none) ∷ [] → all_fit new → all_fit after × HasSizes (view pair.0)
  pairs-fit pairs others pair mid after is first middle now fits =
      let apart = fit-pop ls (Pairs (view_pairs pairs)) (subst (λ (l : List Waiting). all_fit l) is fits) in
      let both : InPairs HasSize (view_pairs (pair ∷ others)) = subst (λ (ps : List (Value × Value)). InPairs HasSize (view_pairs ps)) first apart.1 in
      let rest : all_fit mid = subst (λ (l : List Waiting). all_fit l) (sym middle) (fit-push ls (Pairs (view_pairs others)) apart.0 both.2) in
      (subst (λ (l : List Waiting). all_fit l) (sym now) (fit-push mid (Values (tree (view pair.1) none)) rest (both.1, tt)), both.0)

  pub popped-fits : (level : Waiting) → new ≡ ls ++ level ∷ [] → all_fit new → all_fit ls
  popped-fits level is fits = (fit-pop ls level (subst (λ (l : List Waiting). all_fit l) is fits)).0

  pub popped-work : (level : Waiting) → new ≡ ls ++ level ∷ [] → work_left ls < work_left new
  popped-work level is = rw is (let a = work-push ls level in omega arith)

  pub one-work : (value : Tree) → new ≡ ls ++ Values (tree value none) ∷ [] → tree_size value + work_left ls ≤ work_left new
  one-work value is = rw is (let a = work-push ls (Values (tree value none)) in omega arith)

  pub values-work : (values others : List Value) (value : Value) (after : List Waiting) → new ≡ ls ++ Values (view_all values) ∷ [] → values ≡ value ∷ others → after ≡ ls ++ Values (view_all others) ∷ [] → tree_size (view value) + work_left after ≤ work_left new
  values-work values others value after is first now =
      rw (is, first, now) (let a = work-push ls (Values (view_all (value ∷ others))) in let b = work-push ls (Values (view_all others)) in omega arith)

  pub pairs-work : (pairs others : List (Value × Value)) (pair : Value × Value) (mid after : List Waiting) → new ≡ ls ++ Pairs (view_pairs pairs) ∷ [] → pairs ≡ pair ∷ others
      → mid ≡ ls ++ Pairs (view_pairs others) ∷ [] → after ≡ mid ++ Values (tree (view pair.1) none) ∷ [] → tree_size (view pair.0) + work_left after ≤ work_left new
  pairs-work pairs others pair mid after is first middle now =
      let a : work_left new ≡ work_left ls + (1 + level_size (Pairs (view_pairs (pair ∷ others)))) = rw (is, first) (work-push ls (Pairs (view_pairs (pair ∷ others)))) in
      let b : work_left mid ≡ work_left ls + (1 + level_size (Pairs (view_pairs others))) = rw middle (work-push ls (Pairs (view_pairs others))) in
      let c : work_left after ≡ work_left mid + (1 + level_size (Values (tree (view pair.1) none))) = rw now (work-push mid (Values (tree (view pair.1) none))) in
      omega arith

pub no_items : (vs : List Value) → length vs ≡ 0 → vs ≡ []
no_items [] h = refl
no_items (v ∷ vs) h = absurd (omega (arith, h))

pub no_pairs : (ps : List (Value × Value)) → length ps ≡ 0 → ps ≡ []
no_pairs [] h = refl
no_pairs (p ∷ ps) h = absurd (omega (arith, h))

-- ---- values that hold values

pub seq_sizes : (value : Value) (items : List Value) → value ≡ variants.Seq items → HasSizes (view value) → (length items < 2 ^ 31) × InEach HasSize (view_all items)
seq_sizes value items is h =
    let shape : view value ≡ sequence (view_all items) = ap view is ∙ view_seq items in
    let sizes : HasSizes (sequence (view_all items)) = subst HasSizes shape h in
    (rw (← count_all items) sizes.0, sizes.1)

pub dict_sizes : (value : Value) (pairs : List (Value × Value)) → value ≡ variants.Pairs pairs → HasSizes (view value) → (length pairs < 2 ^ 31) × InPairs HasSize (view_pairs pairs)
dict_sizes value pairs is h =
    let shape : view value ≡ dictionary (view_pairs pairs) = ap view is ∙ view_dict pairs in
    let sizes : HasSizes (dictionary (view_pairs pairs)) = subst HasSizes shape h in
    (rw (← count_pairs pairs) sizes.0, sizes.1)

pub Grows-then : (old mid new : List ℕ) → Grows old mid → Grows mid new → Grows old new
Grows-then old mid new (a, is) (b, now) = (a ++ b, now ∙ ap (λ (l : List ℕ). l ++ b) is ∙ append_assoc old a b)
