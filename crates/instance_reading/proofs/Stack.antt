-- How what is still read changes where an instance begins or ends.
use Rattle.std.proofs.lemmas.List.{map_push}
use Rattle.std.proofs.Common.{◌≡◌, ℕ, zero, suc, ◌-◌, ◌<◌, List, [], ◌∷◌, ◌++◌, length, map, Option, Result, Ok, Err, refl, sym, ap, ◌∙◌, subst, length-append, arith}
use Rattle.ice_types.specs.Tables.{Tables}
use Rattle.ice_prims.specs.declared.fault.Fault.{Fault}
use Rattle.ice_prims.specs.declared.fault.ReadFault.{ReadFault}
use Rattle.ice_prims.specs.Rest.{Rest, ◌>>=◌}
use Rattle.ice_prims.specs.Taking.{Fails}
use Rattle.ice_encoding.specs.Port.{Reader}
use Rattle.ice_encoding.specs.Pausing.{Inside}
use Rattle.ice_encoding.specs.Graph.{Slice}
use Rattle.ice_encoding.specs.Flags.{first, all_slices}
use Rattle.ice_encoding.specs.Instances.{most_instances}
use Rattle.ice_encoding.specs.References.{State, with_ended}
use Rattle.ice_encoding.specs.Slices.{slices_at}
use Rattle.graph_arena.specs.Seen.{view_slices}
use Rattle.value_parts.specs.declared.sliced_type.SlicedType.TheVariants as sorts
use Rattle.instance_reading.specs.declared.unfinished.Unfinished.{Unfinished}
use Rattle.instance_reading.specs.Slices.{refer_by}
use Rattle.instance_reading.specs.Unfinished.{begun, behind, left_slices}
use Rattle.instance_reading.specs.declared.waiting.Waiting.{Waiting}
use Rattle.instance_reading.specs.Stacked.{resumed, refer_within, instance_within, left_instance, left_stack, stack_left}
use Rattle.instance_reading.proofs.Heads.{fails_then}

abbrev Left : Type 0
Left = Result (State ℕ × Rest) Fault

both_same : (read : Left) → read ≡ (read >>= λ x. Ok (x.0, x.1))
both_same (Ok x) = refl
both_same (Err e) = refl

regrouped : (read : Left) (next last : State ℕ → Rest → Left) → (read >>= (λ x. next x.0 x.1) >>= λ x. last x.0 x.1) ≡ (read >>= λ x. next x.0 x.1 >>= λ y. last y.0 y.1)
regrouped (Ok x) next last = refl
regrouped (Err e) next last = refl

-- slices with none before them
pub whole_slices : (read : Result (List Slice × State ℕ × Rest) Fault) → read ≡ (read >>= λ x. Ok (behind [] x.0, x.1, x.2))
whole_slices (Ok x) = refl
whole_slices (Err e) = refl

-- one waits, and another begins
pub two-more : (old one now : List Waiting) (w b : Waiting) (u : Unfinished) → one ≡ old ++ w ∷ [] → now ≡ one ++ b ∷ [] → resumed b ≡ u → map resumed now ≡ (map resumed old ++ resumed w ∷ []) ++ u ∷ []
two-more old one now w b u one_is now_is is =
    ap (map resumed) now_is ∙ map_push resumed one b ∙ (λ i. (ap (map resumed) one_is ∙ map_push resumed old w) i ++ is i ∷ [])

module _ (t : Tables) where
  -- a reference is read with the instance that begins at it
  pub refer_is : (more : ℕ) → refer_within t more ≡ refer_by (instance_within t more)
  unfolding instance_within
  refer_is zero = refl
  refer_is (suc more) = refl

  -- the instance on top is read first
  stack-push : (depth : ℕ) (us : List Unfinished) (u : Unfinished) (s : State ℕ) (r : Rest) → length us < depth
      → left_stack t depth (us ++ u ∷ []) s r ≡ (left_instance t (depth - suc (length us)) u s r >>= λ x. left_stack t depth us x.0 x.1)
  stack-push zero us u s r lt = absurd (omega (arith, lt))
  stack-push (suc depth) [] u s r lt =
      let e : depth ≡ suc depth - suc 0 = omega arith in
      both_same (left_instance t depth u s r) ∙ ap (λ (n : ℕ). left_instance t n u s r >>= λ x. Ok (x.0, x.1)) e
  stack-push (suc depth) (v ∷ us) u s r lt =
      let e : depth - suc (length us) ≡ suc depth - suc (suc (length us)) = omega arith in
      ap (λ (read : Left). read >>= λ x. left_instance t depth v x.0 x.1) (stack-push depth us u s r (omega (arith, lt)))
      ∙ regrouped (left_instance t (depth - suc (length us)) u s r) (λ s r. left_stack t depth us s r) (λ s r. left_instance t depth v s r)
      ∙ ap (λ (n : ℕ). left_instance t n u s r >>= λ x. left_stack t (suc depth) (v ∷ us) x.0 x.1) e

  -- the slices of an instance, which has ended then
  abbrev ended : ℕ → Result (List Slice × State ℕ × Rest) Fault → Left
  ended name read = read >>= λ x. Ok (with_ended name x.0 x.1, x.2)

  module _ (depth : ℕ) (us : List Unfinished) (room : length us < depth) where
    abbrev top_depth : ℕ
    top_depth = depth - suc (length us)

    abbrev below : Inside (State ℕ)
    below = instance_within t top_depth

    abbrev then_stack : Left → Left
    then_stack read = read >>= λ x. left_stack t depth us x.0 x.1

    top_is : (u : Unfinished) (s : State ℕ) (r : Rest) → left_stack t depth (us ++ u ∷ []) s r ≡ then_stack (ended u.name (left_slices below sorts.Class t u s r))
    top_is u s r = stack-push depth us u s r room

    -- the instance on top fails
    top-fails : (e : ReadFault) (u : Unfinished) (s : State ℕ) (r : Rest) → ((inside : Inside (State ℕ)) → Fails e (left_slices inside sorts.Class t u s r)) → Fails e (left_stack t depth (us ++ u ∷ []) s r)
    top-fails e u s r h =
        subst (Fails e) (sym (top_is u s r))
        (fails_then e (ended u.name (left_slices below sorts.Class t u s r)) (λ x. left_stack t depth us x.0 x.1)
        (fails_then e (left_slices below sorts.Class t u s r) (λ x. Ok (with_ended u.name x.0 x.1, x.2)) (h below)))

    -- the instance on top is read whole
    top-ends : (old new : Unfinished) (s s' : State ℕ) (r r' : Rest) → ((inside : Inside (State ℕ)) → left_slices inside sorts.Class t old s r ≡ Ok (view_slices new.slices, s', r')) → new.name ≡ old.name
        → left_stack t depth (us ++ old ∷ []) s r ≡ left_stack t depth us (with_ended new.name (view_slices new.slices) s') r'
    top-ends old new s s' r r' read same =
        top_is old s r ∙ ap (λ (x : Result (List Slice × State ℕ × Rest) Fault). then_stack (ended old.name x)) (read below)
        ∙ ap (λ (n : ℕ). left_stack t depth us (with_ended n (view_slices new.slices) s') r') (sym same)

    -- an instance begins in the one on top
    top-pauses : (old new : Unfinished) (n : ℕ) (s s' : State ℕ) (r r' : Rest) → ((inside : Inside (State ℕ)) → left_slices inside sorts.Class t old s r ≡ (inside n s' r' >>= λ x. left_slices inside sorts.Class t new x.0 x.1))
        → new.name ≡ old.name → left_stack t depth (us ++ old ∷ []) s r ≡ (below n s' r' >>= λ x. left_stack t depth (us ++ new ∷ []) x.0 x.1)
    top-pauses old new n s s' r r' read same =
        top_is old s r
        ∙ ap (λ (x : Result (List Slice × State ℕ × Rest) Fault). then_stack (ended old.name x)) (read below)
        ∙ ap (λ (m : ℕ). then_stack (ended m (below n s' r' >>= λ x. left_slices below sorts.Class t new x.0 x.1))) (sym same)
        ∙ after_it (below n s' r')
      where
        after_it : (read : Left) → then_stack (ended new.name (read >>= λ x. left_slices below sorts.Class t new x.0 x.1)) ≡ (read >>= λ x. left_stack t depth (us ++ new ∷ []) x.0 x.1)
        after_it (Ok x) = sym (top_is new x.0 x.1)
        after_it (Err e) = refl

    -- an instance begins on top
    begins_here : (n : ℕ) (s : State ℕ) (r : Rest) → instance_within t (suc top_depth) n s r ≡ ended n (left_slices below sorts.Class t (begun n r) s r)
    unfolding instance_within
    begins_here n s r =
        ap (ended n) (whole_slices (slices_at (refer_within t top_depth) t all_slices (length r.bytes) first s r))
        ∙ ap (λ (refer : Option ℕ → Reader (State ℕ) (Option ℕ)). ended n (slices_at refer t all_slices (length r.bytes) first s r >>= λ x. Ok (behind [] x.0, x.1, x.2))) (refer_is top_depth)

    top-begins : (more n : ℕ) (s : State ℕ) (r : Rest) → more ≡ suc top_depth → (instance_within t more n s r >>= λ x. left_stack t depth us x.0 x.1) ≡ left_stack t depth (us ++ begun n r ∷ []) s r
    top-begins more n s r deep =
        ap (λ (d : ℕ). then_stack (instance_within t d n s r)) deep
        ∙ ap then_stack (begins_here n s r)
        ∙ sym (top_is (begun n r) s r)

  -- ---- the stack of a whole instance

  module _ (us : List Unfinished) (top : Unfinished) (room : length us < most_instances) (s s' : State ℕ) (r r' : Rest) where
    pub stack-fails : (e : ReadFault) → ((inside : Inside (State ℕ)) → Fails e (left_slices inside sorts.Class t top s r)) → Fails e (stack_left t (us ++ top ∷ []) s r)
    unfolding stack_left
    stack-fails e h = top-fails most_instances us room e top s r h

    module _ (new : Unfinished) (same : new.name ≡ top.name) where
      pub stack-ends : ((inside : Inside (State ℕ)) → left_slices inside sorts.Class t top s r ≡ Ok (view_slices new.slices, s', r')) → stack_left t (us ++ top ∷ []) s r ≡ stack_left t us (with_ended new.name (view_slices new.slices) s') r'
      unfolding stack_left
      stack-ends read = top-ends most_instances us room top new s s' r r' read same

      pub stack-begins : (n : ℕ) → length (us ++ new ∷ []) < most_instances → ((inside : Inside (State ℕ)) → left_slices inside sorts.Class t top s r ≡ (inside n s' r' >>= λ x. left_slices inside sorts.Class t new x.0 x.1))
          → stack_left t (us ++ top ∷ []) s r ≡ stack_left t ((us ++ new ∷ []) ++ begun n r' ∷ []) s' r'
      unfolding stack_left
      stack-begins n deep read =
          let more : most_instances - suc (length us) ≡ suc (most_instances - suc (length (us ++ new ∷ []))) = omega (arith, deep, length-append us (new ∷ [])) in
          top-pauses most_instances us room top new n s s' r r' read same
          ∙ top-begins most_instances (us ++ new ∷ []) deep (most_instances - suc (length us)) n s' r' more

  -- nothing is left
  pub stack-empty : (us : List Unfinished) (s : State ℕ) (r : Rest) → us ≡ [] → stack_left t us s r ≡ Ok (s, r)
  unfolding stack_left
  stack-empty us s r none = rw none refl

  -- the instance alone
  pub stack-begun : (n : ℕ) (s : State ℕ) (r : Rest) → 0 < most_instances → instance_within t most_instances n s r ≡ stack_left t (begun n r ∷ []) s r
  unfolding stack_left
  stack-begun n s r some =
      let deep : most_instances ≡ suc (most_instances - suc 0) = omega (arith, some) in
      both_same (instance_within t most_instances n s r) ∙ top-begins most_instances [] some most_instances n s r deep
