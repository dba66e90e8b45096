use Rattle.std.proofs.Common.{◌<◌, ◌++◌, ◌∷◌, [], ◌∙◌, List, length, length-append, map, ap, sym, arith}
use Rattle.ice_encoding.specs.Instances.{most_instances}
use Rattle.instance_reading.specs.declared.unfinished.Unfinished.{Unfinished}
use Rattle.ice_prims.specs.Rest.{◌>>=◌}
use Rattle.instance_reading.specs.Stacked.{resumed, stack_left}
use Rattle.instance_reading.specs.Unfinished.{begun}
use Rattle.slice_heads.proofs.Arenas.{most_is}
use Rattle.instance_reading.proofs.Stack.{stack-fails, stack-ends, stack-begins, two-more}
use Rattle.instance_reading.proofs.nesting.read_on.Goals as goal

pub returns-in-Err-clause-steps : goal.returns-in-Err-clause-steps
returns-in-Err-clause-steps c =
    let us = map resumed c.args.stack.now in
    let room : length us < most_instances = omega (arith, c.requires, most_is, length-append us (c.args.top ∷ [])) in
    stack-fails c.args.schema.now us c.args.top room c.args.arena.now c.args.arena.now c.args.cursor.now c.args.cursor.now c.in-Err.fault c.in-Err.ensures.goes

pub returns-in-Ok-Done-clause-steps : goal.returns-in-Ok-Done-clause-steps
returns-in-Ok-Done-clause-steps c =
    let us = map resumed c.args.stack.now in
    let room : length us < most_instances = omega (arith, c.requires, most_is, length-append us (c.args.top ∷ [])) in
    rw (c.end.ensures, c.replace-slices.ensures.value) (stack-ends c.args.schema.now us c.args.top room c.args.arena.now c.go.new.arena c.args.cursor.now c.go.new.cursor c.go.new.self c.in-Ok-Done.ensures.name
    (λ inside. rw c.in-Ok-Done.field-0-is at (c.in-Ok-Done.ensures.goes inside)))

pub returns-in_ok-push-in-Ok-Begins-2-clause-steps : goal.returns-in_ok-push-in-Ok-Begins-2-clause-steps
returns-in_ok-push-in-Ok-Begins-2-clause-steps c =
    let us = map resumed c.args.stack.now in
    let room : length us < most_instances = omega (arith, c.requires, most_is, length-append us (c.args.top ∷ [])) in
    let less = rw c.in-Ok-Begins.field-0-is at c.in-Ok-Begins.ensures.room in
    let w = c.in_ok-of-in-Ok-Begins.ensures in
    let deep : length (us ++ resumed c.in_ok-of-in-Ok-Begins.field-0 ∷ []) < most_instances = omega (arith, c.requires, less, length-append us (c.args.top ∷ []), length-append us (resumed c.in_ok-of-in-Ok-Begins.field-0 ∷ [])) in
    stack-begins c.args.schema.now us c.args.top room c.args.arena.now c.go.new.arena c.args.cursor.now c.go.new.cursor (resumed c.in_ok-of-in-Ok-Begins.field-0) (w.name ∙ c.in-Ok-Begins.ensures.name) c.in-Ok-Begins.name deep
    (λ inside. rw c.in-Ok-Begins.field-0-is at (c.in-Ok-Begins.ensures.goes inside) ∙ (λ i. inside c.in-Ok-Begins.name c.go.new.arena c.go.new.cursor >>= λ x. sym (w.left inside c.args.schema.now x.0 x.1) i))
    ∙ ap (λ (vs : List Unfinished). stack_left c.args.schema.now vs c.go.new.arena c.go.new.cursor) (sym (two-more c.args.stack.now c.push.new.self c.push-in-Ok-Begins.new.self c.in_ok-of-in-Ok-Begins.field-0 c.begun.result (begun c.in-Ok-Begins.name c.go.new.cursor) c.in_ok-push-in-Ok-Begins.ensures.ok c.in_ok-push-in-Ok-Begins-2.ensures.ok c.begun.ensures))
