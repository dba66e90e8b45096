use Rattle.std.proofs.Common.{◌≡◌, ◌<◌, ◌++◌, ◌∷◌, [], ◌∙◌, List, length, map, ap, sym, arith}
use Rattle.ice_encoding.specs.Instances.{most_instances}
use Rattle.instance_reading.specs.declared.unfinished.Unfinished.{Unfinished}
use Rattle.instance_reading.specs.Stacked.{resumed, stack_left}
use Rattle.instance_reading.specs.Unfinished.{begun}
use Rattle.slice_heads.proofs.Arenas.{most_is}
use Rattle.instance_reading.proofs.Stack.{stack-begun, stack-empty}
use Rattle.instance_reading.proofs.nesting.read_over.Goals as goal

pub loop-top-init : goal.loop-top-init
loop-top-init c =
    let some : 0 < most_instances = omega (arith, most_is) in
    let one : map resumed c.push.new.self ≡ begun c.args.name c.args.cursor.now ∷ [] = ap (map resumed) (c.in_ok-push.ensures.ok ∙ (λ i. c.requires.empty i ++ c.begun.result ∷ [])) ∙ (λ i. c.begun.ensures i ∷ []) in
    let long : length (map resumed c.push.new.self) ≡ 1 = ap (λ (us : List Unfinished). length us) one in
    record {
      left = stack-begun c.args.schema.now c.args.name c.args.arena.now c.args.cursor.now some ∙ ap (λ (us : List Unfinished). stack_left c.args.schema.now us c.args.arena.now c.args.cursor.now) (sym one);
      within = omega (arith, long, c.requires.room);
      room = omega arith;
    }

pub returns-clause-reads : goal.returns-clause-reads
returns-clause-reads c = c.loop-top.invariant.left ∙ stack-empty c.args.schema.now (map resumed c.loop-top.stack) c.loop-top.arena c.loop-top.cursor (ap (map resumed) c.in_default.ensures.0)
