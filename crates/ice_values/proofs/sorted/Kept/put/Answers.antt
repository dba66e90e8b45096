use Rattle.std.proofs.Common.{sym, subst}
use Rattle.ice_encoding.specs.Order.{IsRising}
use Rattle.ice_values.specs.Kept.{Rises, HasPlace}
use Rattle.graph_arena.specs.View.{view}
use Rattle.ice_values.proofs.Keys.{put_above, rises_above}
use Rattle.ice_values.proofs.sorted.Kept.put.Goals as goal

pub returns-in_ok-push-in-Rising-clause-put : goal.returns-in_ok-push-in-Rising-clause-put
returns-in_ok-push-in-Rising-clause-put c =
    let below = subst (λ k. HasPlace k (view c.args.key)) c.in-Rising.is c.requires.place in
    rw c.in-Rising.is (put_above c.args.key c.args.value c.in-Rising.pairs below c.push.new.self c.in_ok-push-in-Rising.ensures.ok)

pub returns-in_ok-push-in-Rising-clause-rises : goal.returns-in_ok-push-in-Rising-clause-rises
returns-in_ok-push-in-Rising-clause-rises c =
    let below = subst (λ k. HasPlace k (view c.args.key)) c.in-Rising.is c.requires.place in
    subst IsRising (sym (put_above c.args.key c.args.value c.in-Rising.pairs below c.push.new.self c.in_ok-push-in-Rising.ensures.ok)) (rises_above c.args.key c.args.value c.in-Rising.pairs below (subst Rises c.in-Rising.is c.requires.rises))
