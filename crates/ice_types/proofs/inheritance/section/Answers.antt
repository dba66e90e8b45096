use Rattle.std.proofs.Common.{◌∙◌, sym, arith}
use Rattle.std.proofs.lemmas.List.{at_drop_all}
use Rattle.ice_types.specs.Inherited.{located}
use Rattle.ice_types.specs.Kept.{counted}
use Rattle.ice_types.proofs.ByPaths.{located_here, located_later}
use Rattle.ice_types.proofs.inheritance.section.Goals as goal

pub returns-then-left-count-clause-found : goal.returns-then-left-count-clause-found
returns-then-left-count-clause-found c =
    located_here (counted c.args.counts.now) c.args.bases.now c.loop-base.base-index c.loop-base.left c.loop-base-test.true c.counted-count.result c.counted-count.ensures c.if-left-count.true
    ∙ c.loop-base.invariant.found

pub loop-base-preserved : goal.loop-base-preserved
loop-base-preserved c = record {
  found =
      located_later (counted c.args.counts.now) c.args.bases.now c.loop-base.base-index c.loop-base.left c.loop-base-test.true c.counted-count.result c.counted-count.ensures c.if-left-count.false
      ∙ c.loop-base.invariant.found;
  within = omega (arith, c.loop-base.invariant.within);
}

pub returns-clause-found : goal.returns-clause-found
returns-clause-found c =
    sym (at_drop_all (λ bases. located (counted c.args.counts.now) bases c.loop-base.left) c.args.bases.now c.loop-base.base-index c.loop-base-test.false) ∙ c.loop-base.invariant.found
