use Rattle.std.proofs.Common.{sym, subst, arith}
use Rattle.dispatch_pool.specs.Rows.{Fits}
use Rattle.dispatch_pool.proofs.Growing.{fits_same}
use Rattle.dispatch_pool.proofs.Sets.{Stands, stands_is, beside_set, beside_here}
use Rattle.dispatch_pool.proofs.lanes.Lanes.split_at.Goals as goal

pub returns-clause-of : goal.returns-clause-of
returns-clause-of c =
    let stiles = c.args.self.now.stiles.items in let passes = c.args.passes.now.passes.items in
    let t = c.index.result.now in let p = c.index_mut.result.now in
    let st : Stands stiles c.args.at t = record { within = c.requires.at; is = c.index.ensures } in
    let sp : Stands passes c.args.at p = record { within = (let n = c.requires.of.one_each in let l = c.requires.at in omega arith); is = c.index_mut.ensures.value } in
    let fits = beside_here (λ k a b. Fits a b) stiles passes c.args.at t p c.requires.of c.requires.at (stands_is stiles c.args.at t st) (stands_is passes c.args.at p sp) in
    let q = c.split.new.pass in
    beside_set (λ k a b. Fits a b) stiles passes c.args.at q c.requires.of c.requires.at
    (λ d. subst (λ z. Fits z q) (sym (stands_is stiles c.args.at t st d)) (fits_same t p q fits c.split.ensures.pass c.split.ensures.same.0))
