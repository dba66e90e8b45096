use Rattle.std.proofs.Common.{sym, subst, arith}
use Rattle.dispatch_pool.specs.Rows.{Fits, HasJoined}
use Rattle.dispatch_pool.proofs.Growing.{fits_by}
use Rattle.dispatch_pool.proofs.Sets.{Stands, stands_is, this, beside_set, as_three}
use Rattle.dispatch_pool.proofs.lanes.Lanes.join_at.Goals as goal

pub returns-clause-of : goal.returns-clause-of
returns-clause-of c =
    let stiles = c.args.self.now.stiles.items in let passes = c.args.passes.now.passes.items in
    let t = c.index.result.now in
    let st : Stands stiles c.args.at t = record { within = c.requires.at; is = c.index.ensures } in
    let q = c.join.new.pass in
    beside_set (λ k a b. Fits a b) stiles passes c.args.at q c.requires.of c.requires.at
    (λ d. subst (λ z. Fits z q) (sym (stands_is stiles c.args.at t st d)) (fits_by t q c.join.ensures.pass c.join.ensures.joined.3))

pub returns-clause-joined : goal.returns-clause-joined
returns-clause-joined c t d e =
    let stiles = c.args.self.now.stiles.items in let passes = c.args.passes.now.passes.items in
    let t0 = c.index.result.now in let p0 = c.index_mut.result.now in let q = c.join.new.pass in
    let st : Stands stiles c.args.at t0 = record { within = c.requires.at; is = c.index.ensures } in
    let sp : Stands passes c.args.at p0 = record { within = (let n = c.requires.of.one_each in let l = c.requires.at in omega arith); is = c.index_mut.ensures.value } in
    as_three (λ x y z. HasJoined x y c.args.other z) (stands_is stiles c.args.at t0 st t) (stands_is passes c.args.at p0 sp d) (this passes c.args.at p0 sp q e)
    (c.join.ensures.joined, c.join.ensures.shares)
