use Rattle.std.proofs.Common.{sym, subst, arith}
use Rattle.turnstile.specs.History.{entry}
use Rattle.turnstile.specs.Passes.{DidTurn, DidNotTurn}
use Rattle.dispatch_pool.specs.Rows.{Fits}
use Rattle.dispatch_pool.specs.Turns.{HadTurn}
use Rattle.dispatch_pool.proofs.Growing.{fits_turn, fits_none, grew_turn, grew_none}
use Rattle.dispatch_pool.proofs.Results.{ok_then, err_then, either_way}
use Rattle.dispatch_pool.proofs.Sets.{Stands, stands_is, this, others, beside_set, as_three}
use Rattle.dispatch_pool.proofs.Turning.{row_turn, row_no_turn, turn_answers}
use Rattle.dispatch_pool.proofs.lanes.Lanes.turn_at.Goals as goal

pub returns-clause-of : goal.returns-clause-of
returns-clause-of g c =
    let stiles = c.args.self.now.stiles.items in let passes = c.args.passes.now.passes.items in
    let t = c.index.result.now in let p = c.index_mut.result.now in let q = c.turn_around.new.pass in
    let st : Stands stiles c.args.at t = record { within = c.requires.at; is = c.index.ensures } in
    let fits = either_way c.turn_around.result (DidTurn t p q c.args.call.now) (DidNotTurn t p q) (Fits t q)
    (λ reply d. fits_turn t p q c.args.call.now reply c.turn_around.ensures.pass d) (λ d. fits_none t p q c.turn_around.ensures.pass d) c.turn_around.ensures.ok c.turn_around.ensures.err in
    beside_set (λ k a b. Fits a b) stiles passes c.args.at q c.requires.of c.requires.at (λ d. subst (λ z. Fits z q) (sym (stands_is stiles c.args.at t st d)) fits)

pub returns-clause-ok : goal.returns-clause-ok
returns-clause-ok g c =
    let stiles = c.args.self.now.stiles.items in let passes = c.args.passes.now.passes.items in
    let t = c.index.result.now in let p = c.index_mut.result.now in let q = c.turn_around.new.pass in
    let st : Stands stiles c.args.at t = record { within = c.requires.at; is = c.index.ensures } in
    let sp : Stands passes c.args.at p = record { within = (let n = c.requires.of.one_each in let l = c.requires.at in omega arith); is = c.index_mut.ensures.value } in
    ok_then c.turn_around.result (DidTurn t p q c.args.call.now) (HadTurn c.args.at stiles passes _ c.args.call.now)
    (λ reply d. record {
      within = sp.within;
      turn = λ a b. as_three (λ x y z. DidTurn x y z c.args.call.now reply) (stands_is stiles c.args.at t st a) (stands_is passes c.args.at p sp b) (this passes c.args.at p sp q b) d;
      others = others passes c.args.at p q;
      no_refusal = (turn_answers t p q c.args.call.now reply (λ x y call answer h. h) d).0;
      replies = (turn_answers t p q c.args.call.now reply (λ x y call answer h. h) d).1;
      ticket = d.0;
      grew = row_turn passes c.args.at p q (entry d.0 c.args.call.now reply) sp (grew_turn t p q c.args.call.now reply d);
    })
    c.turn_around.ensures.ok

pub returns-clause-err : goal.returns-clause-err
returns-clause-err g c =
    let passes = c.args.passes.now.passes.items in
    let t = c.index.result.now in let p = c.index_mut.result.now in let q = c.turn_around.new.pass in
    let sp : Stands passes c.args.at p = record { within = (let n = c.requires.of.one_each in let l = c.requires.at in omega arith); is = c.index_mut.ensures.value } in
    err_then c.turn_around.result (DidNotTurn t p q) _ (λ d. row_no_turn passes c.args.at p q sp (grew_none t p q d)) c.turn_around.ensures.err
