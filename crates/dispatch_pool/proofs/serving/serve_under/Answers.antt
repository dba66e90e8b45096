use Rattle.std.proofs.Common.{◌≡◌, ◌∙◌, ℕ, ◌<◌, [], sym, ap, subst, arith, get_or, length}
use Rattle.std.specs.Prelude.{Some}
use Rattle.ice_ports.specs.Failures.{count_after}
use Rattle.talking.specs.Told.{DoorTells}
use Rattle.dispatch_pool.specs.Endings.{has_run_out}
use Rattle.dispatch_pool.specs.Sessions.{callers, split_off, ServedWith, HasServed, AllServed}
use Rattle.dispatch_pool.specs.Shares.{all_parts}
use Rattle.talking.proofs.Told.{door_new}
use Rattle.dispatch_pool.proofs.Shares.{all_same}
use Rattle.dispatch_pool.proofs.Rows.{begins}
use Rattle.dispatch_pool.proofs.Working.{written_back, caller_begins, ended_by}
use Rattle.dispatch_pool.proofs.serving.serve_under.Goals as goal

pub hire-hired-requires-clause-from : goal.hire-hired-requires-clause-from
hire-hired-requires-clause-from g c κs bounds = subst (λ z. ServedWith callers z c.args.passes []) (sym c.requires.opening.1) (begins c.args.passes)

pub hire-hired-requires-clause-tells : goal.hire-hired-requires-clause-tells
hire-hired-requires-clause-tells g c κs bounds = subst (λ z. DoorTells z 0 (g.D.Listener.told c.args.door) []) (sym c.requires.opening.0) (door_new (g.D.Listener.told c.args.door))

pub new-requires-clause-asked : goal.new-requires-clause-asked
new-requires-clause-asked g c κs bounds = let a = c.add.ensures.total in let b = c.open-asked.ensures.total in omega arith

pub work_alone-requires-clause-served : goal.work_alone-requires-clause-served
work_alone-requires-clause-served g c κs bounds =
    caller_begins c.args.lanes.now c.args.messages g.O.Opening.first g.O.Opening.passes 0 (g.D.Listener.told c.args.door) (g.D.Tray.Tray.told c.tray-tray.result) c.hire-hired.new.passes c.hire-hired.new.rest.amount c.hire-hired.result.1
    (subst (λ z. DoorTells z 0 (g.D.Listener.told c.args.door) []) (sym c.requires.opening.0) (door_new (g.D.Listener.told c.args.door))) c.tray-tray.ensures c.hire-hired.ensures.of c.hire-hired.ensures.from c.hire-hired.ensures.amount

pub finish-requires-clause-each : goal.finish-requires-clause-each
finish-requires-clause-each g c κs bounds i d lt =
    let len : length c.serve_many.new.workers ≡ length c.hire-hired.result.0.items = (let a = c.serve_many.auto.workers in let b = ap length c.as_mut_slice.ensures.value in omega arith) in
    let same = written_back c.hire-hired.result.0.len c.hire-hired.result.0.items c.serve_many.new.workers len (let a = c.hire-hired.result.0.ok in omega arith) in
    subst (λ z. HasServed split_off c.args.lanes.now c.args.messages g.O.Opening.first g.O.Opening.passes (g.D.Tray.Tray.told (get_or z i d).tray) (get_or z i d).passes (get_or z i d).mine.amount (get_or z i d).starved)
    (sym same) (c.serve_many.ensures.each i d (let n = ap length same in let b = ap length c.as_mut_slice.ensures.value in omega arith))

pub finish-requires-clause-parts_each : goal.finish-requires-clause-parts_each
finish-requires-clause-parts_each g c κs bounds i d lt =
    let len : length c.serve_many.new.workers ≡ length c.hire-hired.result.0.items = (let a = c.serve_many.auto.workers in let b = ap length c.as_mut_slice.ensures.value in omega arith) in
    let same = written_back c.hire-hired.result.0.len c.hire-hired.result.0.items c.serve_many.new.workers len (let a = c.hire-hired.result.0.ok in omega arith) in
    let short : i < length c.hire-hired.result.0.items = (let n = ap length same in omega arith) in
    subst (λ z. (get_or z i d).mine.parts ≡ 1) (sym same)
    (c.serve_many.ensures.parts_each i d (let b = ap length c.as_mut_slice.ensures.value in omega arith) ∙ (ap (λ z. (get_or z i d).mine.parts) c.as_mut_slice.ensures.value ∙ c.hire-hired.ensures.parts_each i d short))

pub returns-clause-done : goal.returns-clause-done
returns-clause-done g c =
    subst (λ z. AllServed c.args.lanes.now c.args.messages z (Some c.args.passes) c.finish.result.accepted (g.D.Listener.told c.finish.result.door) c.finish.result.passes c.finish.result.accepted c.finish.result.starved) c.requires.opening.0
    (subst (λ z. AllServed c.args.lanes.now c.args.messages g.O.Opening.first z c.finish.result.accepted (g.D.Listener.told c.finish.result.door) c.finish.result.passes c.finish.result.accepted c.finish.result.starved) c.requires.opening.1
    c.finish.ensures.done)

pub returns-clause-ended : goal.returns-clause-ended
returns-clause-ended g c fine fed =
    let f = c.finish.ensures in
    ended_by c.work_alone.new.door.ending c.finish.result.failed (g.D.Listener.nones c.args.door) (g.D.Listener.nones c.finish.result.door) f.failed fine (c.work_alone.ensures.ended (f.starved fed))
    (λ e. f.reached e ∙ (let a = c.add.ensures.amount in let b = c.open-asked.ensures.amount in omega arith)) f.no_more (f.nones ∙ ap (λ (n : ℕ). count_after n (has_run_out c.work_alone.new.door.ending)) c.requires.opening.3)

pub returns-clause-shares : goal.returns-clause-shares
returns-clause-shares g c i k =
    let hired = c.hire-hired.result.0.items in
    let len : length c.serve_many.new.workers ≡ length hired = (let a = c.serve_many.auto.workers in let b = ap length c.as_mut_slice.ensures.value in omega arith) in
    let same = written_back c.hire-hired.result.0.len hired c.serve_many.new.workers len (let a = c.hire-hired.result.0.ok in omega arith) in
    let all = all_same (λ w. w.passes) c.as_mut_slice.result.now c.serve_many.new.workers c.serve_many.auto.workers (λ j d lt. c.serve_many.ensures.shares_each j d lt) i k in
    let first = ap (λ ws. all_parts ws (λ w. w.passes) i k) c.as_mut_slice.ensures.value in
    let last = ap (λ ws. all_parts ws (λ w. w.passes) i k) same in
    let begun = c.hire-hired.ensures.shares i k in
    let alone = c.work_alone.ensures.shares i k in
    let done = c.finish.ensures.shares i k in
    omega arith
