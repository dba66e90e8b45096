use Rattle.std.proofs.Common.{ℕ, ◌-◌, length, Option, None, Some, Ok, Err, refl, subst, arith}
use Rattle.std.proofs.lemmas.Result.{err_from_is_err_and}
use Rattle.ice_audit.specs.declared.stop.Stage.{Stage}
use Rattle.ice_audit.specs.Readings.{TakesClient}
use Rattle.ice_audit.proofs.Reading.{client_ends, client_halts, client_goes}
use Rattle.ice_audit.proofs.client.read_client.Goals as goal

pub returns-in_err-take_next : goal.returns-in_err-take_next
returns-in_err-take_next c =
    let failed = err_from_is_err_and c.from_residual.result c.from_residual.ensures.1 in
    let taken = subst (λ (n : ℕ). TakesClient c.loop-asked.stage (length c.args.bytes.now - n) c.loop-asked.frames.bytes c.loop-asked.asked c.take_next.new.frames c.take_next.new.asked (Err c.in_err-take_next.field-0.0))
    c.held.ensures c.in_err-take_next.ensures in
    rw (failed.1, failed.2) (client_halts c.args.bytes.now c.loop-asked.frames.bytes (length c.args.bytes.now - length c.loop-asked.frames.bytes) c.loop-asked.stage c.loop-asked.asked
    c.loop-asked.invariant.goes c.loop-asked.invariant.sort c.take_next.new.asked c.take_next.new.frames c.in_err-take_next.field-0.0 taken)

pub returns-in-None : goal.returns-in-None
returns-in-None c =
    let taken = subst (λ (x : Option Stage). TakesClient c.loop-asked.stage (length c.args.bytes.now - c.held.result) c.loop-asked.frames.bytes c.loop-asked.asked c.take_next.new.frames c.take_next.new.asked (Ok x))
    c.in-None.is c.in_ok-take_next.ensures in
    client_ends c.args.bytes.now c.loop-asked.frames.bytes (length c.args.bytes.now - length c.loop-asked.frames.bytes) c.loop-asked.stage c.loop-asked.asked
    c.loop-asked.invariant.goes c.loop-asked.invariant.sort c.take_next.new.asked c.take_next.new.frames
    (subst (λ (n : ℕ). TakesClient c.loop-asked.stage (length c.args.bytes.now - n) c.loop-asked.frames.bytes c.loop-asked.asked c.take_next.new.frames c.take_next.new.asked (Ok None)) c.held.ensures taken)

pub loop-asked-smaller : goal.loop-asked-smaller
loop-asked-smaller c =
    let taken = subst (λ (x : Option Stage). TakesClient c.loop-asked.stage (length c.args.bytes.now - c.held.result) c.loop-asked.frames.bytes c.loop-asked.asked c.take_next.new.frames c.take_next.new.asked (Ok x))
    c.in-Some.is c.in_ok-take_next.ensures in
    let there = subst (λ (n : ℕ). TakesClient c.loop-asked.stage (length c.args.bytes.now - n) c.loop-asked.frames.bytes c.loop-asked.asked c.take_next.new.frames c.take_next.new.asked (Ok (Some c.in-Some.next))) c.held.ensures taken in
    (client_goes c.args.bytes.now c.loop-asked.frames.bytes (length c.args.bytes.now - length c.loop-asked.frames.bytes) c.loop-asked.stage c.loop-asked.asked
    c.loop-asked.invariant.goes c.loop-asked.invariant.sort c.take_next.new.asked c.take_next.new.frames c.in-Some.next refl c.loop-asked.invariant.within there).less

pub loop-asked-preserved : goal.loop-asked-preserved
loop-asked-preserved c =
    let taken = subst (λ (x : Option Stage). TakesClient c.loop-asked.stage (length c.args.bytes.now - c.held.result) c.loop-asked.frames.bytes c.loop-asked.asked c.take_next.new.frames c.take_next.new.asked (Ok x))
    c.in-Some.is c.in_ok-take_next.ensures in
    let there = subst (λ (n : ℕ). TakesClient c.loop-asked.stage (length c.args.bytes.now - n) c.loop-asked.frames.bytes c.loop-asked.asked c.take_next.new.frames c.take_next.new.asked (Ok (Some c.in-Some.next))) c.held.ensures taken in
    let k = client_goes c.args.bytes.now c.loop-asked.frames.bytes (length c.args.bytes.now - length c.loop-asked.frames.bytes) c.loop-asked.stage c.loop-asked.asked
    c.loop-asked.invariant.goes c.loop-asked.invariant.sort c.take_next.new.asked c.take_next.new.frames c.in-Some.next refl c.loop-asked.invariant.within there in
    let less = k.less in
    let within = c.loop-asked.invariant.within in
    record { goes = k.goes_on; running = k.running; within = omega arith; sort = k.sort_on }
