use Rattle.std.proofs.Common.{◌-◌, length, drop, Option, Ok, Err, refl, subst, arith, ◌∙◌}
use Rattle.std.proofs.lemmas.Result.{err_from_is_err_and}
use Rattle.ice_audit.specs.declared.stop.Stage.{Stage}
use Rattle.ice_audit.specs.Readings.{TakesServer}
use Rattle.ice_audit.proofs.Reading.{taken_there, server_ends, server_halts, server_goes}
use Rattle.ice_audit.proofs.server.read_server.Goals as goal

pub returns-in_err-take_next : goal.returns-in_err-take_next
returns-in_err-take_next c =
    let failed = err_from_is_err_and c.from_residual.result c.from_residual.ensures.1 in
    let there = taken_there c.loop-statuses.stage c.args.bytes.now c.args.due.now c.held.result c.len.result c.loop-statuses.frames.bytes c.loop-statuses.statuses.items c.take_next.new.frames
    c.take_next.new.statuses.items (Err c.in_err-take_next.field-0.0) c.held.ensures (c.len.ensures ∙ c.loop-statuses.statuses.ok.0) c.in_err-take_next.ensures in
    rw (failed.1, failed.2) (server_halts c.args.bytes.now c.args.due.now c.loop-statuses.frames.bytes (length c.args.bytes.now - length c.loop-statuses.frames.bytes) c.loop-statuses.stage
    c.loop-statuses.statuses.items c.loop-statuses.invariant.goes c.loop-statuses.invariant.sort c.take_next.new.statuses.items c.take_next.new.frames c.in_err-take_next.field-0.0 there)

pub returns-in-None : goal.returns-in-None
returns-in-None c =
    let there = taken_there c.loop-statuses.stage c.args.bytes.now c.args.due.now c.held.result c.len.result c.loop-statuses.frames.bytes c.loop-statuses.statuses.items c.take_next.new.frames
    c.take_next.new.statuses.items (Ok c.in_ok-take_next.field-0) c.held.ensures (c.len.ensures ∙ c.loop-statuses.statuses.ok.0) c.in_ok-take_next.ensures in
    let none = subst (λ (x : Option Stage). TakesServer c.loop-statuses.stage (drop (length c.loop-statuses.statuses.items) c.args.due.now) (length c.args.bytes.now - length c.loop-statuses.frames.bytes) c.loop-statuses.frames.bytes c.loop-statuses.statuses.items c.take_next.new.frames c.take_next.new.statuses.items (Ok x)) c.in-None.is there in
    server_ends c.args.bytes.now c.args.due.now c.loop-statuses.frames.bytes (length c.args.bytes.now - length c.loop-statuses.frames.bytes) c.loop-statuses.stage
    c.loop-statuses.statuses.items c.loop-statuses.invariant.goes c.loop-statuses.invariant.sort c.take_next.new.statuses.items c.take_next.new.frames
    (record { statuses = c.take_next.new.statuses; stage = c.loop-statuses.stage }) none refl refl

pub loop-statuses-smaller : goal.loop-statuses-smaller
loop-statuses-smaller c =
    let there = taken_there c.loop-statuses.stage c.args.bytes.now c.args.due.now c.held.result c.len.result c.loop-statuses.frames.bytes c.loop-statuses.statuses.items c.take_next.new.frames
    c.take_next.new.statuses.items (Ok c.in_ok-take_next.field-0) c.held.ensures (c.len.ensures ∙ c.loop-statuses.statuses.ok.0) c.in_ok-take_next.ensures in
    let some = subst (λ (x : Option Stage). TakesServer c.loop-statuses.stage (drop (length c.loop-statuses.statuses.items) c.args.due.now) (length c.args.bytes.now - length c.loop-statuses.frames.bytes) c.loop-statuses.frames.bytes c.loop-statuses.statuses.items c.take_next.new.frames c.take_next.new.statuses.items (Ok x)) c.in-Some.is there in
    (server_goes c.args.bytes.now c.args.due.now c.loop-statuses.frames.bytes (length c.args.bytes.now - length c.loop-statuses.frames.bytes) c.loop-statuses.stage c.loop-statuses.statuses.items
    c.loop-statuses.invariant.goes c.loop-statuses.invariant.sort c.take_next.new.statuses.items c.take_next.new.frames c.in-Some.next refl c.loop-statuses.invariant.within
    c.loop-statuses.invariant.due_within some).less

pub loop-statuses-preserved : goal.loop-statuses-preserved
loop-statuses-preserved c =
    let there = taken_there c.loop-statuses.stage c.args.bytes.now c.args.due.now c.held.result c.len.result c.loop-statuses.frames.bytes c.loop-statuses.statuses.items c.take_next.new.frames
    c.take_next.new.statuses.items (Ok c.in_ok-take_next.field-0) c.held.ensures (c.len.ensures ∙ c.loop-statuses.statuses.ok.0) c.in_ok-take_next.ensures in
    let some = subst (λ (x : Option Stage). TakesServer c.loop-statuses.stage (drop (length c.loop-statuses.statuses.items) c.args.due.now) (length c.args.bytes.now - length c.loop-statuses.frames.bytes) c.loop-statuses.frames.bytes c.loop-statuses.statuses.items c.take_next.new.frames c.take_next.new.statuses.items (Ok x)) c.in-Some.is there in
    let k = server_goes c.args.bytes.now c.args.due.now c.loop-statuses.frames.bytes (length c.args.bytes.now - length c.loop-statuses.frames.bytes) c.loop-statuses.stage c.loop-statuses.statuses.items
    c.loop-statuses.invariant.goes c.loop-statuses.invariant.sort c.take_next.new.statuses.items c.take_next.new.frames c.in-Some.next refl c.loop-statuses.invariant.within
    c.loop-statuses.invariant.due_within some in
    let less = k.less in
    let within = c.loop-statuses.invariant.within in
    record { goes = k.goes_on; running = k.running; within = omega arith; sort = k.sort_on; due_within = k.due_within }
