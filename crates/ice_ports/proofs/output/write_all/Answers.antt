use Rattle.std.proofs.Common.{◌-◌, ◌≤◌, length, take, drop, sym, ap, ◌∙◌, arith}
use Rattle.std.proofs.lemmas.List.{take-append-drop, length-drop}
use Rattle.std.proofs.lemmas.Result.{err_from_is_err_and}
use Rattle.ice_prims.proofs.Texts.{from_here}
use Rattle.ice_ports.specs.Failures.{one_more}
use Rattle.std.proofs.KnownBytes.{Appends-kept}
use Rattle.ice_ports.proofs.Written.{Appends-more, writes_prefix}
use Rattle.ice_ports.proofs.output.write_all.Goals as goal

pub returns-in_err-at : goal.returns-in_err-at
returns-in_err-at g c =
    let failed = err_from_is_err_and c.from_residual.result c.from_residual.ensures.1 in
    let kept = Appends-kept (g.K.Sink.taken c.args.sink.now) (g.K.Sink.taken c.loop-at.sink) (g.K.Sink.taken c.write.new.self) (take c.loop-at.at c.args.bytes.now) c.loop-at.invariant.taken c.in_err-at.ensures.bytes in
    writes_prefix (g.K.Sink.taken c.args.sink.now) (g.K.Sink.taken c.write.new.self) (g.K.Sink.failures c.args.sink.now) (g.K.Sink.failures c.write.new.self) c.from_residual.result failed.0 c.args.bytes.now failed.1
    (take c.loop-at.at c.args.bytes.now, drop c.loop-at.at c.args.bytes.now, sym (take-append-drop c.loop-at.at c.args.bytes.now), kept, omega (arith, c.loop-at-test.true, length-drop c.loop-at.at c.args.bytes.now)) (c.in_err-at.ensures.count ∙ ap one_more c.loop-at.invariant.count)

pub loop-at-preserved : goal.loop-at-preserved
loop-at-preserved g c =
    let here = from_here c.args.bytes.now c.loop-at.at in
    let bound = c.in_ok-at.ensures.bound in
    let long : c.in_ok-at.field-0 ≤ length c.args.bytes.now - c.loop-at.at = omega (arith, bound, ap length here, length-drop c.loop-at.at c.args.bytes.now) in
    record {
      taken = Appends-more (g.K.Sink.taken c.args.sink.now) (g.K.Sink.taken c.loop-at.sink) (g.K.Sink.taken c.write.new.self) c.args.bytes.now _ c.loop-at.at c.in_ok-at.field-0 here c.loop-at.invariant.taken c.in_ok-at.ensures.bytes;
      within = omega (arith, long, c.loop-at.invariant.within);
      count = c.in_ok-at.ensures.count ∙ c.loop-at.invariant.count;
    }
