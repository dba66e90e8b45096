use Rattle.std.proofs.Common.{◌≡◌, ◌≤◌, ◌<◌, ℕ, [], ◌++◌, length, take, refl, ap, ◌∙◌, arith, rules}
use Rattle.std.proofs.KnownBytes.{Appends-nil, Appends-trans, Consumes-nil, Consumes-trans}
use Rattle.ice_ports.specs.declared.ports.TheConstants.{MOST_OF_A_READ}
use Rattle.message_dump.specs.Steps.{untold}
use Rattle.message_dump.proofs.Advancing.{advances_fed}
use Rattle.message_dump.proofs.Dumping.{frugal, frugal_kept, says_ended, says_stopped, grows, begun}
use Rattle.message_dump.proofs.dump.dump_messages.Goals as goal

pub loop-telling-init : goal.loop-telling-init
loop-telling-init g c =
    let start = begun c.new-telling.result c.new-telling.ensures in
    record {
      got = [];
      lines = [];
      consumed = Consumes-nil (g.S.Source.left c.args.source.now);
      taken = Appends-nil (g.K.Sink.taken c.args.sink.now);
      told = start.0;
      waits = start.1;
      reads = refl;
      writes = refl;
    }

pub returns-in-Ok-eq0-clause-told : goal.returns-in-Ok-eq0-clause-told
returns-in-Ok-eq0-clause-told g c =
    let i = c.loop-telling.invariant in
    let none : take c.in-Ok-eq0.field-0 c.read.new.into ≡ [] = ap (λ (n : ℕ). take n c.read.new.into) c.in-Ok-eq0.field-0-test in
    let some : 0 < length c.read.new.into = search rules in
    says_ended (g.S.Source.left c.args.source.now) (g.S.Source.left c.loop-telling.source) (g.S.Source.left c.read.new.self) i.got i.lines c.loop-telling.telling i.consumed i.told i.waits (g.K.Sink.taken c.args.sink.now) (g.K.Sink.taken c.loop-telling.sink)
    (take c.in-Ok-eq0.field-0 c.read.new.into) c.end.result i.taken none c.in-Ok-eq0.ensures.bytes.0 (c.in-Ok-eq0.ensures.bytes.1 c.in-Ok-eq0.field-0-test some) c.end.ensures

pub returns-in-Ok-eq0-clause-frugal : goal.returns-in-Ok-eq0-clause-frugal
returns-in-Ok-eq0-clause-frugal g c =
    let i = c.loop-telling.invariant in
    let few : length (take c.in-Ok-eq0.field-0 c.read.new.into) ≤ MOST_OF_A_READ = omega (arith, c.in-Ok-eq0.ensures.bound.1, c.in-Ok-eq0.field-0-test) in
    frugal (g.S.Source.left c.args.source.now) (g.S.Source.left c.loop-telling.source) (g.S.Source.left c.read.new.self) i.got i.lines c.loop-telling.telling i.consumed i.told i.waits (take c.in-Ok-eq0.field-0 c.read.new.into) few c.in-Ok-eq0.ensures.bytes.0

pub returns-in-Err-clause-frugal : goal.returns-in-Err-clause-frugal
returns-in-Err-clause-frugal g c =
    let i = c.loop-telling.invariant in
    frugal_kept (g.S.Source.left c.args.source.now) (g.S.Source.left c.loop-telling.source) (g.S.Source.left c.read.new.self) i.got i.lines c.loop-telling.telling i.consumed i.told i.waits c.in-Err.ensures.bytes

pub returns-in-Err-take-clause-told : goal.returns-in-Err-take-clause-told
returns-in-Err-take-clause-told g c =
    let i = c.loop-telling.invariant in
    says_stopped (g.S.Source.left c.args.source.now) (g.S.Source.left c.loop-telling.source) (g.S.Source.left c.read.new.self) i.got i.lines c.loop-telling.telling i.consumed i.told i.waits (Unit {0}) (take c.in-Ok.count c.read.new.into) c.take.new.self
    (g.K.Sink.taken c.args.sink.now) (g.K.Sink.taken c.loop-telling.sink) (g.K.Sink.taken c.take.new.sink) (g.K.Sink.failures c.loop-telling.sink) (g.K.Sink.failures c.take.new.sink) c.in-Err-take.stop c.in-Ok.ensures.bytes.0 i.taken c.in-Err-take.ensures.told

pub returns-in-Err-take-clause-frugal : goal.returns-in-Err-take-clause-frugal
returns-in-Err-take-clause-frugal g c =
    let i = c.loop-telling.invariant in
    let few : length (take c.in-Ok.count c.read.new.into) ≤ MOST_OF_A_READ = search rules in
    frugal (g.S.Source.left c.args.source.now) (g.S.Source.left c.loop-telling.source) (g.S.Source.left c.read.new.self) i.got i.lines c.loop-telling.telling i.consumed i.told i.waits (take c.in-Ok.count c.read.new.into) few c.in-Ok.ensures.bytes.0

pub loop-telling-smaller : goal.loop-telling-smaller
loop-telling-smaller g c =
    let told = c.in_default.ensures.told in
    let some : 0 < length (take c.in-Ok.count c.read.new.into) = omega (arith, c.in-Ok.ensures.bound.1, c.in-Ok.count-test) in
    grows c.loop-telling.telling c.take.new.self (take c.in-Ok.count c.read.new.into) told.0 some told.1 c.in_default.ensures.all

pub loop-telling-preserved : goal.loop-telling-preserved
loop-telling-preserved g c =
    let i = c.loop-telling.invariant in
    let told = c.in_default.ensures.told in
    let piece = take c.in-Ok.count c.read.new.into in
    record {
      got = i.got ++ piece;
      lines = i.lines ++ told.0;
      consumed = Consumes-trans (g.S.Source.left c.args.source.now) (g.S.Source.left c.loop-telling.source) (g.S.Source.left c.read.new.self) i.got piece i.consumed c.in-Ok.ensures.bytes.0;
      taken = Appends-trans (g.K.Sink.taken c.args.sink.now) (g.K.Sink.taken c.loop-telling.sink) (g.K.Sink.taken c.take.new.sink) i.lines told.0 i.taken told.2;
      told = advances_fed (untold i.got) c.loop-telling.telling c.take.new.self piece i.lines told.0 i.told told.1;
      waits = c.in_default.ensures.all;
      reads = c.in-Ok.ensures.count ∙ i.reads;
      writes = told.3 ∙ i.writes;
    }
