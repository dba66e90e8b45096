use Rattle.std.proofs.Common.{◌<◌, ◌∙◌, length, sym, arith}
use Rattle.object_adapter.proofs.Changed.{no_such_key}
use Rattle.object_adapter.proofs.keys.Keys.gap_for.Goals as goal

pub returns-then-len-eq-MOST_OBJECTS-clause-err : goal.returns-then-len-eq-MOST_OBJECTS-clause-err
returns-then-len-eq-MOST_OBJECTS-clause-err c = (
  no_such_key c.args.self.now (c.args.identity.now, c.args.facet.now) c.in-Err.at c.in-Err.ensures,
  sym c.len.ensures.len ∙ c.if-len-eq-MOST_OBJECTS.true,
)

pub returns-clause-ok : goal.returns-clause-ok
returns-clause-ok c =
    let room : length c.args.self.now < 1000 = omega (arith, c.len.ensures.len, c.len.ensures.kept.room, c.if-len-eq-MOST_OBJECTS.false) in
    (c.in-Err.ensures, room)
