use Rattle.std.proofs.Common.{arith}
use Rattle.std.proofs.lemmas.Option.{slice_get_within}
use Rattle.object_adapter.specs.Keys.{Key}
use Rattle.object_adapter.proofs.Changed.{no_such_key}
use Rattle.object_adapter.proofs.keys.Keys.find.Goals as goal

pub overflow_cast-result : goal.overflow_cast-result
overflow_cast-result c = omega (arith, slice_get_within c.args.self.now c.in-Ok.at c.in-Ok.ensures.0 c.in-Ok.ensures.1, c.len.ensures.kept.room)

pub returns-in-Err : goal.returns-in-Err
returns-in-Err c =
    let key : Key = (c.args.identity.now, c.args.facet.now) in
    (λ at has. no_such_key c.args.self.now key c.in-Err.field-0 c.in-Err.ensures (at, has), c.has_identity.ensures.0 c.if-has_identity.true)
