use Rattle.std.proofs.Common.{◌≡◌, arith}
use Rattle.std.proofs.lemmas.Option.{slice_get_past}
use Rattle.ice_values.proofs.RequiredParts.{last-ends}
use Rattle.ice_values.proofs.required.RequiredReader.ended.Goals as goal

pub returns-in_ok-with_last-in-Some-2-clause-ends : goal.returns-in_ok-with_last-in-Some-2-clause-ends
returns-in_ok-with_last-in-Some-2-clause-ends g c inside s r =
    let old = c.args.self.now in
    let had : old.reader ≡ _ = c.in-Some.is in
    rw had (last-ends g.P.RefPort.take c.args.schema.now inside c.in-Some.reader c.ended.new.self old.done _ c.in-Some-2.value c.args.members.now old.next s r (rw c.in-Some-2.is at c.in_ok-value-in-Some.ensures) c.in_ok-with_last-in-Some-2.ensures (slice_get_past c.args.members.now old.next (omega (arith, c.if-self-members.false))))
