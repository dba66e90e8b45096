use Rattle.std.proofs.Common.{Err, sym, subst, arith}
use Rattle.ice_audit.specs.declared.stop.Halt.{Halt}
use Rattle.ice_audit.specs.Readings.{ReadsClient}
use Rattle.ice_audit.specs.declared.stop.Stop.{Stop}
use Rattle.ice_audit.specs.declared.verdict.Side.TheVariants.{Client}
use Rattle.ice_audit.specs.declared.verdict.Verdict.TheVariants.{No}
use Rattle.ice_audit.specs.Verdicts.{AreShort, Judges}
use Rattle.ice_audit.proofs.Answering.{client_too_long, server_too_long, client_refused}
use Rattle.ice_audit.proofs.judging.audit.Goals as goal

pub returns-then-client-gt-MOST_BYTES : goal.returns-then-client-gt-MOST_BYTES
returns-then-client-gt-MOST_BYTES c =
    let long = c.if-client-gt-MOST_BYTES.true in
    rw c.refused.ensures (client_too_long c.args.client.now c.args.server.now (omega arith))

pub returns-then-server-gt-MOST_BYTES : goal.returns-then-server-gt-MOST_BYTES
returns-then-server-gt-MOST_BYTES c =
    let short = c.if-client-gt-MOST_BYTES.false in
    let long = c.if-server-gt-MOST_BYTES.true in
    rw c.refused-then-server-gt-MOST_BYTES.ensures (server_too_long c.args.client.now c.args.server.now (omega arith) (omega arith))

pub returns-in-Err-Found : goal.returns-in-Err-Found
returns-in-Err-Found c =
    let one = c.if-client-gt-MOST_BYTES.false in
    let two = c.if-server-gt-MOST_BYTES.false in
    let h = subst (λ (x : Halt). ReadsClient c.args.client.now (Err x)) c.in-Err-Found.field-0-is c.in-Err-Found.ensures in
    let short : AreShort c.args.client.now c.args.server.now = (omega arith, omega arith) in
    rw c.refused-in-Err-Found.ensures (subst (λ (s : Stop). Judges c.args.client.now c.args.server.now (No Client s.place s.why)) (sym c.in-Err-Found.stop-is)
    (client_refused c.args.client.now c.args.server.now short c.in-Err-Found.stop h))
