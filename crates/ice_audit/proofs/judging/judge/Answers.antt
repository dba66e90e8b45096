use Rattle.std.proofs.Common.{ℤ, List, Ok, Err, sym, subst}
use Rattle.ice_audit.specs.declared.stop.Halt.{Halt}
use Rattle.ice_audit.specs.declared.stop.Halt.TheVariants.{Found}
use Rattle.ice_audit.specs.Readings.{ReadsServer}
use Rattle.ice_audit.specs.declared.stop.Stop.{Stop}
use Rattle.ice_audit.specs.declared.verdict.Side.TheVariants.{Server}
use Rattle.ice_audit.specs.declared.verdict.Verdict.TheVariants.{No}
use Rattle.ice_audit.specs.Verdicts.{Judges}
use Rattle.ice_audit.proofs.Answering.{server_refused, silent_refused, told_of}
use Rattle.ice_audit.proofs.judging.judge.Goals as goal

pub returns-in-Err-Found : goal.returns-in-Err-Found
returns-in-Err-Found c =
    let h0 = subst (λ (x : Halt). ReadsServer c.args.server.now c.as_slice.result.now (Err x)) c.in-Err-Found.field-0-is c.in-Err-Found.ensures in
    let h = subst (λ (l : List ℤ). ReadsServer c.args.server.now l (Err (Found c.in-Err-Found.stop))) c.as_slice.ensures.value h0 in
    rw c.refused.ensures (subst (λ (s : Stop). Judges c.args.client.now c.args.server.now (No Server s.place s.why)) (sym c.in-Err-Found.stop-is)
    (server_refused c.args.client.now c.args.server.now c.requires.short c.args.asked.now c.requires.asked c.in-Err-Found.stop h))

pub returns-then-is_silent : goal.returns-then-is_silent
returns-then-is_silent c =
    let h = subst (λ (l : List ℤ). ReadsServer c.args.server.now l (Ok c.in-Ok.answered)) c.as_slice.ensures.value c.in-Ok.ensures in
    let silent = c.is_silent.ensures.silent c.if-is_silent.true in
    rw c.refused-then-is_silent.ensures
    (silent_refused c.args.client.now c.args.server.now c.requires.short c.args.asked.now c.requires.asked c.in-Ok.answered h silent.0 silent.1)

pub returns : goal.returns
returns c =
    let h = subst (λ (l : List ℤ). ReadsServer c.args.server.now l (Ok c.in-Ok.answered)) c.as_slice.ensures.value c.in-Ok.ensures in
    told_of c.args.client.now c.args.server.now c.requires.short c.args.asked.now c.requires.asked c.in-Ok.answered h c.is_silent.result c.is_silent.ensures.heard c.if-is_silent.false
    c.from_vec.result c.in_ok-lines.lines.items c.as_slice-2.result.now c.as_slice-3.result.now c.is_closed-closed.result
    c.from_vec.ensures c.in_ok-lines.ensures c.as_slice-2.ensures.value c.as_slice-3.ensures.value c.is_closed-closed.ensures
