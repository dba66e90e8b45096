use Rattle.std.proofs.Common.{IsTrue, arith}
use Rattle.std.proofs.lemmas.Option.{MatchOption-at_some, MatchOption-at_none}
use Rattle.ice_types.specs.Tables.{is_defined}
use Rattle.slice_compat.specs.declared.verdict.Why.{Why}
use Rattle.slice_compat.specs.Tests.{ClassFails, ClassPasses}
use Rattle.slice_compat.proofs.Verdicts.{passes_more, reached_before}
use Rattle.slice_compat.proofs.compatibility.first_failing.Goals as goal

pub loop-at-init : goal.loop-at-init
loop-at-init c = record { earlier = λ class lt. absurd (omega (arith, lt)); answers = c.requires.answers }

pub loop-at-preserved : goal.loop-at-preserved
loop-at-preserved c =
    let flag = IsTrue (is_defined c.args.flags.now c.loop-at.at) in
    let here = MatchOption-at_none (flag → ClassPasses c.args.old.now c.args.new.now c.loop-at.at)
    (λ (why : Why). flag × ClassFails c.args.old.now c.args.new.now c.loop-at.at why) c.in_default.is c.in_ok-fault.ensures.why in
    record {
      earlier = passes_more c.args.old.now c.args.new.now c.args.old_kind c.args.flags.now c.requires.flags c.loop-at.at c.loop-at.invariant.earlier here;
      answers = c.in_ok-fault.ensures.answers;
    }

pub returns-in-Some : goal.returns-in-Some
returns-in-Some c =
    let flag = IsTrue (is_defined c.args.flags.now c.loop-at.at) in
    let told = MatchOption-at_some (flag → ClassPasses c.args.old.now c.args.new.now c.loop-at.at)
    (λ (why : Why). flag × ClassFails c.args.old.now c.args.new.now c.loop-at.at why) c.in-Some.why c.in-Some.is c.in_ok-fault.ensures.why in
    record {
      root = c.requires.root;
      reached = (c.requires.flags.reached c.loop-at.at).0 told.0;
      fails = told.1;
      earlier = c.loop-at.invariant.earlier;
    }

pub returns : goal.returns
returns c = record {
  root = c.requires.root;
  classes = λ class r. c.loop-at.invariant.earlier class (reached_before c.args.old.now c.args.new.now c.args.old_kind c.args.flags.now c.requires.flags class c.loop-at.at (omega arith) r) r;
}
