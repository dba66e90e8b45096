use Rattle.std.proofs.Common.{◌≡◌, true, false, Option, MatchOption, IsTrue, sym, ◌∙◌}
use Rattle.std.proofs.lemmas.Result.{IfOk-weaker}
use Rattle.ice_types.specs.Tables.{is_defined}
use Rattle.slice_compat.specs.declared.verdict.Why.{Why}
use Rattle.slice_compat.specs.Tests.{ClassFails, ClassPasses}
use Rattle.slice_compat.proofs.Verdicts.{where_reached}
use Rattle.slice_compat.proofs.compatibility.fault_where.Goals as goal

pub returns-then-not-is_marked-clause-why : goal.returns-then-not-is_marked-clause-why
returns-then-not-is_marked-clause-why c = λ on. let both : true ≡ false = sym on ∙ (sym c.is_marked.ensures ∙ c.if-not-is_marked.true) in absurd cc

pub returns-clause-why : goal.returns-clause-why
returns-clause-why c =
    let flag = is_defined c.args.flags.now c.args.class in
    let passes = ClassPasses c.args.old.now c.args.new.now c.args.class in
    let fails = ClassFails c.args.old.now c.args.new.now c.args.class in
    IfOk-weaker c.class_fault.result (λ (why : Option Why). MatchOption why passes fails) (λ (why : Option Why). MatchOption why (IsTrue flag → passes) (λ (w : Why). IsTrue flag × fails w))
    (where_reached flag (sym c.is_marked.ensures ∙ c.if-not-is_marked.false) passes fails) c.class_fault.ensures.why
