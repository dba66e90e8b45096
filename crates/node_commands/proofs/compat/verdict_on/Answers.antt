use Rattle.std.proofs.Common.{◌≡◌, inl, inr, subst}
use Rattle.slice_compat.specs.declared.verdict.Verdict.{Verdict}
use Rattle.slice_compat.specs.Verdicts.{IsVerdict}
use Rattle.node_commands.specs.Compats.{compat_line}
use Rattle.node_commands.proofs.TwoFiles.{finds_no_class, finds_no_root, finds_yes}
use Rattle.node_commands.proofs.compat.verdict_on.Goals as goal

pub returns-in-Yes : goal.returns-in-Yes
returns-in-Yes c =
    finds_yes c.args.spelled.now c.args.reading.now c.rules.ensures c.args.kind c.args.other c.in_ok-text.text
    (subst (IsVerdict c.args.spelled.now c.args.reading.now c.args.kind c.args.other) c.in-Yes.is c.in_ok-verdict.ensures)
    (subst (λ (v : Verdict). c.in_ok-text.text.items ≡ compat_line c.args.spelled.now v) c.in-Yes.is c.in_ok-text.ensures)

pub returns-in-NoRoot : goal.returns-in-NoRoot
returns-in-NoRoot c =
    let t = c.args.spelled.now in
    let u = c.args.reading.now in
    let IsIts : Verdict → Type 0 = IsVerdict t u c.args.kind c.args.other in
    let IsSaid : Verdict → Type 0 = λ v. c.in_ok-text.text.items ≡ compat_line t v in
    elim c.in-NoRoot.is [
      | inl is ↦ finds_no_root t u c.rules.ensures c.args.kind c.args.other c.in_ok-text.text (subst IsIts is c.in_ok-verdict.ensures) (subst IsSaid is c.in_ok-text.ensures)
      | inr class ↦ finds_no_class t u c.rules.ensures c.args.kind c.args.other c.in_ok-text.text class.0 class.1 (subst IsIts class.2 c.in_ok-verdict.ensures) (subst IsSaid class.2 c.in_ok-text.ensures)
    ]
