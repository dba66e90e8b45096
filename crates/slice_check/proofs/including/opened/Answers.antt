use Rattle.std.proofs.Common.{ℕ, List, Err, arith, subst}
use Rattle.slice_check.specs.Answers.{Parses}
use Rattle.slice_check.proofs.Includes.{missing, excess, passed}
use Rattle.slice_check.proofs.including.opened.Goals as goal

pub returns-in_default-clause-answer : goal.returns-in_default-clause-answer
returns-in_default-clause-answer g c = λ loaded h fresh. missing (g.H.Shelf.files c.args.shelf.now) loaded c.args.user.now c.args.name.now c.args.place c.in_ok-text.field-0 c.text_fault.result fresh
    c.in_ok-text.ensures.found c.in_default.is c.text_fault.ensures

pub returns-then-len-clause-answer :
    goal.returns-then-len-clause-answer
returns-then-len-clause-answer g c = λ loaded h fresh. excess (g.H.Shelf.files c.args.shelf.now) loaded c.args.user.now c.args.name.now c.args.place c.in_ok-text.field-0 c.in-Some.text
    c.text_fault-then-len.result fresh c.in_ok-text.ensures.found c.in-Some.is (omega (arith, c.len.ensures loaded h)) c.text_fault-then-len.ensures

pub returns-in_err-tree-clause-answer : goal.returns-in_err-tree-clause-answer
returns-in_err-tree-clause-answer g c = λ loaded h fresh. passed (g.H.Shelf.files c.args.shelf.now) loaded c.args.user.now c.args.name.now c.args.place c.args.names.now.held c.in_ok-text.field-0 c.in-Some.text
    c.in_err-tree.field-0.0 c.from_residual-in_err-tree.result fresh (omega (arith, c.len.ensures loaded h)) c.in_ok-text.ensures.found c.in-Some.is
    (subst (λ (t : List ℕ). Parses c.args.name.now t (Err c.in_err-tree.field-0.0)) c.as_slice.ensures c.in_err-tree.ensures.answer) c.from_residual-in_err-tree.ensures.1
