use Rattle.std.proofs.Common.{◌≡◌, true, false, List, Bool, sym, ◌∙◌, subst}
use Rattle.slice_compat.specs.Marks.{AreReached}
use Rattle.slice_compat.proofs.compatibility.compatible.Goals as goal

pub returns-then-not-can_read : goal.returns-then-not-can_read
returns-then-not-can_read c = λ reads. let both : true ≡ false = sym (c.in_ok-can_read.ensures.yes.1 reads) ∙ c.if-not-can_read.true in cc

pub first_failing-requires-clause-root : goal.first_failing-requires-clause-root
first_failing-requires-clause-root c = c.in_ok-can_read.ensures.yes.0 c.if-not-can_read.false

pub first_failing-requires-clause-flags : goal.first_failing-requires-clause-flags
first_failing-requires-clause-flags c = subst (λ (flags : List Bool). AreReached c.args.old.now c.args.old_kind flags) (sym c.as_slice.ensures.value) c.in_ok-flags.ensures
