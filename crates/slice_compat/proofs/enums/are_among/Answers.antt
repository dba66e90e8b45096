use Rattle.std.proofs.Common.{sym, ◌∙◌}
use Rattle.slice_compat.proofs.Entries.{one_less, none_left}
use Rattle.slice_compat.proofs.enums.are_among.Goals as goal

pub loop-entry-preserved : goal.loop-entry-preserved
loop-entry-preserved c = one_less c.args.own.now c.args.entries.now c.loop-entry.entry-index c.entry-item.result c.loop-entry-test.true c.entry-item.is
    (sym (c.requires c.entry-item.result.number) ∙ sym c.contains.ensures ∙ c.if-not-contains.false) c.loop-entry.invariant

pub returns-then-not-contains : goal.returns-then-not-contains
returns-then-not-contains c = (
  λ e. absurd cc,
  λ h. absurd (none_left c.args.own.now c.args.entries.now c.loop-entry.entry-index c.entry-item.result c.loop-entry-test.true c.entry-item.is
      (sym (c.requires c.entry-item.result.number) ∙ sym c.contains.ensures ∙ c.if-not-contains.true) c.loop-entry.invariant h),
)
