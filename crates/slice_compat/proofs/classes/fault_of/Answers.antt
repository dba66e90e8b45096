use Rattle.std.proofs.Common.{◌≡◌, true, false, sym, ◌∙◌}
use Rattle.slice_compat.proofs.classes.fault_of.Goals as goal

pub returns-then-not-is_same_class_base-clause-why : goal.returns-then-not-is_same_class_base-clause-why
returns-then-not-is_same_class_base-clause-why c = λ same. let both : true ≡ false = sym (c.is_same_class_base.ensures.1 same) ∙ c.if-not-is_same_class_base.true in cc

pub returns-then-not-keeps_number-clause-why : goal.returns-then-not-keeps_number-clause-why
returns-then-not-keeps_number-clause-why c = (
  c.is_same_class_base.ensures.0 c.if-not-is_same_class_base.false,
  λ same. let both : true ≡ false = sym (c.keeps_number.ensures.1 same) ∙ c.if-not-keeps_number.true in cc,
)

pub members_fault-requires-clause-base : goal.members_fault-requires-clause-base
members_fault-requires-clause-base c = c.is_same_class_base.ensures.0 c.if-not-is_same_class_base.false

pub members_fault-requires-clause-compact : goal.members_fault-requires-clause-compact
members_fault-requires-clause-compact c = c.keeps_number.ensures.0 c.if-not-keeps_number.false
