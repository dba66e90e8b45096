use Rattle.std.proofs.lemmas.Bool.{eqb-true, eq-eqb}
use Rattle.std.proofs.Common.{length}
use Rattle.ice_types.specs.Lacking.{SameThrow}
use Rattle.ice_types.proofs.Alike.{same_length, both_done, too_short}
use Rattle.slice_compat.proofs.same_rows.are_same_throws.Goals as goal

pub returns : goal.returns
returns c =
    let own = c.args.own.now in
    let others = c.args.throws.now in (
      λ e. c.loop-at.invariant.0 (both_done (SameThrow c.args.one.now c.args.other.now) own others c.loop-at.at c.loop-at-test.false (eqb-true (length own) (length others) e)),
      λ h. eq-eqb (length own) (length others) (same_length (SameThrow c.args.one.now c.args.other.now) own others h),
    )

pub returns-in_default : goal.returns-in_default
returns-in_default c = (
  λ e. absurd cc,
  λ h. absurd (too_short (SameThrow c.args.one.now c.args.other.now) c.args.own.now c.args.throws.now c.loop-at.at c.loop-at-test.true c.in_default.ensures.lookup.3 (c.loop-at.invariant.1 h)),
)
