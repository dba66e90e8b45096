use Rattle.std.proofs.lemmas.Bool.{eqb-true, eq-eqb}
use Rattle.std.proofs.Common.{length}
use Rattle.ice_types.specs.Lacking.{SameOp}
use Rattle.ice_types.proofs.Alike.{same_length, both_done}
use Rattle.slice_compat.proofs.same_rows.are_same_ops.Goals as goal

pub returns : goal.returns
returns c =
    let own = c.args.own.now in
    let others = c.args.ops.now in (
      λ e. c.loop-at.invariant.0 (both_done (SameOp c.args.one.now c.args.other.now) own others c.loop-at.at c.loop-at-test.false (eqb-true (length own) (length others) e)),
      λ h. eq-eqb (length own) (length others) (same_length (SameOp c.args.one.now c.args.other.now) own others h),
    )
