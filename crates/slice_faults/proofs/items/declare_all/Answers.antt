use Rattle.std.proofs.Common.{sym, subst, ◌∙◌}
use Rattle.slice_syntax.specs.Places.{IsRegular}
use Rattle.slice_meaning.specs.Known as meaning
use Rattle.slice_faults.specs.Held.{known_of}
use Rattle.slice_faults.specs.Kept.{IsKept}
use Rattle.slice_faults.proofs.Noting.{front}
use Rattle.slice_faults.proofs.Free.{none_noted}
use Rattle.slice_faults.proofs.Keeping.{kept_after}
use Rattle.slice_faults.proofs.Sequel.{each_next, broken_next, after_next, none_of}
use Rattle.slice_faults.proofs.items.declare_all.Goals as goal

pub loop-item-preserved : goal.loop-item-preserved
loop-item-preserved c =
    let k = known_of c.loop-item.known in
    let items = c.args.items.now in
    let i = c.loop-item.item-index in
    let item = c.item-item.result in
    let so = c.loop-item.invariant in
    let at = front items i item c.loop-item-test.true c.item-item.is in
    let regular = each_next IsRegular _ _ item at so.0 in
    let none = none_of c.in_ok-fault.fault (let a = c.is_some.ensures in let b = c.if-is_some.false in cc) in
    let is = c.in_ok-fault.ensures.after none in (
      regular.1,
      subst (λ (x : meaning.Known). IsKept x) (sym is) (kept_after k item regular.0 so.1 (none_noted _ (sym c.in_ok-fault.ensures.fault ∙ none))),
      broken_next k _ items i item _ at (sym c.in_ok-fault.ensures.fault ∙ none) is so.2,
      after_next k _ items i item _ at is so.3,
    )
