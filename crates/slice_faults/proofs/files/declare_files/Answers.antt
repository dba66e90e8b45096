use Rattle.std.proofs.Common.{sym, subst, ap, ◌∙◌}
use Rattle.slice_syntax.specs.Places.{AreRegular}
use Rattle.slice_meaning.specs.Known as meaning
use Rattle.slice_meaning.specs.Meaning.{next_file}
use Rattle.slice_meaning.specs.After.{after_all}
use Rattle.slice_meaning.specs.Checking.{broken}
use Rattle.slice_faults.specs.Held.{known_of}
use Rattle.slice_faults.specs.Kept.{IsKept}
use Rattle.slice_faults.proofs.Noting.{front}
use Rattle.slice_faults.proofs.Keeping.{kept_next}
use Rattle.slice_faults.proofs.Sequel.{each_next, checked_next}
use Rattle.slice_faults.proofs.files.declare_files.Goals as goal

pub loop-file-preserved : goal.loop-file-preserved
loop-file-preserved c =
    let k = known_of c.loop-file.known in
    let files = c.args.files.now in
    let i = c.loop-file.file-index in
    let file = c.file-item.result in
    let so = c.loop-file.invariant in
    let at = front files i file c.loop-file-test.true c.file-item.is in
    let none = c.in_default.is in
    let done = c.in_ok-fault.ensures.after none ∙ ap (after_all k) c.as_slice.ensures in
    let is = c.in_ok-next_file.ensures ∙ ap next_file done in (
      (each_next AreRegular _ _ file at so.0).1,
      subst (λ (x : meaning.Known). IsKept x) (sym c.in_ok-next_file.ensures) (kept_next _ (c.in_ok-fault.ensures.kept none)),
      checked_next k _ files i file _ at (sym (ap (broken k) c.as_slice.ensures) ∙ (sym c.in_ok-fault.ensures.fault ∙ none)) is so.2,
    )
