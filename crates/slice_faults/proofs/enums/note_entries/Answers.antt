use Rattle.std.proofs.Common.{◌+◌, ◌++◌, drop, ap, ◌∙◌}
use Rattle.slice_meaning.specs.Members.{new_number, with_number, entry_faults, entries_of}
use Rattle.slice_meaning.specs.Checking.{noted}
use Rattle.slice_meaning.specs.declared.fault.CheckKind.TheVariants as rows
use Rattle.slice_faults.specs.Held.{known_of}
use Rattle.slice_faults.proofs.Noting.{front}
use Rattle.slice_faults.proofs.Entries.{entry_next, rows_next, next_within}
use Rattle.slice_faults.proofs.enums.note_entries.Goals as goal

pub loop-entry-preserved : goal.loop-entry-preserved
loop-entry-preserved c =
    let k = known_of c.args.known.now in
    let entries = c.args.entries.now in
    let i = c.loop-entry.entry-index in
    let e = c.entry-item.result in
    let number = c.entry_number-number.result in
    let so = c.loop-entry.invariant in
    let is = c.entry_number-number.ensures.is in
    let at = front entries i e c.loop-entry-test.true c.entry-item.is in
    let rest = drop (i + 1) entries in (
      with_number number so.0,
      c.in_ok-take.ensures.held so.0 so.1,
      ap (λ n. noted c.take.new.found.first (entry_faults k n (with_number number so.0) rest)) c.after_entry-next.ensures
          ∙ entry_next k c.loop-entry.next so.0 entries i e number c.loop-entry.found.first c.take.new.found.first _ at is so.2
          (c.in_ok-take.ensures.found so.0 so.1 ∙ ap (λ p. noted c.loop-entry.found.first (new_number rows.BadValue p so.0 number)) c.entry_place.ensures),
      ap (λ n. c.add_entry.new.rows ++ entries_of k n rest) c.after_entry-next.ensures ∙ rows_next k c.loop-entry.next entries i e number c.loop-entry.rows c.add_entry.new.rows _ at is so.3 c.in_ok-add_entry.ensures,
      next_within c.loop-entry.next _ number so.4 c.entry_number-number.ensures.most c.after_entry-next.ensures,
    )
