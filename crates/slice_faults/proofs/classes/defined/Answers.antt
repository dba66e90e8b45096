use Rattle.std.proofs.Common.{◌≡◌, length, None, Some, sym, subst}
use Rattle.slice_syntax.specs.declared.tree.Item.TheVariants as items
use Rattle.slice_meaning.specs.Faults.{faults}
use Rattle.slice_meaning.specs.After.{class_at}
use Rattle.slice_meaning.specs.Rows.{KnowsRows}
use Rattle.slice_meaning.specs.Checking.{noted}
use Rattle.slice_faults.specs.Held.{known_of}
use Rattle.slice_faults.proofs.Reopened.{IsOpen}
use Rattle.slice_faults.proofs.ClassFaults.{class_noted, class_ready, class_fits, compact_fits}
use Rattle.slice_faults.proofs.classes.defined.Goals as goal

pub returns-in_ok-fill-clause-fault : goal.returns-in_ok-fill-clause-fault
returns-in_ok-fill-clause-fault c = class_noted (known_of c.args.known.now) (known_of c.put_name.new.known) c.args.word.now c.args.compact.now c.args.base.now c.args.fields.now c.as_slice.result.now c.new-found.result.first c.note_name.new.found.first c.note_compact.new.found.first c.note_base.new.found.first
    c.note_fields.new.found.first c.new-found.ensures c.as_slice.ensures c.in_ok-put_name.ensures.named c.in_ok-note_name.ensures c.note_compact.ensures c.note_base.ensures c.in_ok-note_fields.ensures

pub returns-else-is_none-clause-fault : goal.returns-else-is_none-clause-fault
returns-else-is_none-clause-fault c = class_noted (known_of c.args.known.now) (known_of c.put_name.new.known) c.args.word.now c.args.compact.now c.args.base.now c.args.fields.now c.as_slice.result.now c.new-found.result.first c.note_name.new.found.first c.note_compact.new.found.first c.note_base.new.found.first
    c.note_fields.new.found.first c.new-found.ensures c.as_slice.ensures c.in_ok-put_name.ensures.named c.in_ok-note_name.ensures c.note_compact.ensures c.note_base.ensures c.in_ok-note_fields.ensures

fault : (c : goal.After-as_slice-then-is_none) → c.note_fields.new.found.first ≡ noted None (faults (known_of c.args.known.now) (items.Class c.args.word.now c.args.compact.now c.args.base.now (Some c.args.fields.now)))
fault c = class_noted (known_of c.args.known.now) (known_of c.put_name.new.known) c.args.word.now c.args.compact.now c.args.base.now c.args.fields.now c.as_slice.result.now c.new-found.result.first c.note_name.new.found.first c.note_compact.new.found.first c.note_base.new.found.first
    c.note_fields.new.found.first c.new-found.ensures c.as_slice.ensures c.in_ok-put_name.ensures.named c.in_ok-note_name.ensures c.note_compact.ensures c.note_base.ensures c.in_ok-note_fields.ensures

rows : (c : goal.After-as_slice-then-is_none) → KnowsRows (known_of c.put_name.new.known)
rows c = subst KnowsRows (sym c.in_ok-put_name.ensures.named) (c.rows_known.ensures.class (known_of c.args.known.now) c.args.word.now c.requires.kept.rows)

open_row : (c : goal.After-as_slice-then-is_none) → IsOpen c.put_name.new.known.rows.defined_classes (class_at (known_of c.put_name.new.known) c.args.word.now) (length c.put_name.new.known.rows.classes)
open_row c = class_ready (known_of c.args.known.now) (known_of c.put_name.new.known) c.args.word.now c.args.compact.now c.args.base.now c.args.fields.now c.note_fields.new.found.first c.is_none.result c.in_ok-put_name.ensures.named (rows c)
    c.in_ok-put_name.ensures.undefined c.is_none.ensures c.if-is_none.true (fault c)

pub fill-requires-clause-there : goal.fill-requires-clause-there
fill-requires-clause-there c = (open_row c).there

pub fill-requires-clause-undefined : goal.fill-requires-clause-undefined
fill-requires-clause-undefined c = (open_row c).undefined

pub fill-requires-clause-fits : goal.fill-requires-clause-fits
fill-requires-clause-fits c = class_fits (known_of c.args.known.now) (known_of c.put_name.new.known) c.args.word.now c.args.compact.now c.args.base.now c.args.fields.now c.as_slice-then-is_none.result.now c.note_fields.new.found.first c.is_none.result
    c.as_slice-then-is_none.ensures c.in_ok-put_name.ensures.named (rows c) (c.sound_fits.ensures.classes (known_of c.args.known.now) c.args.word.now c.args.compact.now c.args.base.now c.args.fields.now) c.is_none.ensures c.if-is_none.true (fault c)

pub fill-requires-clause-compact : goal.fill-requires-clause-compact
fill-requires-clause-compact c = compact_fits (known_of c.args.known.now) (known_of c.put_name.new.known) c.args.word.now c.args.compact.now c.args.base.now c.args.fields.now c.note_fields.new.found.first c.is_none.result
    c.in_ok-put_name.ensures.named (c.sound_fits.ensures.compact_ids (known_of c.args.known.now) c.args.word.now c.args.compact.now c.args.base.now c.args.fields.now) c.is_none.ensures c.if-is_none.true (fault c)
