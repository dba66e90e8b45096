use Rattle.std.proofs.Common.{◌≡◌, length, None, Some, sym, subst}
use Rattle.slice_syntax.specs.declared.tree.Item.TheVariants as items
use Rattle.slice_meaning.specs.Faults.{faults}
use Rattle.slice_meaning.specs.After.{interface_at}
use Rattle.slice_meaning.specs.Rows.{KnowsRows}
use Rattle.slice_meaning.specs.Checking.{noted}
use Rattle.slice_faults.specs.Held.{known_of}
use Rattle.slice_faults.proofs.Reopened.{IsOpen}
use Rattle.slice_faults.proofs.InterfaceFaults.{interface_noted, interface_ready, interface_fits}
use Rattle.slice_faults.proofs.interfaces.defined.Goals as goal

fault : (c : goal.After-as_slice-then-is_none-2) → c.note_body.new.found.first ≡ noted None (faults (known_of c.args.known.now) (items.Interface c.args.word.now c.args.bases.now (Some c.args.ops.now)))
fault c = interface_noted (known_of c.args.known.now) (known_of c.put_name.new.known) c.args.word.now c.args.bases.now c.as_slice.result.now c.args.ops.now c.as_slice-2.result.now c.new-found.result.first c.note_name.new.found.first
    c.note_body.new.found.first c.new-found.ensures c.as_slice.ensures c.as_slice-2.ensures c.in_ok-put_name.ensures.named c.in_ok-note_name.ensures c.in_ok-note_body.ensures

rows : (c : goal.After-as_slice-then-is_none-2) → KnowsRows (known_of c.put_name.new.known)
rows c = subst KnowsRows (sym c.in_ok-put_name.ensures.named) (c.rows_known.ensures.interface (known_of c.args.known.now) c.args.word.now c.requires.kept.rows)

open_row : (c : goal.After-as_slice-then-is_none-2) → IsOpen c.put_name.new.known.rows.defined_interfaces (interface_at (known_of c.put_name.new.known) c.args.word.now) (length c.put_name.new.known.rows.interfaces)
open_row c = interface_ready (known_of c.args.known.now) (known_of c.put_name.new.known) c.args.word.now c.args.bases.now c.args.ops.now c.note_body.new.found.first c.is_none.result c.in_ok-put_name.ensures.named (rows c)
    c.in_ok-put_name.ensures.undefined c.is_none.ensures c.if-is_none.true (fault c)

pub fill-requires-clause-there : goal.fill-requires-clause-there
fill-requires-clause-there c = (open_row c).there

pub fill-requires-clause-undefined : goal.fill-requires-clause-undefined
fill-requires-clause-undefined c = (open_row c).undefined

pub fill-requires-clause-fits : goal.fill-requires-clause-fits
fill-requires-clause-fits c = interface_fits (known_of c.args.known.now) (known_of c.put_name.new.known) c.args.word.now c.args.bases.now c.as_slice-then-is_none.result.now c.args.ops.now c.as_slice-then-is_none-2.result.now
    c.note_body.new.found.first c.is_none.result c.as_slice-then-is_none.ensures c.as_slice-then-is_none-2.ensures c.in_ok-put_name.ensures.named
    (c.sound_fits.ensures.interfaces (known_of c.args.known.now) c.args.word.now c.args.bases.now c.args.ops.now (c.rows_known.ensures.interface (known_of c.args.known.now) c.args.word.now c.requires.kept.rows) c.requires.plain)
    c.is_none.ensures c.if-is_none.true (fault c)
