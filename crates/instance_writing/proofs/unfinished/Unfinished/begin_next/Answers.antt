use Rattle.std.proofs.Common.{ap, refl}
use Rattle.graph_arena.specs.Seen.{view_slice, view_slices}
use Rattle.value_parts.specs.SlicedType.{rows_of}
use Rattle.instance_writing.specs.Formats.{view_format}
use Rattle.instance_writing.specs.Opened.{is_first, refer_to}
use Rattle.instance_writing.proofs.Steps.{first-below, begun-next, begun-fits, none-left}
use Rattle.instance_writing.proofs.unfinished.Unfinished.begin_next.Goals as goal

pub begin_slice-requires-clause-names : goal.begin_slice-requires-clause-names
begin_slice-requires-clause-names c =
    (first-below c.args.desk.now.table.count (view_slice c.in-Some.slice.now) (view_slices c.in-Some.others.now) (view_slices c.args.self.now.slices.now) c.requires.fits.names (ap view_slices c.in-Some.ensures.cases.0)).0

pub returns-in_ok-self-in-Some-clause-writes : goal.returns-in_ok-self-in-Some-clause-writes
returns-in_ok-self-in-Some-clause-writes c inside =
    begun-next c.args.sort c.args.by.now.schema.now (view_format c.args.by.now.format) inside (is_first c.args.self.now.current) c.is_first-is_first.result c.is_empty-is_last.result (view_slice c.in-Some.slice.now) (view_slices c.in-Some.others.now) (view_slices c.args.self.now.slices.now)
    c.in_ok-self-in-Some.field-0 (c.args.pen.now, c.args.out.now.items) (c.begin_slice.new.pen, c.begin_slice.new.out.items)
    c.is_first-is_first.ensures (ap view_slices c.in-Some.ensures.cases.0) (none-left c.args.by.now.schema.now (refer_to inside) c.in-Some.others.now c.is_empty-is_last.result c.is_empty-is_last.ensures)
    c.in_ok-self-in-Some.ensures.first (c.in_ok-self-in-Some.ensures.writes inside)

pub returns-in_ok-self-in-Some-clause-fits : goal.returns-in_ok-self-in-Some-clause-fits
returns-in_ok-self-in-Some-clause-fits c =
    begun-fits (rows_of c.args.sort c.args.by.now.schema.now) c.args.desk.now.table.count (view_slice c.in-Some.slice.now) (view_slices c.in-Some.others.now) (view_slices c.args.self.now.slices.now) c.in_ok-self-in-Some.field-0
    (record { current = c.in_ok-self-in-Some.field-0; slices = c.in-Some.others }) c.begin_slice.new.out.items c.requires.fits.names c.requires.fits.slices (ap view_slices c.in-Some.ensures.cases.0) refl refl c.in_ok-self-in-Some.ensures.fits
