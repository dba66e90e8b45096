use Rattle.std.proofs.Common.{refl}
use Rattle.graph_arena.specs.Seen.{view_slice, view_slices}
use Rattle.graph_json.specs.Canonical.{items_noted, slice_noted}
use Rattle.graph_json.proofs.Printing.{all_printed, one_more}
use Rattle.graph_json.proofs.writing.write_slices.Goals as goal

pub loop-slice-preserved : goal.loop-slice-preserved
loop-slice-preserved c =
    one_more (λ slices. items_noted (slice_noted c.args.schema.now) (view_slices slices)) (λ s. slice_noted c.args.schema.now (view_slice s)) (λ x xs. refl)
    c.args.slices.now c.loop-slice.slice-index c.args.out.now c.loop-slice.out c.write_slice.new.out c.slice-item.result c.slice-item.result
    c.loop-slice-test.true c.slice-item.is c.loop-slice.invariant c.in_ok-write_slice.ensures

pub returns : goal.returns
returns c =
    all_printed (λ slices. items_noted (slice_noted c.args.schema.now) (view_slices slices)) refl c.args.slices.now c.loop-slice.slice-index
    c.args.out.now c.loop-slice.out c.end_array.new.self c.end_array.result c.loop-slice-test.false c.loop-slice.invariant c.end_array.ensures
