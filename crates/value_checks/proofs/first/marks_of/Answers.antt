use Rattle.std.proofs.Common.{◌+◌, ◌∙◌, true, take, slice_index_or, arith}
use Rattle.std.proofs.lemmas.List.{length-set, take_more}
use Rattle.graph_arena.proofs.Listed.{marks-set}
use Rattle.graph_arena.proofs.Taking.{below-at}
use Rattle.value_checks.proofs.first.marks_of.Goals as goal

pub index_mut-requires : goal.index_mut-requires
index_mut-requires c = omega (arith, below-at c.args.count c.args.places.now c.loop-place.place-index c.requires c.loop-place-test.true, c.loop-place.invariant.size)

pub loop-place-preserved : goal.loop-place-preserved
loop-place-preserved c =
    let i = c.loop-place.place-index in
    let n = slice_index_or c.args.places.now i 0 in
    let below = below-at c.args.count c.args.places.now i c.requires c.loop-place-test.true in
    record {
      size = length-set c.loop-place.marks.items n true ∙ c.loop-place.invariant.size;
      marked = marks-set c.loop-place.marks.items (take i c.args.places.now) (take (i + 1) c.args.places.now) n c.loop-place.invariant.marked
          (omega (arith, below, c.loop-place.invariant.size)) (take_more c.args.places.now i 0 c.loop-place-test.true);
    }
