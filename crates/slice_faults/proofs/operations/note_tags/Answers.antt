use Rattle.std.proofs.Common.{[], cond, map}
use Rattle.slice_meaning.specs.Members.{with_tag}
use Rattle.slice_faults.specs.Held.{known_of}
use Rattle.slice_faults.specs.Sides.{is_side, side}
use Rattle.slice_faults.proofs.Noting.{front}
use Rattle.slice_faults.proofs.OpFaults.{first_tag, side_next}
use Rattle.slice_faults.proofs.operations.note_tags.Goals as goal

pub loop-param-init : goal.loop-param-init
loop-param-init c =
    let k = known_of c.args.known.now in (
      with_tag k [] c.args.first.now,
      c.in_ok-note_tag.ensures.held [] c.new-numbers.ensures,
      first_tag k c.args.first.now (map (λ f. f.tag) (side c.args.out c.args.params.now)) c.args.found.now.first c.note_tag.new.found.first (c.in_ok-note_tag.ensures.found [] c.new-numbers.ensures),
    )

pub loop-param-preserved : goal.loop-param-preserved
loop-param-preserved c =
    let k = known_of c.args.known.now in
    let i = c.loop-param.invariant in
    let p = c.param-item.result in (
      cond (is_side c.args.out p) (with_tag k i.0 p.field.tag) i.0,
      c.in_ok-note_side_tag.ensures.held i.0 i.1,
      side_next k i.0 c.args.out c.args.params.now c.loop-param.param-index p c.loop-param.found.first c.note_side_tag.new.found.first _
          (front c.args.params.now c.loop-param.param-index p c.loop-param-test.true c.param-item.is) i.2 (c.in_ok-note_side_tag.ensures.found i.0 i.1),
    )
