use Rattle.slice_meaning.specs.Uses.{interface_named}
use Rattle.slice_meaning.specs.Faults.{with_base}
use Rattle.slice_faults.specs.Held.{known_of}
use Rattle.slice_faults.proofs.Noting.{front}
use Rattle.slice_faults.proofs.OpFaults.{base_next}
use Rattle.slice_faults.proofs.interfaces.note_bases.Goals as goal

pub loop-path-preserved : goal.loop-path-preserved
loop-path-preserved c =
    let k = known_of c.args.known.now in
    let i = c.loop-path.invariant in
    let path = c.path-item.result in (
      with_base i.0 (interface_named k path),
      c.in_ok-note_base.ensures.held i.0 i.1,
      base_next k i.0 c.args.bases.now c.loop-path.path-index path c.loop-path.found.first c.note_base.new.found.first _
          (front c.args.bases.now c.loop-path.path-index path c.loop-path-test.true c.path-item.is) i.2 (c.in_ok-note_base.ensures.found i.0 i.1),
    )
