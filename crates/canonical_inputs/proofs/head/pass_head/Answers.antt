use Rattle.canonical_inputs.proofs.Fronts.{byte_passes}
use Rattle.canonical_inputs.proofs.Heads.{head_found}
use Rattle.canonical_inputs.proofs.head.pass_head.Goals as goal

pub returns : goal.returns
returns c =
    let t = c.args.schema.now in
    let input = c.args.input.now in
    let found = c.in_ok-flags.ensures.lookup in
    head_found t input c.args.at c.args.ids.now.items c.pass_id.new.ids.items _ (byte_passes t input c.args.at c.in_ok-flags.field-0.now found.3.0 found.1) c.in_ok-class.ensures
