use Rattle.canonical_inputs.proofs.Assembled.{assembled}
use Rattle.canonical_inputs.proofs.laws.canonical_references_written.Goals as goal

pub returns : goal.returns
returns c = assembled
