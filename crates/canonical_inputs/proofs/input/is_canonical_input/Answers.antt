use Rattle.canonical_inputs.specs.Written.{one_member}
use Rattle.canonical_inputs.proofs.Alone.{written_stays}
use Rattle.canonical_inputs.proofs.input.is_canonical_input.Goals as goal

pub returns-in-Some : goal.returns-in-Some
returns-in-Some c = λ yes name.
    written_stays c.args.schema.now (one_member name c.args.kind) c.args.input.now c.in-Some.content.now c.rules.ensures c.in-Some.ensures.encapsulated c.in-Some.ensures.short (c.is_canonical_content.ensures yes name)
