use Rattle.graph_laws.proofs.Related.{related}
use Rattle.value_checks.proofs.references.is_a.Goals as goal

pub returns : goal.returns
returns c =
    let both = related c.args.schema.now c.args.class c.args.base c.rules.ensures in
    (λ h. both.1 (c.is_a.ensures.0 h), λ h. c.is_a.ensures.1 (both.0 h))
