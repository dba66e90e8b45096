use Rattle.std.proofs.Common.{◌≡◌, ℕ, true, Option, Some, sym, subst}
use Rattle.ice_encoding.specs.Instances.{class_fits}
use Rattle.graph_laws.proofs.Related.{related}
use Rattle.canonical_inputs.proofs.entry.fits.Goals as goal

pub returns-in-Some : goal.returns-in-Some
returns-in-Some c = λ yes.
    subst (λ (d : Option ℕ). class_fits c.args.schema.now d (Some c.args.class) ≡ true) (sym c.in-Some.is)
    ((related c.args.schema.now c.args.class c.in-Some.base c.rules.ensures).1 (c.is_a.ensures.0 yes))
