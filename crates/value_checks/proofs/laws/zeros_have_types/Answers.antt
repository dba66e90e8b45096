use Rattle.ice_types.specs.declared.schema.TheConstants.{MOST_DEPTH}
use Rattle.ice_encoding.specs.TypedGraph.{RefersIn}
use Rattle.value_checks.specs.References.{AnyRefers}
use Rattle.value_checks.proofs.ZeroTyped.{zero_typed}
use Rattle.value_checks.proofs.laws.zeros_have_types.Goals as goal

pub returns-clause-alone : goal.returns-clause-alone
returns-clause-alone c t kind rules h = zero_typed t rules AnyRefers (λ declared. tt) MOST_DEPTH kind h.0 h.1

pub returns-clause-inside : goal.returns-clause-inside
returns-clause-inside c t kind instances rules h = zero_typed t rules (RefersIn t instances) (λ declared. tt) MOST_DEPTH kind h.0 h.1
