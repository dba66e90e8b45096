use Rattle.ice_prims.specs.Rest.{whole}
use Rattle.graph_laws.proofs.Encapsulations.{plain_agrees, value_input_agrees}
use Rattle.graph_laws.proofs.defect_laws.values_break.Goals as goal

pub returns-clause-values : goal.returns-clause-values
returns-clause-values c = λ t kind r fault is fits. let a = plain_agrees t kind is in (a.broken r fault fits, a.breaks r fault)

pub returns-clause-inputs : goal.returns-clause-inputs
returns-clause-inputs c = λ t kind bytes fault is fits. let a = value_input_agrees t kind is in (a.broken (whole bytes) fault fits, a.breaks (whole bytes) fault)
