use Rattle.ice_encoding.specs.Value.{SpellsPlainValue, plain_value_at}
use Rattle.ice_encoding.specs.Exceptions.{SpellsUserException, user_exception_at}
use Rattle.ice_encoding.specs.Instances.{SpellsGraph, graph_at}
use Rattle.graph_laws.proofs.Cuts.{cut_input, cut_short}
use Rattle.graph_laws.proofs.defect_laws.cut_value.Goals as goal

pub returns-clause-graphs : goal.returns-clause-graphs
returns-clause-graphs c = λ t reach shape. cut_input (graph_at t reach shape) (SpellsGraph t reach shape)

pub returns-clause-exceptions : goal.returns-clause-exceptions
returns-clause-exceptions c = λ t reach. cut_input (user_exception_at t reach) (SpellsUserException t reach)

pub returns-clause-values : goal.returns-clause-values
returns-clause-values c = λ t kind. cut_input (plain_value_at t kind) (SpellsPlainValue t kind)

pub returns-clause-behind : goal.returns-clause-behind
returns-clause-behind c = cut_short
