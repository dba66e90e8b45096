use Rattle.std.proofs.Common.{◌≡◌, Bool}
use denote.Enum.Bare.{sameb}
use Rattle.ice_gateway.specs.contracts.serving.Turn.{the_type}
use Rattle.ice_gateway.specs.declared.serving.Turn.{Turn}
use Rattle.ice_gateway.specs.declared.serving.Turn.TheVariants as turns
use Rattle.ice_gateway.specs.Sessions.{fails, starves}
use Rattle.ice_gateway.proofs.serving.gathered.Goals as goal

failed_is : (turn : Turn) (b : Bool) → b ≡ sameb the_type turn turns.Failed → b ≡ fails turn
failed_is turns.Served b e = e
failed_is turns.Starved b e = e
failed_is turns.Over b e = e
failed_is turns.Failed b e = e

starved_is : (turn : Turn) (b : Bool) → b ≡ sameb the_type turn turns.Starved → b ≡ starves turn
starved_is turns.Served b e = e
starved_is turns.Starved b e = e
starved_is turns.Over b e = e
starved_is turns.Failed b e = e

pub returns-clause-failed : goal.returns-clause-failed
returns-clause-failed g c = failed_is c.args.turn c.eq.result c.eq.ensures

pub returns-clause-starved : goal.returns-clause-starved
returns-clause-starved g c = starved_is c.args.turn c.eq-2.result c.eq-2.ensures
