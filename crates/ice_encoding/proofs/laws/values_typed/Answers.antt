use Rattle.ice_encoding.proofs.Plain.{plain_typed, read_typed}
use Rattle.ice_encoding.proofs.laws.values_typed.Goals as goal

pub returns-clause-read : goal.returns-clause-read
returns-clause-read c = λ t kind bytes v rules. plain_typed t kind rules bytes v

pub returns-clause-written : goal.returns-clause-written
returns-clause-written c = λ t kind. read_typed t kind
