-- What holds of the answers of objects.
use Rattle.std.specs.Prelude.{◌≢◌}
use Rattle.ice_messages.specs.declared.message.Call.{Call}
use Rattle.ice_messages.specs.declared.message.Answer.{Answer}
use Rattle.ice_messages.specs.Calls.{status_of}
use Rattle.object_adapter.specs.declared.servant.Servant.{Servant}
use Rattle.object_adapter.specs.Servants.{Answered}

-- it does not say that the object or the facet is not there
abbrev pub IsDispatched : Answer → Type 0
IsDispatched answer = (status_of answer ≢ 2) × (status_of answer ≢ 3)

-- no object answers that it is not there
abbrev pub ObjectsAreThere : Type 0
ObjectsAreThere = (old : Servant) (call : Call) (answer : Answer) (new : Servant) → Answered old call answer new → IsDispatched answer
