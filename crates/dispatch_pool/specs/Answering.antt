-- A turn of an object.
use Rattle.ice_messages.specs.declared.message.Call.{Call}
use Rattle.ice_messages.specs.declared.message.Answer.{Answer}
use Rattle.object_adapter.specs.declared.servant.Servant.{Servant}
use Rattle.object_adapter.specs.Servants.{Answered}
use Rattle.object_adapter.specs.Replies.{CanReply}

-- it answers the call, and a reply can be written of its answer
abbrev pub Answers : Servant → Call → Answer → Servant → Type 0
Answers old call answer new = Answered old call answer new × CanReply call answer
