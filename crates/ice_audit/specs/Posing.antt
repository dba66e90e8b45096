-- What is kept of the messages of both ends.
use Rattle.std.specs.Prelude.{ℕ, ℤ, List, [], ◌∷◌, ◌++◌, ◌<◌, ◌^◌, length}
use Rattle.ice_messages.specs.declared.message.Call.{Call}
use Rattle.ice_messages.specs.declared.message.Answer.{Answer}
use Rattle.ice_messages.specs.declared.message.Message.{Message}
use Rattle.ice_messages.specs.declared.message.Message.TheVariants.{Request, Batch, Reply, Validate, Close}
use Rattle.ice_messages.specs.Calls.{status_of}
use Rattle.ice_audit.specs.declared.client.Posed.{Posed}
use Rattle.ice_audit.specs.declared.client.Posed.TheVariants as posed
use Rattle.ice_audit.specs.Pieces.{Piece}
use Rattle.ice_audit.specs.Captured.{is_asked, due_if}

abbrev pub request_posed : ℤ → List Posed
request_posed id = posed.Request id ∷ []

abbrev pub batch_posed : List Call → List Posed
batch_posed [] = []
batch_posed (c ∷ cs) = posed.Batch (length (c ∷ cs)) ∷ []

abbrev pub posed_by : Message → List Posed
posed_by (Request id c) = request_posed id
posed_by (Batch calls) = batch_posed calls
posed_by (Reply id a) = []
posed_by Validate = []
posed_by Close = []

abbrev pub posed_in : List Piece → List Posed
posed_in [] = []
posed_in (p ∷ ps) = posed_by p.0 ++ posed_in ps

-- the reply that a request asks for, by its id
abbrev pub request_due : ℤ → List ℤ
request_due id = due_if (is_asked id) id []

abbrev pub due_by : Message → List ℤ
due_by (Request id c) = request_due id
due_by (Batch calls) = []
due_by (Reply id a) = []
due_by Validate = []
due_by Close = []

abbrev pub statuses_by : Message → List ℕ
statuses_by (Request id c) = []
statuses_by (Batch calls) = []
statuses_by (Reply id a) = status_of a ∷ []
statuses_by Validate = []
statuses_by Close = []

abbrev pub statuses : List (ℤ × Answer) → List ℕ
statuses [] = []
statuses (r ∷ rs) = status_of r.1 ∷ statuses rs

-- the calls of a batch are as many as its count can tell
abbrev pub HasCount : Message → Type 0
HasCount (Request id c) = Unit {0}
HasCount (Batch calls) = length calls < 2 ^ 31
HasCount (Reply id a) = Unit {0}
HasCount Validate = Unit {0}
HasCount Close = Unit {0}
