-- Calls that were handled, and what is said of them.
use Rattle.std.specs.Prelude.{ℕ, ℤ, pos, negsuc, zero, suc, ◌≡◌, ◌⊎◌, List, [], ◌∷◌, ◌++◌, map}
use Rattle.ice_types.specs.declared.identity.Identity.{Identity}
use Rattle.ice_messages.specs.declared.message.Call.{Call}
use Rattle.ice_messages.specs.declared.message.Answer.{Answer}
use Rattle.ice_messages.specs.declared.message.Message.{Message}
use Rattle.ice_messages.specs.declared.message.Message.TheVariants.{Request, Batch, Reply, Validate, Close}
use Rattle.object_adapter.specs.declared.keys.Found.TheVariants.{At, NoObject, NoFacet}
use Rattle.object_adapter.specs.Keys.{IsFound}
use Rattle.object_adapter.specs.Laws.{IsDispatched}
use Rattle.object_adapter.specs.Refusals.{missed}
use Rattle.talking.specs.Said.{all_of}
use Rattle.dispatch_pool.specs.Rows.{Turn}
use Rattle.dispatch_pool.specs.Turns.{turn_at}

-- the keys of objects, by place
abbrev pub Keys : Type 0
Keys = List (Identity × List ℕ)

-- what a call came to: a turn of the object at this place, with this ticket; or a refusal without a turn
pub data Outcome : Type 0 where
  had_turn : ℕ → ℕ → Answer → Outcome
  refused : Answer → Outcome

-- a call, and the id that its reply is to have, or 0 where none is asked for
pub record Asked : Type 0 where
  pub id : ℤ
  pub call : Call

pub record Handled : Type 0 where
  pub asked : Asked
  pub outcome : Outcome

abbrev pub answer_of : Outcome → Answer
answer_of (had_turn place ticket answer) = answer
answer_of (refused answer) = answer

-- a turn of the object that the keys give, which answers no refusal; or the refusal that they give
abbrev pub IsOutcome : Keys → Call → Outcome → Type 0
IsOutcome keys call (had_turn place ticket answer) = IsFound keys call.identity call.facet (At place) × IsDispatched answer
IsOutcome keys call (refused answer) =
    (IsFound keys call.identity call.facet NoObject × (answer ≡ missed 2 call)) ⊎ (IsFound keys call.identity call.facet NoFacet × (answer ≡ missed 3 call))

abbrev pub AreOutcomes : Keys → List Handled → Type 0
AreOutcomes keys [] = Unit {0}
AreOutcomes keys (h ∷ hs) = IsOutcome keys h.asked.call h.outcome × AreOutcomes keys hs

-- ---- the turns of calls that were handled

abbrev pub turn_of : Call → Outcome → List (Turn Call Answer)
turn_of call (had_turn place ticket answer) = turn_at place ticket call answer ∷ []
turn_of call (refused answer) = []

abbrev pub turns_of : List Handled → List (Turn Call Answer)
turns_of [] = []
turns_of (h ∷ hs) = turn_of h.asked.call h.outcome ++ turns_of hs

-- ---- the calls of messages

-- the calls of a batch
abbrev pub unasked : List Call → List Asked
unasked [] = []
unasked (c ∷ cs) = record { id = pos 0; call = c } ∷ unasked cs

abbrev pub asked_of : Message → List Asked
asked_of (Request id c) = record { id = id; call = c } ∷ []
asked_of (Batch cs) = unasked cs
asked_of (Reply id a) = []
asked_of Validate = []
asked_of Close = []

abbrev pub asked : List Message → List Asked
asked [] = []
asked (m ∷ ms) = asked_of m ++ asked ms

abbrev pub asking : List Handled → List Asked
asking [] = []
asking (h ∷ hs) = h.asked ∷ asking hs

-- ---- their replies

-- an id of 0 asks for no reply
abbrev pub reply_of : ℤ → Answer → List Message
reply_of (pos zero) answer = []
reply_of (pos (suc n)) answer = Reply (pos (suc n)) answer ∷ []
reply_of (negsuc n) answer = Reply (negsuc n) answer ∷ []

-- that of each call, or none
abbrev pub reply_steps : List Handled → List (List Message)
reply_steps = map (λ (h : Handled). reply_of h.asked.id (answer_of h.outcome))

abbrev pub replies : List Handled → List Message
replies handled = all_of (reply_steps handled)
