-- What a call at lanes comes to.
use Rattle.std.specs.Prelude.{◌≡◌, ◌≢◌, ℕ, ◌<◌, List, [], ◌∷◌, length, slice_index_or}
use Rattle.turnstile.specs.declared.turned.Turned.{Ghosts}
use Rattle.turnstile.specs.declared.passes.Pass.{Pass}
use Rattle.turnstile.specs.History.{entry}
use Rattle.turnstile.specs.Passes.{DidTurn}
use Rattle.ice_messages.specs.declared.message.Call.{Call}
use Rattle.ice_messages.specs.declared.message.Answer.{Answer}
use Rattle.object_adapter.specs.Laws.{IsDispatched}
use Rattle.object_adapter.specs.declared.keys.Found.{Found}
use Rattle.object_adapter.specs.declared.keys.Found.TheVariants.{At, NoObject, NoFacet}
use Rattle.object_adapter.specs.Keys.{IsFound}
use Rattle.object_adapter.specs.Refusals.{missed}
use Rattle.object_adapter.specs.Replies.{CanReply}
use Rattle.dispatch_pool.specs.declared.object.Object.{Object}
use Rattle.dispatch_pool.specs.declared.lanes.Lanes.{Lanes}
use Rattle.dispatch_pool.specs.declared.lanes.LanePasses.{LanePasses}
use Rattle.dispatch_pool.specs.Rows.{Turn, RowGrew}
use Rattle.dispatch_pool.specs.Lanes.{Stile}

-- a turn of the object at this place, with this ticket
abbrev pub turn_at : ℕ → ℕ → Call → Answer → Turn Call Answer
turn_at place ticket call answer = record { place = place; entry = entry ticket call answer }

module _ {g : Ghosts Object Call Answer} where
  -- the pass at this place had a turn, and all others are as before
  pub record HadTurn (at : ℕ) (ts : List Stile) (ps qs : List (Pass Object Call Answer g)) (call : Call) (answer : Answer) : Type 0 where
    pub within : at < length ps
    pub turn : (t : Stile) (d : Pass Object Call Answer g) → DidTurn (slice_index_or ts at t) (slice_index_or ps at d) (slice_index_or qs at d) call answer
    pub others : (i : ℕ) (d : Pass Object Call Answer g) → i ≢ at → slice_index_or qs i d ≡ slice_index_or ps i d
    -- the answer of a turn is no refusal
    pub no_refusal : IsDispatched answer
    pub replies : CanReply call answer
    pub ticket : ℕ
    pub grew : RowGrew ps qs (turn_at at ticket call answer ∷ [])

-- the passes became these by exactly these turns, in this order
abbrev pub Grew : LanePasses → LanePasses → List (Turn Call Answer) → Type 0
Grew old new turns = RowGrew old.passes.items new.passes.items turns

abbrev pub DidTurnAt : ℕ → Lanes → LanePasses → LanePasses → Call → Answer → Type 0
DidTurnAt at lanes old new call answer = HadTurn at lanes.stiles.items old.passes.items new.passes.items call answer

abbrev pub ByFound : Found → Lanes → LanePasses → LanePasses → Call → Answer → Type 0
ByFound (At at) lanes old new call answer = DidTurnAt at lanes old new call answer
ByFound NoObject lanes old new call answer = (answer ≡ missed 2 call) × (new ≡ old)
ByFound NoFacet lanes old new call answer = (answer ≡ missed 3 call) × (new ≡ old)

-- one turn of the object that the call names; or a refusal without a turn, where there is no such object or facet
abbrev pub Dispatched : Lanes → LanePasses → LanePasses → Call → Answer → Type 0
Dispatched lanes old new call answer = (found : Found) × IsFound lanes.keys call.identity call.facet found × ByFound found lanes old new call answer
