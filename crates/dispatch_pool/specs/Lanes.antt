-- What clauses say of lanes and their passes.
use Rattle.std.specs.Prelude.{◌≡◌, ℕ, ◌<◌, List, [], length, slice_index_or}
use Rattle.turnstile.specs.declared.turned.Turned.{Ghosts}
use Rattle.turnstile.specs.declared.ticket_lock.Turnstile.{Turnstile}
use Rattle.turnstile.specs.declared.passes.Pass.{Pass}
use Rattle.turnstile.specs.Passes.{opening, own, IsWhole}
use Rattle.ice_messages.specs.declared.message.Call.{Call}
use Rattle.ice_messages.specs.declared.message.Answer.{Answer}
use Rattle.object_adapter.specs.declared.servant.Servant.{Servant}
use Rattle.dispatch_pool.specs.declared.object.Object.{Object}
use Rattle.dispatch_pool.specs.declared.lanes.Lanes.{Lanes}
use Rattle.dispatch_pool.specs.declared.lanes.LanePasses.{LanePasses}
use Rattle.dispatch_pool.specs.Abreast.{Beside, Abreast}
use Rattle.dispatch_pool.specs.Rows.{RowFits, RowSplit, HasJoined}

-- the turnstile of an object
abbrev pub Stile : Type 0
Stile = Turnstile Object Call Answer

-- one pass of each turnstile of the lanes: each has seen a legal history, and has own calls in it, each once
abbrev pub AreOf : Lanes → LanePasses → Type 0
AreOf lanes passes = RowFits lanes.stiles.items passes.passes.items

-- the history of the turnstile began with this object
abbrev pub Begins : ℕ → Servant → Stile → Type 0
Begins i s t = (opening t).servant ≡ s

-- the histories began with these objects
abbrev pub Opens : List Servant → Lanes → Type 0
Opens servants lanes = Beside Begins servants lanes.stiles.items

module _ {g : Ghosts Object Call Answer} where
  -- no call is own
  abbrev pub RowIsNew : List (Pass Object Call Answer g) → Type 0
  RowIsNew ps = (i : ℕ) (d : Pass Object Call Answer g) → i < length ps → own (slice_index_or ps i d) ≡ []

  -- each has the whole share
  abbrev pub RowIsWhole : List (Pass Object Call Answer g) → Type 0
  RowIsWhole ps = (i : ℕ) (d : Pass Object Call Answer g) → i < length ps → IsWhole (slice_index_or ps i d)

  -- the passes ps became qs when rs were joined into them
  abbrev pub RowJoined : List Stile → List (Pass Object Call Answer g) → List (Pass Object Call Answer g) → List (Pass Object Call Answer g) → Type 0
  RowJoined ts ps rs qs =
      Abreast {A = Pass Object Call Answer g} {B = Pass Object Call Answer g} {C = Pass Object Call Answer g} (λ i p r q. (t : Stile) → HasJoined (slice_index_or ts i t) p r q) ps rs qs

abbrev pub AreNew : LanePasses → Type 0
AreNew passes = RowIsNew passes.passes.items

abbrev pub AreWhole : LanePasses → Type 0
AreWhole passes = RowIsWhole passes.passes.items

-- the passes became `new` when `made` were split off
abbrev pub DidSplit : LanePasses → LanePasses → LanePasses → Type 0
DidSplit old new made = RowSplit old.passes.items made.passes.items new.passes.items

abbrev pub DidJoinAll : Lanes → LanePasses → LanePasses → LanePasses → Type 0
DidJoinAll lanes old other new = RowJoined lanes.stiles.items old.passes.items other.passes.items new.passes.items
