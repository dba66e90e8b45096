-- Sessions that were served, what they leave in the passes, and what is told of their links.
use Rattle.std.specs.Prelude.{◌≡◌, ℕ, Bool, false, List, [], ◌∷◌, ◌++◌, length, Option, IfSome}
use Rattle.turnstile.specs.declared.history.Entry.{Entry}
use Rattle.turnstile.specs.declared.turned.Turned.{Ghosts}
use Rattle.turnstile.specs.declared.passes.Pass.{Pass}
use Rattle.turnstile.specs.History.{tickets}
use Rattle.turnstile.specs.Passes.{seen, own}
use Rattle.ice_ports.specs.declared.talk.Talk.{Talk}
use Rattle.ice_ports.specs.Nets.{ToldListener}
use Rattle.ice_messages.specs.declared.message.Call.{Call}
use Rattle.ice_messages.specs.declared.message.Answer.{Answer}
use Rattle.dispatch_pool.specs.declared.object.Object.{Object}
use Rattle.dispatch_pool.specs.declared.lanes.Lanes.{Lanes}
use Rattle.dispatch_pool.specs.declared.lanes.LanePasses.{LanePasses}
use Rattle.talking.specs.declared.end.End.{End}
use Rattle.dispatch_pool.specs.Abreast.{Beside}
use Rattle.dispatch_pool.specs.Rows.{HasInOrder, at_place}
use Rattle.dispatch_pool.specs.Lanes.{AreOf}
use Rattle.dispatch_pool.specs.Handled.{Keys, Handled, turns_of}
use Rattle.talking.specs.Ends.{HasEnd}
use Rattle.dispatch_pool.specs.ServerDid.{ServerDid}
use Rattle.talking.specs.Told.{TrayTells, DoorTells}

-- ---- sessions

-- a connection that was served: what went over its link, the calls that were handled, and its end, or None at want of memory
pub record Session : Type 0 where
  pub talk : Talk
  pub handled : List Handled
  pub end : Option End

abbrev pub talks : List Session → List Talk
talks [] = []
talks (s ∷ ss) = s.talk ∷ talks ss

-- each is what a server did on its connection
abbrev pub AllDid : Keys → ℕ → List Session → Type 0
AllDid keys most [] = Unit {0}
AllDid keys most (s ∷ ss) = ServerDid keys most s.talk s.handled s.end × AllDid keys most ss

-- no session's end is want of memory
abbrev pub AllFed : List Session → Type 0
AllFed [] = Unit {0}
AllFed (s ∷ ss) = HasEnd s.end × AllFed ss

-- none but the last did
abbrev pub OnlyLastLacks : List Session → Type 0
OnlyLastLacks [] = Unit {0}
OnlyLastLacks (s ∷ []) = Unit {0}
OnlyLastLacks (s ∷ t ∷ ss) = HasEnd s.end × OnlyLastLacks (t ∷ ss)

-- ---- what sessions leave in the passes

-- the entries of a session in the history of the object at this place, in the session's order
abbrev pub entries_at : ℕ → Session → List (Entry Call Answer)
entries_at i s = at_place i (turns_of s.handled)

-- each session's entries stand in the history, in the session's order
abbrev pub AllStand : ℕ → List (Entry Call Answer) → List Session → Type 0
AllStand i history [] = Unit {0}
AllStand i history (s ∷ ss) = HasInOrder history (entries_at i s) × AllStand i history ss

-- the tickets of these entries, session by session
abbrev pub tickets_at : ℕ → List Session → List ℕ
tickets_at i [] = []
tickets_at i (s ∷ ss) = tickets (entries_at i s) ++ tickets_at i ss

-- passes are the caller's, whose own calls from before stay; or were split off from them, without calls of their own
pub data Side : Type 0 where
  callers : Side
  split_off : Side

abbrev pub earlier : Side → List ℕ → List ℕ
earlier callers tickets = tickets
earlier split_off tickets = []

module _ {g : Ghosts Object Call Answer} where
  -- The pass q, which comes from p, was served with: it has seen more than p had, the sessions' entries stand there, and
  -- its own calls are those from before and then just these
  pub record PassServed (side : Side) (i : ℕ) (p q : Pass Object Call Answer g) (ss : List Session) : Type 0 where
    pub more : List (Entry Call Answer)
    pub seen_is : seen q ≡ seen p ++ more
    pub stand : AllStand i more ss
    pub own_is : own q ≡ earlier side (own p) ++ tickets_at i ss

  abbrev pub RowServed : Side → List (Pass Object Call Answer g) → List (Pass Object Call Answer g) → List Session → Type 0
  RowServed side ps qs ss = Beside {A = Pass Object Call Answer g} {B = Pass Object Call Answer g} (λ i p q. PassServed side i p q ss) ps qs

-- the passes come from these, where they are known
abbrev pub ServedWith : Side → Option LanePasses → LanePasses → List Session → Type 0
ServedWith side from now ss = IfSome from (λ old. RowServed side old.passes.items now.passes.items ss)

-- ---- a thread that serves, and all of them

-- A thread has served so many sessions, none more where memory lacked: its passes were served with, its tray has their links
pub record HasServed (side : Side) (lanes : Lanes) (most : ℕ) (first : Option ToldListener) (from : Option LanePasses) (tray : Option (List Talk)) (passes : LanePasses) (amount : ℕ) (starved : Bool) : Type 0 where
  pub of : AreOf lanes passes
  pub sessions : List Session
  pub did : AllDid lanes.keys most sessions
  pub served : ServedWith side from passes sessions
  pub tells : TrayTells first tray (talks sessions)
  pub count : amount ≡ length sessions
  pub fed : starved ≡ false → AllFed sessions
  pub lacked : OnlyLastLacks sessions

-- So many links were served and taken back, and the caller's passes were served with
pub record AllServed (lanes : Lanes) (most : ℕ) (first : Option ToldListener) (from : Option LanePasses) (given : ℕ) (door : Option ToldListener) (passes : LanePasses) (amount : ℕ) (starved : Bool) : Type 0 where
  pub of : AreOf lanes passes
  pub sessions : List Session
  pub did : AllDid lanes.keys most sessions
  pub served : ServedWith callers from passes sessions
  pub tells : DoorTells first given door (talks sessions)
  pub count : amount ≡ length sessions
  pub fed : starved ≡ false → AllFed sessions
