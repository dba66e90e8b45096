-- Connections that were served, one after the other, and what is told of their links.
use Rattle.std.specs.Prelude.{◌≡◌, ℕ, Bool, true, false, List, [], ◌∷◌, ◌++◌, length, Option}
use Rattle.ice_ports.specs.declared.talk.Talk.{Talk}
use Rattle.ice_ports.specs.Nets.{ToldListener}
use Rattle.ice_client.specs.ClientDid.{Tried}
use Rattle.talking.specs.declared.end.End.{End}
use Rattle.talking.specs.Ends.{HasEnd}
use Rattle.talking.specs.Told.{TrayTells, DoorTells}
use Rattle.ice_gateway.specs.declared.serving.Turn.{Turn}
use Rattle.ice_gateway.specs.declared.serving.Turn.TheVariants.{Served, Starved, Over, Failed}
use Rattle.ice_gateway.specs.Gate.{Gate}
use Rattle.ice_gateway.specs.Runs.{NetSeen, Ran}
use Rattle.ice_gateway.specs.GateDid.{GateDid}

-- a connection that was served: what went over its link, the attempts at servers, message by message, and its end, or None at
-- want of memory
pub record Session : Type 0 where
  pub talk : Talk
  pub runs : List (List Tried)
  pub end : Option End

abbrev pub talks : List Session → List Talk
talks [] = []
talks (s ∷ ss) = s.talk ∷ talks ss

-- the attempts of all, in order
abbrev pub all_runs : List Session → List (List Tried)
all_runs [] = []
all_runs (s ∷ ss) = s.runs ++ all_runs ss

-- each is what a gateway did on its connection
abbrev pub AllDid : Gate → ℕ → List Session → Type 0
AllDid gate most [] = Unit {0}
AllDid gate most (s ∷ ss) = GateDid gate most s.talk s.runs s.end × AllDid gate most ss

-- no session's end is want of memory
abbrev pub AllFed : List Session → Type 0
AllFed [] = Unit {0}
AllFed (s ∷ ss) = HasEnd s.end × AllFed ss

-- ---- all of them

-- So many links were served: the tray tells of them, and the net of the attempts at servers
pub record HasServed (gate : Gate) (most : ℕ) (first : Option ToldListener) (door : Option ToldListener) (tray : Option (List Talk)) (old new : NetSeen) (amount : ℕ) (starved : Bool) : Type 0 where
  pub sessions : List Session
  pub did : AllDid gate most sessions
  pub ran : Ran gate.endpoints (all_runs sessions) old new
  pub gave : DoorTells first amount door []
  pub tells : TrayTells first tray (talks sessions)
  pub count : amount ≡ length sessions
  pub fed : starved ≡ false → AllFed sessions

-- So many links were served and taken back
pub record AllServed (gate : Gate) (most : ℕ) (first door : Option ToldListener) (old new : NetSeen) (amount : ℕ) (starved : Bool) : Type 0 where
  pub sessions : List Session
  pub did : AllDid gate most sessions
  pub ran : Ran gate.endpoints (all_runs sessions) old new
  pub tells : DoorTells first amount door (talks sessions)
  pub count : amount ≡ length sessions
  pub fed : starved ≡ false → AllFed sessions

-- ---- one link

-- how many links were served in a turn
abbrev pub serves : Turn → ℕ
serves Served = 1
serves Starved = 1
serves Over = 0
serves Failed = 0

-- memory lacked
abbrev pub starves : Turn → Bool
starves Served = false
starves Starved = true
starves Over = false
starves Failed = false

-- the listener had no more
abbrev pub runs_out : Turn → Bool
runs_out Served = false
runs_out Starved = false
runs_out Over = true
runs_out Failed = false

-- an accept failed
abbrev pub fails : Turn → Bool
fails Served = false
fails Starved = false
fails Over = false
fails Failed = true
