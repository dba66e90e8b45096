-- Listeners and nets in memory, by the plans of their links.
use Rattle.std.specs.Prelude.{◌≡◌, ℕ, zero, suc, Bool, true, false, ◌||◌, List, [], ◌∷◌, ◌++◌, length, drop, nat_lt, Option, None, Some, is_some, not, if◌then◌else◌}
use Rattle.ice_ports.specs.Failures.{count_after}
use Rattle.ice_ports.specs.Nets.{ToldListener, ToldNet, asked_for, connected, asked_to_listen, behind, has_failed}
use Rattle.ice_ports.specs.Plan.{new_plan}
use Rattle.ice_ports.specs.MemLinks.{MemTalk}
use Rattle.ice_ports.specs.declared.asked.Asked.{Asked}
use Rattle.ice_ports.specs.declared.fault_plan.FaultPlan.{FaultPlan}
use Rattle.ice_ports.specs.declared.mem_listener.Incoming.{Incoming}
use Rattle.ice_ports.specs.declared.plan_of_link.Plan.{Plan}
use Rattle.ice_ports.specs.declared.talk.Talk.{Talk}

-- a listener: the plans of the links to come, which accepts fail, and what it counted and gathered
pub record MemDoor : Type 0 where
  pub port : ℕ
  pub plans : List Plan
  pub accepts : FaultPlan
  pub given : ℕ
  pub nones : ℕ
  pub gathered : List Talk

abbrev pub told_of_door : MemDoor → ToldListener
told_of_door d = record { given = d.given; to_come = length d.plans; gathered = d.gathered }

-- a listener before the first call
abbrev pub new_door : ℕ → Incoming → MemDoor
new_door port incoming = record {
  port = port;
  plans = incoming.seeds;
  accepts = new_plan incoming.accept_fails;
  given = 0;
  nones = 0;
  gathered = [];
}

-- ---- the calls of a net

-- the plans of the connects to come, and what was asked for up to the last
pub record Calls : Type 0 where
  pub plans : List Plan
  pub asked : List Asked

-- the next connect fails: its plan refuses it, or none is left
abbrev pub refuses : List Plan → Bool
refuses [] = true
refuses (plan ∷ others) = plan.refuse

-- how many links these plans give
abbrev pub links_of : List Plan → ℕ
links_of [] = 0
links_of (plan ∷ others) = elim plan.refuse [ true ↦ links_of others | false ↦ suc (links_of others) ]

-- after a connect to this place, which is noted up to the last plan
abbrev pub call_of : List ℕ → ℕ → List Plan → List Asked → Calls
call_of host port [] asked = record { plans = []; asked = asked }
call_of host port (plan ∷ others) asked =
    record { plans = others; asked = asked ++ asked_for host port ∷ [] }

abbrev pub after_call : List ℕ → ℕ → Calls → Calls
after_call host port c = call_of host port c.plans c.asked

-- the first listen, and whether there was another
pub record ListenCalls : Type 0 where
  pub first : Option Asked
  pub again : Bool

-- ---- a net

-- what it tells, the plans of its connects, and those of its listener until it was given
pub record MemWeb : Type 0 where
  pub told : ToldNet
  pub plans : List Plan
  pub incoming : Option Incoming
  pub listen_fails : Bool
  pub failures : ℕ
  pub listen_failures : ℕ

-- before the first call
abbrev pub new_net : List Plan → List Plan → List ℕ → Bool → MemWeb
new_net outgoing incoming accept_fails listen_fails = record {
  told = record {
    talks = [];
    given = 0;
    to_come = links_of outgoing;
    refused = 0;
    asked = [];
    room = length outgoing;
    listened = None;
    listened_again = false;
  };
  plans = outgoing;
  incoming = Some (record { seeds = incoming; accept_fails = accept_fails });
  listen_fails = listen_fails;
  failures = 0;
  listen_failures = 0;
}

abbrev pub after_connect : List ℕ → ℕ → MemWeb → MemWeb
after_connect host port w = record w {
  told = connected host port (refuses w.plans) w.told;
  plans = drop 1 w.plans;
  failures = count_after w.failures (refuses w.plans);
}

-- no listener is given: none is planned, or one was given before
abbrev pub listen_refused : MemWeb → Bool
listen_refused w = w.listen_fails || not (is_some w.incoming)

abbrev pub after_listen : List ℕ → ℕ → MemWeb → MemWeb
after_listen host port w = record w {
  told = asked_to_listen host port w.told;
  incoming = if w.listen_fails then w.incoming else None;
  listen_failures = count_after w.listen_failures (listen_refused w);
}

-- the port of a new listener: the one that was asked for, or 4100 for 0
abbrev pub port_for : ℕ → ℕ
port_for zero = 4100
port_for (suc port) = suc port

-- the listener that was planned, at this port
abbrev pub IsListener : ℕ → Option Incoming → MemDoor → Type 0
IsListener port planned listener =
    (incoming : Incoming) × (planned ≡ Some incoming) × (listener ≡ new_door (port_for port) incoming)

abbrev pub after_hang_up : MemTalk → MemWeb → MemWeb
after_hang_up link w = record w {
  told = record w.told { talks = behind w.told.talks (link.talk ∷ []) };
  failures = count_after w.failures (has_failed link.reads_failed link.writes_failed);
}

abbrev pub after_retire : MemDoor → MemWeb → MemWeb
after_retire listener w = record w {
  told = record w.told { talks = behind w.told.talks listener.gathered };
  listen_failures = count_after w.listen_failures (nat_lt 0 listener.accepts.failures);
}
