-- What `gate` does, from its words and what is outside before and after it.
use Rattle.std.specs.Prelude.{ℕ, ◌≡◌, ◌<◌, ◌≤◌, ◌⊎◌, Bool, false, ◌++◌, Option}
use Rattle.std.specs.Io.KnownBytes.{Keeps}
use Rattle.ice_ports.specs.Failures.{one_more, count_after}
use Rattle.ice_ports.specs.Writing.{AppendsPrefix}
use Rattle.ice_ports.specs.Nets.{ToldListener, IsNewListener, told_after, asked_to_listen, came_back, gathered_of}
use Rattle.ice_gateway.specs.Gate.{Gate}
use Rattle.ice_gateway.specs.Runs.{NetSeen}
use Rattle.ice_gateway.specs.Sessions.{AllServed}
use Rattle.node_commands.specs.Outside.{Outside, NoneFailed, ShelfFailed, SinkFailed}
use Rattle.node_commands.specs.Answers.{Answer, read_failed, write_failed, no_memory}
use Rattle.node_commands.specs.Effects.{GetsText}
use Rattle.node_commands.specs.declared.limits.TheConstants.{MOST_MESSAGES}
use Rattle.node_commands.specs.Ends.{End, answered, network_failed, end_status, end_line}
use Rattle.node_commands.specs.Lines.{WritesEnd, listening, served}
use Rattle.talking.specs.Told.{NoneToCome}
use Rattle.gate_command.specs.Words.{GateWords}
use Rattle.gate_command.specs.Decided.{Refuses, Sets}

-- it is the port asked for; the net has chosen it where 0 was asked
abbrev pub IsPort : GateWords → ℕ → Type 0
IsPort c port = 0 < c.port → port ≡ c.port

-- ---- serving

-- the net was asked to listen at HOST and PORT
abbrev pub asked : GateWords → NetSeen → NetSeen
asked c net = record net { told = told_after (asked_to_listen c.host c.port) net.told }

-- Connections were served, one after the other. What was done on each is what a gateway does (`GateDid`), for so many messages
-- at most, and the net tells of all attempts at servers, in the order of the messages. The listener, which told this at first,
-- gave as many links as there were sessions, and each came back to the net, with the talk of its session.
pub record Heard (c : GateWords) (gate : Gate) (first : Option ToldListener) (before after : NetSeen) (count : ℕ) (failed starved : Bool) : Type 0 where
  pub last : Option ToldListener
  -- the net behind all attempts
  pub tried : NetSeen
  pub all : AllServed gate MOST_MESSAGES first last before tried count starved
  pub few : count ≤ c.connections
  -- where nothing failed and memory did not lack, so many were asked for, or no more were to come
  pub ended : failed ≡ false → starved ≡ false → (count ≡ c.connections) ⊎ NoneToCome last
  pub told : after.told ≡ came_back (gathered_of last) tried.told
  pub failures : after.failures ≡ tried.failures
  pub counted : after.listen_failures ≡ count_after tried.listen_failures failed

-- SERVING: the net was asked to listen, once
pub record Sessions (c : GateWords) (gate : Gate) (before after : NetSeen) (count : ℕ) (failed starved : Bool) : Type 0 where
  -- what the listener told when it was new
  pub first : Option ToldListener
  pub fresh : IsNewListener before.told first
  pub heard : Heard c gate first (asked c before) after count failed starved

-- the listener came back without a link
pub record Unused (c : GateWords) (before after : NetSeen) : Type 0 where
  pub first : Option ToldListener
  pub fresh : IsNewListener before.told first
  pub after_is : after ≡ record before { told = came_back (gathered_of first) (asked c before).told }

-- ---- each end, with its cause and what the sink got

pub data Comes (c : GateWords) (before after : Outside) (net later : NetSeen) (end : End) : Type 0 where
  -- the words were refused, and neither the net nor the sink was asked
  refused : (answer : Answer) → end ≡ answered answer → Refuses c before.files answer
      → NoneFailed before.failures after.failures → Keeps before.output after.output → later ≡ net → Comes c before after net later end
  -- a Slice file could not be read
  unread : end ≡ answered read_failed → ShelfFailed before.failures after.failures → Keeps before.output after.output → later ≡ net → Comes c before after net later end
  -- memory lacked before the net was asked
  starved : end ≡ answered no_memory → NoneFailed before.failures after.failures → Keeps before.output after.output → later ≡ net → Comes c before after net later end
  -- the net could not listen
  unheard : (gate : Gate) → end ≡ network_failed → Sets c before.files gate → NoneFailed before.failures after.failures → Keeps before.output after.output
      → later ≡ record (asked c net) { listen_failures = one_more net.listen_failures } → Comes c before after net later end
  -- where it listens could not be written, and no link was taken
  untold : (gate : Gate) (port : ℕ) → end ≡ answered (write_failed (listening port)) → Sets c before.files gate → IsPort c port
      → SinkFailed before.failures after.failures → AppendsPrefix before.output after.output (listening port) → Unused c net later → Comes c before after net later end
  -- it served
  ended : (gate : Gate) (port count : ℕ) (failed lacked : Bool) → Sets c before.files gate → IsPort c port → Sessions c gate net later count failed lacked
      → WritesEnd before after (listening port ++ served count) (listening port) failed lacked end → Comes c before after net later end

-- WHAT `gate` DOES: it ends so, with this status and this line
pub record Gated (c : GateWords) (before after : Outside) (net later : NetSeen) (result : ℕ) : Type 0 where
  pub end : End
  pub comes : Comes c before after net later end
  pub returned : result ≡ end_status end
  pub line : GetsText before.errors after.errors before.error_failures after.error_failures (end_line end)
