-- What `serve` does, from its words and what is outside before and after it.
use Rattle.std.specs.Prelude.{ℕ, ◌≡◌, ◌<◌, ◌≤◌, ◌⊎◌, Bool, false, ◌++◌, Option, Some}
use Rattle.std.specs.Io.KnownBytes.{Keeps}
use Rattle.ice_types.specs.Tables.{Tables}
use Rattle.ice_ports.specs.Failures.{one_more, count_after}
use Rattle.ice_ports.specs.Writing.{AppendsPrefix}
use Rattle.ice_ports.specs.Nets.{ToldNet, ToldListener, IsNewListener, told_after, asked_to_listen, came_back, gathered_of}
use Rattle.object_adapter.specs.Objects.{Objects}
use Rattle.dispatch_pool.specs.declared.lanes.Lanes.{Lanes}
use Rattle.dispatch_pool.specs.declared.lanes.LanePasses.{LanePasses}
use Rattle.dispatch_pool.specs.Lanes.{Opens, AreNew, AreWhole}
use Rattle.dispatch_pool.specs.Sessions.{AllServed}
use Rattle.node_commands.specs.Words.{Word}
use Rattle.node_commands.specs.Outside.{Outside, Files, NoneFailed, ShelfFailed, SinkFailed}
use Rattle.node_commands.specs.Answers.{Answer, no_such_name, text_refused, read_failed, write_failed, no_memory}
use Rattle.node_commands.specs.Decided.{IsSchema, WithSchema}
use Rattle.node_commands.specs.Effects.{GetsText}
use Rattle.talking.specs.Told.{NoneToCome}
use Rattle.node_commands.specs.declared.limits.TheConstants.{MOST_MESSAGES}
use Rattle.serve_command.specs.Words.{Serve}
use Rattle.serve_command.specs.Adapters.{IsAdapter, First, Never, LacksInterface, Breaks}
use Rattle.node_commands.specs.Ends.{End, answered, network_failed, end_status, end_line}
use Rattle.node_commands.specs.Lines.{WritesEnd, listening, served}

-- what the net tells, and how many calls of `listen` and `retire` counted a failure
pub record Network : Type 0 where
  pub told : Option ToldNet
  pub failures : ℕ

abbrev pub network : Option ToldNet → ℕ → Network
network told failures = record { told = told; failures = failures }

-- ---- before the net is asked

-- a word INTERFACE names nothing, or all name interfaces, from where it goes on
abbrev pub WithInterfaces : Tables → Serve → Answer → Type 0 → Type 0
WithInterfaces t c answer Next = ((word : Word) × First (LacksInterface t) c.objects word × (answer ≡ no_such_name word))
    ⊎ (Never (LacksInterface t) c.objects × Next)

-- a text of the words stands for nothing, or all stand for identities and proxies, from where it goes on
abbrev pub WithTexts : Serve → Answer → Type 0 → Type 0
WithTexts c answer Next = ((at : ℕ) × First Breaks c.objects at × (answer ≡ text_refused at))
    ⊎ (Never Breaks c.objects × Next)

-- the words are refused with this answer: the Slice file comes first, then the interfaces, then the texts
abbrev pub Refuses : Serve → Option Files → Answer → Type 0
Refuses c files answer = WithSchema files c.file answer (λ t. WithInterfaces t c answer (WithTexts c answer ⊥))

-- these are the objects of the words
abbrev pub Sets : Serve → Option Files → Objects → Type 0
Sets c files o = (t : Tables) × IsSchema files c.file t × Never (LacksInterface t) c.objects × Never Breaks c.objects × IsAdapter t c.objects o

-- ---- listening

-- it is the port asked for; the net has chosen it where 0 was asked
abbrev pub IsPort : Serve → ℕ → Type 0
IsPort c port = 0 < c.port → port ≡ c.port

-- ---- serving

-- the net was asked to listen at HOST and PORT
abbrev pub asked : Serve → Option ToldNet → Option ToldNet
asked c told = told_after (asked_to_listen c.host c.port) told

-- Sessions were served with these lanes, and with passes that had these calls before. What each did is what a server does,
-- for so many messages at most; their entries stand in the histories, each once and in each session's order, and no other
-- call is the workers' own. The listener, which told this at first, gave as many links as there were sessions, and each
-- came back to the net, with the talk of its session. The passes that are left have the whole share, so nobody else holds one.
pub record Heard (c : Serve) (lanes : Lanes) (begun : LanePasses) (first : Option ToldListener) (before after : Network) (count : ℕ) (failed starved : Bool) : Type 0 where
  pub last : Option ToldListener
  pub passes : LanePasses
  pub all : AllServed lanes MOST_MESSAGES first (Some begun) count last passes count starved
  pub whole : AreWhole passes
  pub few : count ≤ c.connections
  -- where nothing failed and memory did not lack, so many were asked for, or no more were to come
  pub ended : failed ≡ false → starved ≡ false → (count ≡ c.connections) ⊎ NoneToCome last
  pub told : after.told ≡ came_back (gathered_of last) before.told
  pub counted : after.failures ≡ count_after before.failures failed

-- SERVING: The net was asked to listen, once. The objects' histories begin with the adapter of the words, and no call
-- stood there before.
pub record Sessions (c : Serve) (o : Objects) (before after : Network) (count : ℕ) (failed starved : Bool) : Type 0 where
  pub lanes : Lanes
  pub keys : lanes.keys ≡ o.keys
  pub opens : Opens o.servants lanes
  pub begun : LanePasses
  pub new : AreNew begun
  -- what the listener told when it was new
  pub first : Option ToldListener
  pub fresh : IsNewListener before.told first
  pub heard : Heard c lanes begun first (network (asked c before.told) before.failures) after count failed starved

-- the listener came back without a link
pub record Unused (c : Serve) (before after : Network) : Type 0 where
  pub first : Option ToldListener
  pub fresh : IsNewListener before.told first
  pub told : after.told ≡ came_back (gathered_of first) (asked c before.told)
  pub counted : after.failures ≡ before.failures

-- ---- each end, with its cause and what the sink got

pub data Comes (c : Serve) (before after : Outside) (net later : Network) (end : End) : Type 0 where
  -- the words were refused, and neither the net nor the sink was asked
  refused : (answer : Answer) → end ≡ answered answer → Refuses c before.files answer
      → NoneFailed before.failures after.failures → Keeps before.output after.output → later ≡ net → Comes c before after net later end
  -- a Slice file could not be read
  unread : end ≡ answered read_failed → ShelfFailed before.failures after.failures → Keeps before.output after.output → later ≡ net → Comes c before after net later end
  -- memory lacked before the net was asked
  starved : end ≡ answered no_memory → NoneFailed before.failures after.failures → Keeps before.output after.output → later ≡ net → Comes c before after net later end
  -- the net could not listen
  unheard : (o : Objects) → end ≡ network_failed → Sets c before.files o → NoneFailed before.failures after.failures → Keeps before.output after.output
      → later.told ≡ asked c net.told → later.failures ≡ one_more net.failures → Comes c before after net later end
  -- where it listens could not be written, and no link was taken
  untold : (o : Objects) (port : ℕ) → end ≡ answered (write_failed (listening port)) → Sets c before.files o → IsPort c port
      → SinkFailed before.failures after.failures → AppendsPrefix before.output after.output (listening port) → Unused c net later → Comes c before after net later end
  -- it served
  ended : (o : Objects) (port count : ℕ) (failed lacked : Bool) → Sets c before.files o → IsPort c port → Sessions c o net later count failed lacked
      → WritesEnd before after (listening port ++ served count) (listening port) failed lacked end → Comes c before after net later end

-- WHAT `serve` DOES: it ends so, with this status and this line
pub record Served (c : Serve) (before after : Outside) (net later : Network) (result : ℕ) : Type 0 where
  pub end : End
  pub comes : Comes c before after net later end
  pub returned : result ≡ end_status end
  pub line : GetsText before.errors after.errors before.error_failures after.error_failures (end_line end)
