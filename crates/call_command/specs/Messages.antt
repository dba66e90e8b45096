-- The message that is sent. (Ice manual, "Oneway Invocations", "Batched Invocations" and "Protocol Messages".)
use Rattle.std.specs.Prelude.{ℕ, zero, suc, pos, List, [], ◌++◌, codes, replicate}
use Rattle.std.specs.Fmt.{decimal}
use Rattle.ice_types.specs.declared.proxy.Proxy.{Proxy}
use Rattle.ice_messages.specs.declared.message.Call.{Call}
use Rattle.ice_messages.specs.declared.message.Message.{Message}
use Rattle.ice_messages.specs.declared.message.Message.TheVariants.{Request, Batch}
use Rattle.node_commands.specs.Words.{Word}

-- the call of the proxy's object, with these arguments
abbrev pub call_of : Proxy → Word → (mode : ℕ) → List ℕ → Call
call_of p operation mode body = record { identity = p.identity; facet = p.facet; operation = operation; mode = mode; context = []; body = body }

-- by the mode of the proxy: a request that wants a reply, one that wants none, or so many of the call in one batch
abbrev pub message_of : (mode times : ℕ) → Call → Message
message_of zero times c = Request (pos 1) c
message_of (suc zero) times c = Request (pos 0) c
message_of (suc (suc n)) times c = Batch (replicate times c)

-- how many messages there are, one after the other
abbrev pub rounds_of : (mode times : ℕ) → ℕ
rounds_of zero times = times
rounds_of (suc zero) times = times
rounds_of (suc (suc n)) times = 1

-- how many calls each has
abbrev pub calls_of : (mode times : ℕ) → ℕ
calls_of zero times = 1
calls_of (suc zero) times = 1
calls_of (suc (suc n)) times = times

-- what is said of a message for which no reply comes
abbrev pub sent_line : ℕ → List ℕ
sent_line calls = codes "sent " ++ (decimal calls ++ codes "\n")
