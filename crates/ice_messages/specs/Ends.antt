-- What the ends of a connection send, and what is wrong with any other message. (Ice manual, "Protocol Messages".)
use Rattle.std.specs.Prelude.{ℕ, ℤ, Bool, true, false, Option, None, Some, nat_lt, if◌then◌else◌}
use Rattle.std.specs.Ordering.{int_eq}
use Rattle.ice_prims.specs.declared.fault.Fault.{Fault}
use Rattle.ice_prims.specs.declared.fault.Kind.{Kind}
use Rattle.ice_prims.specs.declared.fault.Kind.TheVariants.{NotValidated, Unexpected, UnknownId, Endless}
use Rattle.ice_messages.specs.declared.message.Message.{Message}
use Rattle.ice_messages.specs.declared.message.Message.TheVariants.{Request, Batch, Reply, Validate, Close}
use Rattle.ice_messages.specs.declared.message.TheConstants.{HEADER_BYTES}
use Rattle.ice_messages.specs.declared.ends.TheConstants.{MOST_MESSAGES}

-- ---- which end sends such messages

abbrev pub is_clients : Message → Bool
is_clients (Request id c) = true
is_clients (Batch items) = true
is_clients (Reply id a) = false
is_clients Validate = true
is_clients Close = true

abbrev pub is_servers : Message → Bool
is_servers (Request id c) = false
is_servers (Batch items) = false
is_servers (Reply id a) = true
is_servers Validate = true
is_servers Close = true

-- ---- what is wrong with a message, whose first byte has place 0

abbrev pub amiss : Kind → Option Fault
amiss kind = Some (record { place = 0; kind = kind })

-- a server is sent what clients send
abbrev pub server_fault : Message → Option Fault
server_fault m = if is_clients m then None else amiss Unexpected

-- the first message that a client is sent: that the server is ready, or takes no requests
abbrev pub greeting_fault : Message → Option Fault
greeting_fault (Request id c) = amiss NotValidated
greeting_fault (Batch items) = amiss NotValidated
greeting_fault (Reply id a) = amiss NotValidated
greeting_fault Validate = None
greeting_fault Close = None

-- a reply's id, which stands behind the header, is the one that is asked for
abbrev pub id_fault : ℤ → ℤ → Option Fault
id_fault asked id = if int_eq id asked then None else Some (record { place = HEADER_BYTES; kind = UnknownId })

-- a later one: what servers send, and no reply but the one that is asked for
abbrev pub reply_fault : ℤ → Message → Option Fault
reply_fault asked (Request id c) = amiss Unexpected
reply_fault asked (Batch items) = amiss Unexpected
reply_fault asked (Reply id a) = id_fault asked id
reply_fault asked Validate = None
reply_fault asked Close = None

-- by the id of the request whose reply is waited for; None before the first message
abbrev pub awaited_fault : Option ℤ → Message → Option Fault
awaited_fault None m = greeting_fault m
awaited_fault (Some asked) m = reply_fault asked m

-- what is wrong with a message that a client is sent behind so many others
abbrev pub client_fault : Option ℤ → ℕ → Message → Option Fault
client_fault asked heard m = if nat_lt heard MOST_MESSAGES then awaited_fault asked m else amiss Endless
