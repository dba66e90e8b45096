-- What is decided before anything is connected, step by step: each step decides only what those before it let through.
use Rattle.std.specs.Prelude.{ℕ, ◌≡◌, ◌<◌, ◌≤◌, ◌⊎◌, List, length, Option, Some, None, IfSome, Result, Ok, Err, option_map}
use Rattle.ice_types.specs.declared.proxy.Proxy.{Proxy}
use Rattle.ice_types.specs.declared.declarations.OpDecl.{OpDecl}
use Rattle.ice_types.specs.declared.declarations.Shape.{Shape}
use Rattle.ice_types.specs.Tables.{Tables, HasId, interface_ids}
use Rattle.ice_encoding.specs.declared.limits.TheConstants.{LARGEST}
use Rattle.ice_encoding.specs.Graph.{Graph}
use Rattle.ice_encoding.specs.CanonicalGraph.{Format, IsWritable, graph_bytes}
use Rattle.instance_writing.specs.Formats.{view_format}
use Rattle.class_slices.specs.Encoding.{NeedsSliced}
use Rattle.graph_json.specs.declared.fault.JsonKind.{JsonKind}
use Rattle.graph_json.specs.Texts.{IsRefused, Lists}
use Rattle.ice_messages.specs.declared.message.Message.{Message}
use Rattle.ice_messages.specs.Messages.{message_bytes}
use Rattle.ice_messages.specs.Written.{told}
use Rattle.ice_proxy.specs.Grammar.{proxy_text}
use Rattle.slice_meaning.specs.Printed.{LoadBreak}
use Rattle.node_commands.specs.Words.{Word}
use Rattle.node_commands.specs.Outside.{Files}
use Rattle.node_commands.specs.Answers.{usage, no_such_name, slice_refused, text_refused, json_refused, too_long, needs_sliced}
use Rattle.node_commands.specs.Decided.{IsSchema, IsFault}
use Rattle.node_commands.specs.Interfaces.{IsInterface}
use Rattle.call_command.specs.declared.arguments.TheConstants.{MOST_OF_ARGUMENTS}
use Rattle.call_command.specs.declared.callee.Callee.{Callee}
use Rattle.call_command.specs.Words.{CallWords}
use Rattle.call_command.specs.Operations.{Operation, operation_of, WantsReply}
use Rattle.call_command.specs.Planning.{Plan, plan_of, callee_of}
use Rattle.call_command.specs.Endings.{Ended, refused, twoway_only}

-- ---- the steps

-- a proxy for datagrams is in no form of `call`
abbrev pub IsListed : Result Proxy ℕ → Type 0
IsListed (Ok p) = p.mode ≤ 2
IsListed (Err place) = Unit {0}

-- the same of what both texts say
abbrev pub IsListedCallee : Result Callee ℕ → Type 0
IsListedCallee (Ok callee) = callee.proxy.mode ≤ 2
IsListedCallee (Err place) = Unit {0}

abbrev pub WithListed : Result Proxy ℕ → Ended → Type 0 → Type 0
WithListed parsed came Next = ((IsListed parsed → ⊥) × (came ≡ refused usage)) ⊎ (IsListed parsed × Next)

-- FILE is refused, or means a schema, from which it goes on
abbrev pub WithSchema : Option Files → Word → Ended → (Tables → Type 0) → Type 0
WithSchema files file came Next =
    ((broken : LoadBreak) × IsFault files file broken × (came ≡ refused (slice_refused broken)))
    ⊎ ((t : Tables) × IsSchema files file t × Next t)

-- INTERFACE names none, or an interface, from which it goes on
abbrev pub WithInterface : Tables → Word → Ended → (ℕ → Type 0) → Type 0
WithInterface t word came Next =
    (((at : ℕ) → HasId (interface_ids t) word at → ⊥) × (came ≡ refused (no_such_name word)))
    ⊎ ((at : ℕ) × IsInterface t word at × Next at)

-- OPERATION names none, or an operation that every object or the interface has
abbrev pub WithFound : Option Operation → Word → Ended → (Operation → Type 0) → Type 0
WithFound found word came Next =
    ((found ≡ None) × (came ≡ refused (no_such_name word)))
    ⊎ ((o : Operation) × (found ≡ Some o) × Next o)

abbrev pub WithOperation : Tables → (interface : ℕ) → Word → Ended → (Operation → Type 0) → Type 0
WithOperation t interface word came Next = WithFound (operation_of t interface word) word came Next

-- what the texts of the locator and of PROXY say
abbrev pub callee_named : CallWords → Result Callee ℕ
callee_named c = callee_of (option_map proxy_text c.locator) (proxy_text c.proxy)

-- one of them is the text of no proxy, or both are
abbrev pub WithCallee : Result Callee ℕ → Ended → (Callee → Type 0) → Type 0
WithCallee parsed came Next =
    ((place : ℕ) × (parsed ≡ Err place) × (came ≡ refused (text_refused place)))
    ⊎ ((callee : Callee) × (parsed ≡ Ok callee) × Next callee)

-- the proxy asks for no reply, and the operation wants one
abbrev pub LacksReply : Proxy → OpDecl → Type 0
LacksReply p op = (0 < p.mode) × WantsReply op

abbrev pub WithReply : Proxy → OpDecl → Word → Ended → Type 0 → Type 0
WithReply p op word came Next = (LacksReply p op × (came ≡ twoway_only word)) ⊎ ((LacksReply p op → ⊥) × Next)

-- as a text of JSON the input is refused, or lists a graph of the arguments, where the source tells it
abbrev pub WithArguments : Option (List ℕ) → Tables → Shape → Ended → (Graph → Type 0) → Type 0
WithArguments input t shape came Next =
    ((why : JsonKind) × IfSome input (λ known. IsRefused t shape known why) × (came ≡ refused (json_refused why)))
    ⊎ ((g : Graph) × IfSome input (λ known. Lists t shape known g) × Next g)

-- compact format cannot carry them, their encapsulation is too long, or it is this one
abbrev pub WithBody : Format → Tables → Shape → Graph → Ended → (List ℕ → Type 0) → Type 0
WithBody f t shape g came Next =
    (NeedsSliced f g × (came ≡ refused needs_sliced))
    ⊎ (IsWritable f g × (((MOST_OF_ARGUMENTS < length (graph_bytes t shape f g)) × (came ≡ refused (too_long (length (graph_bytes t shape f g)))))
    ⊎ ((length (graph_bytes t shape f g) ≤ MOST_OF_ARGUMENTS) × Next (graph_bytes t shape f g))))

-- the message is too long, or it goes on
abbrev pub WithMessage : Message → Ended → Type 0 → Type 0
WithMessage m came Next =
    ((LARGEST < length (message_bytes m)) × (came ≡ refused (too_long (told (length (message_bytes m))))))
    ⊎ ((length (message_bytes m) ≤ LARGEST) × Next)

-- ---- all of them

-- before the input is read
abbrev pub Reaches : CallWords → Option Files → Ended → (Operation → Callee → Type 0) → Type 0
Reaches c files came Next =
    WithListed (proxy_text c.proxy) came (
    WithSchema files c.file came (λ t.
    WithInterface t c.interface came (λ at.
    WithOperation t at c.operation came (λ o.
    WithCallee (callee_named c) came (λ callee.
    WithReply callee.proxy o.declared c.operation came (Next o callee))))))

-- of the operation and the object
abbrev pub Plans : CallWords → Option (List ℕ) → Ended → (Plan → Type 0) → Operation → Callee → Type 0
Plans c input came Next o callee =
    WithArguments input o.tables o.declared.arguments came (λ g.
    WithBody (view_format c.format) o.tables o.declared.arguments g came (λ body.
    WithMessage (plan_of c o callee body).message came (Next (plan_of c o callee body))))

-- up to the plan of what is sent
abbrev pub Decides : CallWords → Option Files → Option (List ℕ) → Ended → (Plan → Type 0) → Type 0
Decides c files input came Next = Reaches c files came (Plans c input came Next)
