-- What a locator is asked: Object* findObjectById(Identity id), Object* findAdapterById(string id). (Ice manual, "Locators".)
use Rattle.std.specs.Prelude.{ℕ, pos, ◌≤◌, List, [], length}
use Rattle.ice_types.specs.declared.proxy.Proxy.{Proxy}
use Rattle.ice_encoding.specs.declared.limits.TheConstants.{LARGEST}
use Rattle.ice_encoding.specs.Identity.{identity}
use Rattle.ice_encoding.specs.Opening.{encapsulated_bytes}
use Rattle.ice_encoding.specs.Parts.{text}
use Rattle.ice_messages.specs.declared.message.Call.{Call}
use Rattle.ice_messages.specs.declared.message.Message.{Message}
use Rattle.ice_messages.specs.declared.message.Message.TheVariants.{Request}
use Rattle.ice_messages.specs.Messages.{message_bytes}
use Rattle.locator_types.specs.Locator.{find_object, find_adapter}
use Rattle.locator.specs.declared.question.TheConstants.{LONGEST}
use Rattle.locator.specs.declared.key.Key.{Key}
use Rattle.locator.specs.declared.key.Key.TheVariants.{Object, Adapter}

-- the operation that finds it
abbrev pub operation : Key → List ℕ
operation (Object i) = find_object.name
operation (Adapter id) = find_adapter.name

-- its argument
abbrev pub content : Key → List ℕ
content (Object i) = identity.put i
content (Adapter id) = text.put id

abbrev pub body : Key → List ℕ
body key = encapsulated_bytes (content key)

-- the call, of the locator's own identity and facet: nonmutating, and without a context
abbrev pub question : Proxy → Key → Call
question locator key = record { identity = locator.identity; facet = locator.facet; operation = operation key; mode = 1; context = []; body = body key }

-- the request, which asks for a reply whatever the mode of the locator's proxy
abbrev pub request : Proxy → Key → Message
request locator key = Request (pos 1) (question locator key)

-- a request may be so long
pub record CanBeAsked (locator : Proxy) (key : Key) : Type 0 where
  pub body : length (body key) ≤ LONGEST
  pub message : length (message_bytes (request locator key)) ≤ LARGEST
