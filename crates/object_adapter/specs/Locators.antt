-- What a locator answers to a call: where an object or an adapter is, or the exception that says that nothing was found. (Ice manual, "Locators".)
use Rattle.std.specs.Prelude.{ℕ, ◌≡◌, ◌<◌, ◌≤◌, ◌⊎◌, true, List, [], ◌∷◌, length, Some}
use Rattle.ice_types.specs.declared.kind.TypeRef.{TypeRef}
use Rattle.ice_types.specs.declared.kind.TypeRef.TheVariants as kinds
use Rattle.ice_types.specs.declared.declarations.Shape.{Shape}
use Rattle.ice_types.specs.declared.identity.Identity.{Identity}
use Rattle.ice_types.specs.declared.proxy.Proxy.{Proxy}
use Rattle.ice_encoding.specs.Proxy as form
use Rattle.ice_encoding.specs.Tree.{text, struct, none, tree}
use Rattle.ice_encoding.specs.CanonicalGraph.{sliced}
use Rattle.ice_encoding.specs.Exceptions.{UserException}
use Rattle.ice_encoding.specs.Graph.{Graph, known}
use Rattle.ice_encoding.specs.OptionalMembers.{with_optional}
use Rattle.ice_encoding.specs.UserExceptionWritten.{exception_bytes}
use Rattle.ice_messages.specs.declared.message.Call.{Call}
use Rattle.ice_messages.specs.declared.message.Answer.{Answer}
use Rattle.ice_messages.specs.declared.message.Answer.TheVariants.{Done, Raised}
use Rattle.locator_types.specs.Locator.{locator_tables, find_object, find_adapter}
use Rattle.object_adapter.specs.declared.refusal.Refusal.{Refusal}
use Rattle.object_adapter.specs.declared.refusal.Refusal.TheVariants.{NoOperation, BadMode, BadArguments, TooLong}
use Rattle.object_adapter.specs.declared.refusal.TheConstants.{LONGEST}
use Rattle.object_adapter.specs.declared.seeking.Sought.{Sought}
use Rattle.object_adapter.specs.declared.seeking.Sought.TheVariants.{Object, Adapter}
use Rattle.object_adapter.specs.Admitting.{Comes, Stops, IsEnclosed, IsRefusedLength}
use Rattle.object_adapter.specs.Places.{Known, IsAt}

-- ---- its operations

-- the operation that finds it
abbrev pub sought_name : Sought → List ℕ
sought_name Object = find_object.name
sought_name Adapter = find_adapter.name

abbrev pub IsNamed : List ℕ → Sought → Type 0
IsNamed name sought = name ≡ sought_name sought

-- the type of its argument
abbrev pub id_type : Sought → TypeRef
id_type Object = kinds.Struct 0
id_type Adapter = kinds.Text

-- its arguments
abbrev pub sought_shape : Sought → Shape
sought_shape Object = find_object.arguments
sought_shape Adapter = find_adapter.arguments

-- the argument is the identity or the id of what is at this proxy
abbrev pub IsSought : Known → Sought → Graph → Proxy → Type 0
IsSought p Object g proxy = (identity : Identity) × (g.roots.required ≡ tree (struct (tree (text identity.name) (tree (text identity.category) none))) none) × IsAt p.objects identity proxy
IsSought p Adapter g proxy = (id : List ℕ) × (g.roots.required ≡ tree (text id) none) × IsAt p.adapters id proxy

-- ---- its answers

-- the results with a proxy, where they are not longer than results may be
abbrev pub GivesProxy : Proxy → Answer → Type 0
GivesProxy proxy answer = (results : List ℕ) × IsEnclosed (form.proxy.put (Some proxy)) results × (answer ≡ Done results)

-- the place of the exception in the tables
abbrev pub exception_of : Sought → ℕ
exception_of Object = 0
exception_of Adapter = 1

-- an exception without members
abbrev pub not_found : Sought → UserException
not_found sought = record { slices = known (exception_of sought) (with_optional none []) ∷ []; instances = [] }

-- its encapsulation
abbrev pub not_found_bytes : Sought → List ℕ
not_found_bytes sought = exception_bytes locator_tables sliced (not_found sought)

-- the answer with it, where it is not longer than results may be
abbrev pub GivesNotFound : Sought → Answer → Type 0
GivesNotFound sought answer = (answer ≡ Raised (not_found_bytes sought)) × (length (not_found_bytes sought) ≤ LONGEST)

-- the proxy of what is sought, or that exception where its place is not known
abbrev pub Gives : Known → Sought → Graph → Answer → Type 0
Gives p sought g answer = ((proxy : Proxy) × IsSought p sought g proxy × GivesProxy proxy answer)
    ⊎ (((proxy : Proxy) → IsSought p sought g proxy → ⊥) × GivesNotFound sought answer)

-- it is refused: the answer would be longer than it may be
abbrev pub Overflows : Known → Sought → Graph → Refusal → Type 0
Overflows p sought g refusal = ((proxy : Proxy) × IsSought p sought g proxy × IsRefusedLength (form.proxy.put (Some proxy)) refusal)
    ⊎ (((proxy : Proxy) → IsSought p sought g proxy → ⊥) × (refusal ≡ TooLong) × (LONGEST < length (not_found_bytes sought)))

-- ---- what a locator answers to a call

-- what it gives
abbrev pub Acts : Known → Call → Answer → Type 0
Acts p call answer = (sought : Sought) × (g : Graph) × IsNamed call.operation sought × Comes locator_tables true (sought_shape sought) call g × Gives p sought g answer

-- why there is nothing to give
abbrev pub Refuses : Known → Call → Refusal → Type 0
Refuses p call NoOperation = (sought : Sought) → IsNamed call.operation sought → ⊥
Refuses p call BadMode = (sought : Sought) × IsNamed call.operation sought × Stops locator_tables true (sought_shape sought) call BadMode
Refuses p call (BadArguments fault) = (sought : Sought) × IsNamed call.operation sought × Stops locator_tables true (sought_shape sought) call (BadArguments fault)
Refuses p call TooLong = (sought : Sought) × (g : Graph) × IsNamed call.operation sought × Comes locator_tables true (sought_shape sought) call g × Overflows p sought g TooLong
