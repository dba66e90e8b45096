-- What every object has. (Ice manual, "The Object Base Interface".)
use Rattle.std.specs.Prelude.{ℕ, ◌≡◌, ◌<◌, ◌⊎◌, ◌↔◌, IsTrue, Bool, true, List, [], ◌++◌, Option, None, Some, length, codes, slice_get}
use Rattle.ice_types.specs.declared.declarations.InterfaceDecl.{InterfaceDecl}
use Rattle.ice_types.specs.declared.declarations.Shape.{Shape}
use Rattle.ice_types.specs.Tables.{Tables, HasId, interface_ids}
use Rattle.ice_types.specs.Inherited.{InterfaceIsA}
use Rattle.ice_types.specs.Object.{ping, is_a, its_id, its_ids}
use Rattle.std.specs.List.{flat_map}
use Rattle.std.specs.List.Sorted.{IsStrictlySortedBy}
use Rattle.std.specs.Ordering.{nat_cmp}
use Rattle.std.specs.Cmp.Lexicographic.{slice_cmp}
use Rattle.ice_prims.specs.Bytes.{bool_bytes, size_bytes, text_bytes}
use Rattle.ice_encoding.specs.Opening.{encapsulated_bytes}
use Rattle.ice_encoding.specs.Tree.{text, none, tree}
use Rattle.ice_encoding.specs.Graph.{Graph}
use Rattle.ice_messages.specs.declared.message.Call.{Call}
use Rattle.object_adapter.specs.declared.refusal.Refusal.{Refusal}
use Rattle.object_adapter.specs.declared.refusal.Refusal.TheVariants.{NoOperation, BadMode, BadArguments, TooLong}
use Rattle.object_adapter.specs.declared.refusal.TheConstants.{LONGEST}
use Rattle.object_adapter.specs.declared.own.Own.{Own}
use Rattle.object_adapter.specs.declared.own.Own.TheVariants.{Ping, IsA, Id, Ids}
use Rattle.object_adapter.specs.Admitting.{Comes, Stops, IsEnclosed}

-- its name
abbrev pub own_name : Own → List ℕ
own_name Ping = codes "ice_ping"
own_name IsA = codes "ice_isA"
own_name Id = codes "ice_id"
own_name Ids = codes "ice_ids"

abbrev pub IsNamed : List ℕ → Own → Type 0
IsNamed name own = name ≡ own_name own

-- the arguments that it takes
abbrev pub own_shape : Own → Shape
own_shape Ping = ping.arguments
own_shape IsA = is_a.arguments
own_shape Id = its_id.arguments
own_shape Ids = its_ids.arguments

-- a text is one of these
abbrev pub IsListed : List (List ℕ) → List ℕ → Type 0
IsListed texts one = (at : ℕ) × (slice_get texts at ≡ Some one)

-- a sequence of texts
abbrev pub texts_bytes : List (List ℕ) → List ℕ
texts_bytes texts = size_bytes (length texts) ++ flat_map text_bytes texts

-- the id of an interface, and nothing where there is none
abbrev pub id_in : Option InterfaceDecl → List ℕ
id_in None = []
id_in (Some decl) = decl.id

module _ (t : Tables) (interface : ℕ) where
  -- the id of the interface, of one of its bases, or of `Object`
  abbrev pub HasObjectId : List ℕ → Type 0
  HasObjectId id = (id ≡ codes "::Ice::Object") ⊎ ((at : ℕ) × HasId (interface_ids t) id at × InterfaceIsA t.interfaces interface at)

  -- all such ids, each once, in rising order
  abbrev pub AreIds : List (List ℕ) → Type 0
  AreIds ids = IsStrictlySortedBy (slice_cmp nat_cmp) ids × ((id : List ℕ) → IsListed ids id ↔ HasObjectId id)

  -- what the results hold, where these are the arguments
  abbrev pub OwnGives : Own → Graph → List ℕ → Type 0
  OwnGives Ping g content = content ≡ []
  OwnGives IsA g content = (id : List ℕ) × (has : Bool) × (g.roots.required ≡ tree (text id) none) × (IsTrue has ↔ HasObjectId id) × (content ≡ bool_bytes has)
  OwnGives Id g content = content ≡ text_bytes (id_in (slice_get t.interfaces interface))
  OwnGives Ids g content = (ids : List (List ℕ)) × AreIds ids × (content ≡ texts_bytes ids)

  -- the results with what they hold
  abbrev pub OwnGivesIn : Own → Graph → List ℕ → Type 0
  OwnGivesIn own g results = (content : List ℕ) × OwnGives own g content × IsEnclosed content results

  -- it is refused: the results would be too long
  abbrev pub OwnOverflows : Own → Graph → Refusal → Type 0
  OwnOverflows own g refusal = (refusal ≡ TooLong) × ((content : List ℕ) × OwnGives own g content × (LONGEST < length (encapsulated_bytes content)))

  -- the results of a call of it
  abbrev pub OwnActs : Own → Call → List ℕ → Type 0
  OwnActs own call results = (g : Graph) × (content : List ℕ) × Comes t true (own_shape own) call g × OwnGives own g content × IsEnclosed content results

  -- why there are none
  abbrev pub OwnRefuses : Own → Call → Refusal → Type 0
  OwnRefuses own call NoOperation = ⊥
  OwnRefuses own call BadMode = Stops t true (own_shape own) call BadMode
  OwnRefuses own call (BadArguments fault) = Stops t true (own_shape own) call (BadArguments fault)
  OwnRefuses own call TooLong = (g : Graph) × Comes t true (own_shape own) call g × OwnOverflows own g TooLong
