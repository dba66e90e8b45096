-- What the words OBJECT of the command line ask for.
use Rattle.std.specs.Prelude.{ℕ, ◌≡◌, ◌≢◌, ◌<◌, List, ◌++◌, map, codes, slice_get, Option, Some, None, Result, Ok, Err}
use Rattle.std.specs.List.{AllByRecursion}
use Rattle.ice_types.specs.declared.identity.Identity.{Identity}
use Rattle.ice_proxy.specs.IdentityText.{identity_text}
use Rattle.node_commands.specs.Words.{Word, IsWord}
use Rattle.serve_command.specs.declared.apart.Named.{Named}
use Rattle.serve_command.specs.declared.apart.Named.TheVariants as names
use Rattle.serve_command.specs.declared.object_words.ObjectWord.{ObjectWord}
use Rattle.serve_command.specs.declared.object_words.ObjectWord.TheVariants as written

-- what one word asks for
pub data Object : Type 0 where
  -- a store of the interface, under the identity
  store : Word → Word → Object
  -- an echo of the interface
  echo : Word → Word → Object
  locator : Word → Object
  -- the object of the identity is at the proxy
  place : Word → Word → Object
  -- the adapter of the id is at the proxy
  adapter : Word → Word → Object

-- two parts, with `=` between them
abbrev pub two_parts : Word → Word → Word
two_parts one other = one ++ (codes "=" ++ other)

abbrev pub object_word : Object → Word
object_word (store identity interface) = codes "store=" ++ two_parts identity interface
object_word (echo identity interface) = codes "echo=" ++ two_parts identity interface
object_word (locator identity) = codes "locator=" ++ identity
object_word (place identity proxy) = codes "place=" ++ two_parts identity proxy
object_word (adapter id proxy) = codes "adapter=" ++ two_parts id proxy

-- no `=` stands in it
abbrev pub LacksEquals : Word → Type 0
LacksEquals part = AllByRecursion (λ byte. byte ≢ 61) part

-- the parts of a word are cut at the first `=` and at the second
abbrev pub IsCut : Object → Type 0
IsCut (store identity interface) = LacksEquals identity
IsCut (echo identity interface) = LacksEquals identity
IsCut (locator identity) = LacksEquals identity
IsCut (place identity proxy) = LacksEquals identity
IsCut (adapter id proxy) = LacksEquals id

-- its texts are no longer than a word
abbrev pub AreShort : Object → Type 0
AreShort (store identity interface) = IsWord identity
AreShort (echo identity interface) = IsWord identity
AreShort (locator identity) = IsWord identity
AreShort (place identity proxy) = IsWord identity × IsWord proxy
AreShort (adapter id proxy) = IsWord proxy

-- ---- what they name

abbrev pub named : (Identity → Named) → Result Identity ℕ → Option Named
named make (Ok identity) = Some (make identity)
named make (Err at) = None

-- an object, the place of an object or of an adapter; nothing, where a text stands for no identity
abbrev pub named_by : Object → Option Named
named_by (store identity interface) = named names.Object (identity_text identity)
named_by (echo identity interface) = named names.Object (identity_text identity)
named_by (locator identity) = named names.Object (identity_text identity)
named_by (place identity proxy) = named names.Place (identity_text identity)
named_by (adapter id proxy) = Some (names.Adapter id)

-- no two of them are the same
abbrev pub Differ : List (Option Named) → Type 0
Differ ns = (i j : ℕ) (n : Named) → i < j → slice_get ns i ≡ Some (Some n) → slice_get ns j ≡ Some (Some n) → ⊥

-- no two words name the same
abbrev pub AreApart : List Object → Type 0
AreApart objects = Differ (map named_by objects)

-- ---- words where they lie in memory

abbrev pub object_of : ObjectWord → Object
object_of (written.Store identity interface) = store identity.now interface.now
object_of (written.Echo identity interface) = echo identity.now interface.now
object_of (written.Locator identity) = locator identity.now
object_of (written.Place identity proxy) = place identity.now proxy.now
object_of (written.Adapter id proxy) = adapter id.now proxy.now

-- this object, or none whose word it is
abbrev pub Spells : Word → Option ObjectWord → Type 0
Spells word (Some object) = (word ≡ object_word (object_of object)) × IsCut (object_of object)
Spells word None = (object : Object) → word ≡ object_word object → IsCut object → ⊥
