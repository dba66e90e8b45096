-- The objects that the words make, and why they make none.
use Rattle.std.specs.Prelude.{ℕ, suc, ◌≡◌, ◌<◌, ◌⊎◌, List, [], length, slice_get, Some, Ok, Err}
use Rattle.std.specs.Ordering.{nat_cmp}
use Rattle.std.specs.Cmp.Lexicographic.{slice_cmp}
use Rattle.ice_types.specs.declared.identity.Identity.{Identity}
use Rattle.ice_types.specs.declared.proxy.Proxy.{Proxy}
use Rattle.ice_types.specs.Tables.{Tables, HasId, interface_ids}
use Rattle.ice_encoding.specs.Proxies.{identity_cmp}
use Rattle.ice_proxy.specs.IdentityText.{identity_text}
use Rattle.ice_proxy.specs.Grammar.{proxy_text}
use Rattle.object_adapter.specs.declared.servant.Servant.{Servant}
use Rattle.object_adapter.specs.Objects.{Objects, no_objects}
use Rattle.object_adapter.specs.Adapters.{Adds}
use Rattle.object_adapter.specs.Places.{Known, AddsPlace, no_places}
use Rattle.object_adapter.specs.Servants.{IsNewStore, IsNewEcho, IsNewLocator}
use Rattle.node_commands.specs.Words.{Word}
use Rattle.serve_command.specs.ObjectWords.{Object, store, echo, locator, place, adapter}

-- ---- interfaces

-- the word INTERFACE of it names no interface of the schema
abbrev pub LacksInterface : Tables → Object → Word → Type 0
LacksInterface t (store identity interface) word = (word ≡ interface) × ((at : ℕ) → HasId (interface_ids t) interface at → ⊥)
LacksInterface t (echo identity interface) word = (word ≡ interface) × ((at : ℕ) → HasId (interface_ids t) interface at → ⊥)
LacksInterface t (locator identity) word = ⊥
LacksInterface t (place identity proxy) word = ⊥
LacksInterface t (adapter id proxy) word = ⊥

-- ---- texts

-- a text of it stands for nothing, with the place where it breaks; an identity comes before a proxy
abbrev pub Breaks : Object → ℕ → Type 0
Breaks (store identity interface) at = identity_text identity ≡ Err at
Breaks (echo identity interface) at = identity_text identity ≡ Err at
Breaks (locator identity) at = identity_text identity ≡ Err at
Breaks (place identity proxy) at = (identity_text identity ≡ Err at) ⊎ ((i : Identity) × (identity_text identity ≡ Ok i) × (proxy_text proxy ≡ Err at))
Breaks (adapter id proxy) at = proxy_text proxy ≡ Err at

-- ---- the first word that is wrong

-- of one of the words it holds for this, and of none before it for anything
pub record First {X : Type 0} (Is : Object → X → Type 0) (objects : List Object) (x : X) : Type 0 where
  pub at : ℕ
  pub object : Object
  pub there : slice_get objects at ≡ Some object
  pub is : Is object x
  pub none_before : (i : ℕ) (other : Object) (y : X) → i < at → slice_get objects i ≡ Some other → Is other y → ⊥

-- of none of the words it holds
abbrev pub Never : {X : Type 0} → (Object → X → Type 0) → List Object → Type 0
Never {X = X} Is objects = (i : ℕ) (object : Object) (x : X) → slice_get objects i ≡ Some object → Is object x → ⊥

-- ---- word by word

-- from the first to the last by steps, each of which comes of the one before it by the word between them
pub record GoesBy {S : Type 0} (By : Object → S → S → Type 0) (words : List Object) (first last : S) : Type 0 where
  pub step : ℕ → S
  pub begins : step 0 ≡ first
  pub each : (i : ℕ) (word : Object) → slice_get words i ≡ Some word → By word (step i) (step (suc i))
  pub ends : step (length words) ≡ last

-- ---- what they make

-- the places that locators know, with that of the word
abbrev pub Puts : Object → Known → Known → Type 0
Puts (store identity interface) old new = new ≡ old
Puts (echo identity interface) old new = new ≡ old
Puts (locator identity) old new = new ≡ old
Puts (place identity proxy) old new = (i : Identity) × (p : Proxy) × (identity_text identity ≡ Ok i) × (proxy_text proxy ≡ Ok p)
    × AddsPlace identity_cmp old.objects (i, p) (Ok tt) new.objects × (new ≡ record old { objects = new.objects })
Puts (adapter id proxy) old new = (p : Proxy) × (proxy_text proxy ≡ Ok p)
    × AddsPlace (slice_cmp nat_cmp) old.adapters (id, p) (Ok tt) new.adapters × (new ≡ record old { adapters = new.adapters })

-- THE PLACES OF THE WORDS: no place at first, and then that of each word that has one
abbrev pub ArePlacesOf : List Object → Known → Type 0
ArePlacesOf words known = GoesBy Puts words no_places known

-- the objects with that of the word, under its identity and no facet
abbrev pub AddsOne : Word → (Servant → Type 0) → Objects → Objects → Type 0
AddsOne identity Is old new = (i : Identity) × (s : Servant) × (identity_text identity ≡ Ok i) × Is s × Adds old (i, []) s (Ok tt) new

-- a locator that knows the places of the words
abbrev pub IsLocatorOf : List Object → Servant → Type 0
IsLocatorOf words s = (known : Known) × ArePlacesOf words known × IsNewLocator known s

-- a store, or an echo, of the interface that the word names
abbrev pub IsStoreOf : Tables → Word → Servant → Type 0
IsStoreOf t word s = (at : ℕ) × HasId (interface_ids t) word at × IsNewStore t at s

abbrev pub IsEchoOf : Tables → Word → Servant → Type 0
IsEchoOf t word s = (at : ℕ) × HasId (interface_ids t) word at × IsNewEcho t at s

abbrev pub Makes : Tables → List Object → Object → Objects → Objects → Type 0
Makes t words (store identity interface) old new = AddsOne identity (IsStoreOf t interface) old new
Makes t words (echo identity interface) old new = AddsOne identity (IsEchoOf t interface) old new
Makes t words (locator identity) old new = AddsOne identity (IsLocatorOf words) old new
Makes t words (place identity proxy) old new = new ≡ old
Makes t words (adapter id proxy) old new = new ≡ old

-- THE ADAPTER OF THE WORDS: no object at first, and then one for each word that asks for one; each locator knows the places of all words
abbrev pub IsAdapter : Tables → List Object → Objects → Type 0
IsAdapter t words o = GoesBy (Makes t words) words no_objects o
