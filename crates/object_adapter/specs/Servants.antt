-- What an object answers to a call, and what it is afterwards. Tried in this order: the operation, the mode, the arguments; then it acts.
use Rattle.std.specs.Prelude.{ℕ, ◌≡◌, ◌⊎◌, List}
use Rattle.std.specs.Arc.{arc_value}
use Rattle.ice_types.specs.Tables.{Tables}
use Rattle.ice_messages.specs.declared.message.Call.{Call}
use Rattle.ice_messages.specs.declared.message.Answer.{Answer}
use Rattle.ice_messages.specs.declared.message.Answer.TheVariants.{Done}
use Rattle.object_adapter.specs.declared.refusal.Refusal.{Refusal}
use Rattle.object_adapter.specs.declared.own.Own.{Own}
use Rattle.object_adapter.specs.declared.store.Store.{Store as AStore}
use Rattle.object_adapter.specs.declared.echo.Echo.{Echo as AnEcho}
use Rattle.object_adapter.specs.declared.locator.Locator.{Locator as ALocator}
use Rattle.object_adapter.specs.declared.servant.Servant.{Servant}
use Rattle.object_adapter.specs.declared.servant.Servant.TheVariants.{Store, Echo, Locator}
use Rattle.object_adapter.specs.FirstValue.{IsFirst}
use Rattle.object_adapter.specs.Refusals.{told}
use Rattle.object_adapter.specs.Own.{IsNamed, OwnActs, OwnRefuses}
use Rattle.object_adapter.specs.Stores as stores
use Rattle.object_adapter.specs.Echoes as echoes
use Rattle.object_adapter.specs.Locators as locators
use Rattle.object_adapter.specs.Places.{Known}
use Rattle.locator_types.specs.Locator.{locator_tables}

-- ---- new objects

-- a store of the interface, which keeps what it keeps at first
abbrev pub IsNewStore : Tables → ℕ → Servant → Type 0
IsNewStore t interface servant = (s : AStore) × (servant ≡ Store s) × (arc_value s.schema ≡ t) × (s.interface ≡ interface) × IsFirst t interface s.kept

-- an echo of the interface
abbrev pub IsNewEcho : Tables → ℕ → Servant → Type 0
IsNewEcho t interface servant = (e : AnEcho) × (servant ≡ Echo e) × (arc_value e.schema ≡ t) × (e.interface ≡ interface)

-- a locator that knows these places
abbrev pub IsNewLocator : Known → Servant → Type 0
IsNewLocator places servant = (l : ALocator) × (servant ≡ Locator l) × (l.places ≡ places)

-- ---- their interfaces

-- the types that its interface speaks of
abbrev pub tables_of : Servant → Tables
tables_of (Store s) = arc_value s.schema
tables_of (Echo e) = arc_value e.schema
tables_of (Locator l) = locator_tables

-- the place of its interface
abbrev pub interface_of : Servant → ℕ
interface_of (Store s) = s.interface
interface_of (Echo e) = e.interface
interface_of (Locator l) = 0

-- ---- what they answer

-- the operation is none that every object has
abbrev pub IsOfInterface : Call → Type 0
IsOfInterface call = (own : Own) → IsNamed call.operation own → ⊥

-- what an operation that its interface has gives, and the object then
abbrev pub Does : Servant → Call → Answer → Servant → Type 0
Does (Store s) call answer new = (results : List ℕ) × (after : AStore) × (answer ≡ Done results) × (new ≡ Store after) × (after ≡ record s { kept = after.kept })
    × stores.Acts (arc_value s.schema) s.interface call s.kept results after.kept
Does (Echo e) call answer new = (results : List ℕ) × (answer ≡ Done results) × (new ≡ Echo e) × echoes.Acts (arc_value e.schema) e.interface call results
Does (Locator l) call answer new = (new ≡ Locator l) × locators.Acts l.places call answer

-- why it gives nothing
abbrev pub Lacks : Servant → Call → Refusal → Type 0
Lacks (Store s) call refusal = stores.Refuses (arc_value s.schema) s.interface call s.kept refusal
Lacks (Echo e) call refusal = echoes.Refuses (arc_value e.schema) e.interface call refusal
Lacks (Locator l) call refusal = locators.Refuses l.places call refusal

-- what an operation that every object has gives; it changes nothing
abbrev pub DoesOwn : Servant → Call → Answer → Servant → Type 0
DoesOwn old call answer new = (own : Own) × (results : List ℕ) × IsNamed call.operation own × OwnActs (tables_of old) (interface_of old) own call results
    × (answer ≡ Done results) × (new ≡ old)

-- what any operation gives, and the object then
abbrev pub Acts : Servant → Call → Answer → Servant → Type 0
Acts old call answer new = DoesOwn old call answer new ⊎ (IsOfInterface call × Does old call answer new)

-- why it gives nothing
abbrev pub Refuses : Servant → Call → Refusal → Type 0
Refuses old call refusal = ((own : Own) × IsNamed call.operation own × OwnRefuses (tables_of old) (interface_of old) own call refusal)
    ⊎ (IsOfInterface call × Lacks old call refusal)

-- THE ANSWER: what the operation gives and the object then, or what is told of a refusal, which changes nothing
abbrev pub Answered : Servant → Call → Answer → Servant → Type 0
Answered old call answer new = Acts old call answer new ⊎ ((refusal : Refusal) × (answer ≡ told call refusal) × Refuses old call refusal × (new ≡ old))
