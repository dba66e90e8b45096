-- What the objects of a server answer to a call, and what they are afterwards. Tried in this order: the object, the facet; then the object answers.
use Rattle.std.specs.Prelude.{ℕ, ◌≡◌, ◌<◌, List, length, Result, Ok, Err, Some, slice_get, slice_set}
use Rattle.std.specs.List.{insert}
use Rattle.ice_messages.specs.declared.message.Call.{Call}
use Rattle.ice_messages.specs.declared.message.Answer.{Answer}
use Rattle.object_adapter.specs.declared.servant.Servant.{Servant}
use Rattle.object_adapter.specs.declared.add_fault.AddFault.{AddFault}
use Rattle.object_adapter.specs.declared.add_fault.AddFault.TheVariants as add_faults
use Rattle.object_adapter.specs.declared.keys.TheConstants.{MOST_OBJECTS}
use Rattle.object_adapter.specs.declared.keys.Found.{Found}
use Rattle.object_adapter.specs.declared.keys.Found.TheVariants.{At, NoObject, NoFacet}
use Rattle.object_adapter.specs.Keys.{Key, IsGapFor, IsFound}
use Rattle.object_adapter.specs.Refusals.{missed}
use Rattle.object_adapter.specs.Servants as servants
use Rattle.object_adapter.specs.Objects.{Objects}

-- an object has this key
abbrev pub HasKey : List Key → Key → Type 0
HasKey keys key = (at : ℕ) × (slice_get keys at ≡ Some key)

-- an object more, at this place
abbrev pub with_object : Objects → ℕ → Key → Servant → Objects
with_object o at key s = record { keys = insert o.keys at key; servants = insert o.servants at s }

-- why no object may be added under a key, whatever memory there is
abbrev pub Declines : List Key → Key → AddFault → Type 0
Declines keys key add_faults.Twice = HasKey keys key
Declines keys key add_faults.Full = (HasKey keys key → ⊥) × (length keys ≡ MOST_OBJECTS)
Declines keys key add_faults.Memory = ⊥

-- what comes of adding an object
abbrev pub Adds : Objects → Key → Servant → Result (Unit {0}) AddFault → Objects → Type 0
Adds old key s (Ok done) new = (HasKey old.keys key → ⊥) × (length old.keys < MOST_OBJECTS) × (at : ℕ) × IsGapFor old.keys key at × (new ≡ with_object old at key s)
Adds old key s (Err add_faults.Twice) new = HasKey old.keys key
Adds old key s (Err add_faults.Full) new = (HasKey old.keys key → ⊥) × (length old.keys ≡ MOST_OBJECTS)
Adds old key s (Err add_faults.Memory) new = Unit {0}

-- the answer of the object at this place, which alone may change; or that the object or the facet is not there
abbrev pub AnsweredBy : Found → Objects → Call → Answer → Objects → Type 0
AnsweredBy (At at) old call answer new = (s after : Servant) × (slice_get old.servants at ≡ Some s) × servants.Answered s call answer after
    × (new ≡ record old { servants = slice_set old.servants at after })
AnsweredBy NoObject old call answer new = (answer ≡ missed 2 call) × (new ≡ old)
AnsweredBy NoFacet old call answer new = (answer ≡ missed 3 call) × (new ≡ old)

-- THE ANSWER: that of the object which the call names
abbrev pub Answered : Objects → Call → Answer → Objects → Type 0
Answered old call answer new = (found : Found) × IsFound old.keys call.identity call.facet found × AnsweredBy found old call answer new
