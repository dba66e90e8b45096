-- The steps of `serve`, as its functions answer them.
use Rattle.std.specs.Prelude.{ℕ, ◌≡◌, ◌≤◌, ◌⊎◌, Bool, List, [], length, Option, Result, Ok, Err}
use Rattle.std.specs.List.{AllByRecursion}
use Rattle.std.specs.Io.KnownBytes.{Appends}
use Rattle.ice_types.specs.Tables.{Tables, HasId, interface_ids}
use Rattle.ice_ports.specs.Failures.{one_more}
use Rattle.ice_ports.specs.Nets.{ToldListener, IsNewListener, came_back, gathered_of}
use Rattle.ice_ports.specs.Writing.{AppendsPrefix}
use Rattle.object_adapter.specs.Objects.{Objects}
use Rattle.object_adapter.specs.Adapters.{HasKey}
use Rattle.object_adapter.specs.Places.{Known, IsKnown}
use Rattle.dispatch_pool.specs.declared.lanes.Lanes.{Lanes}
use Rattle.dispatch_pool.specs.declared.lanes.LanePasses.{LanePasses}
use Rattle.dispatch_pool.specs.Lanes.{AreOf, Opens, AreNew, AreWhole}
use Rattle.node_commands.specs.declared.outcome.Outcome.{Outcome}
use Rattle.node_commands.specs.declared.outcome.Outcome.TheVariants as outcomes
use Rattle.node_commands.specs.Words.{Word}
use Rattle.node_commands.specs.declared.ending.Ending.{Ending}
use Rattle.node_commands.specs.declared.ending.Ending.TheVariants as endings
use Rattle.node_commands.specs.Outside.{Files}
use Rattle.node_commands.specs.Answers.{Answer, no_such_name, no_memory, read_failed}
use Rattle.node_commands.specs.Outcomes.{answer_of}
use Rattle.serve_command.specs.Words.{Serve}
use Rattle.serve_command.specs.declared.apart.Named.{Named}
use Rattle.serve_command.specs.declared.apart.Named.TheVariants as names
use Rattle.serve_command.specs.declared.words.TheConstants.{MOST_WORDS}
use Rattle.serve_command.specs.ObjectWords.{Object, AreShort, AreApart}
use Rattle.serve_command.specs.Adapters.{First, Never, LacksInterface, Breaks}
use Rattle.serve_command.specs.Served.{Refuses, Sets, Network, network, Heard, IsPort, asked}
use Rattle.node_commands.specs.Lines.{EndsWith, listening, served}

-- the answer of an outcome for which nothing was written
abbrev pub answered_by : Outcome → Answer
answered_by outcome = answer_of outcome []

-- only want of memory
abbrev pub IsStarved : {A : Type 0} → Result A Outcome → Type 0
IsStarved (Ok x) = Unit {0}
IsStarved (Err outcome) = outcome ≡ outcomes.Memory

-- the place of the interface, or that the word names none
abbrev pub FindsInterface : Tables → Word → Result ℕ Outcome → Type 0
FindsInterface t word (Ok at) = HasId (interface_ids t) word at
FindsInterface t word (Err outcome) = ((at : ℕ) → HasId (interface_ids t) word at → ⊥) × (answered_by outcome ≡ no_such_name word)

-- the word names an interface, or it is refused
abbrev pub ChecksInterface : Tables → Word → Result (Unit {0}) Outcome → Type 0
ChecksInterface t word (Ok done) = (other : Word) → (other ≡ word) × ((at : ℕ) → HasId (interface_ids t) word at → ⊥) → ⊥
ChecksInterface t word (Err outcome) = (other : Word) × ((other ≡ word) × ((at : ℕ) → HasId (interface_ids t) word at → ⊥)) × (answered_by outcome ≡ no_such_name other)

-- the word names an interface, or has no such part; or it is refused
abbrev pub NamesOne : Tables → Object → Result (Unit {0}) Outcome → Type 0
NamesOne t object (Ok done) = (word : Word) → LacksInterface t object word → ⊥
NamesOne t object (Err outcome) = (word : Word) × LacksInterface t object word × (answered_by outcome ≡ no_such_name word)

abbrev pub NamesAll : Tables → List Object → Result (Unit {0}) Outcome → Type 0
NamesAll t objects (Ok done) = Never (LacksInterface t) objects
NamesAll t objects (Err outcome) = (word : Word) × First (LacksInterface t) objects word × (answered_by outcome ≡ no_such_name word)

-- what a text stands for, or where it breaks; or memory lacked
abbrev pub ReadsText : {A : Type 0} → Result A ℕ → Result A Outcome → Type 0
ReadsText read (Ok x) = read ≡ Ok x
ReadsText read (Err outcome) = ((at : ℕ) × (read ≡ Err at) × (outcome ≡ outcomes.TextRefused at)) ⊎ (outcome ≡ outcomes.Memory)

-- the word's texts stand for something, or one is refused; or memory lacked
abbrev pub ReadsOne : Object → Result (Unit {0}) Outcome → Type 0
ReadsOne object (Ok done) = (at : ℕ) → Breaks object at → ⊥
ReadsOne object (Err outcome) = ((at : ℕ) × Breaks object at × (outcome ≡ outcomes.TextRefused at)) ⊎ (outcome ≡ outcomes.Memory)

abbrev pub ReadsAll : List Object → Result (Unit {0}) Outcome → Type 0
ReadsAll objects (Ok done) = Never Breaks objects
ReadsAll objects (Err outcome) = ((at : ℕ) × First Breaks objects at × (outcome ≡ outcomes.TextRefused at)) ⊎ (outcome ≡ outcomes.Memory)

-- the interfaces of all words, and then their texts
abbrev pub ChecksAll : Tables → List Object → Result (Unit {0}) Outcome → Type 0
ChecksAll t objects (Ok done) = Never (LacksInterface t) objects × Never Breaks objects
ChecksAll t objects (Err outcome) = NamesAll t objects (Err outcome) ⊎ (Never (LacksInterface t) objects × ReadsAll objects (Err outcome))

-- ---- the objects

-- words as they are when objects are made: short, few, apart, and their texts are read
pub record AreSound (objects : List Object) : Type 0 where
  pub short : AllByRecursion AreShort objects
  pub few : length objects ≤ MOST_WORDS
  pub apart : AreApart objects
  pub reads : Never Breaks objects

-- what has this name is known
abbrev pub IsPlaceOf : Known → Named → Type 0
IsPlaceOf known (names.Object identity) = ⊥
IsPlaceOf known (names.Place identity) = IsKnown known.objects identity
IsPlaceOf known (names.Adapter id) = IsKnown known.adapters id

-- an object has this name
abbrev pub IsObjectOf : Objects → Named → Type 0
IsObjectOf o (names.Object identity) = HasKey o.keys (identity, [])
IsObjectOf o (names.Place identity) = ⊥
IsObjectOf o (names.Adapter id) = ⊥

-- the word names an interface
abbrev pub NamesInterface : Tables → Word → Type 0
NamesInterface t word = ((at : ℕ) → HasId (interface_ids t) word at → ⊥) → ⊥

-- the interfaces of the word are there
abbrev pub IsInterfaced : Tables → Object → Type 0
IsInterfaced t object = (word : Word) → LacksInterface t object word → ⊥

-- lanes of the objects, and passes with no call
pub record AreLanes (o : Objects) (lanes : Lanes) (passes : LanePasses) : Type 0 where
  pub keys : lanes.keys ≡ o.keys
  pub opens : Opens o.servants lanes
  pub of : AreOf lanes passes
  pub new : AreNew passes
  pub whole : AreWhole passes

-- why there are none: the words are refused; a file could not be read; memory lacked
abbrev pub MakesNone : Serve → Option Files → (before after : ℕ) → Answer → Type 0
MakesNone c files before after answer = (Refuses c files answer × (after ≡ before))
    ⊎ (((answer ≡ read_failed) × (after ≡ one_more before)) ⊎ ((answer ≡ no_memory) × (after ≡ before)))

abbrev pub MakesLanes : Serve → Option Files → (before after : ℕ) → Result (Lanes × LanePasses) Outcome → Type 0
MakesLanes c files before after (Ok made) = (o : Objects) × Sets c files o × AreLanes o made.0 made.1 × (after ≡ before)
MakesLanes c files before after (Err outcome) = MakesNone c files before after (answered_by outcome)

-- ---- listening and serving

-- sessions were served, and then it ended so
abbrev pub Serves : Serve → Lanes → LanePasses → Option ToldListener → (old new : Option (List ℕ)) → (before after : ℕ) → (net later : Network) → Ending → Type 0
Serves c lanes begun first old new before after net later ending = (count : ℕ) × (failed starved : Bool)
    × Heard c lanes begun first net later count failed starved × EndsWith old new before after (served count) failed starved ending

-- where it listens could not be written; or it was, and sessions were served
abbrev pub Listens : Serve → Lanes → LanePasses → Option ToldListener → (port : ℕ) → (old new : Option (List ℕ)) → (before after : ℕ) → (net later : Network) → Ending → Type 0
Listens c lanes begun first port old new before after net later ending =
    ((ending ≡ endings.Known outcomes.WriteFailed) × AppendsPrefix old new (listening port) × (after ≡ one_more before)
    × (later.told ≡ came_back (gathered_of first) net.told) × (later.failures ≡ net.failures))
    ⊎ ((mid : Option (List ℕ)) × Appends old mid (listening port) × Serves c lanes begun first mid new before after net later ending)

-- the net could not listen; or it did, at a port with a new listener, and it went on from there
abbrev pub Asks : Serve → Lanes → LanePasses → (old new : Option (List ℕ)) → (before after : ℕ) → (net later : Network) → Ending → Type 0
Asks c lanes begun old new before after net later ending =
    ((ending ≡ endings.NetworkFailed) × (new ≡ old) × (after ≡ before)
    × (later.told ≡ asked c net.told) × (later.failures ≡ one_more net.failures))
    ⊎ ((first : Option ToldListener) × (port : ℕ) × IsNewListener net.told first × IsPort c port
    × Listens c lanes begun first port old new before after (network (asked c net.told) net.failures) later ending)
