-- When each answer comes, with what failed in the call.
use Rattle.std.specs.Prelude.{ℕ, ◌⊎◌, List, ◌++◌, Option, Some, None, IfSome}
use Rattle.ice_types.specs.declared.kind.TypeRef.{TypeRef}
use Rattle.ice_types.specs.Tables.{Tables}
use Rattle.message_dump.specs.Sources.{TellsSome}
use Rattle.node_commands.specs.Words.{Word, Command, values, check, proxy, audit, compat, drill, messages, help, version}
use Rattle.node_commands.specs.declared.words.Task.TheVariants as tasks
use Rattle.node_commands.specs.Outside.{Files, Failures, NoneFailed, ShelfFailed, SourceFailed, SinkFailed}
use Rattle.node_commands.specs.Answers.{Answer, done, different, usage, no_such_name, slice_refused, input_refused, json_refused, too_long, needs_sliced, text_refused, read_failed, write_failed, no_memory, refused_after, read_failed_after, no_memory_after}
use Rattle.node_commands.specs.Decided.{IsSchema, IsNamed, Decides}

-- FILE means a schema in which the word names a type: only then is the input read
abbrev pub WantsValue : Option Files → Word → Word → Type 0
WantsValue files file word = (t : Tables) × (kind : TypeRef)
    × IsSchema files file t × IsNamed t word kind

-- A read failed: of FILE, of OLD or NEW or a file that these include, of CLIENT or SERVER; or of the input, where it is wanted.
abbrev pub ReadFails : Option Command → Option Files → Failures → Failures → Type 0
ReadFails (Some (values task file word)) files before after =
    ShelfFailed before after ⊎ (WantsValue files file word × SourceFailed before after)
ReadFails (Some (check file)) files before after = ShelfFailed before after
ReadFails (Some (proxy text)) files before after = ⊥
ReadFails (Some (audit client server)) files before after = ShelfFailed before after
ReadFails (Some (compat old new word)) files before after = ShelfFailed before after
ReadFails (Some (drill start count)) files before after = ⊥
ReadFails (Some messages) files before after = ⊥
ReadFails (Some (help page)) files before after = ⊥
ReadFails (Some version) files before after = ⊥
ReadFails None files before after = ⊥

-- memory may run out before anything is written: for the commands that load a file, read a proxy or draw a graph
abbrev pub MayRunOut : Option Command → Type 0
MayRunOut (Some (values task file word)) = Unit {0}
MayRunOut (Some (check file)) = Unit {0}
MayRunOut (Some (proxy text)) = Unit {0}
MayRunOut (Some (audit client server)) = Unit {0}
MayRunOut (Some (compat old new word)) = Unit {0}
MayRunOut (Some (drill start count)) = Unit {0}
MayRunOut (Some messages) = ⊥
MayRunOut (Some (help page)) = ⊥
MayRunOut (Some version) = ⊥
MayRunOut None = ⊥

-- the lines of messages with which the input begins, where the source tells it
abbrev pub TellsFirst : Option (List ℕ) → List ℕ → Type 0
TellsFirst input lines = IfSome input (λ known. TellsSome known lines)

-- These bytes were to be written: the whole answer, or of messages the lines that are known, since each is written by itself.
abbrev pub IsToBeWritten : Option Command → Option Files → Option (List ℕ) → List ℕ → Type 0
IsToBeWritten (Some messages) files input bytes = TellsFirst input bytes
IsToBeWritten (Some (values (tasks.Relay format) file word)) files input bytes = Decides (Some (values (tasks.Relay format) file word)) files input (done bytes)
IsToBeWritten (Some (values tasks.Same file word)) files input bytes = Decides (Some (values tasks.Same file word)) files input (done bytes)
    ⊎ Decides (Some (values tasks.Same file word)) files input (different bytes)
IsToBeWritten (Some (values tasks.Dump file word)) files input bytes = Decides (Some (values tasks.Dump file word)) files input (done bytes)
IsToBeWritten (Some (values (tasks.Encode format) file word)) files input bytes = Decides (Some (values (tasks.Encode format) file word)) files input (done bytes)
IsToBeWritten (Some (check file)) files input bytes = Decides (Some (check file)) files input (done bytes)
IsToBeWritten (Some (proxy text)) files input bytes = Decides (Some (proxy text)) files input (done bytes)
IsToBeWritten (Some (audit client server)) files input bytes = Decides (Some (audit client server)) files input (done bytes)
    ⊎ Decides (Some (audit client server)) files input (different bytes)
IsToBeWritten (Some (compat old new word)) files input bytes = Decides (Some (compat old new word)) files input (done bytes)
    ⊎ Decides (Some (compat old new word)) files input (different bytes)
IsToBeWritten (Some (drill start count)) files input bytes = Decides (Some (drill start count)) files input (done bytes)
IsToBeWritten (Some (help page)) files input bytes = Decides (Some (help page)) files input (done bytes)
IsToBeWritten (Some version) files input bytes = Decides (Some version) files input (done bytes)
IsToBeWritten None files input bytes = Decides None files input (done bytes)

-- `messages` has written these lines, and goes on
abbrev pub HasTold : Option Command → Option (List ℕ) → List ℕ → Type 0
HasTold (Some messages) input written = TellsFirst input written
HasTold (Some (values task file word)) input written = ⊥
HasTold (Some (check file)) input written = ⊥
HasTold (Some (proxy text)) input written = ⊥
HasTold (Some (audit client server)) input written = ⊥
HasTold (Some (compat old new word)) input written = ⊥
HasTold (Some (drill start count)) input written = ⊥
HasTold (Some (help page)) input written = ⊥
HasTold (Some version) input written = ⊥
HasTold None input written = ⊥

-- These bytes were written before memory ran out: of `messages` lines that are known, of `dump` the beginning of its line.
abbrev pub HasWritten : Option Command → Option Files → Option (List ℕ) → List ℕ → Type 0
HasWritten (Some messages) files input written = TellsFirst input written
HasWritten (Some (values (tasks.Relay format) file word)) files input written = ⊥
HasWritten (Some (values tasks.Same file word)) files input written = ⊥
HasWritten (Some (values tasks.Dump file word)) files input written = (rest : List ℕ) × Decides (Some (values tasks.Dump file word)) files input (done (written ++ rest))
HasWritten (Some (values (tasks.Encode format) file word)) files input written = ⊥
HasWritten (Some (check file)) files input written = ⊥
HasWritten (Some (proxy text)) files input written = ⊥
HasWritten (Some (audit client server)) files input written = ⊥
HasWritten (Some (compat old new word)) files input written = ⊥
HasWritten (Some (drill start count)) files input written = ⊥
HasWritten (Some (help page)) files input written = ⊥
HasWritten (Some version) files input written = ⊥
HasWritten None files input written = ⊥

-- The cause of each answer. Each but 5 and 6 comes where no call failed; after those, one has.
abbrev pub Causes : Option Command → Option Files → Option (List ℕ)
    → (before after : Failures) → Answer → Type 0
Causes asked files input before after (done bytes) =
    Decides asked files input (done bytes) × NoneFailed before after
Causes asked files input before after (different bytes) =
    Decides asked files input (different bytes) × NoneFailed before after
Causes asked files input before after usage =
    Decides asked files input usage × NoneFailed before after
Causes asked files input before after (no_such_name word) =
    Decides asked files input (no_such_name word) × NoneFailed before after
Causes asked files input before after (slice_refused broken) =
    Decides asked files input (slice_refused broken) × NoneFailed before after
Causes asked files input before after (input_refused fault) =
    Decides asked files input (input_refused fault) × NoneFailed before after
Causes asked files input before after (json_refused why) =
    Decides asked files input (json_refused why) × NoneFailed before after
Causes asked files input before after (too_long length) =
    Decides asked files input (too_long length) × NoneFailed before after
Causes asked files input before after needs_sliced =
    Decides asked files input needs_sliced × NoneFailed before after
Causes asked files input before after (text_refused place) =
    Decides asked files input (text_refused place) × NoneFailed before after
Causes asked files input before after read_failed =
    ReadFails asked files before after
Causes asked files input before after (write_failed bytes) =
    IsToBeWritten asked files input bytes × SinkFailed before after
Causes asked files input before after no_memory =
    MayRunOut asked × NoneFailed before after
Causes asked files input before after (refused_after written fault) =
    Decides asked files input (refused_after written fault) × NoneFailed before after
Causes asked files input before after (read_failed_after written) =
    HasTold asked input written × SourceFailed before after
Causes asked files input before after (no_memory_after written) =
    HasWritten asked files input written × NoneFailed before after
