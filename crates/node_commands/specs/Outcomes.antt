-- How the program's answer is seen inside it, before the bytes of an answer are told.
use Rattle.std.specs.Prelude.{ℕ, ◌≡◌, ◌⊎◌, Bool, true, false, List, [], ◌++◌, Option, Some, Result, Ok, Err, Vec, String, string_bytes, codes}
use Rattle.std.specs.declared.alloc.Global.{Global}
use Rattle.ice_types.specs.declared.kind.TypeRef.{TypeRef}
use Rattle.ice_types.specs.Tables.{Tables}
use Rattle.ice_prims.specs.declared.fault.ReadFault.{ReadFault}
use Rattle.ice_prims.specs.declared.fault.ReadFault.TheVariants as read_faults
use Rattle.ice_relay.specs.declared.fault.RelayFault.{RelayFault}
use Rattle.ice_relay.specs.declared.fault.RelayFault.TheVariants as relay_faults
use Rattle.ice_relay.specs.declared.dump_fault.DumpFault.{DumpFault}
use Rattle.ice_relay.specs.declared.dump_fault.DumpFault.TheVariants as line_faults
use Rattle.ice_relay.specs.declared.drill_fault.DrillFault.{DrillFault}
use Rattle.ice_relay.specs.declared.drill_fault.DrillFault.TheVariants as drill_faults
use Rattle.ice_ports.specs.declared.ports.PortFault.{PortFault}
use Rattle.ice_ports.specs.declared.ports.PortFault.TheVariants as port_faults
use Rattle.ice_ports.specs.Failures.{one_more}
use Rattle.ice_proxy.specs.declared.fault.TextFault.{TextFault}
use Rattle.ice_proxy.specs.declared.fault.TextFault.TheVariants as text_faults
use Rattle.message_dump.specs.declared.dump.Dump.{Dump}
use Rattle.message_dump.specs.declared.dump.Dump.TheVariants as dumps
use Rattle.ice_audit.specs.declared.verdict.Verdict.{Verdict}
use Rattle.ice_audit.specs.Verdicts.{Judges}
use Rattle.slice_check.specs.declared.fault.LoadFault.{LoadFault}
use Rattle.slice_check.specs.declared.fault.LoadFault.TheVariants as load_faults
use Rattle.node_commands.specs.declared.outcome.Outcome.{Outcome}
use Rattle.node_commands.specs.declared.outcome.Outcome.TheVariants as outcomes
use Rattle.node_commands.specs.declared.found.Found.{Found}
use Rattle.node_commands.specs.declared.found.Found.TheVariants as founds
use Rattle.node_commands.specs.declared.words.Task.{Task}
use Rattle.node_commands.specs.declared.words.Task.TheVariants as tasks
use Rattle.node_commands.specs.Words.{Word, Command}
use Rattle.node_commands.specs.Outside.{Files, Failures, NoneFailed, SourceFailed, SinkFailed}
use Rattle.node_commands.specs.Answers.{Answer, done, different, usage, no_such_name, slice_refused, input_refused, json_refused, too_long, needs_sliced, text_refused, read_failed, write_failed, no_memory, refused_after, read_failed_after, no_memory_after}
use Rattle.node_commands.specs.Decided.{IsSchema, IsFault, IsNamed, HasFile, HasNoFile, WithType, Does, Decides, judged, TellsCompat}
use Rattle.node_commands.specs.Causes.{Causes}
use Rattle.node_commands.specs.Effects.{Outputs}

-- the answer, with the bytes that were to be written
abbrev pub answer_of : Outcome → List ℕ → Answer
answer_of outcomes.Done bytes = done bytes
answer_of outcomes.Different bytes = different bytes
answer_of outcomes.Usage bytes = usage
answer_of (outcomes.NoSuchName word) bytes = no_such_name word.now
answer_of (outcomes.SliceRefused file place kind) bytes =
    slice_refused (record { file = file; place = place; kind = kind })
answer_of (outcomes.InputRefused fault) bytes = input_refused fault
answer_of (outcomes.JsonRefused why) bytes = json_refused why
answer_of outcomes.NeedsSliced bytes = needs_sliced
answer_of (outcomes.TooLong length) bytes = too_long length
answer_of (outcomes.TextRefused place) bytes = text_refused place
answer_of outcomes.ReadFailed bytes = read_failed
answer_of outcomes.WriteFailed bytes = write_failed bytes
answer_of outcomes.Memory bytes = no_memory
answer_of (outcomes.RefusedAfter fault) bytes = refused_after bytes fault
answer_of outcomes.ReadFailedAfter bytes = read_failed_after bytes
answer_of outcomes.MemoryAfter bytes = no_memory_after bytes

-- ---- what a fault of a part comes to

-- the outcome of a fault of the outside
abbrev pub of_port : PortFault → Outcome
of_port port_faults.Failed = outcomes.ReadFailed
of_port port_faults.Memory = outcomes.Memory

-- of loading FILE
abbrev pub of_load : LoadFault → Outcome
of_load (load_faults.Text file place kind) = outcomes.SliceRefused file place kind
of_load load_faults.Shelf = outcomes.ReadFailed
of_load load_faults.Memory = outcomes.Memory

-- of reading an input
abbrev pub of_read : ReadFault → Outcome
of_read (read_faults.Broken fault) = outcomes.InputRefused fault
of_read read_faults.Memory = outcomes.Memory

-- of a relay, of bytes or of a text
abbrev pub of_relay : RelayFault → Outcome
of_relay (relay_faults.Broken fault) = outcomes.InputRefused fault
of_relay (relay_faults.TextRefused why) = outcomes.JsonRefused why
of_relay relay_faults.NeedsSliced = outcomes.NeedsSliced
of_relay (relay_faults.TooLong length) = outcomes.TooLong length
of_relay relay_faults.Memory = outcomes.Memory

-- of writing the line that tells a value
abbrev pub of_line : DumpFault → Outcome
of_line (line_faults.Broken fault) = outcomes.InputRefused fault
of_line line_faults.WriteFailed = outcomes.WriteFailed
of_line line_faults.Memory = outcomes.Memory
of_line line_faults.MemoryAfter = outcomes.MemoryAfter

-- of a drill
abbrev pub of_drill : DrillFault → Outcome
of_drill (drill_faults.TooLong length) = outcomes.TooLong length
of_drill drill_faults.Memory = outcomes.Memory

abbrev pub of_text : TextFault → Outcome
of_text (text_faults.Broken place) = outcomes.TextRefused place
of_text text_faults.Memory = outcomes.Memory

-- what telling the messages of an input comes to
abbrev pub of_dump : Dump → Outcome
of_dump dumps.Finished = outcomes.Done
of_dump (dumps.Refused fault) = outcomes.RefusedAfter fault
of_dump dumps.ReadFailed = outcomes.ReadFailedAfter
of_dump dumps.WriteFailed = outcomes.WriteFailed
of_dump dumps.Memory = outcomes.MemoryAfter

-- the bytes were written, with this outcome, and no write failed, or one failed
abbrev pub PrintsFor : Outcome → (before after : ℕ) → Outcome → Type 0
PrintsFor written before after outcome =
    ((outcome ≡ written) × (after ≡ before))
    ⊎ ((outcome ≡ outcomes.WriteFailed) × (after ≡ one_more before))

-- the answer was written, with this outcome, and no write failed; or one did
abbrev pub Prints : (before after : ℕ) → Outcome → Type 0
Prints = PrintsFor outcomes.Done

-- ---- a verdict

-- the line of whether two values are the same
abbrev pub verdict_line : Bool → List ℕ
verdict_line true = codes "same\n"
verdict_line false = codes "different\n"

-- the outcome of whether two values are the same
abbrev pub verdict : Bool → Outcome
verdict true = outcomes.Done
verdict false = outcomes.Different

-- ---- what was found

-- the bytes that are to be written
abbrev pub found_bytes : Found → List ℕ
found_bytes (founds.Bytes bytes) = bytes.items
found_bytes (founds.Denial bytes) = bytes.items
found_bytes (founds.Verdict same) = verdict_line same

-- what it comes to once they are written
abbrev pub found_outcome : Found → Outcome
found_outcome (founds.Bytes bytes) = outcomes.Done
found_outcome (founds.Denial bytes) = outcomes.Different
found_outcome (founds.Verdict same) = verdict same

-- the answer of what was found
abbrev pub found_answer : Found → Answer
found_answer found = answer_of (found_outcome found) (found_bytes found)

-- what was found is written, with what it comes to; or nothing was found, and it is told why
abbrev pub PrintsOrTells : Result Found Outcome → (old new : Option (List ℕ)) → (before after : ℕ) → Outcome → Type 0
PrintsOrTells (Ok found) old new before after outcome =
    PrintsFor (found_outcome found) before after outcome × Outputs old new (answer_of outcome (found_bytes found))
PrintsOrTells (Err why) old new before after outcome = (outcome ≡ why) × (after ≡ before) × (new ≡ old)

-- ---- the steps of the commands

-- why a file gave no schema, with the shelf's count before and after
abbrev pub GivesNoSchema : Option Files → Word → (before after : ℕ) → Answer → Type 0
GivesNoSchema files file before after (slice_refused broken) =
    IsFault files file broken × (after ≡ before)
GivesNoSchema files file before after read_failed = after ≡ one_more before
GivesNoSchema files file before after no_memory = after ≡ before
GivesNoSchema files file before after (done bytes) = ⊥
GivesNoSchema files file before after (different bytes) = ⊥
GivesNoSchema files file before after usage = ⊥
GivesNoSchema files file before after (no_such_name word) = ⊥
GivesNoSchema files file before after (input_refused fault) = ⊥
GivesNoSchema files file before after (json_refused why) = ⊥
GivesNoSchema files file before after (too_long length) = ⊥
GivesNoSchema files file before after needs_sliced = ⊥
GivesNoSchema files file before after (text_refused place) = ⊥
GivesNoSchema files file before after (write_failed bytes) = ⊥
GivesNoSchema files file before after (refused_after written fault) = ⊥
GivesNoSchema files file before after (read_failed_after written) = ⊥
GivesNoSchema files file before after (no_memory_after written) = ⊥

-- the schema of the file, or why there is none
abbrev pub FindsSchema : Option Files → Word → (before after : ℕ) → Result Tables Outcome → Type 0
FindsSchema files file before after (Ok t) = IsSchema files file t × (after ≡ before)
FindsSchema files file before after (Err outcome) =
    GivesNoSchema files file before after (answer_of outcome [])

-- why a name gave no bytes, with the shelf's count before and after
abbrev pub GivesNoFile : Option Files → Word → (before after : ℕ) → Answer → Type 0
GivesNoFile files name before after answer =
    (HasNoFile files name × (answer ≡ no_such_name name) × (after ≡ before))
    ⊎ ((answer ≡ read_failed) × (after ≡ one_more before))
    ⊎ ((answer ≡ no_memory) × (after ≡ before))

-- the bytes of the file of this name, or why there are none
abbrev pub FindsFile : Option Files → Word → (before after : ℕ) → Result (List ℕ) Outcome → Type 0
FindsFile files name before after (Ok bytes) = HasFile files name bytes × (after ≡ before)
FindsFile files name before after (Err outcome) = GivesNoFile files name before after (answer_of outcome [])

-- what is to be written of a capture
abbrev pub FindsVerdict : (client server : List ℕ) → Found → Type 0
FindsVerdict client server found = (verdict : Verdict) × Judges client server verdict × (found_answer found ≡ judged verdict)

-- what is to be written of a type of two schemas
abbrev pub FindsCompat : (t u : Tables) (kind other : TypeRef) → Found → Type 0
FindsCompat t u kind other found = TellsCompat t u kind other (found_answer found)

-- the type that the word names, or that there is none
abbrev pub FindsType : Tables → Word → Result TypeRef Outcome → Type 0
FindsType t word (Ok kind) = IsNamed t word kind
FindsType t word (Err outcome) = WithType t word (answer_of outcome []) (λ kind. ⊥)

-- why a task with values of a type finds nothing, with the source's count before and after
abbrev pub FindsNone : Task → Option (List ℕ) → Tables → TypeRef → (before after : ℕ) → Answer → Type 0
FindsNone task input t kind before after (input_refused fault) =
    Does task input t kind (input_refused fault) × (after ≡ before)
FindsNone task input t kind before after (json_refused why) =
    Does task input t kind (json_refused why) × (after ≡ before)
FindsNone task input t kind before after (too_long length) =
    Does task input t kind (too_long length) × (after ≡ before)
FindsNone task input t kind before after needs_sliced =
    Does task input t kind needs_sliced × (after ≡ before)
FindsNone task input t kind before after read_failed = after ≡ one_more before
FindsNone task input t kind before after no_memory = after ≡ before
FindsNone task input t kind before after (done bytes) = ⊥
FindsNone task input t kind before after (different bytes) = ⊥
FindsNone task input t kind before after usage = ⊥
FindsNone task input t kind before after (no_such_name word) = ⊥
FindsNone task input t kind before after (slice_refused broken) = ⊥
FindsNone task input t kind before after (text_refused place) = ⊥
FindsNone task input t kind before after (write_failed bytes) = ⊥
FindsNone task input t kind before after (refused_after written fault) = ⊥
FindsNone task input t kind before after (read_failed_after written) = ⊥
FindsNone task input t kind before after (no_memory_after written) = ⊥

-- what the task finds, or why it finds nothing
abbrev pub FindsTask : Task → Option (List ℕ) → Tables → TypeRef → (before after : ℕ) → Result Found Outcome → Type 0
FindsTask task input t kind before after (Ok found) =
    Does task input t kind (found_answer found) × (after ≡ before)
FindsTask task input t kind before after (Err outcome) =
    FindsNone task input t kind before after (answer_of outcome [])

-- these bytes were written of the answer to a task: of `dump` alone, whose line begins with them
abbrev pub IsBegun : Task → Option (List ℕ) → Tables → TypeRef → List ℕ → Type 0
IsBegun (tasks.Relay format) input t kind written = ⊥
IsBegun tasks.Same input t kind written = ⊥
IsBegun tasks.Dump input t kind written = (rest : List ℕ) × Does tasks.Dump input t kind (done (written ++ rest))
IsBegun (tasks.Encode format) input t kind written = ⊥

-- the cause of each answer to a task with values of a type, with what failed
abbrev pub CausesTask : Task → Option (List ℕ) → Tables → TypeRef → (before after : Failures) → Answer → Type 0
CausesTask task input t kind before after (done bytes) =
    Does task input t kind (done bytes) × NoneFailed before after
CausesTask task input t kind before after (different bytes) =
    Does task input t kind (different bytes) × NoneFailed before after
CausesTask task input t kind before after (input_refused fault) =
    Does task input t kind (input_refused fault) × NoneFailed before after
CausesTask task input t kind before after (json_refused why) =
    Does task input t kind (json_refused why) × NoneFailed before after
CausesTask task input t kind before after (too_long length) =
    Does task input t kind (too_long length) × NoneFailed before after
CausesTask task input t kind before after needs_sliced =
    Does task input t kind needs_sliced × NoneFailed before after
CausesTask task input t kind before after read_failed = SourceFailed before after
CausesTask task input t kind before after (write_failed bytes) =
    (Does task input t kind (done bytes) ⊎ Does task input t kind (different bytes)) × SinkFailed before after
CausesTask task input t kind before after no_memory = NoneFailed before after
CausesTask task input t kind before after (no_memory_after written) =
    IsBegun task input t kind written × NoneFailed before after
CausesTask task input t kind before after usage = ⊥
CausesTask task input t kind before after (no_such_name word) = ⊥
CausesTask task input t kind before after (slice_refused broken) = ⊥
CausesTask task input t kind before after (text_refused place) = ⊥
CausesTask task input t kind before after (refused_after written fault) = ⊥
CausesTask task input t kind before after (read_failed_after written) = ⊥

-- the bytes that the command is to write, or why there are none
abbrev pub FindsBytes : Command → Option Files → Option (List ℕ) → (before after : Failures)
    → Result (List ℕ) Outcome → Type 0
FindsBytes command files input before after (Ok bytes) =
    Decides (Some command) files input (done bytes) × NoneFailed before after
FindsBytes command files input before after (Err outcome) =
    Causes (Some command) files input before after (answer_of outcome [])

-- what the command is to write, or why there is nothing
abbrev pub Finds : Command → Option Files → Option (List ℕ) → (before after : Failures)
    → Result Found Outcome → Type 0
Finds command files input before after (Ok found) =
    Decides (Some command) files input (found_answer found) × NoneFailed before after
Finds command files input before after (Err outcome) =
    Causes (Some command) files input before after (answer_of outcome [])

-- the bytes of a vector that was found, and those of a text
abbrev pub bytes_found : {E : Type 0} → Result (Vec ℕ Global) E → Result (List ℕ) E
bytes_found (Ok found) = Ok found.items
bytes_found (Err e) = Err e

-- the bytes of a text that was found
abbrev pub text_found : {E : Type 0} → Result (String Global) E → Result (List ℕ) E
text_found (Ok found) = Ok (string_bytes found)
text_found (Err e) = Err e
