-- What each answer took of the input, and what the sinks got.
use Rattle.std.specs.Prelude.{ℕ, ◌≡◌, ◌⊎◌, List, [], Option, Some, None}
use Rattle.std.specs.Io.KnownBytes.{Keeps, Appends}
use Rattle.ice_ports.specs.Failures.{one_more}
use Rattle.message_dump.specs.Sources.{ReadsFrugally}
use Rattle.node_commands.specs.Words.{Command, values, check, proxy, audit, compat, drill, messages, help, version}
use Rattle.ice_ports.specs.Writing.{AppendsPrefix}
use Rattle.ice_relay.specs.Streams.{TakesFrugally, TakesTwoFrugally}
use Rattle.ice_relay.specs.TextStreams.{TakesText}
use Rattle.node_commands.specs.declared.words.Task.{Task}
use Rattle.node_commands.specs.declared.words.Task.TheVariants as tasks
use Rattle.node_commands.specs.Answers.{Answer, done, different, usage, no_such_name, slice_refused, input_refused, json_refused, too_long, needs_sliced, text_refused, read_failed, write_failed, no_memory, refused_after, read_failed_after, no_memory_after, error_line}

-- No more of the input than is wanted: for `relay` and `dump` the encapsulation that it claims and one byte, for `same` two
-- encapsulations and one byte, for `encode` a text and one byte.
abbrev pub TakesTask : Task → Option (List ℕ) → Option (List ℕ) → Type 0
TakesTask (tasks.Relay format) old new = TakesFrugally old new
TakesTask tasks.Same old new = TakesTwoFrugally old new
TakesTask tasks.Dump old new = TakesFrugally old new
TakesTask (tasks.Encode format) old new = TakesText old new

-- `messages` takes another piece only where all messages that were whole are told
abbrev pub TakesInput : Option Command → Option (List ℕ) → Option (List ℕ) → Type 0
TakesInput (Some (values task file word)) old new = TakesTask task old new
TakesInput (Some (check file)) old new = Keeps old new
TakesInput (Some (proxy text)) old new = Keeps old new
TakesInput (Some (audit client server)) old new = Keeps old new
TakesInput (Some (compat before after word)) old new = Keeps old new
TakesInput (Some (drill start count)) old new = Keeps old new
TakesInput (Some messages) old new = ReadsFrugally old new
TakesInput (Some (help page)) old new = Keeps old new
TakesInput (Some version) old new = Keeps old new
TakesInput None old new = Keeps old new

-- what was taken of the input: nothing where the answer comes without it
abbrev pub Takes : Option Command → Option (List ℕ) → Option (List ℕ) → Answer → Type 0
Takes asked old new (done bytes) = TakesInput asked old new
Takes asked old new (different bytes) = TakesInput asked old new
Takes asked old new usage = Keeps old new
Takes asked old new (no_such_name word) = Keeps old new
Takes asked old new (slice_refused broken) = Keeps old new
Takes asked old new (input_refused fault) = TakesInput asked old new
Takes asked old new (json_refused why) = TakesInput asked old new
Takes asked old new (too_long length) = TakesInput asked old new
Takes asked old new needs_sliced = TakesInput asked old new
Takes asked old new (text_refused place) = Keeps old new
Takes asked old new read_failed = TakesInput asked old new
Takes asked old new (write_failed bytes) = TakesInput asked old new
Takes asked old new no_memory = TakesInput asked old new
Takes asked old new (refused_after written fault) = TakesInput asked old new
Takes asked old new (read_failed_after written) = TakesInput asked old new
Takes asked old new (no_memory_after written) = TakesInput asked old new

-- after a failed write: a prefix of the bytes, and not all of them; of no bytes nothing
abbrev pub AppendsLess : Option (List ℕ) → Option (List ℕ) → List ℕ → Type 0
AppendsLess old new bytes = AppendsPrefix old new bytes ⊎ ((bytes ≡ []) × Appends old new [])

-- what the sink got: the bytes, less of them after a failed write, and of a refusal nothing, or what was written before it
abbrev pub Outputs : Option (List ℕ) → Option (List ℕ) → Answer → Type 0
Outputs old new (done bytes) = Appends old new bytes
Outputs old new (different bytes) = Appends old new bytes
Outputs old new usage = Keeps old new
Outputs old new (no_such_name word) = Keeps old new
Outputs old new (slice_refused broken) = Keeps old new
Outputs old new (input_refused fault) = Keeps old new
Outputs old new (json_refused why) = Keeps old new
Outputs old new (too_long length) = Keeps old new
Outputs old new needs_sliced = Keeps old new
Outputs old new (text_refused place) = Keeps old new
Outputs old new read_failed = Keeps old new
Outputs old new (write_failed bytes) = AppendsLess old new bytes
Outputs old new no_memory = Keeps old new
Outputs old new (refused_after written fault) = Appends old new written
Outputs old new (read_failed_after written) = Appends old new written
Outputs old new (no_memory_after written) = Appends old new written

-- what the sink of errors got: this text, or a prefix of it where a write to it failed
abbrev pub GetsText : (old new : Option (List ℕ)) → (before after : ℕ) → List ℕ → Type 0
GetsText old new before after text =
    (Appends old new text × (after ≡ before)) ⊎ (AppendsPrefix old new text × (after ≡ one_more before))

-- the answer's line
abbrev pub GetsLine : (old new : Option (List ℕ)) → (before after : ℕ) → Answer → Type 0
GetsLine old new before after answer = GetsText old new before after (error_line answer)
