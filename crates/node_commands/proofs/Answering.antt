-- What the program did, from what its parts did.
use Rattle.std.proofs.Common.{◌≡◌, ℕ, true, false, List, [], Option, Some, Result, Ok, Err, refl, sym, subst, inl, inr}
use Rattle.node_commands.specs.Words.{Command}
use Rattle.node_commands.specs.Outside.{Files, Failures, counts}
use Rattle.node_commands.specs.Answers.{Answer, done, different, usage, no_such_name, slice_refused, input_refused, json_refused, too_long, needs_sliced, text_refused, read_failed, write_failed, no_memory, refused_after, read_failed_after, no_memory_after}
use Rattle.node_commands.specs.Decided.{Decides}
use Rattle.node_commands.specs.Causes.{Causes, IsToBeWritten}
use Rattle.node_commands.proofs.Telling.{to_be_written}
use Rattle.node_commands.specs.Effects.{TakesInput, Takes, Outputs}
use Rattle.node_commands.specs.declared.found.Found.{Found}
use Rattle.node_commands.specs.declared.found.Found.TheVariants as founds
use Rattle.node_commands.specs.declared.outcome.Outcome.{Outcome}
use Rattle.node_commands.specs.declared.outcome.Outcome.TheVariants as outcomes
use Rattle.node_commands.specs.Outcomes.{Prints, PrintsFor, PrintsOrTells, Finds, answer_of, verdict_line, found_answer, found_bytes, found_outcome}
use Rattle.node_commands.proofs.Keeping.{keeps_itself}
use Rattle.std.proofs.KnownBytes.{Appends-nil}

-- what was decided was written, or a write of it failed
pub printed : (asked : Option Command) (files : Option Files) (input left : Option (List ℕ)) (before after : Failures) (bytes : List ℕ) (outcome : Outcome) → Decides asked files input (done bytes) → after.shelf ≡ before.shelf → after.source ≡ before.source → TakesInput asked input left
    → Prints before.sink after.sink outcome → Causes asked files input before after (answer_of outcome bytes) × Takes asked input left (answer_of outcome bytes)
printed asked files input left before after bytes outcome decided shelf source taken (inl p) = rw p.0 ((decided, (shelf, source, p.1)), taken)
printed asked files input left before after bytes outcome decided shelf source taken (inr p) = rw p.0 ((to_be_written asked files input bytes decided, (shelf, source, p.1)), taken)

-- what was found was written, or a write of it failed
module _ (command : Command) (files : Option Files) (input left : Option (List ℕ)) (before after : Failures) (denied : (bytes : List ℕ) → Decides (Some command) files input (different bytes) → IsToBeWritten (Some command) files input bytes) where
  pub found_printed : (found : Found) (outcome : Outcome) → Decides (Some command) files input (found_answer found) → after.shelf ≡ before.shelf → after.source ≡ before.source → TakesInput (Some command) input left → PrintsFor (found_outcome found) before.sink after.sink outcome
      → Causes (Some command) files input before after (answer_of outcome (found_bytes found)) × Takes (Some command) input left (answer_of outcome (found_bytes found))
  found_printed (founds.Bytes bytes) outcome decided shelf source taken prints = printed (Some command) files input left before after bytes.items outcome decided shelf source taken prints
  found_printed (founds.Denial bytes) outcome decided shelf source taken (inl p) = rw p.0 ((decided, (shelf, source, p.1)), taken)
  found_printed (founds.Denial bytes) outcome decided shelf source taken (inr p) = rw p.0 ((denied bytes.items decided, (shelf, source, p.1)), taken)
  found_printed (founds.Verdict true) outcome decided shelf source taken prints = printed (Some command) files input left before after (verdict_line true) outcome decided shelf source taken prints
  found_printed (founds.Verdict false) outcome decided shelf source taken (inl p) = rw p.0 ((decided, (shelf, source, p.1)), taken)
  found_printed (founds.Verdict false) outcome decided shelf source taken (inr p) = rw p.0 ((denied (verdict_line false) decided, (shelf, source, p.1)), taken)

-- a command that takes nothing of the input does so whatever the answer
pub takes_nothing : (asked : Option Command) (old : Option (List ℕ)) → TakesInput asked old old → (answer : Answer) → Takes asked old old answer
takes_nothing asked old none (done bytes) = none
takes_nothing asked old none (different bytes) = none
takes_nothing asked old none usage = keeps_itself old
takes_nothing asked old none (no_such_name word) = keeps_itself old
takes_nothing asked old none (slice_refused broken) = keeps_itself old
takes_nothing asked old none (input_refused fault) = none
takes_nothing asked old none (json_refused why) = none
takes_nothing asked old none (too_long length) = none
takes_nothing asked old none needs_sliced = none
takes_nothing asked old none (text_refused place) = keeps_itself old
takes_nothing asked old none read_failed = none
takes_nothing asked old none (write_failed bytes) = none
takes_nothing asked old none no_memory = none
takes_nothing asked old none (refused_after written fault) = none
takes_nothing asked old none (read_failed_after written) = none
takes_nothing asked old none (no_memory_after written) = none

-- nothing was written of no bytes, whatever the answer
pub outputs_nothing : (old : Option (List ℕ)) (answer : Outcome) → Outputs old old (answer_of answer [])
outputs_nothing old outcomes.Done = Appends-nil old
outputs_nothing old outcomes.Different = Appends-nil old
outputs_nothing old outcomes.Usage = keeps_itself old
outputs_nothing old (outcomes.NoSuchName word) = keeps_itself old
outputs_nothing old (outcomes.SliceRefused file place kind) = keeps_itself old
outputs_nothing old (outcomes.InputRefused fault) = keeps_itself old
outputs_nothing old (outcomes.JsonRefused why) = keeps_itself old
outputs_nothing old outcomes.NeedsSliced = keeps_itself old
outputs_nothing old (outcomes.TooLong length) = keeps_itself old
outputs_nothing old (outcomes.TextRefused place) = keeps_itself old
outputs_nothing old outcomes.ReadFailed = keeps_itself old
outputs_nothing old outcomes.WriteFailed = inr (refl, Appends-nil old)
outputs_nothing old outcomes.Memory = keeps_itself old
outputs_nothing old (outcomes.RefusedAfter fault) = Appends-nil old
outputs_nothing old outcomes.ReadFailedAfter = Appends-nil old
outputs_nothing old outcomes.MemoryAfter = Appends-nil old

-- a command without an input: what it found was written, or nothing was found
module _ (command : Command) (files : Option Files) (input : Option (List ℕ)) (none : TakesInput (Some command) input input) (shelf after source sink later : ℕ) (old new : Option (List ℕ)) (denied : (bytes : List ℕ) → Decides (Some command) files input (different bytes) → IsToBeWritten (Some command) files input bytes) where
  pub printed_or_told : (found : Result Found Outcome) (outcome : Outcome) → Finds command files input (counts shelf source sink) (counts after source sink) found → PrintsOrTells found old new sink later outcome
      → (bytes : List ℕ) × Causes (Some command) files input (counts shelf source sink) (counts after source later) (answer_of outcome bytes) × Takes (Some command) input input (answer_of outcome bytes) × Outputs old new (answer_of outcome bytes)
  printed_or_told (Ok found) outcome (decided, kept) (prints, gets) =
      let came = found_printed command files input input (counts shelf source sink) (counts after source later) denied found outcome decided kept.0 refl none prints in
      (found_bytes found, came.0, came.1, gets)
  printed_or_told (Err why) outcome causes (is, count, kept) =
      rw is (
        [],
        subst (λ (n : ℕ). Causes (Some command) files input (counts shelf source sink) (counts after source n) (answer_of why [])) (sym count) causes,
        takes_nothing (Some command) input none (answer_of why []),
        subst (λ (x : Option (List ℕ)). Outputs old x (answer_of why [])) (sym kept) (outputs_nothing old why),
      )
