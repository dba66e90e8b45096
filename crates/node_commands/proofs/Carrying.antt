-- A task with values of a type, up to the last byte of its answer.
use Rattle.std.proofs.Common.{◌≡◌, ◌⊎◌, ℕ, true, false, List, [], ◌++◌, Option, Some, Result, Ok, Err, refl, sym, ap, subst, inl, inr}
use Rattle.ice_types.specs.declared.kind.TypeRef.{TypeRef}
use Rattle.ice_types.specs.Tables.{Tables}
use Rattle.ice_encoding.specs.Graph.{Graph}
use Rattle.ice_relay.specs.declared.dump_fault.DumpFault.{DumpFault}
use Rattle.ice_relay.specs.declared.dump_fault.DumpFault.TheVariants as faults
use Rattle.ice_relay.specs.Relaying.{Holds}
use Rattle.ice_relay.specs.Dumping.{dump_line, DumpsTo}
use Rattle.ice_relay.specs.Streams.{ReadsInput}
use Rattle.ice_ports.specs.declared.ports.PortFault.{PortFault}
use Rattle.ice_ports.specs.Failures.{count_after}
use Rattle.ice_ports.specs.Files.{is_failed}
use Rattle.node_commands.specs.declared.found.Found.{Found}
use Rattle.node_commands.specs.declared.found.Found.TheVariants as founds
use Rattle.node_commands.specs.declared.outcome.Outcome.{Outcome}
use Rattle.node_commands.specs.declared.outcome.Outcome.TheVariants as outcomes
use Rattle.node_commands.specs.declared.words.Task.{Task}
use Rattle.node_commands.specs.declared.words.Task.TheVariants as tasks
use Rattle.node_commands.specs.Words.{Word, values}
use Rattle.node_commands.specs.Outside.{Files, Failures, counts}
use Rattle.node_commands.specs.Answers.{Answer, done, different, input_refused, json_refused, too_long, needs_sliced, read_failed, write_failed, no_memory, no_memory_after}
use Rattle.node_commands.specs.Decided.{IsSchema, IsNamed, Does, Decides}
use Rattle.node_commands.specs.Causes.{IsToBeWritten, HasWritten, Causes}
use Rattle.node_commands.specs.Effects.{TakesTask, Takes, Outputs}
use Rattle.node_commands.specs.Outcomes.{PrintsFor, PrintsOrTells, FindsNone, FindsTask, IsBegun, CausesTask, answer_of, found_answer, found_bytes, found_outcome, of_port, of_line}
use Rattle.node_commands.proofs.Answering.{outputs_nothing}
use Rattle.node_commands.proofs.Denying.{no_is_to_be_written}
use Rattle.node_commands.proofs.Finding.{unread, graph_read, fault_read}
use Rattle.node_commands.proofs.Telling.{to_be_written}

-- ---- FILE and TYPE lead to it

module _ (files : Option Files) (input : Option (List ℕ)) (file word : Word) (t : Tables) (kind : TypeRef) (schema : IsSchema files file t) (named : IsNamed t word kind) where
  decided : (task : Task) (answer : Answer) → Does task input t kind answer → Decides (Some (values task file word)) files input answer
  decided task answer d = inr (t, schema, inr (kind, named, d))

  to_write : (task : Task) (bytes : List ℕ) → Does task input t kind (done bytes) ⊎ Does task input t kind (different bytes) → IsToBeWritten (Some (values task file word)) files input bytes
  to_write task bytes (inl d) = to_be_written (Some (values task file word)) files input bytes (decided task (done bytes) d)
  to_write task bytes (inr d) = no_is_to_be_written task files input file word bytes (decided task (different bytes) d)

  begun : (task : Task) (written : List ℕ) → IsBegun task input t kind written → HasWritten (Some (values task file word)) files input written
  begun (tasks.Relay format) written h = absurd h
  begun tasks.Same written h = absurd h
  begun tasks.Dump written (rest, d) = (rest, decided tasks.Dump (done (written ++ rest)) d)
  begun (tasks.Encode format) written h = absurd h

  causes : (task : Task) (before after : Failures) (answer : Answer) → CausesTask task input t kind before after answer → Causes (Some (values task file word)) files input before after answer
  causes task before after (done bytes) h = (decided task (done bytes) h.0, h.1)
  causes task before after (different bytes) h = (decided task (different bytes) h.0, h.1)
  causes task before after (input_refused fault) h = (decided task (input_refused fault) h.0, h.1)
  causes task before after (json_refused why) h = (decided task (json_refused why) h.0, h.1)
  causes task before after (too_long length) h = (decided task (too_long length) h.0, h.1)
  causes task before after needs_sliced h = (decided task needs_sliced h.0, h.1)
  causes task before after read_failed h = inr ((t, kind, schema, named), h)
  causes task before after (write_failed bytes) h = (to_write task bytes h.0, h.1)
  causes task before after no_memory h = (tt, h)
  causes task before after (no_memory_after written) h = (begun task written h.0, h.1)
  causes task before after answer h = absurd h

  -- the shelf's count is as it was before
  pub task_causes : (task : Task) (shelf after source now sink later : ℕ) (answer : Answer) → after ≡ shelf → ((n : ℕ) → CausesTask task input t kind (counts n source sink) (counts n now later) answer)
      → Causes (Some (values task file word)) files input (counts shelf source sink) (counts after now later) answer
  task_causes task shelf after source now sink later answer same h =
      subst (λ (n : ℕ). Causes (Some (values task file word)) files input (counts n source sink) (counts after now later) answer) same (causes task (counts after source sink) (counts after now later) answer (h after))

module _ (input : Option (List ℕ)) (task : Task) (file word : Word) (t : Tables) (kind : TypeRef) (before after : Failures) (old new : Option (List ℕ)) (taken : TakesTask task old new) where
  pub task_takes : (answer : Answer) → CausesTask task input t kind before after answer → Takes (Some (values task file word)) old new answer
  task_takes (done bytes) h = taken
  task_takes (different bytes) h = taken
  task_takes (input_refused fault) h = taken
  task_takes (json_refused why) h = taken
  task_takes (too_long length) h = taken
  task_takes needs_sliced h = taken
  task_takes read_failed h = taken
  task_takes (write_failed bytes) h = taken
  task_takes no_memory h = taken
  task_takes (no_memory_after written) h = taken
  task_takes answer h = absurd h

-- ---- how it ends

-- with an answer of these bytes, for its cause, and what the sink got
abbrev pub Ends : Task → Option (List ℕ) → Tables → TypeRef → (source now sink later : ℕ) → (old new : Option (List ℕ)) → Outcome → Type 0
Ends task input t kind source now sink later old new outcome = (bytes : List ℕ)
    × ((shelf : ℕ) → CausesTask task input t kind (counts shelf source sink) (counts shelf now later) (answer_of outcome bytes))
    × Outputs old new (answer_of outcome bytes)

module _ (task : Task) (input : Option (List ℕ)) (t : Tables) (kind : TypeRef) (source now sink later : ℕ) where
  none_ends : (answer : Answer) → FindsNone task input t kind source now answer → later ≡ sink → (shelf : ℕ) → CausesTask task input t kind (counts shelf source sink) (counts shelf now later) answer
  none_ends (input_refused fault) h same shelf = (h.0, (refl, h.1, same))
  none_ends (json_refused why) h same shelf = (h.0, (refl, h.1, same))
  none_ends (too_long length) h same shelf = (h.0, (refl, h.1, same))
  none_ends needs_sliced h same shelf = (h.0, (refl, h.1, same))
  none_ends read_failed h same shelf = (refl, h, same)
  none_ends no_memory h same shelf = (refl, h, same)
  none_ends answer h same shelf = absurd h

  printed_ends : (found : Found) (outcome : Outcome) → Does task input t kind (found_answer found) → now ≡ source → PrintsFor (found_outcome found) sink later outcome → (shelf : ℕ) → CausesTask task input t kind (counts shelf source sink) (counts shelf now later) (answer_of outcome (found_bytes found))
  printed_ends (founds.Bytes bytes) outcome d same (inl p) shelf = rw p.0 (d, (refl, same, p.1))
  printed_ends (founds.Bytes bytes) outcome d same (inr p) shelf = rw p.0 (inl d, (refl, same, p.1))
  printed_ends (founds.Denial bytes) outcome d same (inl p) shelf = rw p.0 (d, (refl, same, p.1))
  printed_ends (founds.Denial bytes) outcome d same (inr p) shelf = rw p.0 (inr d, (refl, same, p.1))
  printed_ends (founds.Verdict true) outcome d same (inl p) shelf = rw p.0 (d, (refl, same, p.1))
  printed_ends (founds.Verdict true) outcome d same (inr p) shelf = rw p.0 (inl d, (refl, same, p.1))
  printed_ends (founds.Verdict false) outcome d same (inl p) shelf = rw p.0 (d, (refl, same, p.1))
  printed_ends (founds.Verdict false) outcome d same (inr p) shelf = rw p.0 (inr d, (refl, same, p.1))

  -- what was found is written, or nothing was found
  pub found_ends : (old new : Option (List ℕ)) (found : Result Found Outcome) (outcome : Outcome) → FindsTask task input t kind source now found → PrintsOrTells found old new sink later outcome → Ends task input t kind source now sink later old new outcome
  found_ends old new (Ok found) outcome h (prints, gets) = (found_bytes found, printed_ends found outcome h.0 h.1 prints, gets)
  found_ends old new (Err why) outcome h (is, count, kept) =
      rw is ([], none_ends (answer_of why []) h count, subst (λ (x : Option (List ℕ)). Outputs old x (answer_of why [])) (sym kept) (outputs_nothing old why))

-- the input was not read
pub unread_ends : (task : Task) (input : Option (List ℕ)) (t : Tables) (kind : TypeRef) (source now sink : ℕ) (old : Option (List ℕ)) (fault : PortFault) (outcome : Outcome) → outcome ≡ of_port fault → now ≡ count_after source (is_failed {T = List ℕ} (Err fault)) → Ends task input t kind source now sink sink old old outcome
unread_ends task input t kind source now sink old fault outcome from count =
    ([], none_ends task input t kind source now sink sink (answer_of outcome []) (unread task input t kind source now fault outcome from count) refl, outputs_nothing old outcome)

-- ---- `dump`, once the input is read

module _ (t : Tables) (kind : TypeRef) (input left : Option (List ℕ)) (got : List ℕ) (read : ReadsInput input left got) (source now : ℕ) (same : now ≡ source) (sink later : ℕ) (old new : Option (List ℕ)) where
  told : (g : Graph) (bytes : List ℕ) → Holds t kind got g → bytes ≡ dump_line t kind g → Does tasks.Dump input t kind (done bytes)
  told g bytes holds is = inr (g, graph_read t kind input left got g read holds, ap done is)

  pub dump_done : (unit : Unit {0}) → DumpsTo t kind got old new sink later (Ok unit) → Ends tasks.Dump input t kind source now sink later old new outcomes.Done
  dump_done unit (g, holds, gets, count) = (dump_line t kind g, λ shelf. (told g (dump_line t kind g) holds refl, (refl, same, count)), gets)

  pub dump_fails : (fault : DumpFault) (outcome : Outcome) → outcome ≡ of_line fault → DumpsTo t kind got old new sink later (Err fault) → Ends tasks.Dump input t kind source now sink later old new outcome
  dump_fails (faults.Broken fault) outcome from (refused, kept, count) = rw from ([], λ shelf. (inl (fault, fault_read t kind input left got fault read refused, refl), (refl, same, count)), kept)
  dump_fails faults.WriteFailed outcome from (g, holds, less, count) = rw from (dump_line t kind g, λ shelf. (inl (told g (dump_line t kind g) holds refl), (refl, same, count)), inl less)
  dump_fails faults.Memory outcome from (kept, count) = rw from ([], λ shelf. (refl, same, count), kept)
  dump_fails faults.MemoryAfter outcome from (g, holds, (written, rest, is, gets), count) = rw from (written, λ shelf. ((rest, told g (written ++ rest) holds (sym is)), (refl, same, count)), gets)
