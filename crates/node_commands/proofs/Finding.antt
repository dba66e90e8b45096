-- What was loaded and read, and what it comes to.
use Rattle.std.proofs.Common.{◌≡◌, ℕ, ◌<◌, ◌≤◌, Bool, true, false, List, [], ◌++◌, length, Option, None, Some, Ok, Err, Vec, refl, sym, ap, subst, ◌∙◌, arith, inl, inr}
use Rattle.std.specs.Prelude.{◌↔◌, IsTrue}
use Rattle.std.specs.declared.alloc.Global.{Global}
use Rattle.std.proofs.lemmas.List.{append-nil}
use Rattle.ice_types.specs.declared.kind.TypeRef.{TypeRef}
use Rattle.ice_types.specs.Tables.{Tables}
use Rattle.ice_prims.specs.declared.fault.Fault.{Fault}
use Rattle.ice_encoding.specs.Graph.{Graph}
use Rattle.ice_encoding.specs.CanonicalGraph.{Format as Form, IsWritable}
use Rattle.ice_encoding.specs.SameGraph.{Same}
use Rattle.graph_json.specs.declared.fault.JsonKind.{JsonKind}
use Rattle.graph_json.specs.Texts.{IsRefused, Lists}
use Rattle.ice_relay.specs.Encoding.{EncodesText}
use Rattle.ice_relay.specs.TextStreams.{ReadsText}
use Rattle.ice_relay.proofs.Deciding.{listed_whole, refused_whole}
use Rattle.ice_relay.specs.declared.fault.RelayFault.{RelayFault}
use Rattle.ice_relay.specs.declared.fault.RelayFault.TheVariants as faults
use Rattle.ice_relay.specs.Relaying.{one_value, Holds, held, canonical_bytes, Canonicalizes}
use Rattle.ice_relay.specs.Comparing.{HoldTwo, two_held, Compares}
use Rattle.ice_relay.specs.Streams.{ReadsInput, ReadsTwo}
use Rattle.ice_relay.proofs.Holding.{claims_length}
use Rattle.ice_relay.proofs.Decided.{read_decides}
use Rattle.ice_relay.proofs.Twice.{two_decides}
use Rattle.ice_relay.proofs.Compared.{never_decided}
use Rattle.ice_relay.proofs.Inputs.{nothing_is_frugal}
use Rattle.ice_relay.proofs.TwoInputs.{nothing_of_two}
use Rattle.instance_writing.specs.Formats.{view_format}
use Rattle.instance_writing.specs.declared.format.Format.{Format}
use Rattle.ice_ports.specs.declared.ports.PortFault.{PortFault}
use Rattle.ice_ports.specs.declared.ports.PortFault.TheVariants as ports
use Rattle.ice_ports.specs.Failures.{count_after}
use Rattle.ice_ports.specs.Files.{is_failed}
use Rattle.node_commands.specs.declared.words.Task.{Task}
use Rattle.node_commands.specs.declared.words.Task.TheVariants as tasks
use Rattle.node_commands.specs.Words.{Word, values, check}
use Rattle.node_commands.specs.Outside.{Files, Failures, NoneFailed, counts}
use Rattle.node_commands.specs.Answers.{Answer, done, slice_refused, too_long, read_failed, no_memory}
use Rattle.node_commands.specs.Decided.{IsSchema, WithType, IsHeld, IsInputFault, AreHeld, IsFaultOfTwo, IsListed, IsTextFault, Encapsulates, IsVerdict, Does}
use Rattle.node_commands.specs.Causes.{Causes}
use Rattle.node_commands.specs.Effects.{TakesTask, Takes}
use Rattle.node_commands.specs.Outcomes.{GivesNoSchema, FindsNone, answer_of, found_answer, of_port, of_relay}
use Rattle.node_commands.specs.declared.found.Found.TheVariants as founds
use Rattle.node_commands.specs.declared.outcome.Outcome.{Outcome}
use Rattle.node_commands.proofs.Keeping.{keeps_itself}

-- ---- the file

-- the commands that load a file, where it gives no schema
pub task_unloaded : (files : Option Files) (input : Option (List ℕ)) (task : Task) (file word : Word) (before after source sink : ℕ) (answer : Answer) → GivesNoSchema files file before after answer → Causes (Some (values task file word)) files input (counts before source sink) (counts after source sink) answer
task_unloaded files input task file word before after source sink (slice_refused broken) h = (inl (broken, h.0, refl), (h.1, refl, refl))
task_unloaded files input task file word before after source sink read_failed h = inl (h, refl, refl)
task_unloaded files input task file word before after source sink no_memory h = (tt, (h, refl, refl))
task_unloaded files input task file word before after source sink answer h = absurd h

pub check_unloaded : (files : Option Files) (input : Option (List ℕ)) (file : Word) (before after source sink : ℕ) (answer : Answer) → GivesNoSchema files file before after answer → Causes (Some (check file)) files input (counts before source sink) (counts after source sink) answer
check_unloaded files input file before after source sink (slice_refused broken) h = (inl (broken, h.0, refl), (h.1, refl, refl))
check_unloaded files input file before after source sink read_failed h = (h, refl, refl)
check_unloaded files input file before after source sink no_memory h = (tt, (h, refl, refl))
check_unloaded files input file before after source sink answer h = absurd h

-- nothing was taken of the input by then
nothing_taken : (task : Task) (old : Option (List ℕ)) → TakesTask task old old
nothing_taken (tasks.Relay format) old = nothing_is_frugal old old (keeps_itself old)
nothing_taken tasks.Same old = nothing_of_two old old (keeps_itself old)
nothing_taken tasks.Dump old = nothing_is_frugal old old (keeps_itself old)
nothing_taken (tasks.Encode format) None = ([], tt, omega arith)
nothing_taken (tasks.Encode format) (Some bytes) = ([], refl, omega arith)

pub unloaded_takes : (files : Option Files) (task : Task) (file word : Word) (before after : ℕ) (old : Option (List ℕ)) (answer : Answer) → GivesNoSchema files file before after answer → Takes (Some (values task file word)) old old answer
unloaded_takes files task file word before after old (slice_refused broken) h = keeps_itself old
unloaded_takes files task file word before after old read_failed h = nothing_taken task old
unloaded_takes files task file word before after old no_memory h = nothing_taken task old
unloaded_takes files task file word before after old answer h = absurd h

-- ---- the type

pub task_untyped : (files : Option Files) (input : Option (List ℕ)) (task : Task) (file word : Word) (t : Tables) (before after : Failures) (answer : Answer) → IsSchema files file t → NoneFailed before after → WithType t word answer (λ kind. ⊥) → Causes (Some (values task file word)) files input before after answer
task_untyped files input task file word t before after answer schema none (inl unnamed) = rw unnamed.1 (inr (t, schema, inl (unnamed.0, refl)), none)
task_untyped files input task file word t before after answer schema none (inr (kind, named, never)) = absurd never

pub untyped_takes : (task : Task) (file word : Word) (t : Tables) (old : Option (List ℕ)) (answer : Answer) → WithType t word answer (λ kind. ⊥) → Takes (Some (values task file word)) old old answer
untyped_takes task file word t old answer (inl unnamed) = rw unnamed.1 (keeps_itself old)
untyped_takes task file word t old answer (inr (kind, named, never)) = absurd never

-- ---- the input

-- a read of it failed, or there was no memory for it
pub unread : (task : Task) (input : Option (List ℕ)) (t : Tables) (kind : TypeRef) (before after : ℕ) (fault : PortFault) (outcome : Outcome) → outcome ≡ of_port fault → after ≡ count_after before (is_failed {T = List ℕ} (Err fault)) → FindsNone task input t kind before after (answer_of outcome [])
unread task input t kind before after ports.Failed outcome from count = rw from count
unread task input t kind before after ports.Memory outcome from count = rw from count

module _ (t : Tables) (kind : TypeRef) where
  -- one encapsulation
  pub graph_read : (before now : Option (List ℕ)) (got : List ℕ) (g : Graph) → ReadsInput before now got → Holds t kind got g → IsHeld before t kind g
  graph_read None now got g r h = tt
  graph_read (Some known) None got g r h = absurd r.0
  graph_read (Some known) (Some rest) got g r h = elim r.1 [
    | inl end ↦ let same : got ≡ known = sym (r.0 ∙ ap (λ (l : List ℕ). got ++ l) end ∙ append-nil got) in subst (λ (l : List ℕ). Holds t kind l g) same h
    | inr decided ↦ absurd (let claimed = claims_length t kind got g decided.0 decided.1 h in let below : length got < length got = decided.2 (length got) claimed in omega arith)
  ]

  pub fault_read : (before now : Option (List ℕ)) (got : List ℕ) (fault : Fault) → ReadsInput before now got → held t kind got ≡ Err fault → IsInputFault before t kind fault
  fault_read None now got fault r e = tt
  fault_read (Some known) now got fault r e = sym (read_decides t kind known got now r) ∙ e

  -- two of them
  two_read : (before now : Option (List ℕ)) (got : List ℕ) (g h : Graph) → ReadsTwo before now got → HoldTwo t kind got g h → AreHeld before t kind g h
  two_read None now got g h r both = tt
  two_read (Some known) None got g h r both = absurd r.0
  two_read (Some known) (Some rest) got g h r both = elim r.1 [
    | inl end ↦ let same : got ≡ known = sym (r.0 ∙ ap (λ (l : List ℕ). got ++ l) end ∙ append-nil got) in subst (λ (l : List ℕ). HoldTwo t kind l g h) same both
    | inr decided ↦ absurd (never_decided t kind got g h both decided)
  ]

  fault_of_two : (before now : Option (List ℕ)) (got : List ℕ) (fault : Fault) → ReadsTwo before now got → two_held t kind got ≡ Err fault → IsFaultOfTwo before t kind fault
  fault_of_two None now got fault r e = tt
  fault_of_two (Some known) now got fault r e = sym (two_decides t kind known got now r) ∙ e

  -- a text
  text_read : (before now : Option (List ℕ)) (got : List ℕ) (g : Graph) → ReadsText before now got → Lists t (one_value kind) got g → IsListed before t kind g
  text_read None now got g r h = tt
  text_read (Some known) now got g r h = listed_whole t (one_value kind) known got now g r h

  fault_of_text : (before now : Option (List ℕ)) (got : List ℕ) (why : JsonKind) → ReadsText before now got → IsRefused t (one_value kind) got why → IsTextFault before t kind why
  fault_of_text None now got why r h = tt
  fault_of_text (Some known) now got why r h = refused_whole t (one_value kind) known got now why r h

-- ---- what is written for a graph

module _ (f : Form) (t : Tables) (kind : TypeRef) (g : Graph) where
  written : (bytes : List ℕ) → IsWritable f g → bytes ≡ canonical_bytes t kind f g → length bytes ≤ 1048576 → Encapsulates f t kind (done bytes) g
  written bytes writable is small = inr (writable, inl (subst (λ (l : List ℕ). length l ≤ 1048576) is small, ap done is))

  too_much : (n : ℕ) → IsWritable f g → n ≡ length (canonical_bytes t kind f g) → 1048576 < n → Encapsulates f t kind (too_long n) g
  too_much n writable is above = inr (writable, inr (subst (λ (m : ℕ). 1048576 < m) is above, ap too_long is))

-- ---- the tasks

module _ (t : Tables) (kind : TypeRef) (input now : Option (List ℕ)) (got : List ℕ) where
  module _ (format : Format) (read : ReadsInput input now got) where
    pub relay_finds : (bytes : Vec ℕ Global) → Canonicalizes t kind (view_format format) got (Ok bytes) → Does (tasks.Relay format) input t kind (done bytes.items)
    relay_finds bytes (g, holds, writable, is, small) = inr (g, graph_read t kind input now got g read holds, written (view_format format) t kind g bytes.items writable is small)

    pub relay_none : (before after : ℕ) (fault : RelayFault) (outcome : Outcome) → outcome ≡ of_relay fault → Canonicalizes t kind (view_format format) got (Err fault) → after ≡ before → FindsNone (tasks.Relay format) input t kind before after (answer_of outcome [])
    relay_none before after (faults.Broken fault) outcome from refused count = rw from (inl (fault, fault_read t kind input now got fault read refused, refl), count)
    relay_none before after (faults.TextRefused why) outcome from never count = absurd never
    relay_none before after faults.NeedsSliced outcome from (g, holds, needs) count = rw from (inr (g, graph_read t kind input now got g read holds, inl (needs, refl)), count)
    relay_none before after (faults.TooLong n) outcome from (g, holds, writable, is, above) count = rw from (inr (g, graph_read t kind input now got g read holds, too_much (view_format format) t kind g n writable is above), count)
    relay_none before after faults.Memory outcome from refused count = rw from count

  module _ (format : Format) (read : ReadsText input now got) where
    pub encode_finds : (bytes : Vec ℕ Global) → EncodesText t kind (view_format format) got (Ok bytes) → Does (tasks.Encode format) input t kind (done bytes.items)
    encode_finds bytes (g, lists, writable, is, small) = inr (g, text_read t kind input now got g read lists, written (view_format format) t kind g bytes.items writable is small)

    pub encode_none : (before after : ℕ) (fault : RelayFault) (outcome : Outcome) → outcome ≡ of_relay fault → EncodesText t kind (view_format format) got (Err fault) → after ≡ before → FindsNone (tasks.Encode format) input t kind before after (answer_of outcome [])
    encode_none before after (faults.Broken fault) outcome from never count = absurd never
    encode_none before after (faults.TextRefused why) outcome from refused count = rw from (inl (why, fault_of_text t kind input now got why read refused, refl), count)
    encode_none before after faults.NeedsSliced outcome from (g, lists, needs) count = rw from (inr (g, text_read t kind input now got g read lists, inl (needs, refl)), count)
    encode_none before after (faults.TooLong n) outcome from (g, lists, writable, is, above) count = rw from (inr (g, text_read t kind input now got g read lists, too_much (view_format format) t kind g n writable is above), count)
    encode_none before after faults.Memory outcome from refused count = rw from count

  module _ (read : ReadsTwo input now got) where
    pub same_finds : (same : Bool) → Compares t kind got (Ok same) → Does tasks.Same input t kind (found_answer (founds.Verdict same))
    same_finds same (g, h, both, small, test) = inr (g, h, two_read t kind input now got g h read both, inl (small, verdict_is g h same test))
      where
        never : false ≡ true → ⊥
        never e = cc

        verdict_is : (g h : Graph) (same : Bool) → (IsTrue same ↔ Same g h) → IsVerdict g h (found_answer (founds.Verdict same))
        verdict_is g h true test = inl (test.0 refl, refl)
        verdict_is g h false test = inr (λ same. never (test.1 same), refl)

    pub same_none : (before after : ℕ) (fault : RelayFault) (outcome : Outcome) → outcome ≡ of_relay fault → Compares t kind got (Err fault) → after ≡ before → FindsNone tasks.Same input t kind before after (answer_of outcome [])
    same_none before after (faults.Broken fault) outcome from refused count = rw from (inl (fault, fault_of_two t kind input now got fault read refused, refl), count)
    same_none before after (faults.TextRefused why) outcome from never count = absurd never
    same_none before after faults.NeedsSliced outcome from never count = absurd never
    same_none before after (faults.TooLong n) outcome from (g, h, both, long) count = rw from (inr (g, h, two_read t kind input now got g h read both, inr (n, long, refl)), count)
    same_none before after faults.Memory outcome from refused count = rw from count
