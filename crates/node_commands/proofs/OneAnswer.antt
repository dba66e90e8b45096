-- At most one answer is decided where the outside tells what it holds.
use Rattle.std.proofs.Common.{◌≡◌, ℕ, List, [], ◌∷◌, Option, None, Some, Err, refl, sym, ap, subst, ◌∙◌, inl, inr, ◌⊎◌, arith, Ok}
use Rattle.ice_types.specs.declared.kind.TypeRef.{TypeRef}
use Rattle.ice_types.specs.declared.declarations.Shape.{Shape}
use Rattle.ice_types.specs.Tables.{Tables}
use Rattle.ice_prims.specs.declared.fault.Fault.{Fault}
use Rattle.ice_prims.proofs.Parts.{ok_is}
use Rattle.ice_encoding.specs.Graph.{Slice, known, unknown, Graph}
use Rattle.ice_encoding.specs.Instances.{slices_of}
use Rattle.ice_encoding.specs.CanonicalGraph.{Format, sliced, compact, Compact, IsWritable}
use Rattle.instance_writing.specs.Formats.{view_format}
use Rattle.ice_encoding.specs.Flags.{all_slices}
use Rattle.ice_encoding.proofs.Graphs.{numbered_only, numbered_apart}
use Rattle.class_slices.specs.Encoding.{BeginsUnknown, NeedsSliced}
use Rattle.ice_relay.specs.Relaying.{one_value, Holds, held, canonical_bytes}
use Rattle.ice_relay.specs.Comparing.{HoldTwo, two_held, CanBeCompared, IsFirstLong}
use Rattle.ice_relay.proofs.Compared.{two_only}
use Rattle.graph_json.proofs.TextsApart.{one_listed, one_reason, never_refused}
use Rattle.ice_relay.specs.Drawn.{drawn}
use Rattle.ice_relay.specs.Nodes.{drill_tables, one_node}
use Rattle.ice_relay.specs.Telling.{CanBeRelayed, IsTooLong}
use Rattle.node_commands.specs.declared.words.Task.{Task}
use Rattle.node_commands.specs.declared.words.Task.TheVariants as tasks
use Rattle.slice_meaning.proofs.Loads.{one_meaning, one_break, never_both}
use Rattle.node_commands.specs.Words.{Word, Command, values, check, proxy, audit, compat, drill, messages, help, version, Asks}
use Rattle.node_commands.specs.Outside.{Files, Failures, Outside}
use Rattle.node_commands.specs.Answers.{Answer, done, different, usage, no_such_name, slice_refused, input_refused, json_refused, too_long, needs_sliced, text_refused, read_failed, write_failed, no_memory, refused_after, read_failed_after, no_memory_after, status}
use Rattle.node_commands.specs.Decided.{WithSchema, WithType, WithGraph, WithText, WithFormat, WithinLimit, Encapsulates, WithTwo, IsVerdict, WithinBoth, Compares, Does, DoesTask, Checks, WithFile, judged, Audits, compared, ComparesFiles, Drills, Decides, Decided}
use Rattle.node_commands.specs.Causes.{Causes}
use Rattle.node_commands.specs.Statuses.{Answered, IsFailure, EndsWithStatus}
use Rattle.std.proofs.lemmas.Option.{same_Some}
use Rattle.ice_ports.specs.Files.{file_named}
use Rattle.ice_audit.proofs.OneVerdict.{one_verdict}
use Rattle.node_commands.proofs.CommandForms.{asks_apart}
use Rattle.node_commands.proofs.Telling.{dumps_one}

-- ---- a step of two answers: where both go on, they go on alike

schema_apart : (files : Files) (file : Word) (a b : Answer) (Next Other : Tables → Type 0) → ((t : Tables) → Next t → Other t → a ≡ b) → WithSchema (Some files) file a Next → WithSchema (Some files) file b Other → a ≡ b
schema_apart files file a b Next Other one (inl p) (inl q) = p.2 ∙ ap slice_refused (one_break files file p.0 q.0 p.1 q.1) ∙ sym q.2
schema_apart files file a b Next Other one (inl p) (inr q) = absurd (never_both files file q.0 p.0 q.1 p.1)
schema_apart files file a b Next Other one (inr p) (inl q) = absurd (never_both files file p.0 q.0 p.1 q.1)
schema_apart files file a b Next Other one (inr p) (inr q) = one q.0 (subst Next (one_meaning files file p.0 q.0 p.1 q.1) p.2) q.2

type_apart : (t : Tables) (word : Word) (a b : Answer) (Next Other : TypeRef → Type 0) → ((kind : TypeRef) → Next kind → Other kind → a ≡ b) → WithType t word a Next → WithType t word b Other → a ≡ b
type_apart t word a b Next Other one (inl p) (inl q) = p.1 ∙ sym q.1
type_apart t word a b Next Other one (inl p) (inr q) = absurd (p.0 q.0 q.1.0)
type_apart t word a b Next Other one (inr p) (inl q) = absurd (q.0 p.0 p.1.0)
type_apart t word a b Next Other one (inr p) (inr q) = one q.0 (subst Next (q.1.1 p.0 p.1.0) p.2) q.2

one_fault : (input : List ℕ) (t : Tables) (kind : TypeRef) (a b : Fault) → held t kind input ≡ Err a → held t kind input ≡ Err b → a ≡ b
one_fault input t kind a b p q = cc (p, q)

-- an input that has a fault holds no graph
no_fault : (input : List ℕ) (t : Tables) (kind : TypeRef) (a : Fault) (g : Graph) → held t kind input ≡ Err a → Holds t kind input g → ⊥
no_fault input t kind a g p h = never (sym p ∙ numbered_only t all_slices (one_value kind) input g h)
  where
    never : {X E : Type 0} {x : X} {e : E} → Err e ≡ Ok x → ⊥
    never e = cc

graph_apart : (input : List ℕ) (t : Tables) (kind : TypeRef) (a b : Answer) (Next Other : Graph → Type 0) → ((g : Graph) → Next g → Other g → a ≡ b) → WithGraph (Some input) t kind a Next → WithGraph (Some input) t kind b Other → a ≡ b
graph_apart input t kind a b Next Other one (inl p) (inl q) = p.2 ∙ ap input_refused (one_fault input t kind p.0 q.0 p.1 q.1) ∙ sym q.2
graph_apart input t kind a b Next Other one (inl p) (inr q) = absurd (no_fault input t kind p.0 q.0 p.1 q.1)
graph_apart input t kind a b Next Other one (inr p) (inl q) = absurd (no_fault input t kind q.0 p.0 q.1 p.1)
graph_apart input t kind a b Next Other one (inr p) (inr q) = one q.0 (subst Next (numbered_apart t all_slices (one_value kind) input p.0 q.0 p.1 q.1) p.2) q.2

text_apart : (input : List ℕ) (t : Tables) (kind : TypeRef) (a b : Answer) (Next Other : Graph → Type 0) → ((g : Graph) → Next g → Other g → a ≡ b) → WithText (Some input) t kind a Next → WithText (Some input) t kind b Other → a ≡ b
text_apart input t kind a b Next Other one (inl p) (inl q) = p.2 ∙ ap json_refused (one_reason t (one_value kind) input p.0 q.0 p.1 q.1) ∙ sym q.2
text_apart input t kind a b Next Other one (inl p) (inr q) = absurd (never_refused t (one_value kind) input q.0 p.0 q.1 p.1)
text_apart input t kind a b Next Other one (inr p) (inl q) = absurd (never_refused t (one_value kind) input p.0 q.0 p.1 q.1)
text_apart input t kind a b Next Other one (inr p) (inr q) = one q.0 (subst Next (one_listed t (one_value kind) input p.0 q.0 p.1 q.1) p.2) q.2

-- bytes are within the limit or above it
length_apart : (bytes : List ℕ) (a b : Answer) → WithinLimit bytes a → WithinLimit bytes b → a ≡ b
length_apart bytes a b (inl p) (inl q) = p.1 ∙ sym q.1
length_apart bytes a b (inl p) (inr q) = absurd (omega (arith, p.0, q.0))
length_apart bytes a b (inr p) (inl q) = absurd (omega (arith, p.0, q.0))
length_apart bytes a b (inr p) (inr q) = p.1 ∙ sym q.1

-- ---- two graphs

-- two that are held are the two that are read
two_are : (input : List ℕ) (t : Tables) (kind : TypeRef) (g h k l : Graph) → HoldTwo t kind input g h → HoldTwo t kind input k l → (g ≡ k) × (h ≡ l)
two_are input t kind g h k l p q =
    let same : (g, h) ≡ (k, l) = ok_is (g, h) (k, l) (sym (two_only t kind input g h p) ∙ two_only t kind input k l q) in
    (ap (λ (both : Graph × Graph). both.0) same, ap (λ (both : Graph × Graph). both.1) same)

-- an input that has a fault does not hold two
no_fault_of_two : (input : List ℕ) (t : Tables) (kind : TypeRef) (a : Fault) (g h : Graph) → two_held t kind input ≡ Err a → HoldTwo t kind input g h → ⊥
no_fault_of_two input t kind a g h p both = never (sym p ∙ two_only t kind input g h both)
  where
    never : {X E : Type 0} {x : X} {e : E} → Err e ≡ Ok x → ⊥
    never e = cc

one_fault_of_two : (input : List ℕ) (t : Tables) (kind : TypeRef) (a b : Fault) → two_held t kind input ≡ Err a → two_held t kind input ≡ Err b → a ≡ b
one_fault_of_two input t kind a b p q = cc (p, q)

two_apart : (input : List ℕ) (t : Tables) (kind : TypeRef) (a b : Answer) (Next Other : Graph → Graph → Type 0) → ((g h : Graph) → Next g h → Other g h → a ≡ b) → WithTwo (Some input) t kind a Next → WithTwo (Some input) t kind b Other → a ≡ b
two_apart input t kind a b Next Other one (inl p) (inl q) = p.2 ∙ ap input_refused (one_fault_of_two input t kind p.0 q.0 p.1 q.1) ∙ sym q.2
two_apart input t kind a b Next Other one (inl p) (inr q) = absurd (no_fault_of_two input t kind p.0 q.0 q.1 p.1 q.2)
two_apart input t kind a b Next Other one (inr p) (inl q) = absurd (no_fault_of_two input t kind q.0 p.0 p.1 q.1 p.2)
two_apart input t kind a b Next Other one (inr p) (inr q) =
    let same = two_are input t kind p.0 p.1 q.0 q.1 p.2 q.2 in
    one q.0 q.1 (subst (λ (g : Graph). Next g q.1) same.0 (subst (Next p.0) same.1 p.3)) q.3

verdict_apart : (g h : Graph) (a b : Answer) → IsVerdict g h a → IsVerdict g h b → a ≡ b
verdict_apart g h a b (inl p) (inl q) = p.1 ∙ sym q.1
verdict_apart g h a b (inl p) (inr q) = absurd (q.0 p.0)
verdict_apart g h a b (inr p) (inl q) = absurd (p.0 q.0)
verdict_apart g h a b (inr p) (inr q) = p.1 ∙ sym q.1

long_apart : (t : Tables) (kind : TypeRef) (g h : Graph) (n m : ℕ) → IsFirstLong t kind g h n → IsFirstLong t kind g h m → n ≡ m
long_apart t kind g h n m (x, inl p) (y, inl q) = p ∙ sym q
long_apart t kind g h n m (x, inl p) (y, inr q) = absurd (omega (arith, x, p, q.0))
long_apart t kind g h n m (x, inr p) (y, inl q) = absurd (omega (arith, y, q, p.0))
long_apart t kind g h n m (x, inr p) (y, inr q) = p.1 ∙ sym q.1

-- what is too long is not compared
never_long : (t : Tables) (kind : TypeRef) (g h : Graph) (n : ℕ) → CanBeCompared t kind g h → IsFirstLong t kind g h n → ⊥
never_long t kind g h n small (x, inl p) = omega (arith, small.0, x, p)
never_long t kind g h n small (x, inr p) = omega (arith, small.1, x, p.1)

both_apart : (t : Tables) (kind : TypeRef) (g h : Graph) (a b : Answer) → WithinBoth t kind g h a → WithinBoth t kind g h b → a ≡ b
both_apart t kind g h a b (inl p) (inl q) = verdict_apart g h a b p.1 q.1
both_apart t kind g h a b (inl p) (inr q) = absurd (never_long t kind g h q.0 p.0 q.1)
both_apart t kind g h a b (inr p) (inl q) = absurd (never_long t kind g h p.0 q.0 p.1)
both_apart t kind g h a b (inr p) (inr q) = p.2 ∙ ap too_long (long_apart t kind g h p.0 q.0 p.1 q.1) ∙ sym q.2

-- ---- the commands

-- what begins with an unknown slice cannot be written in compact format
never_unknown : (slices : List Slice) → BeginsUnknown slices → Compact slices → ⊥
never_unknown [] begins fits = begins
never_unknown (known class content ∷ ss) begins fits = begins
never_unknown (unknown id bytes optionals table ∷ ss) begins fits = fits

never_both_formats : (f : Format) (g : Graph) → NeedsSliced f g → IsWritable f g → ⊥
never_both_formats sliced g needs fits = needs
never_both_formats compact g (n, (reached, begins)) fits = never_unknown (slices_of g.instances n) begins (fits n reached)

format_apart : (f : Format) (g : Graph) (a b : Answer) (Next Other : Type 0) → (Next → Other → a ≡ b) → WithFormat f g a Next → WithFormat f g b Other → a ≡ b
format_apart f g a b Next Other one (inl p) (inl q) = p.1 ∙ sym q.1
format_apart f g a b Next Other one (inl p) (inr q) = absurd (never_both_formats f g p.0 q.0)
format_apart f g a b Next Other one (inr p) (inl q) = absurd (never_both_formats f g q.0 p.0)
format_apart f g a b Next Other one (inr p) (inr q) = one p.1 q.1

encapsulated_apart : (f : Format) (t : Tables) (kind : TypeRef) (a b : Answer) (g : Graph) → Encapsulates f t kind a g → Encapsulates f t kind b g → a ≡ b
encapsulated_apart f t kind a b g = format_apart f g a b _ _ (length_apart (canonical_bytes t kind f g) a b)

compares_apart : (input : List ℕ) (t : Tables) (kind : TypeRef) (a b : Answer) → Compares (Some input) t kind a → Compares (Some input) t kind b → a ≡ b
compares_apart input t kind a b = two_apart input t kind a b _ _ (λ g h. both_apart t kind g h a b)

does_apart : (task : Task) (input : List ℕ) (t : Tables) (kind : TypeRef) (a b : Answer) → Does task (Some input) t kind a → Does task (Some input) t kind b → a ≡ b
does_apart (tasks.Relay format) input t kind a b = graph_apart input t kind a b _ _ (encapsulated_apart (view_format format) t kind a b)
does_apart tasks.Same input t kind a b = compares_apart input t kind a b
does_apart tasks.Dump input t kind a b = graph_apart input t kind a b _ _ (λ g x y. x ∙ sym y)
does_apart (tasks.Encode format) input t kind a b = text_apart input t kind a b _ _ (encapsulated_apart (view_format format) t kind a b)

tasks_apart : (task : Task) (files : Files) (input : List ℕ) (file word : Word) (a b : Answer) → DoesTask task (Some files) (Some input) file word a → DoesTask task (Some files) (Some input) file word b → a ≡ b
tasks_apart task files input file word a b = schema_apart files file a b _ _ (λ t. type_apart t word a b _ _ (λ kind. does_apart task input t kind a b))

checks_apart : (files : Files) (file : Word) (a b : Answer) → Checks (Some files) file a → Checks (Some files) file b → a ≡ b
checks_apart files file a b = schema_apart files file a b _ _ (λ t x y. x ∙ sym y)

-- a file has one content
module _ (files : Files) (name : Word) where
  one_content : (a b : List ℕ) → file_named files name ≡ Some a → file_named files name ≡ Some b → a ≡ b
  one_content a b p q = same_Some a b (sym p ∙ q)

  no_content : (a : List ℕ) → file_named files name ≡ None → file_named files name ≡ Some a → ⊥
  no_content a p q = never (sym p ∙ q)
    where
      never : None ≡ Some a → ⊥
      never e = cc

  file_apart : (a b : Answer) (Next Other : List ℕ → Type 0) → ((bytes : List ℕ) → Next bytes → Other bytes → a ≡ b) → WithFile (Some files) name a Next → WithFile (Some files) name b Other → a ≡ b
  file_apart a b Next Other one (inl p) (inl q) = p.1 ∙ sym q.1
  file_apart a b Next Other one (inl p) (inr q) = absurd (no_content q.0 p.0 q.1)
  file_apart a b Next Other one (inr p) (inl q) = absurd (no_content p.0 q.0 p.1)
  file_apart a b Next Other one (inr p) (inr q) = one q.0 (subst Next (one_content p.0 q.0 p.1 q.1) p.2) q.2

audits_apart : (files : Files) (client server : Word) (a b : Answer) → Audits (Some files) client server a → Audits (Some files) client server b → a ≡ b
audits_apart files client server a b = file_apart files client a b _ _ (λ asked. file_apart files server a b _ _ (λ sent p q. p.2 ∙ ap judged (one_verdict asked sent p.0 q.0 p.1 q.1) ∙ sym q.2))

-- there is one verdict on a type of two schemas
files_apart : (files : Files) (old new word : Word) (a b : Answer) → ComparesFiles (Some files) old new word a → ComparesFiles (Some files) old new word b → a ≡ b
files_apart files old new word a b = schema_apart files old a b _ _ (λ t. schema_apart files new a b _ _ (λ u. type_apart t word a b _ _ (λ kind. type_apart u word a b _ _ (λ other p q. p.2 ∙ ap (compared t) (q.1.1 p.0 p.1.0) ∙ sym q.2))))

-- the first encapsulation that is too long has one length, and then the graph cannot be relayed
module _ (t : Tables) (shape : Shape) (g : Graph) where
  one_length : (n m : ℕ) → IsTooLong t shape g n → IsTooLong t shape g m → n ≡ m
  one_length n m (x, inl p) (y, inl q) = p ∙ sym q
  one_length n m (x, inl p) (y, inr q) = absurd (omega (arith, x, p, q.0))
  one_length n m (x, inr p) (y, inl q) = absurd (omega (arith, y, q, p.0))
  one_length n m (x, inr p) (y, inr q) = p.1 ∙ sym q.1

  never_both_lengths : (n : ℕ) → CanBeRelayed t shape g → IsTooLong t shape g n → ⊥
  never_both_lengths n can (x, inl p) = omega (arith, can.0, x, p)
  never_both_lengths n can (x, inr p) = omega (arith, can.1, x, p.1)

drills_apart : (start count : ℕ) (a b : Answer) → Drills start count a → Drills start count b → a ≡ b
drills_apart start count a b (inl p) (inl q) = p.1 ∙ sym q.1
drills_apart start count a b (inl p) (inr q) = absurd (never_both_lengths drill_tables one_node (drawn start count) q.0 p.0 q.1)
drills_apart start count a b (inr p) (inl q) = absurd (never_both_lengths drill_tables one_node (drawn start count) p.0 q.0 p.1)
drills_apart start count a b (inr p) (inr q) = p.2 ∙ ap too_long (one_length drill_tables one_node (drawn start count) p.0 q.0 p.1 q.1) ∙ sym q.2

decides_apart : (asked : Option Command) (files : Files) (input : List ℕ) (a b : Answer) → Decides asked (Some files) (Some input) a → Decides asked (Some files) (Some input) b → a ≡ b
decides_apart (Some (values task file word)) files input a b p q = tasks_apart task files input file word a b p q
decides_apart (Some (check file)) files input a b p q = checks_apart files file a b p q
decides_apart (Some (proxy text)) files input a b p q = p ∙ sym q
decides_apart (Some (audit client server)) files input a b p q = audits_apart files client server a b p q
decides_apart (Some (compat old new word)) files input a b p q = files_apart files old new word a b p q
decides_apart (Some (drill start count)) files input a b p q = drills_apart start count a b p q
decides_apart (Some messages) files input a b p q = dumps_one input a b p q
decides_apart (Some (help page)) files input a b p q = p ∙ sym q
decides_apart (Some version) files input a b p q = p ∙ sym q
decides_apart None files input a b p q = p ∙ sym q

pub answers_apart : (words : List Word) (files : Files) (input : List ℕ) (a b : Answer) → Decided words files input a → Decided words files input b → a ≡ b
answers_apart words files input a b p q =
    let same = asks_apart words p.0 q.0 p.1 q.1 in
    decides_apart q.0 files input a b (subst (λ (x : Option Command). Decides x (Some files) (Some input) a) same p.2) q.2

-- ---- the answer that came

-- it is the one that is decided, unless something failed
came_as_decided : (words : List Word) (files : Files) (input : List ℕ) (before after : Failures) (asked : Option Command) (came answer : Answer) → Asks words asked → Causes asked (Some files) (Some input) before after came → Decided words files input answer → (came ≡ answer) ⊎ IsFailure (status came)
came_as_decided words files input b n asked (done bytes) answer asks c d = inl (answers_apart words files input (done bytes) answer (asked, asks, c.0) d)
came_as_decided words files input b n asked (different bytes) answer asks c d = inl (answers_apart words files input (different bytes) answer (asked, asks, c.0) d)
came_as_decided words files input b n asked usage answer asks c d = inl (answers_apart words files input usage answer (asked, asks, c.0) d)
came_as_decided words files input b n asked (no_such_name word) answer asks c d = inl (answers_apart words files input (no_such_name word) answer (asked, asks, c.0) d)
came_as_decided words files input b n asked (slice_refused broken) answer asks c d = inl (answers_apart words files input (slice_refused broken) answer (asked, asks, c.0) d)
came_as_decided words files input b n asked (input_refused fault) answer asks c d = inl (answers_apart words files input (input_refused fault) answer (asked, asks, c.0) d)
came_as_decided words files input b n asked (json_refused why) answer asks c d = inl (answers_apart words files input (json_refused why) answer (asked, asks, c.0) d)
came_as_decided words files input b n asked (too_long length) answer asks c d = inl (answers_apart words files input (too_long length) answer (asked, asks, c.0) d)
came_as_decided words files input b n asked needs_sliced answer asks c d = inl (answers_apart words files input needs_sliced answer (asked, asks, c.0) d)
came_as_decided words files input b n asked (text_refused place) answer asks c d = inl (answers_apart words files input (text_refused place) answer (asked, asks, c.0) d)
came_as_decided words files input b n asked read_failed answer asks c d = inr (inl refl)
came_as_decided words files input b n asked (write_failed bytes) answer asks c d = inr (inr (inl refl))
came_as_decided words files input b n asked no_memory answer asks c d = inr (inr (inr refl))
came_as_decided words files input b n asked (refused_after written fault) answer asks c d = inl (answers_apart words files input (refused_after written fault) answer (asked, asks, c.0) d)
came_as_decided words files input b n asked (read_failed_after written) answer asks c d = inr (inl refl)
came_as_decided words files input b n asked (no_memory_after written) answer asks c d = inr (inr (inr refl))

pub ends : (words : List Word) (before after : Outside) (result : ℕ) (came : Answer) → Answered words before after result came → (files : Files) (input : List ℕ) (answer : Answer) → before.files ≡ Some files → before.input ≡ Some input → Decided words files input answer → EndsWithStatus words before after result answer
ends words before after result came a files input answer k l d =
    let told = subst (λ (x : Option (List ℕ)). Causes a.asked (Some files) x before.failures after.failures came) l (subst (λ (x : Option Files). Causes a.asked x before.input before.failures after.failures came) k a.cause) in
    elim (came_as_decided words files input before.failures after.failures a.asked came answer a.asks told d) [
      | inl same ↦ inl (subst (λ (x : Answer). Answered words before after result x) same a)
      | inr failed ↦ inr (subst IsFailure (sym a.returned) failed)
    ]
