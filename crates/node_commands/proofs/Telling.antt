-- What `messages` tells of an input, from what was read of it.
use Rattle.std.proofs.Common.{◌≡◌, ℕ, zero, suc, ◌≤◌, List, [], ◌++◌, Option, None, Some, refl, sym, ap, subst, ◌∙◌, append_assoc, append-nil, arith, inl, inr}
use Rattle.std.specs.Io.KnownBytes.{Consumes}
use Rattle.ice_prims.specs.declared.fault.Fault.{Fault}
use Rattle.ice_ports.specs.Failures.{count_after}
use Rattle.message_dump.specs.declared.dump.Dump.{Dump}
use Rattle.message_dump.specs.declared.dump.Dump.TheVariants as dumps
use Rattle.message_dump.specs.Dumps.{Tells, IsDump}
use Rattle.message_dump.specs.Sources.{TellsSome, TellsAll, IsTold, GetsLines, ReadsFrugally, is_read_failed, is_write_failed}
use Rattle.message_dump.proofs.OneDump.{one_dump}
use Rattle.node_commands.specs.declared.words.Task.TheVariants as tasks
use Rattle.node_commands.specs.Words.{Command, values, check, proxy, audit, compat, drill, messages, help, version}
use Rattle.node_commands.specs.Outside.{Files, counts}
use Rattle.node_commands.specs.Answers.{Answer, done, refused_after}
use Rattle.node_commands.specs.Decided.{told, TellsMessages, Decides}
use Rattle.node_commands.specs.Causes.{TellsFirst, IsToBeWritten, Causes}
use Rattle.node_commands.specs.Effects.{Takes, Outputs}
use Rattle.node_commands.specs.Outcomes.{answer_of, of_dump}

-- ---- lines that are known

tells_longer : (n : ℕ) (bytes lines rest more : List ℕ) → Tells n bytes lines rest → Tells n (bytes ++ more) lines (rest ++ more)
tells_longer zero bytes lines rest more h = (h.0, ap (λ (l : List ℕ). l ++ more) h.1)
tells_longer (suc n) bytes lines rest more h =
    (h.0, h.1, h.2 ++ more, h.3, ap (λ (l : List ℕ). l ++ more) h.4 ∙ append_assoc h.1 h.2 more, h.5, h.6, tells_longer n h.2 h.3 rest more h.7)

some_of_longer : (got more lines : List ℕ) → TellsSome got lines → TellsSome (got ++ more) lines
some_of_longer got more lines t = record { count = t.count; rest = t.rest ++ more; few = t.few; tells = tells_longer t.count got lines t.rest more t.tells }

all_are_some : (got lines : List ℕ) → TellsAll got lines → TellsSome got lines
all_are_some got lines t = record { count = t.count; rest = t.rest; few = few; tells = t.tells }
  where
    few : t.count ≤ 1000000
    few = elim t.waits [ inl w ↦ omega (arith, w.0) | inr w ↦ omega (arith, w.0) ]

dump_is_some : (input lines : List ℕ) (end : Option Fault) → IsDump input lines end → TellsSome input lines
dump_is_some input lines end d = record { count = d.0; rest = d.1; few = d.2; tells = d.3 }

-- what was read tells the first lines of the whole input
told_first : (before left : Option (List ℕ)) (got lines : List ℕ) → Consumes before left got → TellsSome got lines → TellsFirst before lines
told_first None left got lines c t = tt
told_first (Some known) None got lines c t = absurd c
told_first (Some known) (Some rest) got lines c t = subst (λ (l : List ℕ). TellsSome l lines) (sym c) (some_of_longer got rest lines t)

-- ---- one answer

pub dumps_one : (input : List ℕ) (a b : Answer) → TellsMessages (Some input) a → TellsMessages (Some input) b → a ≡ b
dumps_one input a b p q =
    let same = one_dump input p.0 q.0 p.1 q.1 p.2 q.2 in
    p.3 ∙ ap (λ (lines : List ℕ). told lines p.1) same.0 ∙ ap (λ (end : Option Fault). told q.0 end) same.1 ∙ sym q.3

whole_is_first : (input : Option (List ℕ)) (bytes lines : List ℕ) (end : Option Fault) → TellsMessages input (done bytes) → TellsFirst input bytes
whole_is_first None bytes lines end d = tt
whole_is_first (Some known) bytes lines end (told_lines, None, d, e) = let same : bytes ≡ told_lines = cc e in subst (λ (l : List ℕ). TellsSome known l) (sym same) (dump_is_some known told_lines None d)
whole_is_first (Some known) bytes lines end (told_lines, Some fault, d, e) = absurd (cc e)

-- what is decided is to be written
pub to_be_written : (asked : Option Command) (files : Option Files) (input : Option (List ℕ)) (bytes : List ℕ) → Decides asked files input (done bytes) → IsToBeWritten asked files input bytes
to_be_written (Some messages) files input bytes d = whole_is_first input bytes [] None d
to_be_written (Some (values (tasks.Relay format) file word)) files input bytes d = d
to_be_written (Some (values tasks.Same file word)) files input bytes d = inl d
to_be_written (Some (values tasks.Dump file word)) files input bytes d = d
to_be_written (Some (values (tasks.Encode format) file word)) files input bytes d = d
to_be_written (Some (check file)) files input bytes d = d
to_be_written (Some (proxy text)) files input bytes d = d
to_be_written (Some (audit client server)) files input bytes d = inl d
to_be_written (Some (compat old new word)) files input bytes d = inl d
to_be_written (Some (drill start count)) files input bytes d = d
to_be_written (Some (help page)) files input bytes d = d
to_be_written (Some version) files input bytes d = d
to_be_written None files input bytes d = d

-- ---- what came of the input

dumped : (before left : Option (List ℕ)) (got lines : List ℕ) → Consumes before left got → IsTold left got lines dumps.Finished → TellsMessages before (done lines)
dumped None left got lines c t = (lines, None, tt, refl)
dumped (Some known) None got lines c t = absurd c
dumped (Some known) (Some rest) got lines c t =
    let same : got ≡ known = sym (c ∙ ap (λ (l : List ℕ). got ++ l) t.0 ∙ append-nil got) in
    (lines, None, subst (λ (l : List ℕ). IsDump l lines None) same t.1, refl)

refused : (before left : Option (List ℕ)) (got lines : List ℕ) (fault : Fault) → Consumes before left got → IsTold left got lines (dumps.Refused fault) → TellsMessages before (refused_after lines fault)
refused None left got lines fault c t = (lines, Some fault, tt, refl)
refused (Some known) None got lines fault c t = absurd c
refused (Some known) (Some rest) got lines fault c (inl t) =
    let same : got ≡ known = sym (c ∙ ap (λ (l : List ℕ). got ++ l) t.0 ∙ append-nil got) in
    (lines, Some fault, subst (λ (l : List ℕ). IsDump l lines (Some fault)) same t.1, refl)
refused (Some known) (Some rest) got lines fault c (inr t) = (lines, Some fault, subst (λ (l : List ℕ). IsDump l lines (Some fault)) (sym c) (t rest), refl)

pub dump_causes : (files : Option Files) (shelf source sink after_source after_sink : ℕ) (before left : Option (List ℕ)) (got lines : List ℕ) (dump : Dump) → Consumes before left got → IsTold left got lines dump
    → after_source ≡ count_after source (is_read_failed dump) → after_sink ≡ count_after sink (is_write_failed dump) → Causes (Some messages) files before (counts shelf source sink) (counts shelf after_source after_sink) (answer_of (of_dump dump) lines)
dump_causes files shelf source sink after_source after_sink before left got lines dumps.Finished c t reads writes = (dumped before left got lines c t, (refl, reads, writes))
dump_causes files shelf source sink after_source after_sink before left got lines (dumps.Refused fault) c t reads writes = (refused before left got lines fault c t, (refl, reads, writes))
dump_causes files shelf source sink after_source after_sink before left got lines dumps.ReadFailed c t reads writes = (told_first before left got lines c (all_are_some got lines t), (refl, reads, writes))
dump_causes files shelf source sink after_source after_sink before left got lines dumps.WriteFailed c t reads writes = (told_first before left got lines c t, (refl, reads, writes))
dump_causes files shelf source sink after_source after_sink before left got lines dumps.Memory c t reads writes = (told_first before left got lines c t, (refl, reads, writes))

pub dump_takes : (before left : Option (List ℕ)) (lines : List ℕ) (dump : Dump) → ReadsFrugally before left → Takes (Some messages) before left (answer_of (of_dump dump) lines)
dump_takes before left lines dumps.Finished r = r
dump_takes before left lines (dumps.Refused fault) r = r
dump_takes before left lines dumps.ReadFailed r = r
dump_takes before left lines dumps.WriteFailed r = r
dump_takes before left lines dumps.Memory r = r

pub dump_outputs : (old new : Option (List ℕ)) (lines : List ℕ) (dump : Dump) → GetsLines dump old new lines → Outputs old new (answer_of (of_dump dump) lines)
dump_outputs old new lines dumps.Finished g = g
dump_outputs old new lines (dumps.Refused fault) g = g
dump_outputs old new lines dumps.ReadFailed g = g
dump_outputs old new lines dumps.WriteFailed g = inl g
dump_outputs old new lines dumps.Memory g = g
