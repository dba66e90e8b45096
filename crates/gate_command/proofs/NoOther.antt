-- A form of `gate` is none of another command.
use Rattle.std.proofs.Common.{◌≤◌, List, [], ◌∷◌, ◌++◌, length, ap, arith}
use Rattle.std.proofs.lemmas.List.{length-append}
use Rattle.instance_writing.specs.declared.format.Format.TheVariants as formats
use Rattle.node_commands.specs.declared.words.Task.{Task}
use Rattle.node_commands.specs.declared.words.Task.TheVariants as tasks
use Rattle.node_commands.specs.Words.{Word, Command, values, check, proxy, audit, compat, drill, messages, help, version, task_words, Form}
use Rattle.node_commands.proofs.CommandForms.{page_few}
use Rattle.gate_command.specs.Words.{GateWords, GateForm, IsNoOther}

-- there are six words or more
long : (words : List Word) (c : GateWords) → GateForm words c → 6 ≤ length words
long words c form = omega (arith, ap length form.words_are, length-append form.options form.named, ap length form.names.words_are)

few_of_task : (task : Task) (file kind : Word) → length (task_words task ++ file ∷ kind ∷ []) ≤ 4
few_of_task (tasks.Relay formats.Sliced) file kind = omega arith
few_of_task (tasks.Relay formats.Compact) file kind = omega arith
few_of_task tasks.Same file kind = omega arith
few_of_task tasks.Dump file kind = omega arith
few_of_task (tasks.Encode formats.Sliced) file kind = omega arith
few_of_task (tasks.Encode formats.Compact) file kind = omega arith

-- of another command there are four at most
few : (words : List Word) (other : Command) → Form words other → length words ≤ 4
few words (values task file kind) p = omega (arith, ap length p.0, few_of_task task file kind)
few words (check file) p = omega (arith, ap length p.0)
few words (proxy text) p = omega (arith, ap length p.0)
few words (audit client server) p = omega (arith, ap length p.0)
few words (compat old new kind) p = omega (arith, ap length p.0)
few words (drill start count) p = omega (arith, ap length p.0)
few words messages p = omega (arith, ap length p)
few words (help page) p = omega (arith, ap length p, page_few page)
few words version p = omega (arith, ap length p)

pub no_other : IsNoOther
no_other words c form other p = omega (arith, long words c form, few words other p)
