-- A form of `serve` is none of another command.
use Rattle.std.proofs.Common.{◌≡◌, ◌≤◌, ◌<◌, ◌+◌, ◌*◌, ◌⊎◌, ℕ, List, [], ◌∷◌, ◌++◌, length, get_or, sym, ap, ◌∙◌, arith, inl, inr}
use Rattle.instance_writing.specs.declared.format.Format.TheVariants as formats
use Rattle.node_commands.specs.declared.words.Task.{Task}
use Rattle.node_commands.specs.declared.words.Task.TheVariants as tasks
use Rattle.node_commands.specs.Words.{Word, Command, values, check, proxy, audit, compat, drill, messages, help, version, task_words, Form}
use Rattle.node_commands.proofs.CommandForms.{page_few}
use Rattle.serve_command.specs.Words.{AreOperands, BehindConnections, BehindServe, BehindWorkers, Plain, Serve, ServeForm}

-- how long the first word is, and its first byte: 5115 of `serve`
abbrev mark : List Word → ℕ
mark words = 1000 * length (get_or words 0 []) + get_or (get_or words 0 []) 0 0

other_mark : (m : ℕ) → m ≡ 5115 → (m < 5115) ⊎ (5115 < m) → ⊥
other_mark m e (inl lt) = omega (arith, e, lt)
other_mark m e (inr lt) = omega (arith, e, lt)

task_mark : (task : Task) (file kind : Word) → mark (task_words task ++ file ∷ kind ∷ []) ≡ 5115 → ⊥
task_mark (tasks.Relay formats.Sliced) file kind e = other_mark 5114 e (inl (omega arith))
task_mark (tasks.Relay formats.Compact) file kind e = other_mark 5114 e (inl (omega arith))
task_mark tasks.Same file kind e = other_mark 4115 e (inl (omega arith))
task_mark tasks.Dump file kind e = other_mark 4100 e (inl (omega arith))
task_mark (tasks.Encode formats.Sliced) file kind e = other_mark 6101 e (inr (omega arith))
task_mark (tasks.Encode formats.Compact) file kind e = other_mark 6101 e (inr (omega arith))

-- ---- how many words there are

operands_long : (words : List Word) (p : Plain) → AreOperands words p → 3 ≤ length words
operands_long words p are = omega (arith, ap length are.words_are)

workers_long : (words : List Word) (p : Plain) → BehindWorkers words p → 3 ≤ length words
workers_long words p (n, rest, are, count, inl behind) = omega (arith, ap length are, operands_long rest p behind.0)
workers_long words p (n, rest, are, count, inr (more, name, (m, last, is, counted, behind))) =
    omega (arith, ap length are, ap length name, ap length is, operands_long last p behind.0)

connections_long : (words : List Word) (p : Plain) → BehindConnections words p → 3 ≤ length words
connections_long words p (n, rest, are, count, inl behind) = omega (arith, ap length are, operands_long rest p behind.0)
connections_long words p (n, rest, are, count, inr (more, name, (m, last, is, counted, behind))) =
    omega (arith, ap length are, ap length name, ap length is, operands_long last p behind.0)

behind_long : (words : List Word) (p : Plain) → BehindServe words p → 3 ≤ length words
behind_long words p (inl behind) = operands_long words p behind.0
behind_long words p (inr (inl (rest, are, behind))) = omega (arith, ap length are, workers_long rest p behind)
behind_long words p (inr (inr (rest, are, behind))) = omega (arith, ap length are, connections_long rest p behind)

long : (words : List Word) (c : Serve) → ServeForm words c → 4 ≤ length words
long words c form = omega (arith, ap length form.form.1, behind_long form.form.0 form.operands form.form.2)

apart : (words : List Word) (other : Command) → 4 ≤ length words → mark words ≡ 5115 → Form words other → ⊥
apart words (values task file kind) l e p = task_mark task file kind (sym (ap mark p.0) ∙ e)
apart words (check file) l e p = other_mark 5099 (sym (ap mark p.0) ∙ e) (inl (omega arith))
apart words (proxy text) l e p = other_mark 5112 (sym (ap mark p.0) ∙ e) (inl (omega arith))
apart words (audit client server) l e p = other_mark 5097 (sym (ap mark p.0) ∙ e) (inl (omega arith))
apart words (compat old new kind) l e p = other_mark 6099 (sym (ap mark p.0) ∙ e) (inr (omega arith))
apart words (drill start count) l e p = other_mark 5100 (sym (ap mark p.0) ∙ e) (inl (omega arith))
apart words messages l e p = other_mark 8109 (sym (ap mark p) ∙ e) (inr (omega arith))
apart words (help page) l e p = omega (arith, l, ap length p, page_few page)
apart words version l e p = other_mark 9045 (sym (ap mark p) ∙ e) (inr (omega arith))

pub no_other : (words : List Word) (c : Serve) (other : Command) → ServeForm words c → Form words other → ⊥
no_other words c other f p = apart words other (long words c f) (ap mark f.form.1) p
