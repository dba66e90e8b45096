use Rattle.std.proofs.Common.{ℕ, List, true, cond, ◌&&◌, ◌==◌, bytes_eq, ap, ◌∙◌}
use Rattle.slice_meaning.specs.Held.{has_key}
use Rattle.slice_meaning.proofs.Lower.{lowered_after}
use Rattle.slice_meaning.proofs.lowered.Lowered.insert.Goals as goal

pub returns-clause-ok : goal.returns-clause-ok
returns-clause-ok c = λ word n.
    lowered_after c.args.self.now.names c.insert.new.self (c.in_ok-to_ascii_lowercase.field-0, c.args.scope) c.in_ok-insert.ensures.updates word n
    ∙ ap (λ (w : List ℕ). cond (c.args.scope == n && bytes_eq w word) true (has_key c.args.self.now.names word n)) c.in_ok-to_ascii_lowercase.ensures.ok
