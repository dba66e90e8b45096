use Rattle.std.proofs.Common.{List, ℕ, ap, ◌-◌}
use Rattle.instance_reading.specs.Slices.{opened}
use Rattle.instance_reading.proofs.unfinished.Unfinished.keep_entry.Goals as goal

pub returns-in-Ok-clause-keeps : goal.returns-in-Ok-clause-keeps
returns-in-Ok-clause-keeps c =
    let o = opened c.args.slice in (
      record { body = c.args.slice.body; next = c.args.slice.next; table = c.push.new.self; left = c.args.slice.left - 1 },
      c.set_stage.ensures,
      ap (λ (table : List ℕ). record { front = o.front; next = o.next; table = table; left = o.left - 1 }) c.in-Ok.ensures.ok,
    )
