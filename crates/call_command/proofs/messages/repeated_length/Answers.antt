use Rattle.std.proofs.Common.{ℕ, ◌-◌, ◌*◌, ◌^◌, min, ap, ◌∙◌}
use Rattle.call_command.proofs.Repeating.{told_batch}
use Rattle.call_command.proofs.messages.repeated_length.Goals as goal

pub returns : goal.returns
returns c =
    told_batch c.args.call.now c.args.times c.request_length.result c.saturating_mul.result c.saturating_add.result c.requires c.request_length.ensures
    (c.saturating_mul.ensures ∙ ap (λ (x : ℕ). min (x * c.args.times) (2 ^ 64 - 1)) c.saturating_sub.ensures) c.saturating_add.ensures
