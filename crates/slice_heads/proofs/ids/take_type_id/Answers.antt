use Rattle.std.proofs.Common.{Err, ap, sym, ◌∙◌}
use Rattle.slice_heads.proofs.TypeIds.{number_refused, text_taken}
use Rattle.slice_heads.proofs.ids.take_type_id.Goals as goal

pub returns-then-is_numbered : goal.returns-then-is_numbered
returns-then-is_numbered c = number_refused c.args.cursor.now c.take_str.new.self c.in_ok-id.id.now c.in_ok-id.ensures (sym c.is_numbered.ensures ∙ c.if-is_numbered.true) ∙ ap Err (sym c.fault-numbered.ensures)

pub returns : goal.returns
returns c = text_taken c.args.cursor.now c.take_str.new.self c.in_ok-id.id.now c.in_ok-id.ensures (sym c.is_numbered.ensures ∙ c.if-is_numbered.false)
