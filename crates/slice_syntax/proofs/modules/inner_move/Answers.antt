use Rattle.std.proofs.Common.{◌≡◌, ℕ, List, ◌∷◌, ◌++◌, length, reverse, Err, refl, sym, ap, ◌∙◌}
use Rattle.slice_syntax.specs.Reading.{read}
use Rattle.slice_syntax.specs.Rules.{metadata, definition, close}
use Rattle.slice_syntax.specs.Files.{head, exits}
use Rattle.slice_syntax.specs.Moving.{enter, hold, leave, inner_move}
use Rattle.slice_syntax.proofs.Exits.{err_with, no_memory_takes}
use Rattle.slice_syntax.proofs.Moves.{leave_read, leave_stop, meta_stop, enter_read, enter_stop, hold_read, hold_stop, last_with, reverse_pushed}
use Rattle.slice_syntax.proofs.modules.inner_move.Goals as goal

pub returns-in_err-close : goal.returns-in_err-close
returns-in_err-close c =
    err_with _ c.in_err-close.field-0.0 c.from_residual.result c.close.new.cursor (read close c.args.cursor.now) (read inner_move c.args.cursor.now) c.from_residual.ensures.1 (no_memory_takes (λ x. x) (Err c.in_err-close.field-0.0) c.close.new.cursor (read close c.args.cursor.now) c.in_err-close.ensures)
    (λ left e. leave_stop c.args.cursor.now left (sym c.begins.ensures ∙ c.if-begins.true) e)

pub returns-then-begins : goal.returns-then-begins
returns-then-begins c =
    last_with _ (c.leave.new.items ≡ c.args.items.now ++ exits c.args.names) c.leave.result c.close.new.cursor (read inner_move c.args.cursor.now) leave c.leave.ensures.ok c.leave.ensures.err
    (leave_read c.args.cursor.now c.close.new.cursor (sym c.begins.ensures ∙ c.if-begins.true) c.in_ok-close.ensures) (λ u is. (refl, is))

pub returns-in_err-metadata : goal.returns-in_err-metadata
returns-in_err-metadata c =
    err_with _ c.in_err-metadata.field-0.0 c.from_residual-in_err-metadata.result c.metadata.new.cursor (read metadata c.args.cursor.now) (read inner_move c.args.cursor.now) c.from_residual-in_err-metadata.ensures.1 (no_memory_takes (λ x. x) (Err c.in_err-metadata.field-0.0) c.metadata.new.cursor (read metadata c.args.cursor.now) c.in_err-metadata.ensures)
    (λ left e. meta_stop c.args.cursor.now left (sym c.begins.ensures ∙ c.if-begins.false) e)

pub returns-in_err-module_head : goal.returns-in_err-module_head
returns-in_err-module_head c =
    err_with _ c.in_err-module_head.field-0.0 c.from_residual-in_err-module_head.result c.module_head.new.cursor (read head c.metadata.new.cursor) (read inner_move c.args.cursor.now) c.from_residual-in_err-module_head.ensures.1 c.in_err-module_head.ensures
    (λ left e. enter_stop c.args.cursor.now c.metadata.new.cursor left (sym c.begins.ensures ∙ c.if-begins.false) c.in_ok-metadata.ensures (sym c.begins-2.ensures ∙ c.if-begins-2.true) e)

pub returns-in_err-definition : goal.returns-in_err-definition
returns-in_err-definition c =
    err_with _ c.in_err-definition.field-0.0 c.from_residual-in_err-definition.result c.definition.new.cursor (read definition c.metadata.new.cursor) (read inner_move c.args.cursor.now) c.from_residual-in_err-definition.ensures.1 c.in_err-definition.ensures
    (λ left e. hold_stop c.args.cursor.now c.metadata.new.cursor left (sym c.begins.ensures ∙ c.if-begins.false) c.in_ok-metadata.ensures (sym c.begins-2.ensures ∙ c.if-begins-2.false) e)

pub returns-in_ok-push-2 : goal.returns-in_ok-push-2
returns-in_ok-push-2 c =
    let held = c.in_ok-module_head.ensures in
    let one = reverse_pushed c.args.around.now.items c.push.new.self.items c.args.names c.in_ok-push.ensures.items in
    let two = reverse_pushed c.push.new.self.items c.push-then-begins-2.new.self.items c.in_ok-module_head.field-0 c.in_ok-push-2.ensures.items in (
      enter held.0,
      enter_read c.args.cursor.now c.metadata.new.cursor c.module_head.new.cursor held.0 (sym c.begins.ensures ∙ c.if-begins.false) c.in_ok-metadata.ensures (sym c.begins-2.ensures ∙ c.if-begins-2.true) held.1,
      (two ∙ ap (λ (n : ℕ). n ∷ reverse c.push.new.self.items) held.2.0 ∙ ap (λ (ns : List ℕ). length held.0 ∷ ns) one, held.2.1),
    )

pub returns-in_ok-push-3 : goal.returns-in_ok-push-3
returns-in_ok-push-3 c = (
  hold c.in_ok-definition.field-0,
  hold_read c.args.cursor.now c.metadata.new.cursor c.definition.new.cursor c.in_ok-definition.field-0 (sym c.begins.ensures ∙ c.if-begins.false) c.in_ok-metadata.ensures (sym c.begins-2.ensures ∙ c.if-begins-2.false)
      c.in_ok-definition.ensures,
  (reverse_pushed c.args.around.now.items c.push.new.self.items c.args.names c.in_ok-push.ensures.items, c.in_ok-push-3.ensures.ok),
)
