use Rattle.std.proofs.Common.{[], sym, ◌∙◌}
use Rattle.std.proofs.lemmas.Result.{err_from_is_err_and}
use Rattle.ice_messages.specs.Context.{entries_at}
use Rattle.ice_messages.specs.Seen.{seen}
use Rattle.ice_messages.proofs.Entries.{inserted, looked_up, name_fails, taken, value_fails, goes_on}
use Rattle.ice_messages.proofs.read_context.take_entries.Goals as goal

pub returns-in_err-name : goal.returns-in_err-name
returns-in_err-name c =
    let p = err_from_is_err_and c.from_residual.result c.from_residual.ensures.1 in
    rw (p.1, p.2) (name_fails c.args.count c.loop.counter c.loop-test.true (seen c.loop.entries) c.loop.cursor (entries_at c.args.count [] c.args.cursor.now) c.loop.invariant c.in_err-name.field-0.0 c.in_err-name.ensures.0)

pub returns-then-contains_key : goal.returns-then-contains_key
returns-then-contains_key c =
    rw c.fault-equal.ensures (taken c.args.count c.loop.counter c.loop-test.true (seen c.loop.entries) c.loop.cursor (entries_at c.args.count [] c.args.cursor.now) c.loop.invariant
    c.in_ok-name.name.now c.take_str.new.self c.in_ok-name.ensures (sym (looked_up c.in_ok-name.name c.loop.entries.entries) ∙ sym c.contains_key.ensures ∙ c.if-contains_key.true))

pub returns-in_err-value : goal.returns-in_err-value
returns-in_err-value c =
    let p = err_from_is_err_and c.from_residual-in_err-value.result c.from_residual-in_err-value.ensures.1 in
    rw (p.1, p.2) (value_fails c.args.count c.loop.counter c.loop-test.true (seen c.loop.entries) c.loop.cursor (entries_at c.args.count [] c.args.cursor.now) c.loop.invariant
    c.in_ok-name.name.now c.take_str.new.self c.in_err-value.field-0.0 c.in_ok-name.ensures (sym (looked_up c.in_ok-name.name c.loop.entries.entries) ∙ sym c.contains_key.ensures ∙ c.if-contains_key.false) c.in_err-value.ensures.0)

pub loop-preserved : goal.loop-preserved
loop-preserved c =
    let more = goes_on c.args.count c.loop.counter c.loop-test.true (seen c.loop.entries) c.loop.cursor (entries_at c.args.count [] c.args.cursor.now) c.loop.invariant
    c.in_ok-name.name.now c.in_ok-value.value.now c.take_str.new.self c.take_str-in-loop.new.self c.in_ok-name.ensures
    (sym (looked_up c.in_ok-name.name c.loop.entries.entries) ∙ sym c.contains_key.ensures ∙ c.if-contains_key.false) c.in_ok-value.ensures in
    rw (c.in_ok-insert.ensures.entries, inserted c.in_ok-name.name c.in_ok-value.value c.loop.entries.entries) more
