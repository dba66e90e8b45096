use Rattle.std.proofs.Common.{◌++◌, false}
use Rattle.std.proofs.lemmas.Result.{err_from_is_err_and}
use Rattle.ice_relay.specs.Items.{each_text}
use Rattle.ice_relay.proofs.ItemTexts.{all_remain, less_remain, remain_stops, remain_without_memory, none_remain}
use Rattle.ice_relay.proofs.items.tell_items.Goals as goal

pub loop-at-init : goal.loop-at-init
loop-at-init g c = λ items are counted.
    all_remain c.args.schema.now c.args.element items c.args.count c.args.cursor.now.bytes (g.K.Sink.taken c.args.sink.now) (g.K.Sink.failures c.args.sink.now) c.args.page are counted

pub returns-in_err-longer : goal.returns-in_err-longer
returns-in_err-longer g c = λ items are counted.
    let failed = err_from_is_err_and c.from_residual.result c.from_residual.ensures.1 in
    rw (failed.1, failed.2) (remain_without_memory c.args.schema.now c.args.element c.args.count c.loop-at.at c.loop-at.cursor.bytes (c.args.page.items ++ each_text c.args.schema.now c.args.element false items)
    (g.K.Sink.taken c.args.sink.now) (g.K.Sink.taken c.loop-at.sink) (g.K.Sink.failures c.args.sink.now) (g.K.Sink.failures c.loop-at.sink) c.loop-at.page (c.loop-at.invariant items are counted))

pub returns-in_err-page : goal.returns-in_err-page
returns-in_err-page g c = λ items are counted.
    let failed = err_from_is_err_and c.from_residual-in_err-page.result c.from_residual-in_err-page.ensures.1 in
    rw (failed.1, failed.2) (remain_stops c.args.schema.now c.args.element c.args.count c.loop-at.at c.loop-at.cursor.bytes (c.args.page.items ++ each_text c.args.schema.now c.args.element false items)
    (g.K.Sink.taken c.args.sink.now) (g.K.Sink.taken c.loop-at.sink) (g.K.Sink.taken c.turned.new.sink) (g.K.Sink.failures c.args.sink.now) (g.K.Sink.failures c.loop-at.sink) (g.K.Sink.failures c.turned.new.sink)
    c.loop-at.page c.in_ok-longer.longer c.loop-at-test.true c.with_item.new.cursor.bytes c.in_ok-longer.ensures (c.loop-at.invariant items are counted) c.in_err-page.field-0.0 c.in_err-page.ensures)

pub loop-at-preserved : goal.loop-at-preserved
loop-at-preserved g c = λ items are counted.
    less_remain c.args.schema.now c.args.element c.args.count c.loop-at.at c.loop-at.cursor.bytes (c.args.page.items ++ each_text c.args.schema.now c.args.element false items)
    (g.K.Sink.taken c.args.sink.now) (g.K.Sink.taken c.loop-at.sink) (g.K.Sink.taken c.turned.new.sink) (g.K.Sink.failures c.args.sink.now) (g.K.Sink.failures c.loop-at.sink) (g.K.Sink.failures c.turned.new.sink)
    c.loop-at.page c.in_ok-longer.longer c.loop-at-test.true c.with_item.new.cursor.bytes c.in_ok-longer.ensures (c.loop-at.invariant items are counted) c.in_ok-page.page c.in_ok-page.ensures

pub returns-in_err-with_text : goal.returns-in_err-with_text
returns-in_err-with_text g c = λ items are counted.
    let failed = err_from_is_err_and c.from_residual-in_err-with_text.result c.from_residual-in_err-with_text.ensures.1 in
    rw (failed.1, failed.2) (remain_without_memory c.args.schema.now c.args.element c.args.count c.loop-at.at c.loop-at.cursor.bytes (c.args.page.items ++ each_text c.args.schema.now c.args.element false items)
    (g.K.Sink.taken c.args.sink.now) (g.K.Sink.taken c.loop-at.sink) (g.K.Sink.failures c.args.sink.now) (g.K.Sink.failures c.loop-at.sink) c.loop-at.page (c.loop-at.invariant items are counted))

pub returns : goal.returns
returns g c = λ items are counted.
    none_remain c.args.schema.now c.args.element c.args.count c.loop-at.at c.loop-at.cursor.bytes (c.args.page.items ++ each_text c.args.schema.now c.args.element false items)
    (g.K.Sink.taken c.args.sink.now) (g.K.Sink.taken c.loop-at.sink) (g.K.Sink.failures c.args.sink.now) (g.K.Sink.failures c.loop-at.sink) c.loop-at.page (c.loop-at.invariant items are counted)
    c.loop-at-test.false c.in_ok-with_text.field-0 c.in_ok-with_text.ensures
