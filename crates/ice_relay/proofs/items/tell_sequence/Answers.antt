use Rattle.std.proofs.Common.{◌∙◌, sym, ap}
use Rattle.std.proofs.lemmas.Result.{err_from_is_err_and}
use Rattle.ice_prims.specs.Number.{size_at}
use Rattle.ice_relay.proofs.NextItem.{size_taken}
use Rattle.ice_relay.proofs.SequenceTold.{items_stop, items_alone, all_told}
use Rattle.ice_relay.proofs.items.tell_sequence.Goals as goal

pub returns-in_err-page-in-Ok : goal.returns-in_err-page-in-Ok
returns-in_err-page-in-Ok g c = λ items typed few is.
    let failed = err_from_is_err_and c.from_residual-in_err-page-in-Ok.result c.from_residual-in_err-page-in-Ok.ensures.1 in
    let size = size_taken items c.args.content.now few is c.in-Ok.count c.take_size.new.self (sym (ap size_at c.new-cursor.ensures) ∙ c.in-Ok.ensures) in
    rw (failed.1, failed.2) (items_stop c.args.schema.now c.args.element items c.new.result c.in_ok-page.page c.new.ensures.items c.in_ok-page.ensures (g.K.Sink.taken c.args.sink.now) (g.K.Sink.failures c.args.sink.now)
    (g.K.Sink.taken c.tell_items.new.sink) (g.K.Sink.failures c.tell_items.new.sink) c.in_err-page-in-Ok.field-0.0 (c.in_err-page-in-Ok.ensures items (record { typed = typed; are = size.1 }) size.0))

pub returns-in_err-with_text-in-Ok : goal.returns-in_err-with_text-in-Ok
returns-in_err-with_text-in-Ok g c = λ items typed few is.
    let failed = err_from_is_err_and c.from_residual-in_err-with_text-in-Ok.result c.from_residual-in_err-with_text-in-Ok.ensures.1 in
    let size = size_taken items c.args.content.now few is c.in-Ok.count c.take_size.new.self (sym (ap size_at c.new-cursor.ensures) ∙ c.in-Ok.ensures) in
    rw (failed.1, failed.2) (items_alone c.args.schema.now c.args.element items c.new.result c.in_ok-page.page c.new.ensures.items c.in_ok-page.ensures (g.K.Sink.taken c.args.sink.now) (g.K.Sink.failures c.args.sink.now)
    (g.K.Sink.taken c.tell_items.new.sink) (g.K.Sink.failures c.tell_items.new.sink) c.in_ok-page-in-Ok.page (c.in_ok-page-in-Ok.ensures items (record { typed = typed; are = size.1 }) size.0))

pub returns-in_ok-with_text-in-Ok : goal.returns-in_ok-with_text-in-Ok
returns-in_ok-with_text-in-Ok g c = λ items typed few is.
    let size = size_taken items c.args.content.now few is c.in-Ok.count c.take_size.new.self (sym (ap size_at c.new-cursor.ensures) ∙ c.in-Ok.ensures) in
    all_told c.args.schema.now c.args.element items c.new.result c.in_ok-page.page c.new.ensures.items c.in_ok-page.ensures (g.K.Sink.taken c.args.sink.now) (g.K.Sink.failures c.args.sink.now)
    (g.K.Sink.taken c.tell_items.new.sink) (g.K.Sink.failures c.tell_items.new.sink) c.in_ok-page-in-Ok.page (c.in_ok-page-in-Ok.ensures items (record { typed = typed; are = size.1 }) size.0)
    c.in_ok-with_text-in-Ok.field-0 c.in_ok-with_text-in-Ok.ensures (g.K.Sink.taken c.ended.new.sink) (g.K.Sink.failures c.ended.new.sink) c.ended.result c.ended.ensures
