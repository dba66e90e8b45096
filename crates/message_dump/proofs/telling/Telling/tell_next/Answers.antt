use Rattle.std.proofs.Common.{Bool, true, false, ℕ, Option, Ok, subst, ◌∙◌}
use Rattle.std.proofs.lemmas.Result.{err_from_is_err_and}
use Rattle.ice_ports.specs.declared.ports.Failed.{Failed}
use Rattle.ice_messages.specs.declared.message.Message.{Message}
use Rattle.message_dump.specs.Steps.{TakesNext}
use Rattle.message_dump.proofs.Advancing.{tells_nothing, out_of_memory, tells_line, loses_line}
use Rattle.message_dump.proofs.telling.Telling.tell_next.Goals as goal

pub returns-in_default-clause-told : goal.returns-in_default-clause-told
returns-in_default-clause-told g c =
    let none = subst (λ (x : Option (ℕ × Message)). TakesNext c.args.self.now c.next.new.self (Ok x)) c.in_default.is c.in_ok-length.ensures in
    tells_nothing c.args.self.now c.next.new.self false (g.K.Sink.taken c.args.sink.now) (g.K.Sink.failures c.args.sink.now) c.requires none.1

pub returns-in_err-line-clause-told : goal.returns-in_err-line-clause-told
returns-in_err-line-clause-told g c =
    let failed = err_from_is_err_and c.from_residual-in_err-line.result c.from_residual-in_err-line.ensures.1 in
    rw (failed.1, failed.2) (out_of_memory Bool c.args.self.now c.next.new.self (g.K.Sink.taken c.args.sink.now) (g.K.Sink.failures c.args.sink.now) c.requires)

pub returns-in-Ok-clause-told : goal.returns-in-Ok-clause-told
returns-in-Ok-clause-told g c =
    let next = subst (λ (x : Option (ℕ × Message)). TakesNext c.args.self.now c.next.new.self (Ok x)) c.in-Some.is c.in_ok-length.ensures in
    tells_line Failed c.args.self.now c.next.new.self c.in-Some.length c.in-Some.message c.as_bytes.result.now (g.K.Sink.taken c.args.sink.now) (g.K.Sink.taken c.write_all.new.sink) (g.K.Sink.failures c.args.sink.now) (g.K.Sink.failures c.write_all.new.sink) c.in-Ok.field-0 true
    (c.as_bytes.ensures.value ∙ c.in_ok-line.ensures) next c.in-Ok.ensures

pub returns-clause-told : goal.returns-clause-told
returns-clause-told g c =
    let next = subst (λ (x : Option (ℕ × Message)). TakesNext c.args.self.now c.next.new.self (Ok x)) c.in-Some.is c.in_ok-length.ensures in
    loses_line Bool (Unit {0}) c.args.self.now c.next.new.self c.in-Some.length c.in-Some.message c.as_bytes.result.now (g.K.Sink.taken c.args.sink.now) (g.K.Sink.taken c.write_all.new.sink) (g.K.Sink.failures c.args.sink.now) (g.K.Sink.failures c.write_all.new.sink) c.in-Err.field-0
    (c.as_bytes.ensures.value ∙ c.in_ok-line.ensures) next c.in-Err.ensures
