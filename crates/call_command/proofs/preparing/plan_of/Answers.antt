use Rattle.std.proofs.Common.{ℕ, ◌≡◌, ◌≤◌, ◌<◌, List, length, Ok, Err, sym, ap, subst, ◌∙◌, inr, arith}
use Rattle.std.proofs.lemmas.Bool.{false≢true}
use Rattle.std.proofs.lemmas.Result.{err_from_is_err_and}
use Rattle.ice_encoding.specs.declared.limits.TheConstants.{LARGEST}
use Rattle.ice_messages.specs.declared.message.Call.{Call}
use Rattle.ice_messages.specs.declared.message.Message.{Message}
use Rattle.ice_messages.specs.Messages.{message_bytes}
use Rattle.ice_messages.specs.Written.{IsWritable as CanBeWritten}
use Rattle.instance_writing.specs.Formats.{view_format}
use Rattle.call_command.specs.Words.{seen as words_seen}
use Rattle.call_command.specs.Operations.{seen as operation_seen}
use Rattle.call_command.specs.Messages.{call_of, message_of}
use Rattle.call_command.specs.Decided.{LacksReply}
use Rattle.call_command.specs.Steps.{EncodesArguments, MakesMessage, IsSent}
use Rattle.call_command.proofs.Listed.{unlisted, unsent, planned}
use Rattle.call_command.proofs.Planned.{held, writable, sent}
use Rattle.call_command.proofs.preparing.plan_of.Goals as goal

pub returns-in_err-body-clause-plan : goal.returns-in_err-body-clause-plan
returns-in_err-body-clause-plan g c =
    let replies : LacksReply c.args.callee.now.proxy c.args.known.operation.now → ⊥ = λ lacks. false≢true (sym c.if-lacks_reply.false ∙ c.lacks_reply.ensures.1 lacks) in
    let failed = err_from_is_err_and c.from_residual-in_err-body.result c.from_residual-in_err-body.ensures.1 in
    let encoded : EncodesArguments c.args.known.schema.now c.args.known.operation.now.arguments (view_format c.args.command.format) c.in_ok-text.text.items (Err c.in_err-body.field-0.0) =
    subst (λ (x : List ℕ). EncodesArguments c.args.known.schema.now c.args.known.operation.now.arguments (view_format c.args.command.format) x (Err c.in_err-body.field-0.0)) c.as_slice.ensures.value c.in_err-body.ensures in
    rw (failed.1, failed.2) (unlisted (words_seen c.args.command) (g.S.Source.left c.args.source.now) (operation_seen c.args.known) c.args.callee.now (g.S.Source.failures c.args.source.now) (g.S.Source.failures c.read_text.new.source) replies
    (g.S.Source.left c.read_text.new.source) c.in_ok-text.text.items c.in_ok-text.ensures.read c.in_err-body.field-0.0 encoded c.in_ok-text.ensures.count)

pub returns-in_err-message-clause-taken : goal.returns-in_err-message-clause-taken
returns-in_err-message-clause-taken g c = inr (λ lacks. false≢true (sym c.if-lacks_reply.false ∙ c.lacks_reply.ensures.1 lacks), c.in_ok-text.ensures.taken)

pub returns-in_err-message-clause-plan : goal.returns-in_err-message-clause-plan
returns-in_err-message-clause-plan g c =
    let replies : LacksReply c.args.callee.now.proxy c.args.known.operation.now → ⊥ = λ lacks. false≢true (sym c.if-lacks_reply.false ∙ c.lacks_reply.ensures.1 lacks) in
    let failed = err_from_is_err_and c.from_residual-in_err-message.result c.from_residual-in_err-message.ensures.1 in
    let encoded : EncodesArguments c.args.known.schema.now c.args.known.operation.now.arguments (view_format c.args.command.format) c.in_ok-text.text.items (Ok c.in_ok-body.body) =
    subst (λ (x : List ℕ). EncodesArguments c.args.known.schema.now c.args.known.operation.now.arguments (view_format c.args.command.format) x (Ok c.in_ok-body.body)) c.as_slice.ensures.value c.in_ok-body.ensures in
    let made : MakesMessage (message_of c.args.callee.now.proxy.mode c.args.command.times (call_of c.args.callee.now.proxy c.args.command.operation.now c.args.known.mode c.in_ok-body.body)) (Err c.in_err-message.field-0.0) =
    subst (λ (x : Call). MakesMessage (message_of c.args.callee.now.proxy.mode c.args.command.times x) (Err c.in_err-message.field-0.0)) c.in_ok-call.ensures c.in_err-message.ensures in
    rw (failed.1, failed.2) (unsent (words_seen c.args.command) (g.S.Source.left c.args.source.now) (operation_seen c.args.known) c.args.callee.now (g.S.Source.failures c.args.source.now) (g.S.Source.failures c.read_text.new.source) replies
    (g.S.Source.left c.read_text.new.source) c.in_ok-text.text.items c.in_ok-text.ensures.read c.in_ok-body.body encoded c.in_err-message.field-0.0 made c.in_ok-text.ensures.count)

pub returns-clause-plan : goal.returns-clause-plan
returns-clause-plan g c =
    let replies : LacksReply c.args.callee.now.proxy c.args.known.operation.now → ⊥ = λ lacks. false≢true (sym c.if-lacks_reply.false ∙ c.lacks_reply.ensures.1 lacks) in
    let encoded : EncodesArguments c.args.known.schema.now c.args.known.operation.now.arguments (view_format c.args.command.format) c.in_ok-text.text.items (Ok c.in_ok-body.body) =
    subst (λ (x : List ℕ). EncodesArguments c.args.known.schema.now c.args.known.operation.now.arguments (view_format c.args.command.format) x (Ok c.in_ok-body.body)) c.as_slice.ensures.value c.in_ok-body.ensures in
    let is : c.in_ok-message.message ≡ message_of c.args.callee.now.proxy.mode c.args.command.times (call_of c.args.callee.now.proxy c.args.command.operation.now c.args.known.mode c.in_ok-body.body) =
    c.in_ok-message.ensures.0 ∙ ap (λ (x : Call). message_of c.args.callee.now.proxy.mode c.args.command.times x) c.in_ok-call.ensures in
    let short : length (message_bytes c.in_ok-message.message) ≤ LARGEST = subst (λ (m : Message). length (message_bytes m) ≤ LARGEST) (sym c.in_ok-message.ensures.0) c.in_ok-message.ensures.1 in (
      planned (words_seen c.args.command) (g.S.Source.left c.args.source.now) (operation_seen c.args.known) c.args.callee.now (g.S.Source.failures c.args.source.now) (g.S.Source.failures c.read_text.new.source) replies
          (g.S.Source.left c.read_text.new.source) c.in_ok-text.text.items c.in_ok-text.ensures.read c.in_ok-body.body encoded c.in_ok-message.message c.rounds_of.result c.calls_of.result is short c.rounds_of.ensures c.calls_of.ensures,
      c.in_ok-text.ensures.count,
    )

pub returns-clause-sendable : goal.returns-clause-sendable
returns-clause-sendable g c =
    let is : c.in_ok-message.message ≡ message_of c.args.callee.now.proxy.mode c.args.command.times (call_of c.args.callee.now.proxy c.args.command.operation.now c.args.known.mode c.in_ok-body.body) =
    c.in_ok-message.ensures.0 ∙ ap (λ (x : Call). message_of c.args.callee.now.proxy.mode c.args.command.times x) c.in_ok-call.ensures in
    let call = call_of c.args.callee.now.proxy c.args.command.operation.now c.args.known.mode c.in_ok-body.body in
    let body = held c.args.known.schema.now c.args.known.operation.now.arguments (view_format c.args.command.format) c.as_slice.result.now c.in_ok-body.body c.in_ok-body.ensures in
    let some : 0 < c.args.command.times = omega (arith, c.requires.within.least) in
    record {
      writable = subst CanBeWritten (sym is) (writable c.args.callee.now.proxy c.args.command.operation.now c.args.known.mode c.in_ok-body.body c.requires.declared.mode body c.args.callee.now.proxy.mode c.args.command.times);
      sent = subst IsSent (sym is) (sent c.args.callee.now.proxy.mode c.args.command.times call some);
      short = subst (λ (m : Message). length (message_bytes m) ≤ LARGEST) (sym c.in_ok-message.ensures.0) c.in_ok-message.ensures.1;
      results = c.requires.declared.results;
    }
