use Rattle.std.proofs.Common.{ℕ, List, [], Some, string_bytes, refl, inr, subst}
use Rattle.node_commands.specs.Words.{check, proxy, audit, compat, drill, messages, help}
use Rattle.node_commands.specs.Pages.{page_text}
use Rattle.node_commands.specs.Outside.{counts}
use Rattle.node_commands.specs.Effects.{Outputs}
use Rattle.node_commands.specs.Outcomes.{answer_of}
use Rattle.node_commands.proofs.Answering.{printed, printed_or_told, outputs_nothing, takes_nothing}
use Rattle.node_commands.proofs.Keeping.{keeps_itself}
use Rattle.node_commands.proofs.execution.run.Goals as goal

pub returns-in-Ok : goal.returns-in-Ok
returns-in-Ok g c =
    let input = g.S.Source.left c.args.source.now in
    let found = c.in-Ok.ensures input (g.S.Source.failures c.args.source.now) (g.K.Sink.failures c.args.sink.now) in
    let asked = Some (check c.in-Some-Check.file.now) in
    let came = printed asked (g.H.Shelf.files c.args.shelf.now) input input
    (record { shelf = g.H.Shelf.failures c.args.shelf.now; source = g.S.Source.failures c.args.source.now; sink = g.K.Sink.failures c.args.sink.now })
    (record { shelf = g.H.Shelf.failures c.check.new.shelf; source = g.S.Source.failures c.args.source.now; sink = g.K.Sink.failures c.print.new.sink })
    (string_bytes c.in-Ok.text) c.print.result found.0 found.1.0 found.1.1 (keeps_itself input) c.print.ensures.outcome in
    (string_bytes c.in-Ok.text, asked, (rw c.in-Some-Check.field-0-is at c.in-Some-Check.ensures), came.0, came.1, (rw c.as_bytes.ensures.value at c.print.ensures.output))

pub returns-in-Err : goal.returns-in-Err
returns-in-Err g c =
    let input = g.S.Source.left c.args.source.now in
    let found = c.in-Err.ensures input (g.S.Source.failures c.args.source.now) (g.K.Sink.failures c.args.sink.now) in
    ([], Some (check c.in-Some-Check.file.now), (rw c.in-Some-Check.field-0-is at c.in-Some-Check.ensures), found, takes_nothing (Some (check c.in-Some-Check.file.now)) input (keeps_itself input) (answer_of c.in-Err.outcome []), outputs_nothing (g.K.Sink.taken c.args.sink.now) c.in-Err.outcome)

pub returns-in-Some-Audit : goal.returns-in-Some-Audit
returns-in-Some-Audit g c =
    let files = g.H.Shelf.files c.args.shelf.now in
    let input = g.S.Source.left c.args.source.now in
    let reads = g.S.Source.failures c.args.source.now in
    let writes = g.K.Sink.failures c.args.sink.now in
    let command = audit c.in-Some-Audit.client.now c.in-Some-Audit.server.now in
    let came = printed_or_told command files input (keeps_itself input) (g.H.Shelf.failures c.args.shelf.now) (g.H.Shelf.failures c.audit.new.shelf) reads writes (g.K.Sink.failures c.print_or_tell.new.sink)
    (g.K.Sink.taken c.args.sink.now) (g.K.Sink.taken c.print_or_tell.new.sink) (λ bytes denied. inr denied) c.audit.result c.print_or_tell.result (c.audit.ensures input reads writes) c.print_or_tell.ensures in
    (came.0, Some command, (rw c.in-Some-Audit.field-0-is at c.in-Some-Audit.ensures), came.1, came.2, came.3)

pub returns-in-Some-Compat : goal.returns-in-Some-Compat
returns-in-Some-Compat g c =
    let files = g.H.Shelf.files c.args.shelf.now in
    let input = g.S.Source.left c.args.source.now in
    let reads = g.S.Source.failures c.args.source.now in
    let writes = g.K.Sink.failures c.args.sink.now in
    let command = compat c.in-Some-Compat.old.now c.in-Some-Compat.new.now c.in-Some-Compat.kind.now in
    let came = printed_or_told command files input (keeps_itself input) (g.H.Shelf.failures c.args.shelf.now) (g.H.Shelf.failures c.compat.new.shelf) reads writes (g.K.Sink.failures c.print_or_tell-in-Some-Compat.new.sink)
    (g.K.Sink.taken c.args.sink.now) (g.K.Sink.taken c.print_or_tell-in-Some-Compat.new.sink) (λ bytes denied. inr denied) c.compat.result c.print_or_tell-in-Some-Compat.result (c.compat.ensures input reads writes) c.print_or_tell-in-Some-Compat.ensures in
    (came.0, Some command, (rw c.in-Some-Compat.field-0-is at c.in-Some-Compat.ensures), came.1, came.2, came.3)

pub returns-in-Some-Help : goal.returns-in-Some-Help
returns-in-Some-Help g c =
    let page = c.in-Some-Help.page in
    let text = page_text page in
    let input = g.S.Source.left c.args.source.now in
    let came = printed (Some (help page)) (g.H.Shelf.files c.args.shelf.now) input input
    (record { shelf = g.H.Shelf.failures c.args.shelf.now; source = g.S.Source.failures c.args.source.now; sink = g.K.Sink.failures c.args.sink.now })
    (record { shelf = g.H.Shelf.failures c.args.shelf.now; source = g.S.Source.failures c.args.source.now; sink = g.K.Sink.failures c.print-in-Some-Help.new.sink })
    text c.print-in-Some-Help.result refl refl refl (keeps_itself input) c.print-in-Some-Help.ensures.outcome in (
      text,
      Some (help page),
      (rw c.in-Some-Help.field-0-is at c.in-Some-Help.ensures),
      came.0,
      came.1,
      subst (λ (z : List ℕ). Outputs (g.K.Sink.taken c.args.sink.now) (g.K.Sink.taken c.print-in-Some-Help.new.sink) (answer_of c.print-in-Some-Help.result z))
          c.text_of.ensures (rw c.as_bytes-in-Some-Help.ensures.value at c.print-in-Some-Help.ensures.output),
    )

pub returns-in-Ok-proxy : goal.returns-in-Ok-proxy
returns-in-Ok-proxy g c =
    let files = g.H.Shelf.files c.args.shelf.now in
    let input = g.S.Source.left c.args.source.now in
    let before = counts (g.H.Shelf.failures c.args.shelf.now) (g.S.Source.failures c.args.source.now) (g.K.Sink.failures c.args.sink.now) in
    let after = counts (g.H.Shelf.failures c.args.shelf.now) (g.S.Source.failures c.args.source.now) (g.K.Sink.failures c.print-in-Ok-proxy.new.sink) in
    let found = c.in-Ok-proxy.ensures files input before in
    let asked = Some (proxy c.in-Some-Proxy.text.now) in
    let came = printed asked files input input before after c.in-Ok-proxy.lines.items c.print-in-Ok-proxy.result found.0 refl refl (keeps_itself input) c.print-in-Ok-proxy.ensures.outcome in
    (c.in-Ok-proxy.lines.items, asked, (rw c.in-Some-Proxy.field-0-is at c.in-Some-Proxy.ensures), came.0, came.1, (rw c.as_slice.ensures.value at c.print-in-Ok-proxy.ensures.output))

pub returns-in-Err-proxy : goal.returns-in-Err-proxy
returns-in-Err-proxy g c =
    let files = g.H.Shelf.files c.args.shelf.now in
    let input = g.S.Source.left c.args.source.now in
    let before = counts (g.H.Shelf.failures c.args.shelf.now) (g.S.Source.failures c.args.source.now) (g.K.Sink.failures c.args.sink.now) in
    let asked = Some (proxy c.in-Some-Proxy.text.now) in
    ([], asked, (rw c.in-Some-Proxy.field-0-is at c.in-Some-Proxy.ensures), c.in-Err-proxy.ensures files input before, takes_nothing asked input (keeps_itself input) (answer_of c.in-Err-proxy.outcome []), outputs_nothing (g.K.Sink.taken c.args.sink.now) c.in-Err-proxy.outcome)

pub drill-requires-clause-some : goal.drill-requires-clause-some
drill-requires-clause-some g c = (rw c.in-Some-Drill.field-0-is at c.in-Some-Drill.ensures).2

pub drill-requires-clause-few : goal.drill-requires-clause-few
drill-requires-clause-few g c = (rw c.in-Some-Drill.field-0-is at c.in-Some-Drill.ensures).3

pub returns-in-Ok-drill : goal.returns-in-Ok-drill
returns-in-Ok-drill g c =
    let files = g.H.Shelf.files c.args.shelf.now in
    let input = g.S.Source.left c.args.source.now in
    let before = counts (g.H.Shelf.failures c.args.shelf.now) (g.S.Source.failures c.args.source.now) (g.K.Sink.failures c.args.sink.now) in
    let after = counts (g.H.Shelf.failures c.args.shelf.now) (g.S.Source.failures c.args.source.now) (g.K.Sink.failures c.print-in-Ok-drill.new.sink) in
    let found = c.in-Ok-drill.ensures files input before in
    let asked = Some (drill c.in-Some-Drill.start c.in-Some-Drill.count) in
    let came = printed asked files input input before after (string_bytes c.in-Ok-drill.line) c.print-in-Ok-drill.result found.0 refl refl (keeps_itself input) c.print-in-Ok-drill.ensures.outcome in
    (string_bytes c.in-Ok-drill.line, asked, (rw c.in-Some-Drill.field-0-is at c.in-Some-Drill.ensures), came.0, came.1, (rw c.as_bytes-in-Ok-drill.ensures.value at c.print-in-Ok-drill.ensures.output))

pub returns-in-Err-drill : goal.returns-in-Err-drill
returns-in-Err-drill g c =
    let files = g.H.Shelf.files c.args.shelf.now in
    let input = g.S.Source.left c.args.source.now in
    let before = counts (g.H.Shelf.failures c.args.shelf.now) (g.S.Source.failures c.args.source.now) (g.K.Sink.failures c.args.sink.now) in
    let asked = Some (drill c.in-Some-Drill.start c.in-Some-Drill.count) in
    ([], asked, (rw c.in-Some-Drill.field-0-is at c.in-Some-Drill.ensures), c.in-Err-drill.ensures files input before, takes_nothing asked input (keeps_itself input) (answer_of c.in-Err-drill.outcome []), outputs_nothing (g.K.Sink.taken c.args.sink.now) c.in-Err-drill.outcome)

pub returns-in-Some-Messages : goal.returns-in-Some-Messages
returns-in-Some-Messages g c =
    let told = c.messages.ensures in
    (told.0, Some messages, (rw c.in-Some-Messages.field-0-is at c.in-Some-Messages.ensures), told.1 (g.H.Shelf.files c.args.shelf.now) (g.H.Shelf.failures c.args.shelf.now), told.2, told.3)
