use Rattle.std.proofs.Common.{ℕ, [], sym, subst, inl}
use Rattle.std.proofs.lemmas.Result.{err_from_is_err_and}
use Rattle.node_commands.specs.Outside.{counts}
use Rattle.node_commands.specs.Outcomes.{answer_of}
use Rattle.node_commands.proofs.Keeping.{keeps_itself}
use Rattle.call_command.specs.Words.{seen}
use Rattle.call_command.specs.Endings.{ended_of}
use Rattle.call_command.specs.Decided.{Decides}
use Rattle.call_command.specs.Rounds.{net_seen}
use Rattle.call_command.specs.Called.{Comes, WantsInput}
use Rattle.call_command.specs.Steps.{SchemaDecides, SchemaWants}
use Rattle.call_command.proofs.Stepping.{unloaded, all_decide, all_want, comes_so, listed_callee, takes_so}
use Rattle.call_command.proofs.calling.with_callee.Goals as goal

pub returns-in_err-schema-clause-comes : goal.returns-in_err-schema-clause-comes
returns-in_err-schema-clause-comes g c =
    let failed = err_from_is_err_and c.from_residual.result c.from_residual.ensures.1 in
    rw (failed.1, failed.2) (unloaded (seen c.args.command) (g.H.Shelf.files c.args.shelf.now) (g.S.Source.left c.args.source.now) (g.H.Shelf.failures c.args.shelf.now) (g.H.Shelf.failures c.load_schema.new.shelf) (g.S.Source.failures c.args.source.now) (g.K.Sink.failures c.args.sink.now) (g.K.Sink.taken c.args.sink.now)
    (net_seen (g.N.Net.told c.args.net.now) (g.N.Net.failures c.args.net.now) (g.N.Net.listen_failures c.args.net.now)) c.requires.listed (answer_of c.in_err-schema.field-0.0 []) c.in_err-schema.ensures.found)

pub returns-in_err-schema-clause-taken : goal.returns-in_err-schema-clause-taken
returns-in_err-schema-clause-taken g c = inl (keeps_itself (g.S.Source.left c.args.source.now))

pub under-came-requires-clause-listed : goal.under-came-requires-clause-listed
under-came-requires-clause-listed g c κs within = listed_callee (seen c.args.command) c.args.callee.now c.requires.named c.requires.listed

pub returns-clause-comes : goal.returns-clause-comes
returns-clause-comes g c =
    let command = seen c.args.command in
    let files = g.H.Shelf.files c.args.shelf.now in
    let input = g.S.Source.left c.args.source.now in
    let t = c.in_ok-schema.schema in
    let parsed = c.args.callee.now in
    let before = counts (g.H.Shelf.failures c.args.shelf.now) (g.S.Source.failures c.args.source.now) (g.K.Sink.failures c.args.sink.now) in
    let net = net_seen (g.N.Net.told c.args.net.now) (g.N.Net.failures c.args.net.now) (g.N.Net.listen_failures c.args.net.now) in
    let later = net_seen (g.N.Net.told c.under-came.new.net) (g.N.Net.failures c.under-came.new.net) (g.N.Net.listen_failures c.under-came.new.net) in
    let same = c.in_ok-schema.ensures.found.1 in
    let came = comes_so (SchemaDecides command input parsed t) (Decides command files input) (SchemaWants command parsed t) (WantsInput command files)
    (all_decide command files input parsed t c.requires.named c.requires.listed c.in_ok-schema.ensures.found.0)
    (all_want command files input parsed t c.requires.named c.requires.listed c.in_ok-schema.ensures.found.0)
    before (counts (g.H.Shelf.failures c.args.shelf.now) (g.S.Source.failures c.under-came.new.source) (g.K.Sink.failures c.under-came.new.sink))
    (g.K.Sink.taken c.args.sink.now) (g.K.Sink.taken c.under-came.new.sink) net later (ended_of c.under-came.result) (c.under-came.ensures.comes (g.H.Shelf.failures c.args.shelf.now)) in
    subst (λ (n : ℕ). Comes (Decides command files input) (WantsInput command files) before (counts n (g.S.Source.failures c.under-came.new.source) (g.K.Sink.failures c.under-came.new.sink))
    (g.K.Sink.taken c.args.sink.now) (g.K.Sink.taken c.under-came.new.sink) net later (ended_of c.under-came.result)) (sym same) came

pub returns-clause-taken : goal.returns-clause-taken
returns-clause-taken g c =
    let command = seen c.args.command in
    let files = g.H.Shelf.files c.args.shelf.now in
    let input = g.S.Source.left c.args.source.now in
    let t = c.in_ok-schema.schema in
    let parsed = c.args.callee.now in
    takes_so (SchemaWants command parsed t) (WantsInput command files)
    (all_want command files input parsed t c.requires.named c.requires.listed c.in_ok-schema.ensures.found.0)
    input (g.S.Source.left c.under-came.new.source) c.under-came.ensures.taken
