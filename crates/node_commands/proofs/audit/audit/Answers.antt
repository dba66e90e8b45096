use Rattle.std.proofs.Common.{[], refl, ◌∙◌}
use Rattle.std.proofs.lemmas.Result.{err_from_is_err_and}
use Rattle.node_commands.specs.Outcomes.{answer_of}
use Rattle.node_commands.proofs.Auditing.{no_client, no_server, both_give}
use Rattle.node_commands.proofs.audit.audit.Goals as goal

pub returns-in_err-asked : goal.returns-in_err-asked
returns-in_err-asked g c = λ input source sink.
    let failed = err_from_is_err_and c.from_residual.result c.from_residual.ensures.1 in
    rw (failed.1, failed.2) (no_client (g.H.Shelf.files c.args.shelf.now) input c.args.client.now c.args.server.now (g.H.Shelf.failures c.args.shelf.now) (g.H.Shelf.failures c.load_bytes.new.shelf) source sink (answer_of c.in_err-asked.field-0.0 []) c.in_err-asked.ensures.found)

pub returns-in_err-sent : goal.returns-in_err-sent
returns-in_err-sent g c = λ input source sink.
    let failed = err_from_is_err_and c.from_residual-in_err-sent.result c.from_residual-in_err-sent.ensures.1 in
    rw (failed.1, failed.2) (no_server (g.H.Shelf.files c.args.shelf.now) input c.args.client.now c.args.server.now c.in_ok-asked.asked c.in_ok-asked.ensures.found.0 (g.H.Shelf.files c.load_bytes.new.shelf) c.in_ok-asked.ensures.kept
    (g.H.Shelf.failures c.args.shelf.now) (g.H.Shelf.failures c.load_bytes.new.shelf) (g.H.Shelf.failures c.load_bytes-2.new.shelf) source sink (answer_of c.in_err-sent.field-0.0 []) c.in_ok-asked.ensures.found.1 c.in_err-sent.ensures.found)

pub returns-in_err-verdict_on : goal.returns-in_err-verdict_on
returns-in_err-verdict_on g c = λ input source sink.
    let failed = err_from_is_err_and c.from_residual-in_err-verdict_on.result c.from_residual-in_err-verdict_on.ensures.1 in
    rw (failed.1, failed.2) (tt, (c.in_ok-sent.ensures.found.1 ∙ c.in_ok-asked.ensures.found.1, refl, refl))

pub returns : goal.returns
returns g c = λ input source sink. (
  both_give (g.H.Shelf.files c.args.shelf.now) input c.args.client.now c.args.server.now c.in_ok-asked.asked c.in_ok-asked.ensures.found.0 (g.H.Shelf.files c.load_bytes.new.shelf) c.in_ok-asked.ensures.kept
      c.in_ok-sent.sent c.in_ok-sent.ensures.found.0 c.as_slice.result.now c.as_slice-2.result.now c.as_slice.ensures c.as_slice-2.ensures c.in_ok-verdict_on.field-0 c.in_ok-verdict_on.ensures,
  (c.in_ok-sent.ensures.found.1 ∙ c.in_ok-asked.ensures.found.1, refl, refl),
)
