use Rattle.std.proofs.Common.{[], refl, ap, inr}
use Rattle.std.proofs.lemmas.Result.{err_from_is_err_and}
use Rattle.node_commands.specs.Answers.{done}
use Rattle.node_commands.specs.Outcomes.{answer_of}
use Rattle.node_commands.proofs.Finding.{check_unloaded}
use Rattle.node_commands.proofs.checking.check.Goals as goal

pub returns-in_err-schema : goal.returns-in_err-schema
returns-in_err-schema g c = λ input source sink.
    let failed = err_from_is_err_and c.from_residual.result c.from_residual.ensures.1 in
    rw (failed.1, failed.2) (check_unloaded (g.H.Shelf.files c.args.shelf.now) input c.args.file.now (g.H.Shelf.failures c.args.shelf.now) (g.H.Shelf.failures c.load_schema.new.shelf) source sink (answer_of c.in_err-schema.field-0.0 []) c.in_err-schema.ensures.found)

pub returns-in_err-text : goal.returns-in_err-text
returns-in_err-text g c = λ input source sink.
    let failed = err_from_is_err_and c.from_residual-in_err-text.result c.from_residual-in_err-text.ensures.1 in
    rw (failed.1, failed.2) (tt, (c.in_ok-schema.ensures.found.1, refl, refl))

pub returns : goal.returns
returns g c = λ input source sink. (inr (c.in_ok-schema.schema, c.in_ok-schema.ensures.found.0, ap done c.in_ok-text.ensures), (c.in_ok-schema.ensures.found.1, refl, refl))
