use Rattle.std.proofs.Common.{[], refl}
use Rattle.std.proofs.lemmas.Result.{err_from_is_err_and}
use Rattle.node_commands.specs.Outcomes.{answer_of}
use Rattle.node_commands.proofs.TwoFiles.{no_old}
use Rattle.node_commands.proofs.compat.compat.Goals as goal

pub returns-in_err-spelled : goal.returns-in_err-spelled
returns-in_err-spelled g c = λ input source sink.
    let failed = err_from_is_err_and c.from_residual.result c.from_residual.ensures.1 in
    rw (failed.1, failed.2) (no_old (g.H.Shelf.files c.args.shelf.now) input c.args.old.now c.args.new.now c.args.word.now (g.H.Shelf.failures c.args.shelf.now) (g.H.Shelf.failures c.load_schema.new.shelf) source sink (answer_of c.in_err-spelled.field-0.0 []) c.in_err-spelled.ensures.found)

pub returns : goal.returns
returns g c = λ input source sink.
    c.behind_old-found.ensures c.args.old.now (g.H.Shelf.files c.args.shelf.now) input (g.H.Shelf.failures c.args.shelf.now) source sink c.in_ok-spelled.ensures.found.0 c.in_ok-spelled.ensures.kept c.in_ok-spelled.ensures.found.1
