use Rattle.std.proofs.Common.{[], Option, refl, subst, ◌∙◌}
use Rattle.std.proofs.lemmas.Result.{err_from_is_err_and}
use Rattle.node_commands.specs.Outside.{Files, counts}
use Rattle.node_commands.specs.Decided.{IsSchema}
use Rattle.node_commands.specs.Outcomes.{answer_of}
use Rattle.node_commands.proofs.TwoFiles.{no_new}
use Rattle.node_commands.proofs.compat.behind_old.Goals as goal

pub returns-in_err-reading : goal.returns-in_err-reading
returns-in_err-reading g c = λ old files input before source sink loads kept same.
    let failed = err_from_is_err_and c.from_residual.result c.from_residual.ensures.1 in
    rw (failed.1, failed.2) (no_new files input old c.args.new.now c.args.word.now c.args.spelled.now loads (g.H.Shelf.files c.args.shelf.now) kept
    before (g.H.Shelf.failures c.args.shelf.now) (g.H.Shelf.failures c.load_schema.new.shelf) source sink (answer_of c.in_err-reading.field-0.0 []) same c.in_err-reading.ensures.found)

pub returns : goal.returns
returns g c = λ old files input before source sink loads kept same.
    c.behind_both-found.ensures old c.args.new.now files input (counts before source sink) (counts (g.H.Shelf.failures c.load_schema.new.shelf) source sink) loads
    (subst (λ (x : Option Files). IsSchema x c.args.new.now c.in_ok-reading.reading) kept c.in_ok-reading.ensures.found.0) (c.in_ok-reading.ensures.found.1 ∙ same, refl, refl)
