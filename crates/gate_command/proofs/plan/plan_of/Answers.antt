use Rattle.std.proofs.lemmas.Result.{err_from_is_err_and}
use Rattle.gate_command.specs.Words.{seen}
use Rattle.gate_command.specs.Steps.{answered_by}
use Rattle.gate_command.proofs.Planned.{planned, unlisted, unloaded}
use Rattle.gate_command.proofs.plan.plan_of.Goals as goal

pub returns-in_err-upstream : goal.returns-in_err-upstream
returns-in_err-upstream g c =
    let failed = err_from_is_err_and c.from_residual.result c.from_residual.ensures.1 in
    rw (failed.1, failed.2) (unlisted (seen c.args.command) (g.H.Shelf.files c.args.shelf.now) (g.H.Shelf.failures c.args.shelf.now) (g.H.Shelf.failures c.args.shelf.now) c.in_err-upstream.field-0.0 c.in_err-upstream.ensures)

pub returns-in_err-schema : goal.returns-in_err-schema
returns-in_err-schema g c =
    let failed = err_from_is_err_and c.from_residual-in_err-schema.result c.from_residual-in_err-schema.ensures.1 in
    rw (failed.1, failed.2) (unloaded (seen c.args.command) (g.H.Shelf.files c.args.shelf.now) (g.H.Shelf.failures c.args.shelf.now) (g.H.Shelf.failures c.load_schema.new.shelf) c.in_ok-upstream.ensures.1 (answered_by c.in_err-schema.field-0.0) c.in_err-schema.ensures.found)

pub returns : goal.returns
returns g c = planned (seen c.args.command) (g.H.Shelf.files c.args.shelf.now) (g.H.Shelf.failures c.args.shelf.now) (g.H.Shelf.failures c.load_schema.new.shelf) c.in_ok-schema.schema c.in_ok-upstream.upstream c.under.result
    c.in_ok-upstream.ensures.0 c.in_ok-upstream.ensures.1 c.in_ok-schema.ensures.found.0 c.in_ok-schema.ensures.found.1 c.under.ensures
