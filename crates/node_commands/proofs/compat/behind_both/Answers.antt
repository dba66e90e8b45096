use Rattle.std.proofs.Common.{[], refl}
use Rattle.std.proofs.lemmas.Result.{err_from_is_err_and}
use Rattle.node_commands.specs.Outcomes.{answer_of}
use Rattle.node_commands.proofs.TwoFiles.{no_kind, no_other, both_named}
use Rattle.node_commands.proofs.compat.behind_both.Goals as goal

pub returns-in_err-kind : goal.returns-in_err-kind
returns-in_err-kind c = λ old new files input before after loads reads none.
    let failed = err_from_is_err_and c.from_residual.result c.from_residual.ensures.1 in
    rw (failed.1, failed.2) (no_kind files input old new c.args.word.now c.args.spelled.now loads files refl c.args.reading.now reads before after (answer_of c.in_err-kind.field-0.0 []) none c.in_err-kind.ensures)

pub returns-in_err-other : goal.returns-in_err-other
returns-in_err-other c = λ old new files input before after loads reads none.
    let failed = err_from_is_err_and c.from_residual-in_err-other.result c.from_residual-in_err-other.ensures.1 in
    rw (failed.1, failed.2) (no_other files input old new c.args.word.now c.args.spelled.now loads files refl c.args.reading.now reads c.in_ok-kind.kind c.in_ok-kind.ensures before after (answer_of c.in_err-other.field-0.0 []) none c.in_err-other.ensures)

pub returns-in_err-verdict_on : goal.returns-in_err-verdict_on
returns-in_err-verdict_on c = λ old new files input before after loads reads none.
    let failed = err_from_is_err_and c.from_residual-in_err-verdict_on.result c.from_residual-in_err-verdict_on.ensures.1 in
    rw (failed.1, failed.2) (tt, none)

pub returns : goal.returns
returns c = λ old new files input before after loads reads none. (
  both_named files input old new c.args.word.now c.args.spelled.now loads files refl c.args.reading.now reads c.in_ok-kind.kind c.in_ok-kind.ensures c.in_ok-other.other c.in_ok-other.ensures c.in_ok-verdict_on.field-0 c.in_ok-verdict_on.ensures,
  none,
)
