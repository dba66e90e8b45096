use Rattle.ice_proxy.specs.PrintedWords.{escape_of}
use Rattle.ice_proxy.proofs.Kept.{flat_more, grows_more, on_err}
use Rattle.ice_proxy.proofs.printing.push_escapes.Goals as goal

pub loop-character-preserved : goal.loop-character-preserved
loop-character-preserved c = flat_more escape_of _ _ c.loop-character.yielded c.in-Some.character _ c.loop-character.invariant c.in_ok-push_escape.ensures.ok

pub returns-in_err-push_escape-clause-err : goal.returns-in_err-push_escape-clause-err
returns-in_err-push_escape-clause-err c = on_err c.from_residual.result (grows_more _ _ _ _ c.loop-character.invariant c.in_err-push_escape.ensures.err)
