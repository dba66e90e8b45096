use Rattle.ice_proxy.proofs.Kept.{as_in_text}
use Rattle.ice_proxy.proofs.printing.push_name_escape.Goals as goal

pub returns-else-character-eq47-clause-ok : goal.returns-else-character-eq47-clause-ok
returns-else-character-eq47-clause-ok c = rw (← as_in_text c.args.character c.if-character-eq47.false) c.push_escape.ensures.ok
