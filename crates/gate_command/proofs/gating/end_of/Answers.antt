use Rattle.gate_command.proofs.Ended.{has_asked, none_made}
use Rattle.gate_command.proofs.gating.end_of.Goals as goal

pub returns-in-Ok : goal.returns-in-Ok
returns-in-Ok g c = λ input before after source error later.
    let h = c.in-Ok.ensures in has_asked _ _ _ _ _ _ _ _ _ _ _ _ _ _ _ _ _ h.2 _ h.0 c.listen-ending.result c.listen-ending.ensures

pub returns-in-Err : goal.returns-in-Err
returns-in-Err g c = λ input before after source error later. none_made _ _ _ _ _ _ _ _ _ _ _ _ _ _ c.in-Err.outcome c.in-Err.ensures
