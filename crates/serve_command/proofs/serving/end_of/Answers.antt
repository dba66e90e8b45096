use Rattle.serve_command.proofs.Endings.{none_made, has_asked}
use Rattle.serve_command.proofs.serving.end_of.Goals as goal

pub returns-in-Ok : goal.returns-in-Ok
returns-in-Ok g c = λ input before after source error later.
    let h = c.in-Ok.ensures in has_asked _ _ _ _ _ _ _ _ _ _ _ _ _ _ _ _ _ _ h.3 h.0 c.in-Ok.lanes c.in-Ok.passes h.1 h.2 c.listen-ending.result c.listen-ending.ensures

pub returns-in-Err : goal.returns-in-Err
returns-in-Err g c = λ input before after source error later. none_made _ _ _ _ _ _ _ _ _ _ _ _ _ _ c.in-Err.outcome c.in-Err.ensures
