use Rattle.std.proofs.Common.{◌++◌, ◌∷◌, List, [], sym, ap, ◌∙◌}
use Rattle.ice_values.specs.declared.frame.Frame.{Frame}
use Rattle.ice_values.specs.Frames.{opened, given, whole}
use Rattle.ice_values.proofs.Costs.{closed-less}
use Rattle.ice_values.proofs.reader.ValueReader.close.Goals as goal

pub returns-in_ok-give-in-Some-clause-closes : goal.returns-in_ok-give-in-Some-clause-closes
returns-in_ok-give-in-Some-clause-closes c =
    let given_is = c.in_ok-give-in-Some.ensures in
    (c.replace.new.dest, c.in-Some.ensures ∙ ap (λ (fs : List Frame). fs ++ c.in-Some.frame ∷ []) (sym given_is.0) ∙ ap (λ (f : Frame). c.give.new.self.below ++ f ∷ []) (sym c.replace.ensures.after), given_is.1 ∙ ap (given (opened c.replace.new.dest)) (c.in_ok-value-in-Some.ensures ∙ ap (λ (f : Frame). whole (opened f)) c.replace.ensures.value))

pub returns-in_ok-give-in-Some-clause-less : goal.returns-in_ok-give-in-Some-clause-less
returns-in_ok-give-in-Some-clause-less c =
    closed-less c.args.schema.now c.args.self.now c.give.new.self (record { top = c.replace.new.dest; below = c.pop.new.self }) c.in-Some.frame _ c.in-Some.ensures c.replace.ensures.after c.in_ok-give-in-Some.ensures
