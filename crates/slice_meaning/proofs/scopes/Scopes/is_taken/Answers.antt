use Rattle.std.specs.Prelude.{reverse}
use Rattle.std.proofs.lemmas.Result.{IfOk-weaker}
use Rattle.slice_meaning.proofs.Lookup.{looked_lowered}
use Rattle.slice_meaning.proofs.scopes.Scopes.is_taken.Goals as goal

pub returns : goal.returns
returns c = IfOk-weaker c.has.result _ _
    (λ taken h. looked_lowered (reverse c.self.inside.entries.items) c.self.inside.numbers c.self.inside.lowered c.args.self.now c.args.scope c.args.name.now taken c.self.invariant c.self.view_is c.requires h)
    c.has.ensures
