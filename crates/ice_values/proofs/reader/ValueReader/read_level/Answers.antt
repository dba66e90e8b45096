use Rattle.std.proofs.Common.{◌≡◌, ℕ, suc, ◌-◌, subst, arith}
use Rattle.ice_values.specs.Going.{StepsFrom, part_within}
use Rattle.ice_values.proofs.reader.ValueReader.read_level.Goals as goal

pub returns-clause-steps : goal.returns-clause-steps
returns-clause-steps g c =
    let old = c.args.self.now in
    let more : suc (old.top.levels - 1) ≡ old.top.levels = omega arith in
    subst (λ (n : ℕ). StepsFrom (part_within n c.args.kind) g.P.RefPort.take c.args.schema.now old c.args.port.now c.args.cursor.now c.read_parts.result c.read_parts.new.self c.read_parts.new.port c.read_parts.new.cursor)
    more c.read_parts.ensures.steps
