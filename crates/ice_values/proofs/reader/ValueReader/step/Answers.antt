use Rattle.std.proofs.Common.{◌≡◌, ℕ, ◌+◌, Ok, Some, None, sym, ap, ◌∙◌, subst}
use Rattle.graph_arena.specs.View.{view}
use Rattle.ice_values.specs.Cost.{wants, weight, frames_cost, cost}
use Rattle.value_parts.specs.Pauses.{LessOnStep}
use Rattle.ice_values.specs.Frames.{opened}
use Rattle.ice_values.specs.Rests.{rest_of}
use Rattle.ice_values.specs.Going.{left_of}
use Rattle.ice_values.proofs.Frames.{closes, part-next, asks-next, levels-opened, levels_of, NextsAt}
use Rattle.ice_values.proofs.Joined.{steps-along}
use Rattle.ice_values.proofs.Costs.{asks-less, next-less, LessOnAsk}
use Rattle.ice_values.proofs.reader.ValueReader.step.Goals as goal

pub returns-in-Some-clause-steps : goal.returns-in-Some-clause-steps
returns-in-Some-clause-steps g c inside =
    let t = c.args.schema.now in
    let old = c.args.self.now in
    let levels : levels_of (opened old.top) ≡ c.next.new.self.levels = levels-opened old.top.levels old.top.parts ∙ sym c.next.ensures.levels in
    steps-along inside (left_of g.P.RefPort.take t inside c.read_level.new.self) view c.read_level.result _ _ c.read_level.new.port c.read_level.new.cursor
    (part-next g.P.RefPort.take t inside old.top c.next.new.self old.below c.in-Some.kind c.args.port.now c.args.cursor.now c.args.cursor.now
    (subst (λ (n : ℕ). NextsAt g.P.RefPort.take t inside n (opened c.next.new.self) (Ok (Some c.in-Some.kind)) (rest_of g.P.RefPort.take t inside (opened old.top) c.args.port.now c.args.cursor.now) c.args.port.now c.args.cursor.now) levels (asks-next g.P.RefPort.take t inside (opened old.top) (opened c.next.new.self) (Ok (Some c.in-Some.kind)) c.args.port.now c.args.cursor.now (rw c.in-Some.is at c.in_ok-kind.ensures.asks)))) (c.read_level.ensures.steps inside)

pub returns-in-None-clause-steps : goal.returns-in-None-clause-steps
returns-in-None-clause-steps g c inside =
    closes g.P.RefPort.take c.args.schema.now inside c.args.self.now.top (record { top = c.next.new.self; below = c.args.self.now.below }) c.close.new.self c.close.result c.args.port.now c.args.cursor.now c.args.cursor.now
    (asks-next g.P.RefPort.take c.args.schema.now inside (opened c.args.self.now.top) (opened c.next.new.self) (Ok None) c.args.port.now c.args.cursor.now (rw c.in-None.is at c.in_ok-kind.ensures.asks)) c.close.ensures.closes

pub returns-in-Some-clause-less : goal.returns-in-Some-clause-less
returns-in-Some-clause-less g c =
    let t = c.args.schema.now in
    let old = c.args.self.now in
    let less : LessOnAsk t (opened old.top) (opened c.next.new.self) (Ok (Some c.in-Some.kind)) = asks-less t (opened old.top) (opened c.next.new.self) (Ok (Some c.in-Some.kind)) c.args.cursor.now.place (rw c.in-Some.is at c.in_ok-kind.ensures.asks) in
    next-less t old c.read_level.new.self c.next.new.self c.in-Some.kind c.read_level.result c.next.ensures.levels
    (less ∙ ap (λ (n : ℕ). weight t n + wants t c.next.new.self) (levels-opened old.top.levels old.top.parts)) c.read_level.ensures.less

pub returns-in-None-clause-less : goal.returns-in-None-clause-less
returns-in-None-clause-less g c =
    let t = c.args.schema.now in
    let same : wants t c.args.self.now.top ≡ wants t c.next.new.self = asks-less t (opened c.args.self.now.top) (opened c.next.new.self) (Ok None) c.args.cursor.now.place (rw c.in-None.is at c.in_ok-kind.ensures.asks) in
    subst (λ (n : ℕ). LessOnStep c.close.result (n + frames_cost t c.args.self.now.below) (cost t c.close.new.self)) (sym same) c.close.ensures.less
