use Rattle.std.proofs.Common.{List, ap}
use Rattle.ice_encoding.specs.Writing.{written_each, written_pairs}
use Rattle.ice_encoding.specs.Pausing.{written_in_place}
use Rattle.graph_arena.specs.declared.value.Value.{Value}
use Rattle.graph_arena.specs.View.{view, view_all, view_pairs}
use Rattle.value_writing.specs.Putting.{Values, Pairs, lists, left_written, onto}
use Rattle.value_writing.proofs.Levels.{one-fits, values-fit, pairs-fit, popped-fits, popped-work, one-work, values-work, pairs-work, one-written, first-written, key-written, level-ends, steps-along, less-along, no_items, no_pairs}
use Rattle.value_writing.proofs.writer.ValueWriter.step.Goals as goal

-- ---- one value

pub put-requires-clause-fits : goal.put-requires-clause-fits
put-requires-clause-fits g c = (one-fits (lists c.take_level.new.self) (lists c.args.self.now) (view c.in-Some-Value.value.now) (rw c.in-Some-Value.field-0-is at c.in-Some-Value.ensures) c.requires).0

pub put-requires-clause-value_fits : goal.put-requires-clause-value_fits
put-requires-clause-value_fits g c = (one-fits (lists c.take_level.new.self) (lists c.args.self.now) (view c.in-Some-Value.value.now) (rw c.in-Some-Value.field-0-is at c.in-Some-Value.ensures) c.requires).1

pub returns-in-Some-Value-clause-steps : goal.returns-in-Some-Value-clause-steps
returns-in-Some-Value-clause-steps g c inside =
    steps-along inside (onto (left_written g.P.PutPort.put inside (lists c.put.new.self))) c.put.result _ _ (c.put.new.port, c.put.new.out.items)
    (one-written g.P.PutPort.put inside (lists c.take_level.new.self) (lists c.args.self.now) (view c.in-Some-Value.value.now) (c.args.port.now, c.args.out.now.items) (rw c.in-Some-Value.field-0-is at c.in-Some-Value.ensures)) (c.put.ensures.steps inside)

pub returns-in-Some-Value-clause-less : goal.returns-in-Some-Value-clause-less
returns-in-Some-Value-clause-less g c = less-along c.put.result _ _ _ (one-work (lists c.take_level.new.self) (lists c.args.self.now) (view c.in-Some-Value.value.now) (rw c.in-Some-Value.field-0-is at c.in-Some-Value.ensures)) c.put.ensures.less

-- ---- values

pub put-requires-in-Some-clause-fits : goal.put-requires-in-Some-clause-fits
put-requires-in-Some-clause-fits g c = (values-fit (lists c.take_level.new.self) (lists c.args.self.now) c.in-Some-Values.values.now c.in-Some.others.now c.in-Some.value.now (lists c.add_level.new.self) (rw c.in-Some-Values.field-0-is at c.in-Some-Values.ensures) c.in-Some.ensures.cases.0 c.in_ok-add_level-in-Some.ensures c.requires).0

pub put-requires-in-Some-clause-value_fits : goal.put-requires-in-Some-clause-value_fits
put-requires-in-Some-clause-value_fits g c = (values-fit (lists c.take_level.new.self) (lists c.args.self.now) c.in-Some-Values.values.now c.in-Some.others.now c.in-Some.value.now (lists c.add_level.new.self) (rw c.in-Some-Values.field-0-is at c.in-Some-Values.ensures) c.in-Some.ensures.cases.0 c.in_ok-add_level-in-Some.ensures c.requires).1

pub returns-in-None-split_first-clause-steps : goal.returns-in-None-split_first-clause-steps
returns-in-None-split_first-clause-steps g c inside =
    level-ends g.P.PutPort.put inside (lists c.take_level.new.self) (lists c.args.self.now) (Values (view_all c.in-Some-Values.values.now)) (c.args.port.now, c.args.out.now.items) (rw c.in-Some-Values.field-0-is at c.in-Some-Values.ensures)
    (ap (λ (vs : List Value). written_each (written_in_place g.P.PutPort.put inside) (view_all vs)) (no_items c.in-Some-Values.values.now c.in-None-split_first.ensures.cases))

pub returns-in-None-split_first-clause-fits : goal.returns-in-None-split_first-clause-fits
returns-in-None-split_first-clause-fits g c = popped-fits (lists c.take_level.new.self) (lists c.args.self.now) (Values (view_all c.in-Some-Values.values.now)) (rw c.in-Some-Values.field-0-is at c.in-Some-Values.ensures) c.requires

pub returns-in-None-split_first-clause-less : goal.returns-in-None-split_first-clause-less
returns-in-None-split_first-clause-less g c = popped-work (lists c.take_level.new.self) (lists c.args.self.now) (Values (view_all c.in-Some-Values.values.now)) (rw c.in-Some-Values.field-0-is at c.in-Some-Values.ensures)

pub returns-in_ok-add_level-in-Some-clause-steps : goal.returns-in_ok-add_level-in-Some-clause-steps
returns-in_ok-add_level-in-Some-clause-steps g c inside =
    steps-along inside (onto (left_written g.P.PutPort.put inside (lists c.put-in-Some.new.self))) c.put-in-Some.result _ _ (c.put-in-Some.new.port, c.put-in-Some.new.out.items)
    (first-written g.P.PutPort.put inside (lists c.take_level.new.self) (lists c.args.self.now) c.in-Some-Values.values.now c.in-Some.others.now c.in-Some.value.now (lists c.add_level.new.self) (c.args.port.now, c.args.out.now.items) (rw c.in-Some-Values.field-0-is at c.in-Some-Values.ensures) c.in-Some.ensures.cases.0 c.in_ok-add_level-in-Some.ensures) (c.put-in-Some.ensures.steps inside)

pub returns-in_ok-add_level-in-Some-clause-less : goal.returns-in_ok-add_level-in-Some-clause-less
returns-in_ok-add_level-in-Some-clause-less g c = less-along c.put-in-Some.result _ _ _ (values-work (lists c.take_level.new.self) (lists c.args.self.now) c.in-Some-Values.values.now c.in-Some.others.now c.in-Some.value.now (lists c.add_level.new.self) (rw c.in-Some-Values.field-0-is at c.in-Some-Values.ensures) c.in-Some.ensures.cases.0 c.in_ok-add_level-in-Some.ensures) c.put-in-Some.ensures.less

-- ---- pairs

pub put-requires-in-Some-split_first-clause-fits : goal.put-requires-in-Some-split_first-clause-fits
put-requires-in-Some-split_first-clause-fits g c = (pairs-fit (lists c.take_level.new.self) (lists c.args.self.now) c.in-Some-Pairs.pairs.now c.in-Some-split_first.others.now c.in-Some-split_first.pair.now (lists c.add_level-in-Some-split_first.new.self) (lists c.add_level-in-Some-split_first-2.new.self) (rw c.in-Some-Pairs.field-0-is at c.in-Some-Pairs.ensures) c.in-Some-split_first.ensures.cases.0 c.in_ok-add_level-in-Some-split_first.ensures c.in_ok-add_level-in-Some-split_first-2.ensures c.requires).0

pub put-requires-in-Some-split_first-clause-value_fits : goal.put-requires-in-Some-split_first-clause-value_fits
put-requires-in-Some-split_first-clause-value_fits g c = (pairs-fit (lists c.take_level.new.self) (lists c.args.self.now) c.in-Some-Pairs.pairs.now c.in-Some-split_first.others.now c.in-Some-split_first.pair.now (lists c.add_level-in-Some-split_first.new.self) (lists c.add_level-in-Some-split_first-2.new.self) (rw c.in-Some-Pairs.field-0-is at c.in-Some-Pairs.ensures) c.in-Some-split_first.ensures.cases.0 c.in_ok-add_level-in-Some-split_first.ensures c.in_ok-add_level-in-Some-split_first-2.ensures c.requires).1

pub returns-in-None-split_first-2-clause-steps : goal.returns-in-None-split_first-2-clause-steps
returns-in-None-split_first-2-clause-steps g c inside =
    level-ends g.P.PutPort.put inside (lists c.take_level.new.self) (lists c.args.self.now) (Pairs (view_pairs c.in-Some-Pairs.pairs.now)) (c.args.port.now, c.args.out.now.items) (rw c.in-Some-Pairs.field-0-is at c.in-Some-Pairs.ensures)
    (ap (λ (ps : List (Value × Value)). written_pairs (written_in_place g.P.PutPort.put inside) (view_pairs ps)) (no_pairs c.in-Some-Pairs.pairs.now c.in-None-split_first-2.ensures.cases))

pub returns-in-None-split_first-2-clause-fits : goal.returns-in-None-split_first-2-clause-fits
returns-in-None-split_first-2-clause-fits g c = popped-fits (lists c.take_level.new.self) (lists c.args.self.now) (Pairs (view_pairs c.in-Some-Pairs.pairs.now)) (rw c.in-Some-Pairs.field-0-is at c.in-Some-Pairs.ensures) c.requires

pub returns-in-None-split_first-2-clause-less : goal.returns-in-None-split_first-2-clause-less
returns-in-None-split_first-2-clause-less g c = popped-work (lists c.take_level.new.self) (lists c.args.self.now) (Pairs (view_pairs c.in-Some-Pairs.pairs.now)) (rw c.in-Some-Pairs.field-0-is at c.in-Some-Pairs.ensures)

pub returns-in_ok-add_level-in-Some-split_first-2-clause-steps : goal.returns-in_ok-add_level-in-Some-split_first-2-clause-steps
returns-in_ok-add_level-in-Some-split_first-2-clause-steps g c inside =
    steps-along inside (onto (left_written g.P.PutPort.put inside (lists c.put-in-Some-split_first.new.self))) c.put-in-Some-split_first.result _ _ (c.put-in-Some-split_first.new.port, c.put-in-Some-split_first.new.out.items)
    (key-written g.P.PutPort.put inside (lists c.take_level.new.self) (lists c.args.self.now) c.in-Some-Pairs.pairs.now c.in-Some-split_first.others.now c.in-Some-split_first.pair.now (lists c.add_level-in-Some-split_first.new.self) (lists c.add_level-in-Some-split_first-2.new.self) (c.args.port.now, c.args.out.now.items) (rw c.in-Some-Pairs.field-0-is at c.in-Some-Pairs.ensures) c.in-Some-split_first.ensures.cases.0 c.in_ok-add_level-in-Some-split_first.ensures c.in_ok-add_level-in-Some-split_first-2.ensures) (c.put-in-Some-split_first.ensures.steps inside)

pub returns-in_ok-add_level-in-Some-split_first-2-clause-less : goal.returns-in_ok-add_level-in-Some-split_first-2-clause-less
returns-in_ok-add_level-in-Some-split_first-2-clause-less g c = less-along c.put-in-Some-split_first.result _ _ _ (pairs-work (lists c.take_level.new.self) (lists c.args.self.now) c.in-Some-Pairs.pairs.now c.in-Some-split_first.others.now c.in-Some-split_first.pair.now (lists c.add_level-in-Some-split_first.new.self) (lists c.add_level-in-Some-split_first-2.new.self) (rw c.in-Some-Pairs.field-0-is at c.in-Some-Pairs.ensures) c.in-Some-split_first.ensures.cases.0 c.in_ok-add_level-in-Some-split_first.ensures c.in_ok-add_level-in-Some-split_first-2.ensures) c.put-in-Some-split_first.ensures.less
