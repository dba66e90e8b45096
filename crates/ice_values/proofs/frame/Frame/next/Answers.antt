use Rattle.ice_values.proofs.frame.Frame.next.Goals as goal

pub returns-in-Pairs-clause-asks : goal.returns-in-Pairs-clause-asks
returns-in-Pairs-clause-asks c = rw c.in-Pairs.is (c.next.ensures c.args.schema.now c.args.self.now.levels)
