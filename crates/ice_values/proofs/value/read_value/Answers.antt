use Rattle.ice_values.proofs.value.read_value.Goals as goal

pub returns-in-Ok-clause-reads : goal.returns-in-Ok-clause-reads
returns-in-Ok-clause-reads g c inside = rw (c.fork-ahead.ensures) at (c.in-Ok.ensures inside)

pub returns-in-Err-clause-reads : goal.returns-in-Err-clause-reads
returns-in-Err-clause-reads g c inside = rw (c.fork-ahead.ensures) at (c.in-Err.ensures inside)
