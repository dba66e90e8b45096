use Rattle.std.proofs.Common.{◌≤◌, sym, arith}
use Rattle.call_command.proofs.Declared.{op_fits, declared}
use Rattle.call_command.proofs.known.known_of.Goals as goal
use Rattle.call_command.proofs.known.known_of.Goals.{then-operation, else-operation}

pub returns-in-Some-clause-declared : goal.returns-in-Some-clause-declared
returns-in-Some-clause-declared c =
    declared (record { tables = c.args.object.now; declared = c.in-Some.operation.now; mode = 1 }) c.rules.ensures (op_fits c.args.object.now c.rules.ensures 0 c.args.name.now c.in-Some.operation.now (sym c.in-Some.ensures)) (omega arith)

pub returns-clause-declared : goal.returns-clause-declared
returns-clause-declared c =
    let mode : c.if-operation.mode ≤ 2 = elim c.if-operation.branch [ then-operation w ↦ omega arith | else-operation w ↦ omega arith ] in
    declared (record { tables = c.args.schema.now; declared = c.in_ok-operation.operation.now; mode = c.if-operation.mode }) c.rules-2.ensures
    (op_fits c.args.schema.now c.rules-2.ensures c.args.interface c.args.name.now c.in_ok-operation.operation.now (sym c.in_ok-operation.ensures)) mode
