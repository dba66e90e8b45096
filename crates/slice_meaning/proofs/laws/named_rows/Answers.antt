use Rattle.slice_meaning.proofs.KnownNames.{type_row, exception_row, class_row, interface_row}
use Rattle.slice_meaning.proofs.laws.named_rows.Goals as goal

pub returns-clause-types : goal.returns-clause-types
returns-clause-types c = type_row

pub returns-clause-exceptions : goal.returns-clause-exceptions
returns-clause-exceptions c = exception_row

pub returns-clause-classes : goal.returns-clause-classes
returns-clause-classes c = class_row

pub returns-clause-interfaces : goal.returns-clause-interfaces
returns-clause-interfaces c = interface_row
