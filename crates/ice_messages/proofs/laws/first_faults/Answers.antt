use Rattle.ice_messages.proofs.FirstFaults.{answered_defect, defect_answered, one_defect, defect_no_front, defect_no_message}
use Rattle.ice_messages.proofs.laws.first_faults.Goals as goal

pub returns-clause-next : goal.returns-clause-next
returns-clause-next c = λ bytes fault fits. (answered_defect bytes fault fits, defect_answered bytes fault)

pub returns-clause-one : goal.returns-clause-one
returns-clause-one c = one_defect

pub returns-clause-no_front : goal.returns-clause-no_front
returns-clause-no_front c = defect_no_front

pub returns-clause-no_message : goal.returns-clause-no_message
returns-clause-no_message c = defect_no_message
