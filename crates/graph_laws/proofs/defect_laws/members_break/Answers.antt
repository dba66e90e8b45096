use Rattle.ice_encoding.specs.Port.{by_number}
use Rattle.ice_encoding.proofs.Values.{number_lawful}
use Rattle.graph_laws.specs.Defects.{SizeBreaks}
use Rattle.graph_laws.proofs.Encapsulations.{number_tells}
use Rattle.graph_laws.proofs.Members.{content_tells, slice_members_tell}
use Rattle.graph_laws.proofs.defect_laws.members_break.Goals as goal

pub returns-clause-contents : goal.returns-clause-contents
returns-clause-contents c = λ t shape r fault fit fits.
    let a = content_tells by_number number_lawful (λ s. Unit {0}) (λ at bytes x from to h good. tt) (λ at from. SizeBreaks) number_tells t shape fit.0 fit.2 in
    (a.broken tt r fault tt fits, a.breaks tt r fault)

pub returns-clause-slices : goal.returns-clause-slices
returns-clause-slices c = λ t flagged shape r fault fit fits.
    let a = slice_members_tell by_number number_lawful (λ s. Unit {0}) (λ at bytes x from to h good. tt) (λ at from. SizeBreaks) number_tells t shape fit.0 fit.2 flagged in
    (a.broken tt r fault tt fits, a.breaks tt r fault)
