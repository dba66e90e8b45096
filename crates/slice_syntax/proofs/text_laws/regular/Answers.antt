use Rattle.slice_syntax.proofs.RegularItems.{regular}
use Rattle.slice_syntax.proofs.text_laws.regular.Goals as goal

pub returns : goal.returns
returns c = regular
