use Rattle.std.proofs.Common.{sym, subst}
use Rattle.ice_types.specs.declared.kind.TypeRef.TheVariants as kinds
use Rattle.ice_types.specs.Tables.{Tables}
use Rattle.ice_types.specs.Fits.{SeqFits}
use Rattle.locator_types.proofs.ObjectFits.{strings_fit}
use Rattle.locator_types.proofs.object.add_strings.Goals as goal

pub add_seq-requires-clause-fits : goal.add_seq-requires-clause-fits
add_seq-requires-clause-fits c = subst (λ (t : Tables). SeqFits t kinds.Text) (sym c.requires) strings_fit
