use Rattle.std.proofs.Common.{sym, subst}
use Rattle.ice_types.specs.declared.declarations.StructDecl.{StructDecl}
use Rattle.ice_types.specs.Fits.{StructFits}
use Rattle.ice_types.specs.Tables.{Tables, no_types}
use Rattle.locator_types.proofs.LocatorFits.{identity_fits}
use Rattle.locator_types.proofs.types.add_identity.Goals as goal

pub add_struct-requires-clause-fits : goal.add_struct-requires-clause-fits
add_struct-requires-clause-fits c =
    subst (λ (t : Tables). StructFits t c.in_ok-identity_decl.field-0.members) (sym c.requires)
    (subst (λ (d : StructDecl). StructFits no_types d.members) (sym c.in_ok-identity_decl.ensures) identity_fits)
