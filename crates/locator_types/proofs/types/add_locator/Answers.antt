use Rattle.std.proofs.Common.{ℕ, ◌≡◌, ◌∙◌, List, [], sym, ap, subst}
use Rattle.ice_types.specs.declared.declarations.OpDecl.{OpDecl}
use Rattle.ice_types.specs.Tables.{Tables, with_interface}
use Rattle.ice_types.specs.Fits.{InterfaceFits}
use Rattle.locator_types.specs.Locator.{locator_declared, locator_operations, types_declared}
use Rattle.locator_types.proofs.LocatorFits.{operations_fit}
use Rattle.locator_types.proofs.types.add_locator.Goals as goal

pub define_interface-requires-clause-fits : goal.define_interface-requires-clause-fits
define_interface-requires-clause-fits c =
    let declared : c.add_interface.new.self ≡ locator_declared
    = c.in_ok-add_interface.ensures.ok.1 ∙ ap (λ (t : Tables). with_interface t c.in_ok-of.field-0) c.requires ∙ ap (with_interface types_declared) c.in_ok-of.ensures in
    subst (λ (ops : List OpDecl). InterfaceFits c.add_interface.new.self c.new.result ops) (sym c.in_ok-operations.ensures)
    (subst (λ (bases : List ℕ). InterfaceFits c.add_interface.new.self bases locator_operations) (sym c.new.ensures)
    (subst (λ (t : Tables). InterfaceFits t [] locator_operations) (sym declared) operations_fit))
