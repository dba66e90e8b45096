use Rattle.std.proofs.Common.{ℕ, ◌≡◌, ◌∙◌, List, [], sym, ap, subst}
use Rattle.ice_types.specs.declared.declarations.OpDecl.{OpDecl}
use Rattle.ice_types.specs.Tables.{Tables, with_interface}
use Rattle.ice_types.specs.Fits.{InterfaceFits}
use Rattle.ice_types.specs.Object.{object_operations, strings_declared, object_declared}
use Rattle.locator_types.proofs.ObjectFits.{object_fits}
use Rattle.locator_types.proofs.object.add_object.Goals as goal

pub define_interface-requires-clause-fits : goal.define_interface-requires-clause-fits
define_interface-requires-clause-fits c =
    let declared : c.add_interface.new.self ≡ object_declared
    = c.in_ok-add_interface.ensures.ok.1 ∙ ap (λ (t : Tables). with_interface t c.in_ok-of.field-0) c.requires ∙ ap (with_interface strings_declared) c.in_ok-of.ensures in
    subst (λ (ops : List OpDecl). InterfaceFits c.add_interface.new.self c.new.result ops) (sym c.in_ok-operations.ensures)
    (subst (λ (bases : List ℕ). InterfaceFits c.add_interface.new.self bases object_operations) (sym c.new.ensures)
    (subst (λ (t : Tables). InterfaceFits t [] object_operations) (sym declared) object_fits))
