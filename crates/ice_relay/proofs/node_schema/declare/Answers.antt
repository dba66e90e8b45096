use Rattle.std.proofs.Common.{ℕ, ◌≡◌, ◌∙◌, List, None, refl, false, sym, ap, subst}
use Rattle.ice_types.specs.declared.declarations.Member.{Member}
use Rattle.ice_types.specs.Tables.{Tables, IsNewId, no_types, with_class, is_defined}
use Rattle.ice_types.specs.Fits.{ClassFits}
use Rattle.ice_relay.specs.Nodes.{node_declared, node_members}
use Rattle.ice_relay.proofs.Tables.{node_new, node_fits}
use Rattle.ice_relay.proofs.node_schema.declare.Goals as goal

pub add_class-requires-clause-new_id : goal.add_class-requires-clause-new_id
add_class-requires-clause-new_id c = subst (λ (t : Tables). IsNewId t c.in_ok-of.field-0) (sym c.requires) (subst (IsNewId no_types) (sym c.in_ok-of.ensures) node_new)

pub define_class-requires-clause-undefined : goal.define_class-requires-clause-undefined
define_class-requires-clause-undefined c =
    let declared : c.add_class.new.self ≡ node_declared
    = c.in_ok-add_class.ensures.ok.1 ∙ ap (λ (t : Tables). with_class t c.in_ok-of.field-0) c.requires ∙ ap (with_class no_types) c.in_ok-of.ensures in
    subst (λ (t : Tables). is_defined t.defined_classes 0 ≡ false) (sym declared) refl

pub define_class-requires-clause-fits : goal.define_class-requires-clause-fits
define_class-requires-clause-fits c =
    let declared : c.add_class.new.self ≡ node_declared
    = c.in_ok-add_class.ensures.ok.1 ∙ ap (λ (t : Tables). with_class t c.in_ok-of.field-0) c.requires ∙ ap (with_class no_types) c.in_ok-of.ensures in
    subst (λ (members : List Member). ClassFits c.add_class.new.self None members) (sym c.in_ok-members.ensures)
    (subst (λ (t : Tables). ClassFits t None node_members) (sym declared) node_fits)
