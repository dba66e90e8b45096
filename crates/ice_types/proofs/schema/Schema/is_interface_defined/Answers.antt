use Rattle.std.proofs.Common.{ap, ◌∙◌}
use Rattle.ice_types.specs.Tables.{Tables, is_defined}
use Rattle.ice_types.proofs.schema.Schema.is_interface_defined.Goals as goal

pub returns : goal.returns
returns c = c.has_beside.ensures ∙ ap (λ (t : Tables). is_defined t.defined_interfaces c.args.at) c.self.view_is
