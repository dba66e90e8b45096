use Rattle.std.proofs.Common.{rules, codes, ap}
use Rattle.instance_writing.specs.Formats.{view_format}
use Rattle.ice_relay.proofs.OwnForms.{relayed_as_it_stands}
use Rattle.ice_relay.proofs.relay.canonical_of.Goals as goal

pub returns-in_ok-from_slice-in-Sliced : goal.returns-in_ok-from_slice-in-Sliced
returns-in_ok-from_slice-in-Sliced c =
    relayed_as_it_stands c.args.schema.now c.args.kind (view_format c.args.format) c.args.input.now c.in_ok-from_slice-in-Sliced.field-0 (ap view_format c.in-Sliced.is) c.in_ok-from_slice-in-Sliced.ensures.items
    (c.is_canonical_input.ensures (search rules) (codes "$value"))
