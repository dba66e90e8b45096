use Rattle.ice_types.proofs.Items.{set_changed}
use Rattle.ice_types.proofs.Defined.{filled_interface}
use Rattle.ice_types.proofs.rows.fill_interface.Goals as goal

pub returns : goal.returns
returns c = rw (← c.interfaces.view_is) (set_changed (filled_interface c.args.bases c.args.ops) c.interfaces.inside.items.items c.args.at c.index_mut-interface.result.now (rw c.interfaces.view_is c.requires) c.index_mut-interface.ensures.value)
