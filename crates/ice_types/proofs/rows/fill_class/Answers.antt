use Rattle.ice_types.proofs.Items.{set_changed}
use Rattle.ice_types.proofs.Defined.{filled_class}
use Rattle.ice_types.proofs.rows.fill_class.Goals as goal

pub returns : goal.returns
returns c = rw (← c.classes.view_is) (set_changed (filled_class c.args.base c.args.compact c.args.members) c.classes.inside.items.items c.args.at c.index_mut-class.result.now (rw c.classes.view_is c.requires) c.index_mut-class.ensures.value)
