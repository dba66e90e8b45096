use Rattle.std.proofs.lemmas.Result.{on_ok_weaker}
use Rattle.slice_faults.proofs.Inside.{known_inside}
use Rattle.slice_faults.proofs.enums.declare_inside.Goals as goal

pub returns : goal.returns
returns c =
    let k = c.args.known.now in
    on_ok_weaker c.declare_entries.result (known_inside k.file k.scope c.args.at c.len-inside.result k.names c.declare_entries.new.names k.rows c.args.entries.now k.in_range c.len-inside.ensures) c.declare_entries.ensures.names
