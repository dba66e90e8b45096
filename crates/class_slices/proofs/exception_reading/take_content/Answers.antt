use Rattle.ice_encoding.specs.Flags.{all_slices}
use Rattle.instance_reading.specs.Stacked.{view_user_exception}
use Rattle.class_slices.proofs.Read.{taken}
use Rattle.class_slices.proofs.exception_reading.take_content.Goals as goal

pub returns : goal.returns
returns c =
    taken c.args.schema.now all_slices c.args.cursor.now c.fork-ahead.result c.in_ok-inside.inside c.open_encaps.new.cursor c.read_user_exception.new.cursor (view_user_exception c.in_ok-content.content)
    c.fork-ahead.ensures c.in_ok-inside.ensures c.in_ok-content.ensures
