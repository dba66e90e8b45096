use Rattle.std.proofs.Common.{arith, refl}
use Rattle.canonical_inputs.proofs.Looked.{based_as}
use Rattle.canonical_inputs.proofs.entry.pass_base.Goals as goal

pub returns : goal.returns
returns c =
    based_as c.args.schema.now c.args.input.now c.args.at c.args.class c.args.met.now (record { classes = c.args.met.now.classes; ids = c.pass_slice.new.ids }) c.args.frame.now c.frame_of.result c.in-Some.slice c.frame_of.ensures
    c.requires.entry c.requires.base (omega arith) c.in-Some.ensures refl
