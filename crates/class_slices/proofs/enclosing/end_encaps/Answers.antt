use Rattle.std.proofs.Common.{◌∙◌, arith}
use Rattle.class_slices.proofs.Encoded.{longer-closes, patched-closes}
use Rattle.class_slices.proofs.enclosing.end_encaps.Goals as goal

pub returns-then-length-limit : goal.returns-then-length-limit
returns-then-length-limit c = longer-closes c.args.out.items c.len-length.result c.args.limit (c.len-length.ensures ∙ c.args.out.ok.0) (omega (arith, c.if-length-limit.true))

pub returns : goal.returns
returns c = patched-closes c.args.out.items c.patch_size.new.out c.len-length.result c.args.limit (c.len-length.ensures ∙ c.args.out.ok.0) (omega (arith, c.if-length-limit.false)) c.patch_size.ensures
