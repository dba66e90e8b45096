use Rattle.std.proofs.Common.{◌++◌, ◌∙◌}
use Rattle.ice_encoding.specs.CanonicalGraph.{bytes_of}
use Rattle.instance_writing.specs.Formats.{view_format}
use Rattle.instance_writing.specs.Remains.{with_options}
use Rattle.class_slices.proofs.writing.begun_with.Goals as goal

pub returns : goal.returns
returns c =
    c.in_ok-write_numbered.ensures
    ∙ (λ i. c.in_ok-out.ensures i ++ bytes_of c.args.schema.now (with_options c.args.optional.now) (view_format c.args.format) c.args.numbered.now)
