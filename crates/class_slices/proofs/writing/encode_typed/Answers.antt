use Rattle.std.proofs.Common.{[], refl, subst, sym}
use Rattle.ice_encoding.specs.Graph.{Graph}
use Rattle.value_parts.specs.Shapes.{shape_seen}
use Rattle.instance_writing.specs.Formats.{view_format}
use Rattle.instance_writing.specs.Writable.{GraphCanBeWritten}
use Rattle.class_slices.specs.Enclosing.{Closes, unsized}
use Rattle.class_slices.proofs.Encoded.{closed, too-long, written-is}
use Rattle.class_slices.proofs.FirstUnknown.{writable}
use Rattle.class_slices.proofs.Writable.{form-writable}
use Rattle.class_slices.proofs.writing.encode_typed.Goals as goal

pub begun_with-begun-requires : goal.begun_with-begun-requires
begun_with-begun-requires c =
    subst (λ (g : Graph). GraphCanBeWritten c.args.schema.now g) (sym c.in_ok-numbered.ensures) (form-writable c.args.schema.now (shape_seen c.args.fields) c.args.graph c.requires.typed c.len.ensures.sound)

pub returns-in-Ok-end_encaps : goal.returns-in-Ok-end_encaps
returns-in-Ok-end_encaps c =
    let f = view_format c.args.format in
    closed c.args.schema.now (shape_seen c.args.fields) f c.args.graph c.args.limit (writable c.args.schema.now (shape_seen c.args.fields) f c.args.graph c.requires.typed c.len.ensures.sound c.in-Ok.ensures) c.in_ok-out.out.items c.in-Ok-end_encaps.out
    (written-is c.args.schema.now c.args.fields f c.args.graph c.in_ok-numbered.numbered (unsized []) c.in_ok-out.out.items c.in_ok-numbered.ensures refl c.in_ok-out.ensures)
    (subst (Closes c.in_ok-out.out.items c.args.limit) c.in-Ok-end_encaps.is c.end_encaps.ensures)

pub returns-in-Err-end_encaps : goal.returns-in-Err-end_encaps
returns-in-Err-end_encaps c =
    let f = view_format c.args.format in
    too-long c.args.schema.now (shape_seen c.args.fields) f c.args.graph c.args.limit (writable c.args.schema.now (shape_seen c.args.fields) f c.args.graph c.requires.typed c.len.ensures.sound c.in-Ok.ensures) c.in_ok-out.out.items c.in-Err-end_encaps.length
    (written-is c.args.schema.now c.args.fields f c.args.graph c.in_ok-numbered.numbered (unsized []) c.in_ok-out.out.items c.in_ok-numbered.ensures refl c.in_ok-out.ensures)
    (subst (Closes c.in_ok-out.out.items c.args.limit) c.in-Err-end_encaps.is c.end_encaps.ensures)
