use Rattle.std.proofs.Common.{get_or, map, refl}
use Rattle.serde_json.specs.View.{items_of}
use Rattle.graph_json.proofs.Printing.{all_printed, one_more}
use Rattle.graph_json.proofs.WritingValues.{byte_noted}
use Rattle.graph_json.proofs.write.write_each_byte.Goals as goal

pub loop-byte-preserved : goal.loop-byte-preserved
loop-byte-preserved c =
    one_more (λ bytes. items_of (map (byte_noted c.args.are_of) bytes)) (byte_noted c.args.are_of) (λ x xs. refl) c.args.bytes.now c.loop-byte.byte-index
    c.args.out.now c.loop-byte.out c.write_byte.new.out (get_or c.args.bytes.now c.loop-byte.byte-index 0) 0 c.loop-byte-test.true refl c.loop-byte.invariant c.in_ok-write_byte.ensures

pub returns : goal.returns
returns c =
    all_printed (λ bytes. items_of (map (byte_noted c.args.are_of) bytes)) refl c.args.bytes.now c.loop-byte.byte-index
    c.args.out.now c.loop-byte.out c.end_array.new.self c.end_array.result c.loop-byte-test.false c.loop-byte.invariant c.end_array.ensures
