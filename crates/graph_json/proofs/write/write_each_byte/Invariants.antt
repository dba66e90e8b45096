use Rattle.std.proofs.Common.{map}
use Rattle.serde_json.specs.View.{items_of}
use Rattle.graph_json.proofs.Printing.{IsLeft}
use Rattle.graph_json.proofs.WritingValues.{byte_noted}
use Rattle.graph_json.proofs.write.write_each_byte.Given as goal

abbrev pub invariant-loop-byte : goal.invariant-loop-byte
invariant-loop-byte l = IsLeft (λ bytes. items_of (map (byte_noted l.are_of) bytes)) l.bytes l.byte-index l.initial.out l.out
