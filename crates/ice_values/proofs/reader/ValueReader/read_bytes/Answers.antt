use Rattle.std.proofs.Common.{rules, ◌++◌, ◌∷◌, []}
use Rattle.ice_types.specs.declared.kind.TypeRef.TheVariants as kinds
use Rattle.ice_encoding.specs.Pausing.{in_place}
use Rattle.ice_values.specs.ByteSequence.{byte_sequence_at}
use Rattle.ice_values.specs.Going.{onward, whole_value}
use Rattle.ice_values.proofs.Costs.{given-less}
use Rattle.ice_values.proofs.Frames.{read-given, read-fails}
use Rattle.ice_values.proofs.ByteSequences.{bytes-step}
use Rattle.ice_values.proofs.reader.ValueReader.read_bytes.Goals as goal

pub returns-in_err-value-clause-steps : goal.returns-in_err-value-clause-steps
returns-in_err-value-clause-steps g c inside =
    let take = g.P.RefPort.take in
    let t = c.args.schema.now in
    let step = bytes-step (in_place take inside) t c.args.levels c.args.at c.args.port.now c.args.cursor.now c.requires.deep c.requires.bytes in
    let fails = read-fails take t inside c.args.levels (kinds.Seq c.args.at) (byte_sequence_at c.args.cursor.now) c.in_err-value.field-0.0 (onward take t inside whole_value (c.args.self.now.below ++ c.args.self.now.top ∷ [])) c.args.port.now c.args.cursor.now step c.in_err-value.ensures in
    search (rules, fails)

pub returns-clause-steps : goal.returns-clause-steps
returns-clause-steps g c inside =
    let take = g.P.RefPort.take in
    let t = c.args.schema.now in
    let step = bytes-step (in_place take inside) t c.args.levels c.args.at c.args.port.now c.args.cursor.now c.requires.deep c.requires.bytes in
    read-given take t inside c.args.levels (kinds.Seq c.args.at) (byte_sequence_at c.args.cursor.now) c.args.self.now c.give.new.self c.in_ok-value.value c.args.port.now c.args.cursor.now c.take_byte_sequence.new.cursor step c.in_ok-value.ensures c.in_ok-give.ensures

pub returns-clause-less : goal.returns-clause-less
returns-clause-less g c = given-less c.args.schema.now c.args.levels c.args.self.now c.give.new.self _ c.in_ok-give.ensures
