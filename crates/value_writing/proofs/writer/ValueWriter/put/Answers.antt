use Rattle.std.proofs.Common.{◌≡◌, ap, ◌∙◌, subst, refl, arith}
use Rattle.ice_encoding.specs.Tree.{sequence, dictionary, struct}
use Rattle.ice_encoding.specs.Canonical.{HasSizes}
use Rattle.graph_arena.specs.View.{view, view_all, view_pairs}
use Rattle.graph_arena.proofs.Shapes.{view_seq, view_dict, view_members}
use Rattle.value_writing.specs.Putting.{Values, Pairs, lists}
use Rattle.value_writing.proofs.ByteSequences.{byte_sizes, value-written}
use Rattle.value_writing.proofs.Levels.{seq_sizes, dict_sizes, seq-written, dict-written, members-written, fit-push, work-push}
use Rattle.value_writing.proofs.writer.ValueWriter.put.Goals as goal

pub overflow_cast-len : goal.overflow_cast-len
overflow_cast-len g c = let sizes = seq_sizes c.args.value.now c.in-Seq.items c.in-Seq.is c.requires.value_fits in omega (arith, sizes.0, c.len.ensures)

pub put_size-requires : goal.put_size-requires
put_size-requires g c = let sizes = seq_sizes c.args.value.now c.in-Seq.items c.in-Seq.is c.requires.value_fits in omega (arith, sizes.0, c.len.ensures)

pub returns-in_ok-add_level-in-Seq-clause-steps : goal.returns-in_ok-add_level-in-Seq-clause-steps
returns-in_ok-add_level-in-Seq-clause-steps g c inside =
    let shape : view c.args.value.now ≡ sequence (view_all c.in-Seq.items) = ap view c.in-Seq.is ∙ view_seq c.in-Seq.items in
    seq-written g.P.PutPort.put inside (lists c.args.self.now) (lists c.add_level.new.self) (view c.args.value.now) c.in-Seq.items c.args.port.now c.args.out.now.items c.put_size.new.out.items c.len.result shape c.len.ensures c.in_ok-put_size-in-Seq.ensures.ok (c.in_ok-add_level-in-Seq.ensures ∙ rw c.as_slice.ensures refl)

pub returns-in_ok-add_level-in-Seq-clause-fits : goal.returns-in_ok-add_level-in-Seq-clause-fits
returns-in_ok-add_level-in-Seq-clause-fits g c =
    rw (c.in_ok-add_level-in-Seq.ensures, c.as_slice.ensures) (fit-push (lists c.args.self.now) (Values (view_all c.in-Seq.items)) c.requires.fits (seq_sizes c.args.value.now c.in-Seq.items c.in-Seq.is c.requires.value_fits).1)

pub returns-in_ok-add_level-in-Seq-clause-less : goal.returns-in_ok-add_level-in-Seq-clause-less
returns-in_ok-add_level-in-Seq-clause-less g c =
    let shape : view c.args.value.now ≡ sequence (view_all c.in-Seq.items) = ap view c.in-Seq.is ∙ view_seq c.in-Seq.items in
    rw (shape, c.in_ok-add_level-in-Seq.ensures, c.as_slice.ensures) (omega (arith, work-push (lists c.args.self.now) (Values (view_all c.in-Seq.items))))

pub put_byte_sequence-requires : goal.put_byte_sequence-requires
put_byte_sequence-requires g c = byte_sizes c.args.value.now c.in-Bytes.bytes c.in-Bytes.is c.requires.value_fits

pub returns-in_ok-put_byte_sequence-in-Bytes-clause-steps : goal.returns-in_ok-put_byte_sequence-in-Bytes-clause-steps
returns-in_ok-put_byte_sequence-in-Bytes-clause-steps g c inside =
    value-written g.P.PutPort.put inside (lists c.args.self.now) c.args.value.now c.in-Bytes.bytes c.args.port.now c.args.out.now.items c.put_byte_sequence.new.out.items c.in-Bytes.is c.in_ok-put_byte_sequence-in-Bytes.ensures.ok

pub overflow_cast-len-in-Pairs : goal.overflow_cast-len-in-Pairs
overflow_cast-len-in-Pairs g c = let sizes = dict_sizes c.args.value.now c.in-Pairs.pairs c.in-Pairs.is c.requires.value_fits in omega (arith, sizes.0, c.len-in-Pairs.ensures)

pub put_size-requires-in-Pairs : goal.put_size-requires-in-Pairs
put_size-requires-in-Pairs g c = let sizes = dict_sizes c.args.value.now c.in-Pairs.pairs c.in-Pairs.is c.requires.value_fits in omega (arith, sizes.0, c.len-in-Pairs.ensures)

pub returns-in_ok-add_level-in-Pairs-clause-steps : goal.returns-in_ok-add_level-in-Pairs-clause-steps
returns-in_ok-add_level-in-Pairs-clause-steps g c inside =
    let shape : view c.args.value.now ≡ dictionary (view_pairs c.in-Pairs.pairs) = ap view c.in-Pairs.is ∙ view_dict c.in-Pairs.pairs in
    dict-written g.P.PutPort.put inside (lists c.args.self.now) (lists c.add_level-in-Pairs.new.self) (view c.args.value.now) c.in-Pairs.pairs c.args.port.now c.args.out.now.items c.put_size-in-Pairs.new.out.items c.len-in-Pairs.result shape c.len-in-Pairs.ensures c.in_ok-put_size-in-Pairs.ensures.ok (c.in_ok-add_level-in-Pairs.ensures ∙ rw c.as_slice-in-Pairs.ensures refl)

pub returns-in_ok-add_level-in-Pairs-clause-fits : goal.returns-in_ok-add_level-in-Pairs-clause-fits
returns-in_ok-add_level-in-Pairs-clause-fits g c =
    rw (c.in_ok-add_level-in-Pairs.ensures, c.as_slice-in-Pairs.ensures) (fit-push (lists c.args.self.now) (Pairs (view_pairs c.in-Pairs.pairs)) c.requires.fits (dict_sizes c.args.value.now c.in-Pairs.pairs c.in-Pairs.is c.requires.value_fits).1)

pub returns-in_ok-add_level-in-Pairs-clause-less : goal.returns-in_ok-add_level-in-Pairs-clause-less
returns-in_ok-add_level-in-Pairs-clause-less g c =
    let shape : view c.args.value.now ≡ dictionary (view_pairs c.in-Pairs.pairs) = ap view c.in-Pairs.is ∙ view_dict c.in-Pairs.pairs in
    rw (shape, c.in_ok-add_level-in-Pairs.ensures, c.as_slice-in-Pairs.ensures) (omega (arith, work-push (lists c.args.self.now) (Pairs (view_pairs c.in-Pairs.pairs))))

pub returns-in_ok-add_level-in-Members-clause-steps : goal.returns-in_ok-add_level-in-Members-clause-steps
returns-in_ok-add_level-in-Members-clause-steps g c inside =
    let shape : view c.args.value.now ≡ struct (view_all c.in-Members.items) = ap view c.in-Members.is ∙ view_members c.in-Members.items in
    members-written g.P.PutPort.put inside (lists c.args.self.now) (lists c.add_level-in-Members.new.self) (view c.args.value.now) c.in-Members.items (c.args.port.now, c.args.out.now.items) shape (c.in_ok-add_level-in-Members.ensures ∙ rw c.as_slice-in-Members.ensures refl)

pub returns-in_ok-add_level-in-Members-clause-fits : goal.returns-in_ok-add_level-in-Members-clause-fits
returns-in_ok-add_level-in-Members-clause-fits g c =
    let shape : view c.args.value.now ≡ struct (view_all c.in-Members.items) = ap view c.in-Members.is ∙ view_members c.in-Members.items in
    let sizes : HasSizes (struct (view_all c.in-Members.items)) = subst HasSizes shape c.requires.value_fits in
    rw (c.in_ok-add_level-in-Members.ensures, c.as_slice-in-Members.ensures) (fit-push (lists c.args.self.now) (Values (view_all c.in-Members.items)) c.requires.fits sizes.1)

pub returns-in_ok-add_level-in-Members-clause-less : goal.returns-in_ok-add_level-in-Members-clause-less
returns-in_ok-add_level-in-Members-clause-less g c =
    let shape : view c.args.value.now ≡ struct (view_all c.in-Members.items) = ap view c.in-Members.is ∙ view_members c.in-Members.items in
    rw (shape, c.in_ok-add_level-in-Members.ensures, c.as_slice-in-Members.ensures) (omega (arith, work-push (lists c.args.self.now) (Values (view_all c.in-Members.items))))
