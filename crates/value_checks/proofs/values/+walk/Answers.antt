use Rattle.std.proofs.Common.{◌-◌, arith}
use Rattle.ice_encoding.specs.Typed.{HasType}
use Rattle.graph_arena.specs.View.{view}
use Rattle.value_checks.specs.References.{MayStand}
use Rattle.value_checks.proofs.Formed.{typed_as_formed}
use Rattle.value_checks.proofs.Walked.{bytes_anywhere, sequence_told, dictionary_told, members_end}
use Rattle.value_checks.proofs.values.+walk.Goals as goal

pub is_of-returns-then-levels-gt0 : goal.is_of-returns-then-levels-gt0
is_of-returns-then-levels-gt0 t c =
    typed_as_formed c.args.schema.now (MayStand c.args.schema.now c.args.references) c.args.levels (c.args.levels - 1) c.args.kind (view c.args.value.now) c.has_form.result (omega (arith, c.if-levels-gt0.true)) c.has_form.ensures

pub has_form-returns-in-Bytes : goal.has_form-returns-in-Bytes
has_form-returns-in-Bytes t c =
    bytes_anywhere c.args.schema.now (MayStand c.args.schema.now c.args.references) c.args.levels c.args.kind c.args.value.now c.in-Bytes.bytes c.as_slice-in-Bytes.result.now c.is_bytes.result
    c.in-Bytes.is c.as_slice-in-Bytes.ensures c.is_bytes.ensures

pub is_sequence-returns-then-is_size : goal.is_sequence-returns-then-is_size
is_sequence-returns-then-is_size t c =
    sequence_told c.args.schema.now c.args.kind c.in-Seq.at (MayStand c.args.schema.now c.args.references) c.args.levels c.seqs.result.now c.in-Some.decl.now c.args.items.now c.are_of.result
    c.in-Seq.is c.seqs.ensures c.in-Some.ensures (c.is_size.ensures.0 c.if-is_size.true) c.are_of.ensures

pub are_members-returns : goal.are_members-returns
are_members-returns t c =
    members_end (HasType c.args.schema.now (MayStand c.args.schema.now c.args.references) c.args.levels) c.args.members.now c.args.items.now c.loop-at.at c.loop-at.invariant.within c.loop-at.auto.at-end c.loop-at-test.false c.loop-at.invariant.rest

pub is_dictionary-returns : goal.is_dictionary-returns
is_dictionary-returns t c =
    dictionary_told c.args.schema.now c.args.kind c.in-Dict.at (MayStand c.args.schema.now c.args.references) c.args.levels c.dicts.result.now c.in-Some.decl.now c.args.pairs.now c.are_pairs_of.result
    c.in-Dict.is c.dicts.ensures c.in-Some.ensures (c.is_size.ensures.0 c.if-not-is_size.false) (c.is_rising.ensures.0 c.if-not-is_rising.false) c.are_pairs_of.ensures
