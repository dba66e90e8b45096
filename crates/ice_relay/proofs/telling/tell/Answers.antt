use Rattle.std.proofs.Common.{ap, sym, ◌∙◌, length}
use Rattle.std.proofs.lemmas.Bool.Decides.{Decides-eqb}
use Rattle.std.proofs.lemmas.Slice.Eq.{slice_eq-Decides}
use Rattle.std.proofs.lemmas.Result.{err_from_is_err_and}
use Rattle.ice_encoding.specs.CanonicalGraph.{compact, sliced}
use Rattle.value_parts.specs.Shapes.{shape_seen}
use Rattle.ice_relay.proofs.Relayed.{encoded_spells, sliced_fails, tells}
use Rattle.ice_relay.proofs.telling.tell.Goals as goal

pub relayed-requires : goal.relayed-requires
relayed-requires c = (c.args.graph, encoded_spells c.args.schema.now (shape_seen c.args.fields) c.args.graph c.rules.ensures c.requires.typed c.requires.writable c.requires.few c.len.ensures.sound compact c.in_ok-compact.compact c.in_ok-compact.ensures c.as_slice.result.now c.as_slice.ensures.value)

pub returns-in_err-sliced : goal.returns-in_err-sliced
returns-in_err-sliced c =
    let failed = err_from_is_err_and c.from_residual-in_err-sliced.result c.from_residual-in_err-sliced.ensures.1 in
    let spells = encoded_spells c.args.schema.now (shape_seen c.args.fields) c.args.graph c.rules.ensures c.requires.typed c.requires.writable c.requires.few c.len.ensures.sound compact c.in_ok-compact.compact c.in_ok-compact.ensures c.as_slice.result.now c.as_slice.ensures.value in
    rw (failed.1, failed.2) (sliced_fails c.args.schema.now (shape_seen c.args.fields) c.args.graph c.rules.ensures c.requires.typed c.requires.writable c.requires.few c.len.ensures.sound c.args.nodes c.in_ok-compact.compact c.in_err-sliced.field-0.0 c.in_ok-compact.ensures (c.in_err-sliced.ensures c.args.graph spells))

pub relayed-requires-2 : goal.relayed-requires-2
relayed-requires-2 c =
    let spells = encoded_spells c.args.schema.now (shape_seen c.args.fields) c.args.graph c.rules.ensures c.requires.typed c.requires.writable c.requires.few c.len.ensures.sound compact c.in_ok-compact.compact c.in_ok-compact.ensures c.as_slice.result.now c.as_slice.ensures.value in
    (c.args.graph, encoded_spells c.args.schema.now (shape_seen c.args.fields) c.args.graph c.rules.ensures c.requires.typed c.requires.writable c.requires.few c.len.ensures.sound sliced c.in_ok-sliced.sliced (c.in_ok-sliced.ensures c.args.graph spells) c.as_slice-2.result.now c.as_slice-2.ensures.value)

pub returns-in_err-again : goal.returns-in_err-again
returns-in_err-again c =
    let failed = err_from_is_err_and c.from_residual-in_err-again.result c.from_residual-in_err-again.ensures.1 in
    let spells = encoded_spells c.args.schema.now (shape_seen c.args.fields) c.args.graph c.rules.ensures c.requires.typed c.requires.writable c.requires.few c.len.ensures.sound compact c.in_ok-compact.compact c.in_ok-compact.ensures c.as_slice.result.now c.as_slice.ensures.value in
    let again = encoded_spells c.args.schema.now (shape_seen c.args.fields) c.args.graph c.rules.ensures c.requires.typed c.requires.writable c.requires.few c.len.ensures.sound sliced c.in_ok-sliced.sliced (c.in_ok-sliced.ensures c.args.graph spells) c.as_slice-2.result.now c.as_slice-2.ensures.value in
    rw (failed.1, failed.2) (sliced_fails c.args.schema.now (shape_seen c.args.fields) c.args.graph c.rules.ensures c.requires.typed c.requires.writable c.requires.few c.len.ensures.sound c.args.nodes c.in_ok-compact.compact c.in_err-again.field-0.0 c.in_ok-compact.ensures (c.in_err-again.ensures c.args.graph again))

pub returns : goal.returns
returns c =
    let test = slice_eq-Decides Decides-eqb c.as_slice-3.result.now c.as_slice-4.result.now c.eq-same.result c.eq-same.ensures in
    let spells = encoded_spells c.args.schema.now (shape_seen c.args.fields) c.args.graph c.rules.ensures c.requires.typed c.requires.writable c.requires.few c.len.ensures.sound compact c.in_ok-compact.compact c.in_ok-compact.ensures c.as_slice.result.now c.as_slice.ensures.value in
    let again = encoded_spells c.args.schema.now (shape_seen c.args.fields) c.args.graph c.rules.ensures c.requires.typed c.requires.writable c.requires.few c.len.ensures.sound sliced c.in_ok-sliced.sliced (c.in_ok-sliced.ensures c.args.graph spells) c.as_slice-2.result.now c.as_slice-2.ensures.value in
    tells c.args.schema.now (shape_seen c.args.fields) c.args.graph c.rules.ensures c.requires.typed c.requires.writable c.requires.few c.len.ensures.sound c.args.nodes c.in_ok-compact.compact c.in_ok-sliced.sliced c.in_ok-again.again c.len-reached.result c.len-2.result c.len-3.result c.eq-same.result c.in_ok-line.field-0
    c.in_ok-compact.ensures (c.in_ok-sliced.ensures c.args.graph spells) (c.in_ok-again.ensures c.args.graph again)
    (c.len-reached.ensures ∙ ap length c.in_ok-first_visit.ensures) (c.len-2.ensures ∙ c.in_ok-compact.compact.ok.0) (c.len-3.ensures ∙ c.in_ok-sliced.sliced.ok.0) (λ e. test.1 (c.as_slice-3.ensures.value ∙ e ∙ sym c.as_slice-4.ensures.value)) c.in_ok-line.ensures
