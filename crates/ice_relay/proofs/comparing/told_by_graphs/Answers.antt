use Rattle.std.proofs.Common.{sym, ◌∙◌, arith}
use Rattle.std.proofs.lemmas.Bool.Decides.{Decides-eqb}
use Rattle.std.proofs.lemmas.Slice.Eq.{slice_eq-Decides}
use Rattle.std.proofs.lemmas.Result.{err_from_is_err_and}
use Rattle.ice_relay.proofs.Compared.{first_broken, second_broken, first_long, second_long, both_written}
use Rattle.ice_relay.proofs.comparing.told_by_graphs.Goals as goal

pub returns-in_err-first : goal.returns-in_err-first
returns-in_err-first c =
    let failed = err_from_is_err_and c.from_residual-in_err-first.result c.from_residual-in_err-first.ensures.1 in
    rw (failed.1, failed.2) (first_broken c.args.schema.now c.args.kind c.in_ok-root_of.field-0 c.in_ok-root_of.ensures c.args.input.now c.new-cursor.result c.new-cursor.ensures c.in_err-first.field-0.0 c.in_err-first.ensures.reads.0)

pub returns-in_err-second : goal.returns-in_err-second
returns-in_err-second c =
    let failed = err_from_is_err_and c.from_residual-in_err-second.result c.from_residual-in_err-second.ensures.1 in
    rw (failed.1, failed.2) (second_broken c.args.schema.now c.args.kind c.in_ok-root_of.field-0 c.in_ok-root_of.ensures c.args.input.now c.new-cursor.result c.new-cursor.ensures c.in_ok-first.first c.take_graph.new.cursor c.in_err-second.field-0.0 c.in_ok-first.ensures.reads c.in_err-second.ensures.reads)

pub returns-in_err-first-2 : goal.returns-in_err-first-2
returns-in_err-first-2 c =
    let failed = err_from_is_err_and c.from_residual-in_err-first-2.result c.from_residual-in_err-first-2.ensures.1 in
    rw (failed.1, failed.2) (first_long c.args.schema.now c.args.kind c.in_ok-root_of.field-0 c.in_ok-root_of.ensures c.args.input.now c.new-cursor.result c.new-cursor.ensures (λ i. omega (arith, c.type_inv.input i)) c.in_ok-first.first c.in_ok-second.second c.take_graph.new.cursor c.in_ok-first.ensures.reads c.in_ok-second.ensures.reads c.in_err-first-2.field-0.0 c.in_err-first-2.ensures)

pub returns-in_err-second-2 : goal.returns-in_err-second-2
returns-in_err-second-2 c =
    let failed = err_from_is_err_and c.from_residual-in_err-second-2.result c.from_residual-in_err-second-2.ensures.1 in
    rw (failed.1, failed.2) (second_long c.args.schema.now c.args.kind c.in_ok-root_of.field-0 c.in_ok-root_of.ensures c.args.input.now c.new-cursor.result c.new-cursor.ensures (λ i. omega (arith, c.type_inv.input i)) c.in_ok-first.first c.in_ok-second.second c.take_graph.new.cursor c.in_ok-first.ensures.reads c.in_ok-second.ensures.reads c.in_ok-first-2.first c.in_err-second-2.field-0.0 c.in_ok-first-2.ensures c.in_err-second-2.ensures)

pub returns : goal.returns
returns c =
    let test = slice_eq-Decides Decides-eqb c.as_slice.result.now c.as_slice-2.result.now c.eq.result c.eq.ensures in
    both_written c.args.schema.now c.args.kind c.in_ok-root_of.field-0 c.in_ok-root_of.ensures c.args.input.now c.new-cursor.result c.new-cursor.ensures (λ i. omega (arith, c.type_inv.input i)) c.in_ok-first.first c.in_ok-second.second c.take_graph.new.cursor c.in_ok-first.ensures.reads c.in_ok-second.ensures.reads c.in_ok-first-2.first c.in_ok-second-2.second c.eq.result c.rules.ensures c.in_ok-first-2.ensures c.in_ok-second-2.ensures
    (λ yes. sym c.as_slice.ensures.value ∙ test.0 yes ∙ c.as_slice-2.ensures.value, λ same. test.1 (c.as_slice.ensures.value ∙ same ∙ sym c.as_slice-2.ensures.value))
