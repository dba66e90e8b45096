use Rattle.std.proofs.Common.{refl, sym, subst, List}
use Rattle.std.proofs.lemmas.Result.{on_ok_weaker}
use Rattle.std.specs.Borrow.{Bor}
use Rattle.std.specs.Prelude.{ℕ}
use Rattle.graph_arena.specs.View.{view, view_all, view_pairs}
use Rattle.graph_json.specs.declared.rows.Field.{Field}
use Rattle.graph_json.specs.ValueNotation.{pair}
use Rattle.graph_json.specs.CanonicalValues.{each_noted, notation_levels, pairs_noted}
use Rattle.graph_json.specs.Printing.{PrintsMembers, row_noted}
use Rattle.graph_json.proofs.Printing.{added, all_printed, array_printed, item_printed, items_ended, member_printed, members_ended, object_printed, one_more, wrote}
use Rattle.graph_json.proofs.RisingNames.{row_rising}
use Rattle.graph_json.proofs.write.+notes.Goals as goal

pub write_each-loop-value-preserved : goal.write_each-loop-value-preserved
write_each-loop-value-preserved t c =
    let write = notation_levels c.args.schema.now c.args.levels c.args.kind in
    one_more (λ values. each_noted write (view_all values)) (λ v. write (view v)) (λ x xs. refl) c.args.values.now c.loop-value.value-index
    c.args.out.now c.loop-value.out c.write_level.new.out c.value-item.result c.value-item.result c.loop-value-test.true c.value-item.is c.loop-value.invariant c.in_ok-write_level.ensures

pub write_each-returns : goal.write_each-returns
write_each-returns t c =
    let write = notation_levels c.args.schema.now c.args.levels c.args.kind in
    all_printed (λ values. each_noted write (view_all values)) refl c.args.values.now c.loop-value.value-index
    c.args.out.now c.loop-value.out c.end_array.new.self c.end_array.result c.loop-value-test.false c.loop-value.invariant c.end_array.ensures

pub write_pairs-loop-key-preserved : goal.write_pairs-loop-key-preserved
write_pairs-loop-key-preserved t c =
    let key = notation_levels c.args.schema.now c.args.levels c.args.decl.now.key in
    let held = notation_levels c.args.schema.now c.args.levels c.args.decl.now.value in
    let begin = wrote c.begin_array.result c.in_ok-begin_array.field-0 c.in_ok-begin_array.was c.begin_array.ensures in
    let end = wrote c.end_array.result c.in_ok-end_array.field-0 c.in_ok-end_array.was c.end_array.ensures in
    let both = array_printed begin (item_printed c.in_ok-write_level.ensures (item_printed c.in_ok-write_level-2.ensures (items_ended end))) in
    one_more (λ pairs. pairs_noted key held (view_pairs pairs)) (λ p. pair (key (view p.0)) (held (view p.1))) (λ x xs. refl) c.args.pairs.now c.loop-key.key-index
    c.args.out.now c.loop-key.out c.end_array.new.self c.loop-key-item.result c.loop-key-item.result c.loop-key-test.true c.loop-key-item.is c.loop-key.invariant both

pub write_pairs-returns : goal.write_pairs-returns
write_pairs-returns t c =
    let key = notation_levels c.args.schema.now c.args.levels c.args.decl.now.key in
    let held = notation_levels c.args.schema.now c.args.levels c.args.decl.now.value in
    all_printed (λ pairs. pairs_noted key held (view_pairs pairs)) refl c.args.pairs.now c.loop-key.key-index
    c.args.out.now c.loop-key.out c.end_array-2.new.self c.end_array-2.result c.loop-key-test.false c.loop-key.invariant c.end_array-2.ensures

pub write_row-loop-name-preserved : goal.write_row-loop-name-preserved
write_row-loop-name-preserved t c =
    let l = c.loop-name in
    let write = notation_levels c.args.schema.now c.args.levels in
    let key = wrote c.key.result c.in_ok-key.field-0 c.in_ok-key.was c.key.ensures in
    λ end rest. l.invariant end (subst (λ (es : List (Bor (List ℕ) × Field)). PrintsMembers (row_noted write es) l.out end) (sym c.in-Some.ensures.steps)
    (member_printed key c.in_ok-write_level.ensures rest))

pub write_row-returns : goal.write_row-returns
write_row-returns t c =
    let l = c.loop-name in
    let write = notation_levels c.args.schema.now c.args.levels in
    let begin = wrote c.begin_object.result c.in_ok-begin_object.field-0 c.in_ok-begin_object.was c.begin_object.ensures in
    on_ok_weaker c.end_object.result (λ end.
    object_printed (row_rising write c.args.row.now.entries c.iter-name-items.ensures.ordered) begin
    (l.invariant c.end_object.new.self (subst (λ (es : List (Bor (List ℕ) × Field)). PrintsMembers (row_noted write es) l.out c.end_object.new.self) (sym c.in-None.ensures.steps.0) (members_ended end))))
    (added c.end_object.result c.end_object.ensures)
