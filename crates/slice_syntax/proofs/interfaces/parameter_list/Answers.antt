use Rattle.std.proofs.Common.{true, sym, ap, ◌∙◌, [], ◌∷◌, ◌++◌, append_assoc}
use Rattle.slice_syntax.specs.Grammar.{one, ◌▸◌}
use Rattle.slice_syntax.specs.Terminals.{comma}
use Rattle.slice_syntax.specs.Rules.{parameter}
use Rattle.slice_syntax.proofs.Fits.{fits_parameters}
use Rattle.slice_syntax.proofs.Series.{gather_more, rows_less, then_read}
use Rattle.slice_syntax.proofs.interfaces.parameter_list.Goals as goal

pub loop-alloc-smaller : goal.loop-alloc-smaller
loop-alloc-smaller c =
    rows_less (λ x. true) (one comma ▸ parameter) fits_parameters c.loop-alloc.cursor c.parameter-in-loop-alloc.new.cursor c.in_ok-parameter-2.field-0 (sym c.begins.ensures ∙ c.loop-alloc-test.true)
    (then_read (one comma) parameter c.loop-alloc.cursor c.take.new.self c.parameter-in-loop-alloc.new.cursor c.in_ok-take.field-0 c.in_ok-parameter-2.field-0 c.in_ok-take.ensures c.in_ok-parameter-2.ensures)

pub loop-alloc-preserved : goal.loop-alloc-preserved
loop-alloc-preserved c =
    gather_more (λ x. true) (one comma ▸ parameter) fits_parameters (λ ys. c.loop-alloc.params ++ ys) (λ ys. c.push-in-loop-alloc.new.self ++ ys) c.loop-alloc.cursor c.parameter-in-loop-alloc.new.cursor c.in_ok-parameter-2.field-0
    (λ ys. ap (λ z. z ++ ys) c.in_ok-push-2.ensures.ok ∙ append_assoc c.loop-alloc.params (c.in_ok-parameter-2.field-0 ∷ []) ys) (sym c.begins.ensures ∙ c.loop-alloc-test.true)
    (then_read (one comma) parameter c.loop-alloc.cursor c.take.new.self c.parameter-in-loop-alloc.new.cursor c.in_ok-take.field-0 c.in_ok-parameter-2.field-0 c.in_ok-take.ensures c.in_ok-parameter-2.ensures) ∙ c.loop-alloc.invariant
