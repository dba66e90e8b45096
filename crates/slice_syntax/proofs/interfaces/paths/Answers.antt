use Rattle.std.proofs.Common.{true, sym, ap, ◌∙◌, [], ◌∷◌, ◌++◌, append_assoc}
use Rattle.slice_syntax.specs.Grammar.{one, ◌▸◌}
use Rattle.slice_syntax.specs.Terminals.{comma}
use Rattle.slice_syntax.specs.Rules.{scoped}
use Rattle.slice_syntax.proofs.Fits.{fits_paths}
use Rattle.slice_syntax.proofs.Series.{gather_more, rows_less, then_read}
use Rattle.slice_syntax.proofs.interfaces.paths.Goals as goal

pub loop-alloc-smaller : goal.loop-alloc-smaller
loop-alloc-smaller c =
    rows_less (λ x. true) (one comma ▸ scoped) fits_paths c.loop-alloc.cursor c.scoped-in-loop-alloc.new.cursor c.in_ok-scoped-2.field-0 (sym c.begins.ensures ∙ c.loop-alloc-test.true)
    (then_read (one comma) scoped c.loop-alloc.cursor c.take.new.self c.scoped-in-loop-alloc.new.cursor c.in_ok-take.field-0 c.in_ok-scoped-2.field-0 c.in_ok-take.ensures c.in_ok-scoped-2.ensures)

pub loop-alloc-preserved : goal.loop-alloc-preserved
loop-alloc-preserved c =
    gather_more (λ x. true) (one comma ▸ scoped) fits_paths (λ ys. c.loop-alloc.paths ++ ys) (λ ys. c.push-in-loop-alloc.new.self ++ ys) c.loop-alloc.cursor c.scoped-in-loop-alloc.new.cursor c.in_ok-scoped-2.field-0
    (λ ys. ap (λ z. z ++ ys) c.in_ok-push-2.ensures.ok ∙ append_assoc c.loop-alloc.paths (c.in_ok-scoped-2.field-0 ∷ []) ys) (sym c.begins.ensures ∙ c.loop-alloc-test.true)
    (then_read (one comma) scoped c.loop-alloc.cursor c.take.new.self c.scoped-in-loop-alloc.new.cursor c.in_ok-take.field-0 c.in_ok-scoped-2.field-0 c.in_ok-take.ensures c.in_ok-scoped-2.ensures) ∙ c.loop-alloc.invariant
