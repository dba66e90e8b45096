use Rattle.std.proofs.Common.{true, refl, sym, ◌∙◌}
use Rattle.slice_syntax.specs.declared.terminal.Terminal.TheVariants as terminals
use Rattle.slice_syntax.specs.Grammar.{one, ◌▸◌}
use Rattle.slice_syntax.specs.Terminals.{comma}
use Rattle.slice_syntax.proofs.Fits.{fits_texts}
use Rattle.slice_syntax.proofs.Series.{gather_more, then_read}
use Rattle.slice_syntax.proofs.words.texts.Goals as goal

pub loop-cursor-preserved : goal.loop-cursor-preserved
loop-cursor-preserved c =
    gather_more (λ x. true) (one comma ▸ one terminals.Text) fits_texts (λ ys. tt) (λ ys. tt) c.loop-cursor.cursor c.take-in-loop-cursor-2.new.self c.in_ok-take-3.field-0 (λ ys. refl) (sym c.begins.ensures ∙ c.loop-cursor-test.true)
    (then_read (one comma) (one terminals.Text) c.loop-cursor.cursor c.take-in-loop-cursor.new.self c.take-in-loop-cursor-2.new.self c.in_ok-take-2.field-0 c.in_ok-take-3.field-0 c.in_ok-take-2.ensures c.in_ok-take-3.ensures) ∙ c.loop-cursor.invariant
