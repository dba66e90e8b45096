use Rattle.std.proofs.Common.{◌≡◌, Ok, true, refl, sym, ◌∙◌}
use Rattle.slice_syntax.specs.Grammar.{one, ◌▸◌}
use Rattle.slice_syntax.specs.Reading.{read}
use Rattle.slice_syntax.specs.Terminals.{open_square, close_square}
use Rattle.slice_syntax.specs.Rules.{texts}
use Rattle.slice_syntax.proofs.Fits.{fits_metadata}
use Rattle.slice_syntax.proofs.Series.{gather_more, rows_less, then_read}
use Rattle.slice_syntax.proofs.words.metadata.Goals as goal

one_read : (c : goal.In_ok-take-2) → read (one open_square ▸ texts ▸ one close_square) c.loop-cursor.cursor ≡ Ok (c.in_ok-take-2.field-0, c.take-in-loop-cursor.new.self)
one_read c =
    then_read (one open_square) (texts ▸ one close_square) c.loop-cursor.cursor c.take.new.self c.take-in-loop-cursor.new.self c.in_ok-take.field-0 c.in_ok-take-2.field-0 c.in_ok-take.ensures
    (then_read texts (one close_square) c.take.new.self c.texts.new.cursor c.take-in-loop-cursor.new.self c.in_ok-texts.field-0 c.in_ok-take-2.field-0 c.in_ok-texts.ensures c.in_ok-take-2.ensures)

pub loop-cursor-smaller : goal.loop-cursor-smaller
loop-cursor-smaller c =
    rows_less (λ x. true) (one open_square ▸ texts ▸ one close_square) fits_metadata c.loop-cursor.cursor c.take-in-loop-cursor.new.self c.in_ok-take-2.field-0 (sym c.begins.ensures ∙ c.loop-cursor-test.true) (one_read c)

pub loop-cursor-preserved : goal.loop-cursor-preserved
loop-cursor-preserved c =
    gather_more (λ x. true) (one open_square ▸ texts ▸ one close_square) fits_metadata (λ ys. tt) (λ ys. tt) c.loop-cursor.cursor c.take-in-loop-cursor.new.self c.in_ok-take-2.field-0 (λ ys. refl)
    (sym c.begins.ensures ∙ c.loop-cursor-test.true) (one_read c) ∙ c.loop-cursor.invariant
