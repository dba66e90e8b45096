use Rattle.std.proofs.Common.{true, sym, ap, ◌∙◌, List, [], ◌∷◌, ◌++◌, append_assoc}
use Rattle.slice_syntax.specs.Grammar.{one, ◌▸◌}
use Rattle.slice_syntax.specs.Terminals.{colons}
use Rattle.slice_syntax.specs.Rules.{word}
use Rattle.slice_syntax.specs.Files.{enters}
use Rattle.slice_syntax.specs.declared.tree.Item.{Item}
use Rattle.slice_syntax.specs.declared.tree.Item.TheVariants as items
use Rattle.slice_syntax.proofs.Fits.{fits_words}
use Rattle.slice_syntax.proofs.Series.{gather_more, rows_less, then_read}
use Rattle.slice_syntax.proofs.modules.module_words.Goals as goal

pub loop-alloc-smaller : goal.loop-alloc-smaller
loop-alloc-smaller c =
    rows_less (λ x. true) (one colons ▸ word) fits_words c.loop-alloc.cursor c.take_word-in-loop-alloc.new.self c.in_ok-take_word-2.field-0 (sym c.begins.ensures ∙ c.loop-alloc-test.true)
    (then_read (one colons) word c.loop-alloc.cursor c.take.new.self c.take_word-in-loop-alloc.new.self c.in_ok-take.field-0 c.in_ok-take_word-2.field-0 c.in_ok-take.ensures c.in_ok-take_word-2.ensures)

pub loop-alloc-preserved : goal.loop-alloc-preserved
loop-alloc-preserved c =
    gather_more (λ x. true) (one colons ▸ word) fits_words (λ ys. c.loop-alloc.items ++ enters ys) (λ ys. c.push-in-loop-alloc.new.self ++ enters ys) c.loop-alloc.cursor c.take_word-in-loop-alloc.new.self c.in_ok-take_word-2.field-0
    (λ ys. ap (λ (z : List Item). z ++ enters ys) c.in_ok-push-2.ensures.ok ∙ append_assoc c.loop-alloc.items (items.Enter c.in_ok-take_word-2.field-0 ∷ []) (enters ys)) (sym c.begins.ensures ∙ c.loop-alloc-test.true)
    (then_read (one colons) word c.loop-alloc.cursor c.take.new.self c.take_word-in-loop-alloc.new.self c.in_ok-take.field-0 c.in_ok-take_word-2.field-0 c.in_ok-take.ensures c.in_ok-take_word-2.ensures) ∙ c.loop-alloc.invariant
