use Rattle.std.proofs.Common.{◌≡◌, ℕ, Ok, Err, true, refl, sym, ap, ◌∙◌, List, [], ◌∷◌, ◌++◌, append_assoc}
use Rattle.slice_syntax.specs.Grammar.{one, ◌▸◌}
use Rattle.slice_syntax.specs.Lexemes.{Lexemes}
use Rattle.slice_syntax.specs.Reading.{read}
use Rattle.slice_syntax.specs.Terminals.{colons}
use Rattle.slice_syntax.specs.Rules.{word, name, names}
use Rattle.slice_syntax.specs.declared.tree.Word.{Word}
use Rattle.slice_syntax.proofs.Exits.{err_takes}
use Rattle.slice_syntax.proofs.Fits.{fits_names}
use Rattle.slice_syntax.proofs.Series.{gather_more, gather_err, rows_less, then_read, then_stop_behind}
use Rattle.slice_syntax.proofs.words.names.Goals as goal

name_read : (ls rest : Lexemes) (w : Word) → read word ls ≡ Ok (w, rest) → read name ls ≡ Ok (w.name, rest)
unfolding name
name_read ls rest w e = rw e refl

name_stop : (ls left : Lexemes) → read word ls ≡ Err left → read name ls ≡ Err left
unfolding name
name_stop ls left e = rw e refl

one_read : (c : goal.In_ok-push-2) → read (one colons ▸ name) c.loop-alloc.cursor ≡ Ok (c.in_ok-take_word.field-0.name, c.take_word-in-loop-alloc.new.self)
one_read c =
    then_read (one colons) name c.loop-alloc.cursor c.take.new.self c.take_word-in-loop-alloc.new.self c.in_ok-take.field-0 c.in_ok-take_word.field-0.name c.in_ok-take.ensures
    (name_read c.take.new.self c.take_word-in-loop-alloc.new.self c.in_ok-take_word.field-0 c.in_ok-take_word.ensures)

pub returns-in_err-take_word : goal.returns-in_err-take_word
returns-in_err-take_word c =
    err_takes (λ x. x) c.in_err-take_word.field-0.0 c.from_residual-in_err-take_word.result c.take_word-in-loop-alloc.new.self (read word c.take.new.self) (read names c.args.cursor.now) c.from_residual-in_err-take_word.ensures.1 c.in_err-take_word.ensures
    (λ left e. sym c.loop-alloc.invariant ∙ gather_err (λ x. true) (one colons ▸ name) fits_names (λ ys. (c.loop-alloc.names ++ ys, c.in_ok-first.first.place)) c.loop-alloc.cursor left (sym c.begins.ensures ∙ c.loop-alloc-test.true)
    (then_stop_behind (one colons) name c.loop-alloc.cursor c.take.new.self left c.in_ok-take.field-0 c.in_ok-take.ensures (name_stop c.take.new.self left e)))

pub loop-alloc-smaller : goal.loop-alloc-smaller
loop-alloc-smaller c =
    rows_less (λ x. true) (one colons ▸ name) fits_names c.loop-alloc.cursor c.take_word-in-loop-alloc.new.self c.in_ok-take_word.field-0.name (sym c.begins.ensures ∙ c.loop-alloc-test.true) (one_read c)

pub loop-alloc-preserved : goal.loop-alloc-preserved
loop-alloc-preserved c =
    gather_more (λ x. true) (one colons ▸ name) fits_names (λ ys. (c.loop-alloc.names ++ ys, c.in_ok-first.first.place)) (λ ys. (c.push-in-loop-alloc.new.self ++ ys, c.in_ok-first.first.place)) c.loop-alloc.cursor
    c.take_word-in-loop-alloc.new.self c.in_ok-take_word.field-0.name
    (λ ys. ap (λ (z : List (List ℕ)). (z, c.in_ok-first.first.place)) (ap (λ z. z ++ ys) c.in_ok-push-2.ensures.ok ∙ append_assoc c.loop-alloc.names (c.in_ok-take_word.field-0.name ∷ []) ys))
    (sym c.begins.ensures ∙ c.loop-alloc-test.true) (one_read c) ∙ c.loop-alloc.invariant
