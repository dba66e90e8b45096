use Rattle.std.proofs.Common.{ℕ, ◌≡◌, ◌-◌, ◌++◌, List, length, Ok, Err, refl, ap, ◌∙◌, arith}
use Rattle.std.proofs.lemmas.List.{length-append, length-map}
use Rattle.slice_syntax.specs.declared.tree.Word.{Word}
use Rattle.slice_syntax.specs.declared.tree.Item.{Item}
use Rattle.slice_syntax.specs.declared.tree.Item.TheVariants as items
use Rattle.slice_syntax.specs.Lexemes.{Lexemes}
use Rattle.slice_syntax.specs.Grammar.{one, parted}
use Rattle.slice_syntax.specs.Reading.{read}
use Rattle.slice_syntax.specs.Terminals.{word_module, colons, open_brace}
use Rattle.slice_syntax.specs.Rules.{word}
use Rattle.slice_syntax.specs.Files.{head, enters}
use Rattle.slice_syntax.proofs.Exits.{err_with, no_memory_takes}
use Rattle.slice_syntax.proofs.modules.module_head.Goals as goal

head_stop : (ls left : Lexemes) → read (one word_module) ls ≡ Err left → read head ls ≡ Err left
unfolding head
head_stop ls left e = rw e refl

words_stop : (ls mid left : Lexemes) (p : ℕ) → read (one word_module) ls ≡ Ok (p, mid) → read (parted colons word) mid ≡ Err left → read head ls ≡ Err left
unfolding head
words_stop ls mid left p e f = rw (e, f) refl

brace_stop : (ls mid rest left : Lexemes) (p : ℕ) (words : List Word) → read (one word_module) ls ≡ Ok (p, mid) → read (parted colons word) mid ≡ Ok (words, rest) → read (one open_brace) rest ≡ Err left → read head ls ≡ Err left
unfolding head
brace_stop ls mid rest left p words e f g = rw (e, f, g) refl

head_read : (ls mid rest end : Lexemes) (p q : ℕ) (words : List Word) → read (one word_module) ls ≡ Ok (p, mid) → read (parted colons word) mid ≡ Ok (words, rest) → read (one open_brace) rest ≡ Ok (q, end) → read head ls ≡ Ok (words, end)
unfolding head
head_read ls mid rest end p q words e f g = rw (e, f, g) refl

counted : (old new : List Item) (words : List Word) (before after : ℕ) → new ≡ old ++ enters words → before ≡ length old → after ≡ length new → after - before ≡ length words
counted old new words before after is b a =
    let size = ap length is ∙ length-append old (enters words) in
    let same = length-map words (λ (w : Word). enter w) in
    omega arith where
      enter : Word → Item
      enter w = items.Enter w

pub returns-in_err-take : goal.returns-in_err-take
returns-in_err-take c =
    err_with _ c.in_err-take.field-0.0 c.from_residual.result c.take.new.self (read (one word_module) c.args.cursor.now) (read head c.args.cursor.now) c.from_residual.ensures.1 (no_memory_takes (λ x. x) (Err c.in_err-take.field-0.0) c.take.new.self (read (one word_module) c.args.cursor.now) c.in_err-take.ensures) (head_stop c.args.cursor.now)

pub returns-in_err-module_words : goal.returns-in_err-module_words
returns-in_err-module_words c =
    err_with _ c.in_err-module_words.field-0.0 c.from_residual-in_err-module_words.result c.module_words.new.cursor (read (parted colons word) c.take.new.self) (read head c.args.cursor.now) c.from_residual-in_err-module_words.ensures.1 c.in_err-module_words.ensures
    (λ left e. words_stop c.args.cursor.now c.take.new.self left c.in_ok-take.field-0 c.in_ok-take.ensures e)

pub returns-in_err-take-2 : goal.returns-in_err-take-2
returns-in_err-take-2 c =
    err_with _ c.in_err-take-2.field-0.0 c.from_residual-in_err-take-2.result c.take-2.new.self (read (one open_brace) c.module_words.new.cursor) (read head c.args.cursor.now) c.from_residual-in_err-take-2.ensures.1 (no_memory_takes (λ x. x) (Err c.in_err-take-2.field-0.0) c.take-2.new.self (read (one open_brace) c.module_words.new.cursor) c.in_err-take-2.ensures)
    (λ left e. brace_stop c.args.cursor.now c.take.new.self c.module_words.new.cursor left c.in_ok-take.field-0 c.in_ok-module_words.ensures.0 c.in_ok-take.ensures c.in_ok-module_words.ensures.1 e)

pub returns : goal.returns
returns c =
    let held = c.in_ok-module_words.ensures in (
      held.0,
      head_read c.args.cursor.now c.take.new.self c.module_words.new.cursor c.take-2.new.self c.in_ok-take.field-0 c.in_ok-take-2.field-0 held.0 c.in_ok-take.ensures held.1 c.in_ok-take-2.ensures,
      (counted c.args.items.now c.module_words.new.items held.0 c.len-before.result c.len.result held.2 c.len-before.ensures c.len.ensures, held.2),
    )
