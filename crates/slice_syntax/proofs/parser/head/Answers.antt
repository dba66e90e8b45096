use Rattle.std.proofs.Common.{[], ◌∷◌, refl, sym, ◌∙◌}
use Rattle.slice_syntax.specs.declared.terminal.Terminal.TheVariants as terminals
use Rattle.slice_syntax.specs.Files.{include, include_of, directive}
use Rattle.slice_syntax.proofs.Cursors.{token_seen}
use Rattle.slice_syntax.proofs.parser.head.Goals as goal

pub returns-then-begins : goal.returns-then-begins
unfolding directive
returns-then-begins c =
    let begun = sym c.begins.ensures ∙ c.if-begins.true in
    let read_one = token_seen (terminals.Include ∷ []) include_of (λ n. include n) c.args.cursor.now c.take_include.new.cursor c.in_ok-take_include.field-0 c.in_ok-take_include.ensures in
    (include c.in_ok-take_include.field-0, rw begun read_one, (refl, c.in_ok-push.ensures.ok))
