use Rattle.std.proofs.Common.{◌≡◌, ◌+◌, length, List, ◌∷◌, string_bytes, Some, None, sym, ap, subst, ◌∙◌, codes, arith}
use Rattle.std.proofs.lemmas.List.{take-map}
use Rattle.node_commands.specs.Words.{Word, words_of}
use Rattle.call_command.specs.Words.{Gathers, IsNamed, given_of, no_options}
use Rattle.node_commands.proofs.NetWords.{rest_of, first_word, as_many, behind, no_other_word}
use Rattle.call_command.proofs.Wording.{asked, none_given, within_asked}
use Rattle.call_command.proofs.words.call_of.Goals as goal

pub returns-in_err-given-clause-asks : goal.returns-in_err-given-clause-asks
returns-in_err-given-clause-asks c =
    let rest = rest_of c.args.words.now in
    let n = c.in_ok-options.options in
    let is : string_bytes c.command-item.result ≡ codes "call" = sym c.as_str.ensures.value ∙ no_other_word c.as_str.result.now (codes "call") c.ne.result c.ne.ensures c.if-ne.false in
    let are : words_of c.args.words.now ≡ codes "call" ∷ words_of rest = first_word c.args.words.now c.command-item.result (omega (arith, c.in-len1-up.len_at_least)) c.command-item.is ∙ ap (λ (w : Word). w ∷ words_of rest) is in
    let long : n + 4 ≡ length (words_of rest) = omega (arith, as_many rest, c.in_ok-options.ensures) in
    rw c.from_residual-in_err-given.ensures
    (none_given (words_of c.args.words.now) (words_of rest) n are long (subst (λ (l : List Word). Gathers no_options l None) (sym (take-map string_bytes n rest)) c.in_err-given.ensures))

pub returns-clause-asks : goal.returns-clause-asks
returns-clause-asks c =
    let rest = rest_of c.args.words.now in
    let n = c.in_ok-options.options in
    let is : string_bytes c.command-item.result ≡ codes "call" = sym c.as_str.ensures.value ∙ no_other_word c.as_str.result.now (codes "call") c.ne.result c.ne.ensures c.if-ne.false in
    let are : words_of c.args.words.now ≡ codes "call" ∷ words_of rest = first_word c.args.words.now c.command-item.result (omega (arith, c.in-len1-up.len_at_least)) c.command-item.is ∙ ap (λ (w : Word). w ∷ words_of rest) is in
    let long : n + 4 ≡ length (words_of rest) = omega (arith, as_many rest, c.in_ok-options.ensures) in
    asked (words_of c.args.words.now) (words_of rest) n are long c.in_ok-given.given c.named.result
    (subst (λ (l : List Word). Gathers no_options l (Some c.in_ok-given.given)) (sym (take-map string_bytes n rest)) c.in_ok-given.ensures)
    (subst (λ (l : List Word). IsNamed (given_of c.in_ok-given.given) l c.named.result) (behind n rest) c.named.ensures)

pub returns-clause-within : goal.returns-clause-within
returns-clause-within c = within_asked (words_of c.args.words.now) c.named.result (returns-clause-asks c)
