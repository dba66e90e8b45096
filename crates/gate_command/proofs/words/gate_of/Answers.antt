use Rattle.std.proofs.Common.{◌≡◌, ◌+◌, length, List, ◌∷◌, string_bytes, None, sym, ap, subst, ◌∙◌, codes, arith}
use Rattle.std.proofs.lemmas.List.{take-map}
use Rattle.node_commands.specs.Words.{Word, words_of}
use Rattle.node_commands.proofs.NetWords.{rest_of, first_word, as_many, behind, no_other_word}
use Rattle.node_commands.specs.Once.{Exactly}
use Rattle.gate_command.specs.Words.{Gathers, Gives, IsNamed, asked_of, no_options}
use Rattle.gate_command.proofs.Forming.{asked, none_given, within_asked}
use Rattle.gate_command.proofs.words.gate_of.Goals as goal

pub returns-in_err-given-clause-asks : goal.returns-in_err-given-clause-asks
returns-in_err-given-clause-asks c =
    let rest = rest_of c.args.words.now in
    let n = c.in_ok-options.options in
    let is : string_bytes c.command-item.result ≡ codes "gate" = sym c.as_str.ensures.value ∙ no_other_word c.as_str.result.now (codes "gate") c.ne.result c.ne.ensures c.if-ne.false in
    let are : words_of c.args.words.now ≡ codes "gate" ∷ words_of rest = first_word c.args.words.now c.command-item.result (omega (arith, c.in-len1-up.len_at_least)) c.command-item.is ∙ ap (λ (w : Word). w ∷ words_of rest) is in
    let long : n + 5 ≡ length (words_of rest) = omega (arith, as_many rest, c.in_ok-options.ensures) in
    rw c.from_residual-in_err-given.ensures
    (none_given (words_of c.args.words.now) (words_of rest) n are long (subst (λ (l : List Word). Gathers no_options l None) (sym (take-map string_bytes n rest)) c.in_err-given.ensures))

pub returns-clause-asks : goal.returns-clause-asks
returns-clause-asks c =
    let rest = rest_of c.args.words.now in
    let n = c.in_ok-options.options in
    let is : string_bytes c.command-item.result ≡ codes "gate" = sym c.as_str.ensures.value ∙ no_other_word c.as_str.result.now (codes "gate") c.ne.result c.ne.ensures c.if-ne.false in
    let are : words_of c.args.words.now ≡ codes "gate" ∷ words_of rest = first_word c.args.words.now c.command-item.result (omega (arith, c.in-len1-up.len_at_least)) c.command-item.is ∙ ap (λ (w : Word). w ∷ words_of rest) is in
    let long : n + 5 ≡ length (words_of rest) = omega (arith, as_many rest, c.in_ok-options.ensures) in
    asked (words_of c.args.words.now) (words_of rest) n are long c.in_ok-given.given (asked_of c.named.result)
    (subst (λ (l : List Word). Gives no_options l c.in_ok-given.given) (sym (take-map string_bytes n rest)) c.in_ok-given.ensures)
    (subst (λ (l : List Word). Exactly (IsNamed c.in_ok-given.given l) (asked_of c.named.result)) (behind n rest) c.named.ensures)

pub returns-clause-within : goal.returns-clause-within
returns-clause-within c = within_asked (words_of c.args.words.now) c.named.result (returns-clause-asks c)
