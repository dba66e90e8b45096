use Rattle.std.proofs.Common.{◌∙◌, List, [], ◌∷◌, subst, arith}
use Rattle.node_commands.specs.Words.{Word, Asks, asked_of}
use Rattle.node_commands.proofs.CommandForms.{four_words}
use Rattle.node_commands.proofs.words.command_of.Goals as goal

pub returns-in-len4 : goal.returns-in-len4
returns-in-len4 c =
    let a = c.as_str-in-len4.ensures.value in
    let b = c.as_str-in-len4-2.ensures.value in
    let d = c.as_str-in-len4-3.ensures.value in
    let e = c.as_str-in-len4-4.ensures.value in
    subst (λ (words : List Word). Asks words (asked_of c.of_four_words.result))
    ((λ i. a i ∷ b i ∷ d i ∷ e i ∷ []) ∙ four_words c.args.words.now c.first-item.result c.second-item.result c.third-item.result c.fourth-item.result (omega (arith, c.in-len4.len_at_least)) (omega (arith, c.in-len4.len_below))
    c.first-item.is c.second-item.is c.third-item.is c.fourth-item.is)
    c.of_four_words.ensures
