use Rattle.std.proofs.Common.{◌<◌, ◌≤◌, length, string_bytes, rules, tests}
use Rattle.std.proofs.lemmas.Iterator.{cases_from_all, YieldsList-from_slice}
use Rattle.node_commands.specs.declared.words.TheConstants.{MOST_OF_A_WORD}
use Rattle.node_commands.proofs.NetWords.{words_short}
use Rattle.gate_command.proofs.words.are_short.Goals as goal

pub returns : goal.returns
returns c = words_short c.args.words.now c.all.result
    (cases_from_all _ _ _ (λ x. length (string_bytes x) ≤ MOST_OF_A_WORD) (λ x. MOST_OF_A_WORD < length (string_bytes x)) c.all.ensures.ran (YieldsList-from_slice c.args.words.now cc) (λ x q k. search (rules, tests)) (λ x q k. search (rules, tests)))
