use Rattle.std.proofs.Common.{List, string_bytes, Some, None, sym, subst, arith}
use Rattle.node_commands.specs.Words.{Word, words_of}
use Rattle.node_commands.proofs.NetWords.{rest_of, two_words}
use Rattle.gate_command.specs.Words.{Gathers, Takes}
use Rattle.gate_command.proofs.Giving.{value_given, value_refused}
use Rattle.gate_command.proofs.words.+options_of.Goals as goal

pub returns-in_err-with_value : goal.returns-in_err-with_value
returns-in_err-with_value t c =
    let named : Takes c.args.given (string_bytes c.name-item.result) c.as_str-2.result.now None = subst (λ (n : Word). Takes c.args.given n c.as_str-2.result.now None) c.as_str.ensures.value c.in_err-with_value.ensures in
    let refused : Takes c.args.given (string_bytes c.name-item.result) (string_bytes c.value-item.result) None = subst (λ (v : Word). Takes c.args.given (string_bytes c.name-item.result) v None) c.as_str-2.ensures.value named in
    rw c.from_residual.ensures
    (subst (λ (l : List Word). Gathers c.args.given l None) (sym (two_words c.args.words.now c.name-item.result c.value-item.result (omega (arith, c.in-len1-up.len_at_least)) c.name-item.is (omega (arith, c.in-len1-up-words.len_at_least)) c.value-item.is))
    (value_refused c.args.given (string_bytes c.name-item.result) (string_bytes c.value-item.result) (words_of (rest_of (rest_of c.args.words.now))) refused))

pub returns : goal.returns
returns t c =
    let next = c.in_ok-with_value.field-0 in
    let named : Takes c.args.given (string_bytes c.name-item.result) c.as_str-2.result.now (Some next) = subst (λ (n : Word). Takes c.args.given n c.as_str-2.result.now (Some next)) c.as_str.ensures.value c.in_ok-with_value.ensures in
    let numbered : Takes c.args.given (string_bytes c.name-item.result) (string_bytes c.value-item.result) (Some next) = subst (λ (v : Word). Takes c.args.given (string_bytes c.name-item.result) v (Some next)) c.as_str-2.ensures.value named in
    subst (λ (l : List Word). Gathers c.args.given l c.options_of.result) (sym (two_words c.args.words.now c.name-item.result c.value-item.result (omega (arith, c.in-len1-up.len_at_least)) c.name-item.is (omega (arith, c.in-len1-up-words.len_at_least)) c.value-item.is))
    (value_given c.args.given (string_bytes c.name-item.result) (string_bytes c.value-item.result) (words_of (rest_of (rest_of c.args.words.now))) next c.options_of.result numbered c.options_of.ensures)
