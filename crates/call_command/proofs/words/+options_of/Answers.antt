use Rattle.std.proofs.Common.{◌≡◌, List, string_bytes, Some, None, sym, subst, ◌∙◌, codes, arith}
use Rattle.node_commands.specs.Words.{Word, words_of}
use Rattle.call_command.specs.Words.{Gathers, Takes, given_of}
use Rattle.node_commands.proofs.NetWords.{rest_of, first_word, two_words, same_word, other_word}
use Rattle.call_command.proofs.Giving.{compact_given, value_refused, value_given}
use Rattle.call_command.proofs.words.+options_of.Goals as goal

pub returns-then-eq : goal.returns-then-eq
returns-then-eq t c =
    let is : string_bytes c.name-item.result ≡ codes "--compact" = sym c.as_str.ensures.value ∙ same_word c.as_str.result.now (codes "--compact") c.eq.result c.eq.ensures c.if-eq.true in
    subst (λ (l : List Word). Gathers (given_of c.args.given) l c.options_of.result) (sym (first_word c.args.words.now c.name-item.result (omega (arith, c.in-len1-up.len_at_least)) c.name-item.is))
    (compact_given (given_of c.args.given) (string_bytes c.name-item.result) (words_of (rest_of c.args.words.now)) c.options_of.result is c.if-given.false c.options_of.ensures)

pub returns-in_err-with_value : goal.returns-in_err-with_value
returns-in_err-with_value t c =
    let other : string_bytes c.name-item.result ≡ codes "--compact" → ⊥ = λ e. other_word c.as_str.result.now (codes "--compact") c.eq.result c.eq.ensures c.if-eq.false (c.as_str.ensures.value ∙ e) in
    let named : Takes (given_of c.args.given) (string_bytes c.name-item.result) c.as_str-3.result.now None = subst (λ (n : Word). Takes (given_of c.args.given) n c.as_str-3.result.now None) c.as_str-2.ensures.value c.in_err-with_value.ensures in
    let refused : Takes (given_of c.args.given) (string_bytes c.name-item.result) (string_bytes c.value-item.result) None = subst (λ (v : Word). Takes (given_of c.args.given) (string_bytes c.name-item.result) v None) c.as_str-3.ensures.value named in
    rw c.from_residual.ensures
    (subst (λ (l : List Word). Gathers (given_of c.args.given) l None) (sym (two_words c.args.words.now c.name-item.result c.value-item.result (omega (arith, c.in-len1-up.len_at_least)) c.name-item.is (omega (arith, c.in-len1-up-words.len_at_least)) c.value-item.is))
    (value_refused (given_of c.args.given) (string_bytes c.name-item.result) (string_bytes c.value-item.result) (words_of (rest_of (rest_of c.args.words.now))) other refused))

pub returns : goal.returns
returns t c =
    let next = c.in_ok-with_value.field-0 in
    let other : string_bytes c.name-item.result ≡ codes "--compact" → ⊥ = λ e. other_word c.as_str.result.now (codes "--compact") c.eq.result c.eq.ensures c.if-eq.false (c.as_str.ensures.value ∙ e) in
    let named : Takes (given_of c.args.given) (string_bytes c.name-item.result) c.as_str-3.result.now (Some next) = subst (λ (n : Word). Takes (given_of c.args.given) n c.as_str-3.result.now (Some next)) c.as_str-2.ensures.value c.in_ok-with_value.ensures in
    let numbered : Takes (given_of c.args.given) (string_bytes c.name-item.result) (string_bytes c.value-item.result) (Some next) = subst (λ (v : Word). Takes (given_of c.args.given) (string_bytes c.name-item.result) v (Some next)) c.as_str-3.ensures.value named in
    subst (λ (l : List Word). Gathers (given_of c.args.given) l c.options_of-2.result) (sym (two_words c.args.words.now c.name-item.result c.value-item.result (omega (arith, c.in-len1-up.len_at_least)) c.name-item.is (omega (arith, c.in-len1-up-words.len_at_least)) c.value-item.is))
    (value_given (given_of c.args.given) (string_bytes c.name-item.result) (string_bytes c.value-item.result) (words_of (rest_of (rest_of c.args.words.now))) other next c.options_of-2.result numbered c.options_of-2.ensures)
