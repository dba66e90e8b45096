use Rattle.std.proofs.Common.{◌≡◌, [], ◌∷◌, string_bytes, sym, ap, subst, ◌∙◌, arith}
use Rattle.std.specs.Fmt.{decimal}
use Rattle.std.proofs.lemmas.Bool.{false≢true}
use Rattle.node_commands.specs.Words.{words_of}
use Rattle.gate_command.specs.Words.{IsOption, seen}
use Rattle.gate_command.proofs.Forming.{five_words, is_named, no_port, word_at}
use Rattle.gate_command.proofs.words.named.Goals as goal

pub returns-in_err-port : goal.returns-in_err-port
returns-in_err-port c =
    let are : words_of c.args.words.now ≡ string_bytes c.file-item.result ∷ string_bytes c.interface-item.result ∷ string_bytes c.host-item.result ∷ string_bytes c.port-item.result ∷ string_bytes c.proxy-item.result ∷ [] =
    five_words c.args.words.now c.file-item.result c.interface-item.result c.host-item.result c.port-item.result c.proxy-item.result (omega (arith, c.in-len5.len_at_least)) (omega (arith, c.in-len5.len_below))
    c.file-item.is c.interface-item.is c.host-item.is c.port-item.is c.proxy-item.is in
    rw c.from_residual.ensures
    (no_port c.args.given (words_of c.args.words.now) c.as_str-2.result.now (c.as_str-2.ensures.value ∙ sym (ap (word_at 3) are)) c.in_err-port.ensures)

pub returns : goal.returns
returns c =
    let are : words_of c.args.words.now ≡ string_bytes c.file-item.result ∷ string_bytes c.interface-item.result ∷ string_bytes c.host-item.result ∷ string_bytes c.port-item.result ∷ string_bytes c.proxy-item.result ∷ [] =
    five_words c.args.words.now c.file-item.result c.interface-item.result c.host-item.result c.port-item.result c.proxy-item.result (omega (arith, c.in-len5.len_at_least)) (omega (arith, c.in-len5.len_below))
    c.file-item.is c.interface-item.is c.host-item.is c.port-item.is c.proxy-item.is in
    let file = c.as_str-3.ensures.value in
    let interface = c.as_str-4.ensures.value in
    let host = c.as_str-5.ensures.value in
    let port : decimal c.in_ok-port.port ≡ string_bytes c.port-item.result = sym c.in_ok-port.ensures.0 ∙ c.as_str-2.ensures.value in
    let proxy = c.as_str-6.ensures.value in
    is_named c.args.given (words_of c.args.words.now) (seen record {
      connections = c.unwrap_or.result;
      retries = c.unwrap_or-2.result;
      file = c.as_str-3.result;
      interface = c.as_str-4.result;
      host = c.as_str-5.result;
      port = c.in_ok-port.port;
      proxy = c.as_str-6.result;
    })
    (sym ((λ i. file i ∷ interface i ∷ host i ∷ port i ∷ proxy i ∷ []) ∙ sym are))
    (λ is. false≢true (sym c.if-is_option.false ∙ c.is_option.ensures.1 (subst IsOption (file ∙ sym c.as_str.ensures.value) is)))
    c.in_ok-port.ensures.2
    (c.are_short.ensures.0 c.if-not-are_short.false)
    (record { connections = c.unwrap_or.ensures; retries = c.unwrap_or-2.ensures })
