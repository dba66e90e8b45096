use Rattle.std.proofs.Common.{Bool, [], ◌∷◌, refl, sym, ap, subst, ◌∙◌, arith}
use Rattle.std.specs.Prelude.{if◌then◌else◌}
use Rattle.std.proofs.lemmas.Bool.{false≢true}
use Rattle.instance_writing.specs.declared.format.Format.TheVariants.{Sliced, Compact}
use Rattle.node_commands.specs.Words.{words_of}
use Rattle.node_commands.proofs.CommandForms.{four_words}
use Rattle.call_command.specs.Words.{IsOption, seen}
use Rattle.call_command.proofs.Wording.{are_named}
use Rattle.call_command.proofs.words.named.Goals as goal
use Rattle.call_command.proofs.words.named.Goals.{then-given, else-given}

pub returns : goal.returns
returns c =
    let a = c.as_str-2.ensures.value in
    let b = c.as_str-3.ensures.value in
    let d = c.as_str-4.ensures.value in
    let e = c.as_str-5.ensures.value in (
      are_named (words_of c.args.words.now) (seen record {
        retries = c.unwrap_or.result;
        times = c.unwrap_or-2.result;
        format = c.if-given.result;
        locator = c.args.given.locator;
        file = c.as_str-2.result;
        interface = c.as_str-3.result;
        proxy = c.as_str-4.result;
        operation = c.as_str-5.result;
      })
          (sym ((λ i. a i ∷ b i ∷ d i ∷ e i ∷ []) ∙ four_words c.args.words.now c.file-item.result c.interface-item.result c.proxy-item.result c.operation-item.result (omega (arith, c.in-len4.len_at_least)) (omega (arith, c.in-len4.len_below))
          c.file-item.is c.interface-item.is c.proxy-item.is c.operation-item.is))
          (λ is. false≢true (sym c.if-is_option.false ∙ c.is_option.ensures.1 (subst IsOption (a ∙ sym c.as_str.ensures.value) is)))
          (c.are_short.ensures.0 c.if-not-are_short.false),
      record {
        retries = c.unwrap_or.ensures;
        times = c.unwrap_or-2.ensures;
        format = elim c.if-given.branch [
          | then-given w ↦ w.result-is ∙ ap (λ (x : Bool). if x then Compact else Sliced) (sym w.if-given.true)
          | else-given w ↦ w.result-is ∙ ap (λ (x : Bool). if x then Compact else Sliced) (sym w.if-given.false)
        ];
        locator = refl;
      },
    )
