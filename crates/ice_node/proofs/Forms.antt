-- A form of `call`, of `serve` and of `gate` begins with its name, and each name with a letter of its own.
use Rattle.std.proofs.Common.{◌≡◌, ℕ, List, [], get_or, sym, ap, ◌∙◌, arith}
use Rattle.node_commands.specs.Words.{Word}
use Rattle.ice_node.specs.Promises.{NetFormsApart}

abbrev first_letter : List Word → ℕ
first_letter words = get_or (get_or words 0 []) 0 0

pub forms_apart : NetFormsApart
forms_apart words = (
  (λ c s called serves. let e : 99 ≡ 115 = ap first_letter (sym called.words_are ∙ serves.form.1) in omega (arith, e)),
  (λ c g called gates. let e : 99 ≡ 103 = ap first_letter (sym called.words_are ∙ gates.words_are) in omega (arith, e)),
  (λ g s gates serves. let e : 103 ≡ 115 = ap first_letter (sym gates.words_are ∙ serves.form.1) in omega (arith, e)),
)
