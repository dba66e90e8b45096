use Rattle.std.proofs.Common.{◌≡◌, ◌≢◌, ℕ, List, [], ◌∷◌, ◌++◌, lit<, refl}
use Rattle.std.proofs.lemmas.Str.Pattern.{strip_suffix_char}
use Rattle.node_commands.proofs.Naming.{one_proxy}
use Rattle.node_commands.proofs.type_words.proxy_of_word.Goals as goal

pub returns : goal.returns
returns c =
    let is : c.args.word.now ≡ c.in_ok-id.id.now ++ (42 ∷ []) = (rw c.in_ok-id.was at (strip_suffix_char 42 c.args.word.now c.strip_suffix.result c.strip_suffix.ensures.cases (lit< tt))) in
    record {
      named = (c.in_ok-id.id.now, c.in_ok-at.at, is, c.in_ok-at.ensures, refl);
      only = one_proxy c.args.schema.now c.args.word.now c.in_ok-id.id.now c.in_ok-at.at c.rules.ensures is c.in_ok-at.ensures;
    }

pub returns-in_err-id-clause-named : goal.returns-in_err-id-clause-named
returns-in_err-id-clause-named c =
    let no_star : (front : List ℕ) → c.args.word.now ≢ front ++ (42 ∷ []) = (rw c.in_err-id.was at (strip_suffix_char 42 c.args.word.now c.strip_suffix.result c.strip_suffix.ensures.cases (lit< tt))) in
    rw c.from_residual.ensures (λ kind w. no_star w.0 w.2)
