use Rattle.std.proofs.Common.{List, ℕ, true, cond, string_bytes, ap, ◌∙◌}
use Rattle.std.specs.Prelude.{bytes_eq}
use Rattle.std.specs.BTreeSet.{contains_text}
use Rattle.std.proofs.lemmas.Map.Text.{btree_set_updates_text}
use Rattle.slice_faults.proofs.enumerators.add_name.Goals as goal

pub returns : goal.returns
returns c = λ word.
    let key = string_bytes c.in_ok-from_str.field-0 in
    btree_set_updates_text key c.args.names.now c.insert.new.self true c.in_ok-insert.ensures.updates word
    ∙ ap (λ (k : List ℕ). cond (bytes_eq k word) true (contains_text c.args.names.now word)) c.in_ok-from_str.ensures.ok
