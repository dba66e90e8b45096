use Rattle.std.proofs.Common.{◌≡◌, ℕ, Option, Some, rules, sym, ap, ◌∙◌, subst}
use Rattle.std.specs.Option.{option_copied}
use Rattle.slice_meaning.specs.Held.{id_of, at_name}
use Rattle.slice_meaning.specs.Finding.{IsNearest}
use Rattle.slice_meaning.proofs.Ids.{range_none, range_last, none_named, last_named}
use Rattle.slice_meaning.proofs.by_name.ByName.nearest.Goals as goal

pub returns-in_err-near : goal.returns-in_err-near
returns-in_err-near c =
    let ids = c.args.self.now.ids in
    let numbers = c.args.self.now.numbers in
    let here : id_of ids c.args.name.now ≡ Some c.in_ok-id.field-0.now = sym c.get.ensures.value ∙ ap option_copied c.in_ok-id.was in
    subst (λ (o : Option (ℕ × ℕ)). IsNearest (at_name ids numbers c.args.name.now) c.args.scope o) (sym c.from_residual-in_err-near.ensures)
    (none_named ids numbers c.args.name.now c.in_ok-id.field-0.now c.args.scope here (range_none numbers c.in_ok-id.field-0.now c.args.scope _ _ c.new.ensures.start c.new.ensures.end ((c.range.ensures.in_range (search rules)).5 c.in_err-near.ensures.steps.0)))

pub returns : goal.returns
returns c =
    let ids = c.args.self.now.ids in
    let numbers = c.args.self.now.numbers in
    let here : id_of ids c.args.name.now ≡ Some c.in_ok-id.field-0.now = sym c.get.ensures.value ∙ ap option_copied c.in_ok-id.was in
    let found = c.range.ensures.in_range (search rules) in
    let key = c.in_ok-near.field-0-0.now in
    let v = c.in_ok-near.number.now in
    last_named ids numbers c.args.name.now c.in_ok-id.field-0.now c.args.scope key.1 v here
    (range_last numbers c.in_ok-id.field-0.now c.args.scope _ _ key v c.new.ensures.start c.new.ensures.end (found.3 (key, v) _ c.in_ok-near.ensures.steps) (found.4 (key, v) _ c.in_ok-near.ensures.steps))
