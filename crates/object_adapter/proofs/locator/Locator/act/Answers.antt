use Rattle.std.proofs.Common.{List, ℕ, subst}
use Rattle.object_adapter.specs.Locators.{IsNamed}
use Rattle.object_adapter.proofs.locator.Locator.act.Goals as goal

pub find-answer-requires-clause-named : goal.find-answer-requires-clause-named
find-answer-requires-clause-named c = subst (λ (name : List ℕ). IsNamed name c.in-Some.sought) c.as_str.ensures c.in-Some.ensures
