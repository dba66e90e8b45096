use Rattle.std.proofs.Common.{Bor, Option, Some, subst}
use Rattle.std.specs.Prelude.{MatchOption}
use Rattle.ice_types.specs.declared.proxy.Proxy.{Proxy}
use Rattle.ice_encoding.specs.Proxy.{HasProxySizes}
use Rattle.ice_encoding.specs.Graph.{Graph}
use Rattle.object_adapter.specs.declared.seeking.Sought.{Sought}
use Rattle.object_adapter.specs.Places.{Known}
use Rattle.object_adapter.specs.Locators.{IsSought}
use Rattle.object_adapter.proofs.Looked.{given, none_given}
use Rattle.object_adapter.proofs.locator.Locator.give.Goals as goal

-- what the place of what is sought comes to
abbrev Found : Known → Sought → Graph → Option (Bor Proxy) → Type 0
Found k sought g found = MatchOption found ((p : Proxy) → IsSought k sought g p → ⊥) (λ (b : Bor Proxy). IsSought k sought g b.now × HasProxySizes (Some b.now))

pub returns-in-Some-clause-gives : goal.returns-in-Some-clause-gives
returns-in-Some-clause-gives c =
    let found = subst (Found c.args.self.now.places c.args.sought c.args.arguments.now) c.in-Some.is c.in_ok-proxy.ensures in
    given c.args.self.now.places c.args.sought c.args.arguments.now c.in-Some.proxy.now c.proxy_answer.result found.0 c.proxy_answer.ensures.answers

pub returns-in-None-clause-gives : goal.returns-in-None-clause-gives
returns-in-None-clause-gives c =
    let found = subst (Found c.args.self.now.places c.args.sought c.args.arguments.now) c.in-None.is c.in_ok-proxy.ensures in
    none_given c.args.self.now.places c.args.sought c.args.arguments.now c.not_found_answer.result found c.not_found_answer.ensures.raises
