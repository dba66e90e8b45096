use Rattle.std.proofs.Common.{Bor, List, ℕ, refl, sym, ap, ◌∙◌}
use Rattle.ice_types.specs.declared.proxy.Proxy.{Proxy}
use Rattle.ice_encoding.specs.Tree.{text, none, tree}
use Rattle.locator_types.specs.Locator.{find_adapter, locator_tables}
use Rattle.object_adapter.proofs.Looked.{sought_adapter, sought_object}
use Rattle.object_adapter.proofs.Sole.{text_is_there}
use Rattle.object_adapter.proofs.locator.Locator.place_of.Goals as goal

pub returns-in_ok-identity-in-Object : goal.returns-in_ok-identity-in-Object
returns-in_ok-identity-in-Object c =
    let typed = rw c.in-Object.is at c.requires in
    rw c.in-Object.is (
    sought_object (λ (b : Bor Proxy). b.now) c.args.self.now.places c.args.arguments.now c.object.result c.in_ok-identity-in-Object.identity typed c.in_ok-identity-in-Object.ensures c.object.ensures.found
    )

pub returns-in-Adapter : goal.returns-in-Adapter
returns-in-Adapter c =
    let typed = rw c.in-Adapter.is at c.requires in
    let held = text_is_there locator_tables find_adapter.arguments c.args.arguments.now typed (_, refl, refl, refl, refl) ∙ ap (λ (s : List ℕ). tree (text s) none) (sym c.sole_text.ensures) in
    rw c.in-Adapter.is (sought_adapter (λ (b : Bor Proxy). b.now) c.args.self.now.places c.args.arguments.now c.adapter.result c.sole_text.result.now held c.adapter.ensures.found)
