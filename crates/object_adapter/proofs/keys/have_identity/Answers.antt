use Rattle.std.proofs.Common.{rules}
use Rattle.std.proofs.lemmas.Fn.{always_returns_same}
use Rattle.ice_encoding.specs.Proxies.{identity_cmp}
use Rattle.object_adapter.proofs.Ordered.{identity_found}
use Rattle.object_adapter.proofs.keys.have_identity.Goals as goal

pub returns : goal.returns
returns c =
    let facts = c.binary_search_by.ensures in
    let by_identity = facts.position (λ k. identity_cmp k.0 c.args.identity.now) (always_returns_same _ _ _ (λ a r g called. (search rules, search rules))) in
    identity_found c.args.keys.now c.args.identity.now c.binary_search_by.result c.is_ok.result c.is_ok.ensures.value c.requires facts.bound by_identity
