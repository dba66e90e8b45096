use Rattle.std.proofs.Common.{rules}
use Rattle.std.proofs.lemmas.Fn.{always_returns_same}
use Rattle.ice_encoding.specs.Proxies.{identity_cmp}
use Rattle.object_adapter.specs.Places.{by_identity}
use Rattle.object_adapter.proofs.Ordered.{identities_equal, identities_total}
use Rattle.object_adapter.proofs.Rising.{searched}
use Rattle.object_adapter.proofs.places.object_place.Goals as goal

pub returns : goal.returns
returns c =
    let facts = c.binary_search_by.ensures in
    let by = facts.position (λ p. identity_cmp p.0 c.args.identity.now) (always_returns_same _ _ _ (λ a r g called. (search rules, search rules))) in
    searched identity_cmp identities_total by_identity c.args.places.now c.args.identity.now c.binary_search_by.result identities_equal c.requires facts.bound by
