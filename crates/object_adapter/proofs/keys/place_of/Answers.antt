use Rattle.std.proofs.Common.{rules}
use Rattle.std.proofs.lemmas.Fn.{always_returns_same}
use Rattle.object_adapter.specs.Keys.{Key, key_cmp}
use Rattle.object_adapter.proofs.Ordered.{key_searched}
use Rattle.object_adapter.proofs.keys.place_of.Goals as goal

pub returns : goal.returns
returns c =
    let key : Key = (c.args.identity.now, c.args.facet.now) in
    let facts = c.binary_search_by.ensures in
    let by_key = facts.position (λ k. key_cmp k key) (always_returns_same _ _ _ (λ a r g called. (search rules, search rules))) in
    key_searched c.args.keys.now key c.binary_search_by.result c.requires facts.bound by_key
