use Rattle.std.proofs.Common.{rules}
use Rattle.std.specs.Ordering.{nat_cmp}
use Rattle.std.specs.Cmp.Lexicographic.{slice_cmp}
use Rattle.std.proofs.lemmas.Cmp.{nat_list_cmp_total}
use Rattle.std.proofs.lemmas.Fn.{always_returns_same}
use Rattle.std.proofs.lemmas.Map.Lookups.{exact_bytes}
use Rattle.object_adapter.specs.Places.{by_id}
use Rattle.object_adapter.proofs.Rising.{searched}
use Rattle.object_adapter.proofs.places.adapter_place.Goals as goal

pub returns : goal.returns
returns c =
    let facts = c.binary_search_by.ensures in
    let by = facts.position (λ p. slice_cmp nat_cmp p.0 c.args.id.now) (always_returns_same _ _ _ (λ a r g called. (search rules, search rules))) in
    searched (slice_cmp nat_cmp) nat_list_cmp_total by_id c.args.places.now c.args.id.now c.binary_search_by.result exact_bytes c.requires facts.bound by
