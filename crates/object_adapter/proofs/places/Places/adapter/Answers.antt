use Rattle.std.proofs.Common.{◌≡◌, ◌<◌, List, ℕ, Some, length, refl, ap, subst, ◌∙◌}
use Rattle.std.specs.Prelude.{slice_get}
use Rattle.std.proofs.lemmas.Option.{slice_get_read, slice_get_within}
use Rattle.std.specs.Ordering.{nat_cmp}
use Rattle.std.specs.Cmp.Lexicographic.{slice_cmp}
use Rattle.std.proofs.lemmas.Cmp.{nat_list_cmp_total}
use Rattle.ice_types.specs.declared.proxy.Proxy.{Proxy}
use Rattle.object_adapter.specs.Places.{Known}
use Rattle.object_adapter.proofs.Known.{found_at, no_such_place}
use Rattle.object_adapter.proofs.places.Places.adapter.Goals as goal

pub returns-in-Ok : goal.returns-in-Ok
returns-in-Ok c =
    let items = c.self.inside.adapters.items in
    let own = ap (λ (k : Known). k.adapters) c.self.view_is in
    let place = c.index.result.now in
    let within : c.in-Ok.at < length items = subst (λ (ps : List (List ℕ × Proxy)). c.in-Ok.at < length ps) c.as_slice.ensures.value (slice_get_within c.as_slice.result.now c.in-Ok.at c.in-Ok.ensures.0 c.in-Ok.ensures.1) in
    let read : slice_get items c.in-Ok.at ≡ Some place = slice_get_read items (length items) c.in-Ok.at place refl within c.index.ensures in
    record {
      found = (
        found_at (slice_cmp nat_cmp) nat_list_cmp_total c.as_slice.result.now c.args.self.now.adapters c.args.id.now c.args.id.now c.in-Ok.at place (c.as_slice.ensures.value ∙ own) refl c.in-Ok.ensures
            (subst (λ (ps : List (List ℕ × Proxy)). slice_get ps c.in-Ok.at ≡ Some place) own read),
        c.self.invariant.adapters.sizes c.in-Ok.at place read,
      );
    }

pub returns-in-Err : goal.returns-in-Err
returns-in-Err c = record {
  found = λ p at. no_such_place (slice_cmp nat_cmp) nat_list_cmp_total c.as_slice.result.now c.args.self.now.adapters c.args.id.now c.args.id.now c.in-Err.field-0
      (c.as_slice.ensures.value ∙ ap (λ (k : Known). k.adapters) c.self.view_is) refl c.in-Err.ensures (p, at);
}
