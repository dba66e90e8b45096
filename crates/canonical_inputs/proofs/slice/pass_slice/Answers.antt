use Rattle.std.proofs.Common.{arith, rules, ◌≡◌, ◌+◌, ◌%◌, not, Bool, List, Option, ℕ, Some, [], length, take, drop, refl, sym, ap, ◌∙◌, subst}
use Rattle.std.specs.Prelude.{slice_get, is_none}
use Rattle.std.proofs.lemmas.List.{take_rest}
use Rattle.ice_types.specs.declared.declarations.Member.{Member}
use Rattle.ice_prims.specs.Laws.{any}
use Rattle.canonical_values.specs.Fronts.{IsFront}
use Rattle.canonical_inputs.specs.Heads.{sized_flags}
use Rattle.canonical_inputs.specs.Places.{MembersPut}
use Rattle.canonical_inputs.specs.Slices.{table_size}
use Rattle.canonical_inputs.proofs.Tables.{nat_eq_is}
use Rattle.canonical_inputs.proofs.Found.{none_test, there_is, slice_made}
use Rattle.canonical_inputs.proofs.slice.pass_slice.Goals as goal

pub returns : goal.returns
returns c =
    let t = c.args.schema.now in
    let input = c.args.input.now in
    let head = c.in_ok-head.head in
    let row = c.in_ok-decl.decl.now in
    let start = head.end + 4 in
    let n = c.in_ok-length.length in
    let needs = c.pass_members.new.needs in
    let is_row : slice_get t.classes head.class ≡ Some row = search rules in
    let four = rw (take_rest input head.end) at c.in_ok-size.ensures.within in
    let sized = rw (take_rest input head.end) at c.in_ok-size.ensures.front in
    let few = rw (take_rest input start) at c.in_ok-length.ensures.within in
    let put : MembersPut t row.members [] needs.items (take n (drop start input)) =
    subst (λ (ms : List Member). MembersPut t ms [] needs.items (take n (drop start input))) c.as_slice.ensures
    (subst (λ (l : List (Option ℕ)). MembersPut t c.as_slice.result.now l needs.items (take n (drop start input))) c.new-needs.ensures.items (rw (take_rest input start) at c.in_ok-length.ensures.put)) in
    let many : c.len.result ≡ length needs.items = omega (arith, c.len.ensures, needs.ok.0) in
    let found = rw (take_rest input (start + n)) at c.in_ok-taken.ensures in
    let table : IsFront any table_size (drop (start + n) input) (length needs.items) c.in_ok-taken.taken = subst (λ (m : ℕ). IsFront any table_size (drop (start + n) input) m c.in_ok-taken.taken) many found in
    let there = there_is needs.items _ c.is_empty.result needs.ok.0 c.is_empty.ensures in
    let flags : head.flags ≡ sized_flags (head.flags % 4) (not c.is_empty.result) c.is_none.result = nat_eq_is head.flags (sized_flags (head.flags % 4) (not c.is_empty.result) c.is_none.result) (sym c.are_flags.ensures ∙ c.if-not-are_flags.false) in
    let last : head.flags ≡ sized_flags (head.flags % 4) (not c.is_empty.result) (is_none row.base) = flags ∙ ap (λ (b : Bool). sized_flags (head.flags % 4) (not c.is_empty.result) b) (none_test row.base c.is_none.result c.is_none.ensures) in
    slice_made t input c.args.at c.args.ids.now.items c.pass_head.new.ids.items head c.in_ok-head.ensures row is_row _ n c.in_ok-taken.taken c.in_ok-size.size (not c.is_empty.result) refl refl refl four sized (omega arith) few put table there last
