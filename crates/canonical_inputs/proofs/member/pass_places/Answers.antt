use Rattle.std.proofs.Common.{ℕ, List, take, drop, replicate, sym, subst}
use Rattle.std.proofs.lemmas.List.{take_rest}
use Rattle.ice_types.specs.declared.kind.TypeRef.TheVariants as kinds
use Rattle.canonical_values.proofs.Fronts.{take_two}
use Rattle.canonical_inputs.specs.Places.{ValuePut, ValuesPut}
use Rattle.canonical_inputs.proofs.Places.{sequence_put}
use Rattle.canonical_inputs.proofs.member.pass_places.Goals as goal

pub returns-clause-put : goal.returns-clause-put
returns-clause-put c =
    let t = c.args.schema.now in
    let bytes = c.args.bytes.now in
    let taken = c.in_ok-count.taken in
    let n = c.in_ok-length.length in
    let kind = kinds.Class c.args.declared in
    let before = c.args.needs.now.items in
    let behind = c.pass_each.new.needs.items in
    let found = c.in_ok-count.ensures in
    let row = c.requires in
    let items : ValuesPut t 99 (replicate c.in_ok-count.count kind) before behind (take n (drop taken bytes)) =
    subst (λ (l : List ℕ). ValuesPut t 99 (replicate c.in_ok-count.count kind) before behind (take n l)) (take_rest bytes taken) (c.in_ok-length.ensures.put 98) in
    subst (λ (l : List ℕ). ValuePut t 100 (kinds.Seq c.args.at) before behind l) (sym (take_two taken n bytes))
    (sequence_put t 99 c.args.at c.in_ok-count.count row.0 kind before behind (take taken bytes) (take n (drop taken bytes)) row.1 row.2 found.1 found.2 items)
