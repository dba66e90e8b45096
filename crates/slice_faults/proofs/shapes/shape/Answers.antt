use Rattle.std.proofs.Common.{◌≡◌, ◌+◌, ◌-◌, ◌++◌, ◌∷◌, [], List, length, sym, ap, ◌∙◌, append_assoc, length-append, arith}
use Rattle.ice_types.specs.declared.declarations.Member.{Member}
use Rattle.slice_faults.proofs.Rising.{AreKeyed, required_next, optional_next, keyed_next, keyed_below, below_next, above_next}
use Rattle.slice_faults.proofs.shapes.shape.Goals as goal

last : (c : goal.In_ok-take) → c.loop-member.members ≡ c.pop.new.self ++ c.in-Some.member ∷ []
last c = c.in-Some.ensures

count : (c : goal.In_ok-take) → length c.loop-member.members ≡ length c.pop.new.self + 1
count c = ap length (last c) ∙ length-append c.pop.new.self (c.in-Some.member ∷ [])

-- the keys so far are below that of this member
keyed : (c : goal.In_ok-take) → AreKeyed c.loop-member.optional.entries (c.len-total.result - c.len.result)
keyed c = keyed_below c.loop-member.optional.entries (c.len-total.result - length c.loop-member.members + 1) (c.len-total.result - c.len.result)
    (below_next c.len-total.result (length c.loop-member.members) (length c.pop.new.self) c.len.result (count c) c.len.ensures c.loop-member.invariant.5) c.loop-member.invariant.4

pub loop-member-preserved : goal.loop-member-preserved
loop-member-preserved c =
    let i = c.loop-member.invariant in
    let m = c.in-Some.member in
    let es = c.loop-member.optional.entries in
    let now = c.take.new.optional.entries in (
      m ∷ i.0,
      sym (append_assoc c.pop.new.self (m ∷ []) i.0) ∙ (ap (λ (l : List Member). l ++ i.0) (sym (last c)) ∙ i.1),
      required_next c.loop-member.required.items c.take.new.required.items i.0 m i.2 c.in_ok-take.ensures.required,
      optional_next es now i.0 m (c.len-total.result - c.len.result) i.3 (keyed c) c.in_ok-take.ensures.optional,
      keyed_below now (c.len-total.result - c.len.result + 1) (c.len-total.result - length c.pop.new.self + 1) (above_next c.len-total.result (length c.pop.new.self) c.len.result c.len.ensures)
          (keyed_next es now m (c.len-total.result - c.len.result) (keyed c) c.in_ok-take.ensures.optional),
      (let n = count c in let w = i.5 in omega arith),
    )
