use Rattle.std.proofs.Common.{arith, ◌≡◌, ◌+◌, ◌-◌, ◌++◌, ℕ, suc, List, take, drop, replicate, sym, subst}
use Rattle.std.proofs.lemmas.List.{take_rest, length-drop}
use Rattle.ice_types.specs.declared.kind.TypeRef.TheVariants as kinds
use Rattle.canonical_values.proofs.Fronts.{take_two}
use Rattle.canonical_inputs.specs.Places.{FrontPut, ValuePut}
use Rattle.canonical_inputs.proofs.Places.{each_more, front_all}
use Rattle.canonical_inputs.proofs.member.pass_each.Goals as goal

pub loop-preserved : goal.loop-preserved
loop-preserved c =
    let t = c.args.schema.now in
    let bytes = c.args.bytes.now in
    let at = c.loop.at in
    let n = c.in-Some.length in
    let kind = kinds.Class c.args.declared in
    let all = replicate c.args.count kind in
    let before = c.args.needs.now.items in
    let mid = c.loop.needs.items in
    let behind = c.pass_place.new.needs.items in
    let few = rw (take_rest bytes at) at c.in-Some.ensures.within in
    let left : (c.args.count - c.loop.counter) - 1 ≡ c.args.count - (c.loop.counter + 1) = omega arith in
    record {
      within = omega (arith, few, length-drop at bytes);
      put = λ levels.
          let value : ValuePut t (suc levels) kind mid behind (take n (drop at bytes)) = subst (λ (l : List ℕ). ValuePut t (suc levels) kind mid behind (take n l)) (take_rest bytes at) (c.in-Some.ensures.put levels) in
          subst (λ (l : List ℕ). FrontPut t (suc levels) all (replicate (c.args.count - (c.loop.counter + 1)) kind) before behind l) (sym (take_two at n bytes))
          (subst (λ (m : ℕ). FrontPut t (suc levels) all (replicate m kind) before behind (take at bytes ++ take n (drop at bytes))) left
          (each_more t (suc levels) all kind (c.args.count - c.loop.counter) before mid behind (take at bytes) (take n (drop at bytes)) (omega arith) (c.loop.invariant.put levels) value));
    }

pub returns-clause-put : goal.returns-clause-put
returns-clause-put c = λ levels.
    let t = c.args.schema.now in
    let kind = kinds.Class c.args.declared in
    let all = replicate c.args.count kind in
    let front = take c.loop.at c.args.bytes.now in
    let none : c.args.count - c.loop.counter ≡ 0 = omega arith in
    front_all t (suc levels) all c.args.needs.now.items c.loop.needs.items front (subst (λ (m : ℕ). FrontPut t (suc levels) all (replicate m kind) c.args.needs.now.items c.loop.needs.items front) none (c.loop.invariant.put levels))
