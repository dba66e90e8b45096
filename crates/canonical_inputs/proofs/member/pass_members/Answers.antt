use Rattle.std.proofs.Common.{arith, ◌+◌, ℕ, List, take, drop, sym, subst}
use Rattle.std.proofs.lemmas.List.{take_rest, length-drop}
use Rattle.ice_types.specs.declared.kind.TypeRef.{TypeRef}
use Rattle.canonical_values.proofs.Fronts.{take_two}
use Rattle.canonical_inputs.specs.Places.{FrontPut, MemberPut, kinds_from}
use Rattle.canonical_inputs.proofs.Places.{front_none, front_all, member_more, kinds_none}
use Rattle.canonical_inputs.proofs.member.pass_members.Goals as goal

pub loop-next-init : goal.loop-next-init
loop-next-init c = record { within = omega arith; put = front_none c.args.schema.now 100 (kinds_from 0 c.args.members.now) c.args.needs.now.items }

pub loop-next-preserved : goal.loop-next-preserved
loop-next-preserved c =
    let t = c.args.schema.now in
    let bytes = c.args.bytes.now in
    let members = c.args.members.now in
    let next = c.loop-next.next in
    let at = c.loop-next.at in
    let n = c.in-Some.length in
    let member = c.index-members-next.result in
    let all = kinds_from 0 members in
    let before = c.args.needs.now.items in
    let mid = c.loop-next.needs.items in
    let behind = c.pass_member.new.needs.items in
    let few = rw (take_rest bytes at) at c.in-Some.ensures.within in
    let put : MemberPut t member mid behind (take n (drop at bytes)) = rw (take_rest bytes at) at c.in-Some.ensures.put in
    record {
      within = omega (arith, few, length-drop at bytes);
      put = subst (λ (l : List ℕ). FrontPut t 100 all (kinds_from (next + 1) members) before behind l) (sym (take_two at n bytes))
          (member_more t all members next member before mid behind (take at bytes) (take n (drop at bytes)) (omega arith) c.index-members-next.is c.loop-next.invariant.put put);
    }

pub returns-clause-put : goal.returns-clause-put
returns-clause-put c =
    let t = c.args.schema.now in
    let members = c.args.members.now in
    let all = kinds_from 0 members in
    let before = c.args.needs.now.items in
    let behind = c.loop-next.needs.items in
    let front = take c.loop-next.at c.args.bytes.now in
    front_all t 100 all before behind front (subst (λ (ks : List TypeRef). FrontPut t 100 all ks before behind front) (kinds_none members c.loop-next.next (omega arith)) c.loop-next.invariant.put)
