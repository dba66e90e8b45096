use Rattle.std.proofs.Common.{arith, ◌≡◌, ◌+◌, ℕ, length, take, drop, sym, subst}
use Rattle.std.proofs.lemmas.List.{take_rest, length-drop}
use Rattle.ice_types.specs.declared.declarations.Member.{Member}
use Rattle.canonical_values.specs.Standing.{LeafStands, kinds_of}
use Rattle.canonical_values.specs.Frames.{MembersPassed}
use Rattle.canonical_values.proofs.Passed.{members_none, members_one_more, drop_kinds}
use Rattle.canonical_values.proofs.member.pass_leaves.Goals as goal

pub returns-then-first-members : goal.returns-then-first-members
returns-then-first-members c = members_none c.args.schema.now c.args.input.now (kinds_of c.args.members.now) c.args.first c.args.start (omega arith)

pub loop-next-init : goal.loop-next-init
loop-next-init c = record { within = omega arith; passed = members_none c.args.schema.now c.args.input.now (kinds_of c.args.members.now) c.args.first c.args.start (omega arith) }

pub loop-next-preserved : goal.loop-next-preserved
loop-next-preserved c =
    let t = c.args.schema.now in
    let input = c.args.input.now in
    let kinds = kinds_of c.args.members.now in
    let few = rw (take_rest input c.loop-next.at) at c.in-Some.ensures.within in
    record {
      within = omega (arith, few, length-drop c.loop-next.at input);
      passed = members_one_more t input kinds (drop (c.loop-next.next + 1) kinds) c.index-members-next.result.kind c.args.first c.args.start c.loop-next.next c.loop-next.at c.in-Some.length
          (drop_kinds c.args.members.now c.loop-next.next c.index-members-next.result (omega arith) c.index-members-next.is) (omega arith) few
          (subst (λ (m : Member). LeafStands t m.kind (take c.in-Some.length (drop c.loop-next.at input))) (sym c.index-members-next.is) (rw (take_rest input c.loop-next.at) at c.in-Some.ensures.stands)) c.loop-next.invariant.passed;
    }

pub returns : goal.returns
returns c =
    let e : c.loop-next.next ≡ length c.args.members.now = omega arith in
    subst (λ (n : ℕ). MembersPassed c.args.schema.now c.args.input.now (kinds_of c.args.members.now) c.args.first c.args.start n c.loop-next.at) e c.loop-next.invariant.passed
