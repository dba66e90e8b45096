use Rattle.std.proofs.Common.{rules, arith, ◌≡◌, ◌-◌, ◌+◌, ◌∷◌, List, ℕ, Some, length, take, drop, suc, sym, subst}
use Rattle.std.specs.Prelude.{slice_get}
use Rattle.std.proofs.lemmas.List.{length-drop, drop-drop, take_rest}
use Rattle.ice_types.specs.declared.kind.TypeRef.{TypeRef}
use Rattle.ice_types.specs.declared.kind.TypeRef.TheVariants as kinds
use Rattle.ice_types.specs.declared.declarations.Member.{Member}
use Rattle.canonical_values.specs.Standing.{kinds_of}
use Rattle.canonical_values.specs.Keys.{KeyStands, AreRising, EachRising, HaveFront}
use Rattle.canonical_values.proofs.Keyed.{first_below, first_same, struct_below}
use Rattle.canonical_values.proofs.Passed.{drop_kinds}
use Rattle.canonical_values.proofs.below.+order.Goals as goal

pub are_below-returns-then-is_below : goal.are_below-returns-then-is_below
are_below-returns-then-is_below t c =
    let s = c.args.schema.now in
    let first = c.args.first.now in
    let second = c.args.second.now in
    let members = c.args.members.now in
    let at = c.loop-next.at in
    let member = c.index-members-next.result in
    let others = drop (c.loop-next.next + 1) (kinds_of members) in
    let kinds : drop c.loop-next.next (kinds_of members) ≡ member.kind ∷ others = drop_kinds members c.loop-next.next member (omega arith) c.index-members-next.is in
    let cut : AreRising s c.args.levels member.kind (take (length first - at) (drop at first)) (take (length second - at) (drop at second))
    = subst (λ (m : Member). AreRising s c.args.levels m.kind (take (length first - at) (drop at first)) (take (length second - at) (drop at second))) (sym c.index-members-next.is) (c.is_below.ensures (search rules)) in
    let half : AreRising s c.args.levels member.kind (drop at first) (take (length second - at) (drop at second))
    = subst (λ (l : List ℕ). AreRising s c.args.levels member.kind l (take (length second - at) (drop at second))) (take_rest first at) cut in
    let rise : AreRising s c.args.levels member.kind (drop at first) (drop at second) = subst (λ (l : List ℕ). AreRising s c.args.levels member.kind (drop at first) l) (take_rest second at) half in
    λ yes. c.loop-next.invariant.decide (subst (λ (ks : List TypeRef). EachRising s c.args.levels ks (drop at first) (drop at second)) (sym kinds)
    (first_below s c.args.levels member.kind others (drop at first) (drop at second) rise))

pub are_below-loop-next-preserved : goal.are_below-loop-next-preserved
are_below-loop-next-preserved t c =
    let s = c.args.schema.now in
    let first = c.args.first.now in
    let second = c.args.second.now in
    let members = c.args.members.now in
    let at = c.loop-next.at in
    let n = c.in-Some.length in
    let member = c.index-members-next.result in
    let others = drop (c.loop-next.next + 1) (kinds_of members) in
    let kinds : drop c.loop-next.next (kinds_of members) ≡ member.kind ∷ others = drop_kinds members c.loop-next.next member (omega arith) c.index-members-next.is in
    let cut : HaveFront n (take (length first - at) (drop at first)) (take (length second - at) (drop at second)) = c.have_front.ensures (search rules) in
    let half : HaveFront n (drop at first) (take (length second - at) (drop at second)) = subst (λ (l : List ℕ). HaveFront n l (take (length second - at) (drop at second))) (take_rest first at) cut in
    let have : HaveFront n (drop at first) (drop at second) = subst (λ (l : List ℕ). HaveFront n (drop at first) l) (take_rest second at) half in
    let stands : KeyStands s c.args.levels member.kind (take n (drop at second))
    = subst (λ (m : Member). KeyStands s c.args.levels m.kind (take n (drop at second))) (sym c.index-members-next.is) (rw (take_rest second at) at c.in-Some.ensures.stands) in
    record {
      first = omega (arith, have.0, length-drop at first);
      second = omega (arith, have.1, length-drop at second);
      decide = λ rise.
          c.loop-next.invariant.decide (subst (λ (ks : List TypeRef). EachRising s c.args.levels ks (drop at first) (drop at second)) (sym kinds)
          (first_same s c.args.levels member.kind others (drop at first) (drop at second) n have stands
          (subst (λ (l : List ℕ). EachRising s c.args.levels others (drop n (drop at first)) l) (sym (drop-drop n at second)) (subst (λ (l : List ℕ). EachRising s c.args.levels others l (drop (at + n) second)) (sym (drop-drop n at first)) rise))));
    }

pub is_below-returns-in-Some : goal.is_below-returns-in-Some
is_below-returns-in-Some t c =
    let s = c.args.schema.now in
    let first = c.args.first.now in
    let second = c.args.second.now in
    let place = c.in-Struct.place in
    let decl = c.in-Some.decl.now in
    let row : slice_get s.structs place ≡ Some decl = search rules in
    let deep : suc (c.args.levels - 1) ≡ c.args.levels = omega arith in
    λ yes. subst (λ (k : TypeRef). AreRising s c.args.levels k first second) (sym c.in-Struct.is) (subst (λ (m : ℕ). AreRising s m (kinds.Struct place) first second) deep
    (struct_below s (c.args.levels - 1) place decl first second row (subst (λ (ms : List Member). EachRising s (c.args.levels - 1) (kinds_of ms) first second) c.as_slice.ensures (c.are_below.ensures yes))))
