use Rattle.std.proofs.Common.{rules, arith, ◌≡◌, ◌-◌, ◌+◌, List, ℕ, Some, take, drop, suc, sym, ◌∙◌, subst}
use Rattle.std.specs.Prelude.{IfSome, slice_get}
use Rattle.std.proofs.lemmas.List.{length-drop, take_rest}
use Rattle.ice_types.specs.declared.kind.TypeRef.{TypeRef}
use Rattle.ice_types.specs.declared.kind.TypeRef.TheVariants as kinds
use Rattle.ice_types.specs.declared.declarations.Member.{Member}
use Rattle.canonical_values.specs.Standing.{kinds_of}
use Rattle.canonical_values.specs.Keys.{KeyStands, KeysStand}
use Rattle.canonical_values.proofs.Keyed.{leaf_key, struct_key, keys_one_more, keys_all}
use Rattle.canonical_values.proofs.Passed.{drop_kinds}
use Rattle.canonical_values.proofs.key.+lengths.Goals as goal

pub key_length-returns-in_ok-decl-in-Struct-clause-stands : goal.key_length-returns-in_ok-decl-in-Struct-clause-stands
key_length-returns-in_ok-decl-in-Struct-clause-stands t c =
    let s = c.args.schema.now in
    let bytes = c.args.bytes.now in
    let found = c.keys_length.result in
    let place = c.in-Struct.place in
    let decl = c.in_ok-decl-in-Struct.decl.now in
    let row : slice_get s.structs place ≡ Some decl = search rules in
    let deep : suc (c.args.levels - 1) ≡ c.args.levels = omega arith in
    subst (λ (k : TypeRef). IfSome found (λ n. KeyStands s c.args.levels k (take n bytes))) (sym c.in-Struct.is)
    (subst (λ (m : ℕ). IfSome found (λ n. KeyStands s m (kinds.Struct place) (take n bytes))) deep
    (struct_key s (c.args.levels - 1) place decl bytes found row
    (subst (λ (ms : List Member). IfSome found (λ n. KeysStand s (c.args.levels - 1) (kinds_of ms) (take n bytes))) c.as_slice.ensures c.keys_length.ensures.stands)))

pub key_length-returns-in_default : goal.key_length-returns-in_default
key_length-returns-in_default t c = record {
  within = c.leaf_length.ensures.within;
  stands = leaf_key c.args.schema.now c.args.levels c.args.kind c.args.bytes.now c.leaf_length.result (omega arith) (sym c.is_simple.ensures ∙ c.if-is_simple.true) c.leaf_length.ensures.stands;
}

pub keys_length-loop-next-preserved : goal.keys_length-loop-next-preserved
keys_length-loop-next-preserved t c =
    let s = c.args.schema.now in
    let bytes = c.args.bytes.now in
    let members = c.args.members.now in
    let next = c.loop-next.next in
    let at = c.loop-next.at in
    let member = c.index-members-next.result in
    let few = rw (take_rest bytes at) at c.in-Some.ensures.within in
    record {
      within = omega (arith, few, length-drop at bytes);
      passed = keys_one_more s c.args.levels (kinds_of members) (drop (next + 1) (kinds_of members)) member.kind bytes next at c.in-Some.length (drop_kinds members next member (omega arith) c.index-members-next.is)
          (subst (λ (m : Member). KeyStands s c.args.levels m.kind (take c.in-Some.length (drop at bytes))) (sym c.index-members-next.is) (rw (take_rest bytes at) at c.in-Some.ensures.stands)) c.loop-next.invariant.passed;
    }

pub keys_length-returns-clause-stands : goal.keys_length-returns-clause-stands
keys_length-returns-clause-stands t c = keys_all c.args.schema.now c.args.levels c.args.members.now c.args.bytes.now c.loop-next.next c.loop-next.at (omega arith) c.loop-next.invariant.passed
