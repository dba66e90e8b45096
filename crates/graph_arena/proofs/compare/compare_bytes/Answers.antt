use Rattle.std.proofs.Common.{ℕ, List, get_or, arith, refl, sym, ◌∙◌, rules}
use Rattle.std.specs.declared.cmp.Ordering.{Ordering}
use Rattle.ice_encoding.specs.Tree.{byte}
use Rattle.ice_encoding.specs.Order.{tree_cmp, trees_cmp}
use Rattle.graph_arena.specs.declared.value.Value.{Value}
use Rattle.graph_arena.specs.View.{byte_trees, view, view_all}
use Rattle.graph_arena.proofs.Stepping.{whatever_else, tells, alike}
use Rattle.graph_arena.proofs.ByteTrees.{bytes_end, items_end}
use Rattle.graph_arena.proofs.compare.compare_bytes.Goals as goal

abbrev bytes_cmp : List ℕ → List Value → Ordering
bytes_cmp a b = trees_cmp (byte_trees a) (view_all b)

abbrev byte_cmp : ℕ → Value → Ordering
byte_cmp a b = tree_cmp (byte a) (view b)

pub returns : goal.returns
returns c =
    c.cmp.ensures ∙ sym (c.loop-at.invariant.rest ∙ bytes_end c.args.bytes.now c.args.items.now c.loop-at.at c.loop-at.auto.at-end c.loop-at.invariant.within c.loop-at-test.false)

pub returns-in_default : goal.returns-in_default
returns-in_default c =
    sym (c.loop-at.invariant.rest ∙ items_end c.args.bytes.now c.args.items.now c.loop-at.at c.loop-at-test.true c.loop-at.invariant.within (search rules))

pub returns-in_default-compare_byte : goal.returns-in_default-compare_byte
returns-in_default-compare_byte c =
    let found = c.in-Some.ensures.lookup in
    let number = get_or c.args.bytes.now c.loop-at.at 0 in
    tells bytes_cmp byte_cmp (λ x xs y ys. refl) c.args.bytes.now c.args.items.now c.loop-at.at number c.in-Some.item.now c.loop-at-test.true (whatever_else c.args.bytes.now c.loop-at.at 0 number c.loop-at-test.true) found.3.0 found.1 c.loop-at.invariant.rest
    c.compare_byte.result c.compare_byte.ensures c.in_default-compare_byte.not-Equal

pub loop-at-preserved : goal.loop-at-preserved
loop-at-preserved c =
    let found = c.in-Some.ensures.lookup in
    let number = get_or c.args.bytes.now c.loop-at.at 0 in
    record {
      within = omega (arith, found.3.0);
      rest =
          alike bytes_cmp byte_cmp (λ x xs y ys. refl) c.args.bytes.now c.args.items.now c.loop-at.at number c.in-Some.item.now c.loop-at-test.true (whatever_else c.args.bytes.now c.loop-at.at 0 number c.loop-at-test.true) found.3.0 found.1 c.loop-at.invariant.rest
          c.in-Equal.ensures;
    }
