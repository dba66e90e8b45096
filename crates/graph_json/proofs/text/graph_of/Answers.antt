use Rattle.std.proofs.Common.{arith}
use Rattle.graph_json.proofs.Sound.{unsound, some_holds, sound_named}
use Rattle.graph_json.proofs.text.graph_of.Goals as goal

pub returns-then-not-branch : goal.returns-then-not-branch
returns-then-not-branch c =
    unsound c.args.listed c.len-count.result c.as_slice.result.now c.as_slice.ensures.value (omega (arith, c.len-count.ensures)) c.in_ok-all_named.field-0 c.in_ok-all_named.ensures c.if-not-branch.true

pub of-requires : goal.of-requires
of-requires c =
    sound_named c.args.listed c.len-count.result c.as_slice.result.now c.as_slice.ensures.value (omega (arith, c.len-count.ensures)) c.in_ok-all_named.field-0 c.in_ok-all_named.ensures
    c.in_ok-roots.field-0 c.in_ok-roots.ensures.named c.in-Some.roots c.in-Some.is (some_holds _ c.in_ok-roots.field-0 c.in-Some.roots c.in-Some.is c.in_ok-roots.ensures.ok) c.requires c.if-not-branch.false
