use Rattle.std.proofs.Common.{sym, ◌∙◌}
use Rattle.ice_encoding.specs.Proxies.{endpoint_cmp}
use Rattle.graph_arena.proofs.Comparisons.{slices_end}
use Rattle.graph_arena.proofs.proxy_order.compare_endpoints.Goals as goal

pub returns : goal.returns
returns c =
    c.cmp.ensures ∙ sym (c.loop-at.invariant.rest ∙ slices_end endpoint_cmp c.args.a.now c.args.b.now c.loop-at.at c.loop-at.auto.at-end c.loop-at.invariant.within c.loop-at-test.false)
