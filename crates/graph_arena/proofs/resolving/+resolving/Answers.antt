use Rattle.std.proofs.Common.{List, arith, rules, sym, ap, ◌∙◌}
use Rattle.ice_encoding.specs.Names.{renamed, renamed_each, renamed_pairs}
use Rattle.ice_encoding.specs.References.{entry_in}
use Rattle.graph_arena.specs.declared.value.Value.{Value}
use Rattle.graph_arena.specs.View.{view, view_all, view_pairs}
use Rattle.graph_arena.proofs.ByteTrees.{bytes_renamed}
use Rattle.graph_arena.proofs.Renaming.{each-put, pairs-put, seq-put, dict-put, members-put}
use Rattle.graph_arena.proofs.Shapes.{view_bytes}
use Rattle.graph_arena.proofs.resolving.+resolving.Goals as goal

pub resolve-returns-7 : goal.resolve-returns-7
resolve-returns-7 t c = search (rules, view_bytes, bytes_renamed)

pub resolve-returns-in-Seq : goal.resolve-returns-in-Seq
resolve-returns-in-Seq t c =
    let f = entry_in c.args.table.now in
    ap view (search rules) ∙ (seq-put f c.in-Seq.items c.resolve_each.new.items (search rules) (c.resolve_each.ensures ∙ ap (λ (l : List Value). renamed_each f (view_all l)) (c.as_mut_slice.ensures.value ∙ c.in-Seq.items-is)) ∙ ap (λ (v : Value). renamed f (view v)) (sym c.in-Seq.is))

pub resolve-returns-in-Members : goal.resolve-returns-in-Members
resolve-returns-in-Members t c =
    let f = entry_in c.args.table.now in
    ap view (search rules) ∙ (members-put f c.in-Members.items c.resolve_each-in-Members.new.items (search rules) (c.resolve_each-in-Members.ensures ∙ ap (λ (l : List Value). renamed_each f (view_all l)) (c.as_mut_slice-in-Members.ensures.value ∙ c.in-Members.items-is)) ∙ ap (λ (v : Value). renamed f (view v)) (sym c.in-Members.is))

pub resolve-returns-in-Pairs : goal.resolve-returns-in-Pairs
resolve-returns-in-Pairs t c =
    let f = entry_in c.args.table.now in
    ap view (search rules) ∙ (dict-put f c.in-Pairs.pairs c.resolve_pairs.new.pairs (search rules) (c.resolve_pairs.ensures ∙ ap (λ (l : List (Value × Value)). renamed_pairs f (view_pairs l)) (c.as_mut_slice-in-Pairs.ensures.value ∙ c.in-Pairs.pairs-is)) ∙ ap (λ (v : Value). renamed f (view v)) (sym c.in-Pairs.is))

pub resolve_each-returns : goal.resolve_each-returns
resolve_each-returns t c = each-put (entry_in c.args.table.now) c.args.items.now c.loop-item.items c.loop-item.item-index (omega arith) c.loop-item.invariant.put

pub resolve_pairs-returns : goal.resolve_pairs-returns
resolve_pairs-returns t c = pairs-put (entry_in c.args.table.now) c.args.pairs.now c.loop-pair.pairs c.loop-pair.pair-index (omega arith) c.loop-pair.invariant.put
