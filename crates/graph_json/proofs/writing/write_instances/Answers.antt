use Rattle.std.proofs.Common.{[], refl, ap, ◌∙◌, subst, arith}
use Rattle.graph_arena.specs.Seen.{view_slices}
use Rattle.ice_encoding.specs.Graph as graphs
use Rattle.ice_encoding.specs.Instances.{slices_of}
use Rattle.std.specs.Prelude.{List}
use Rattle.graph_json.specs.Canonical.{instance_noted, items_noted}
use Rattle.graph_json.specs.Printing.{Prints}
use Rattle.graph_json.proofs.Printing.{all_printed, one_more}
use Rattle.graph_json.proofs.writing.write_instances.Goals as goal

pub loop-at-preserved : goal.loop-at-preserved
loop-at-preserved c =
    let slices = slices_of c.args.graph.now.instances c.loop-at.at in
    let here = ap view_slices c.as_slice.ensures ∙ c.instance.ensures.instance in
    let printed = subst (λ (s : List graphs.Slice). Prints (instance_noted c.args.schema.now s) c.loop-at.out c.write_instance.new.out) here c.in_ok-write_instance.ensures in
    one_more (items_noted (instance_noted c.args.schema.now)) (instance_noted c.args.schema.now) (λ x xs. refl) c.args.graph.now.instances c.loop-at.at
    c.args.out.now c.loop-at.out c.write_instance.new.out slices [] (omega (arith, c.len-at-end.ensures.len, c.loop-at-test.true)) refl c.loop-at.invariant printed

pub returns : goal.returns
returns c =
    all_printed (items_noted (instance_noted c.args.schema.now)) refl c.args.graph.now.instances c.loop-at.at c.args.out.now c.loop-at.out
    c.end_array.new.self c.end_array.result (omega (arith, c.len-at-end.ensures.len, c.loop-at-test.false)) c.loop-at.invariant c.end_array.ensures
