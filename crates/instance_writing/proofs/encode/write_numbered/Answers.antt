use Rattle.std.proofs.Common.{List, ℕ, ◌++◌, sym, ap, ◌∙◌}
use Rattle.ice_encoding.specs.Visiting.{most}
use Rattle.ice_encoding.specs.CanonicalGraph.{Pen}
use Rattle.graph_arena.specs.Seen.{view_content}
use Rattle.value_writing.specs.Putting.{Written}
use Rattle.value_writing.specs.WritingMembers.{remaining, members_left}
use Rattle.instance_writing.specs.Formats.{view_format}
use Rattle.instance_writing.specs.Pens.{put_counted}
use Rattle.instance_writing.specs.Tabling.{no_names}
use Rattle.instance_writing.specs.Remains.{inside_at}
use Rattle.instance_writing.proofs.Stacks.{content-begun, content-fits, content-written, remains-fit}
use Rattle.instance_writing.proofs.encode.write_numbered.Goals as goal

pub loop-roots-init : goal.loop-roots-init
loop-roots-init c = record {
  left = content-begun c.args.schema.now (view_format c.args.format) c.args.graph.now c.args.optional.now (remaining c.in_ok-roots.roots) (view_content c.roots.result.now) c.new-pen.result c.args.out.now.items c.in_ok-roots.ensures c.roots.ensures.roots c.new-pen.ensures;
  fits = content-fits c.args.schema.now c.args.graph.now (remaining c.in_ok-roots.roots) (view_content c.roots.result.now) c.args.out.now.items c.in_ok-roots.ensures c.roots.ensures.roots c.requires;
  desk = c.in_ok-desk.ensures ∙ ap no_names c.len.ensures.len;
}

pub returns-in-Done : goal.returns-in-Done
returns-in-Done c =
    sym (ap (λ (w : Written Pen). w.1) (c.loop-roots.invariant.left ∙ (rw c.in-Done.is at (c.in_ok-go.ensures.goes (inside_at c.args.schema.now (view_format c.args.format) c.args.graph.now most)))))
    ∙ ap (λ (l : List ℕ). c.args.out.now.items ++ l) (content-written c.args.schema.now (view_format c.args.format) c.args.graph.now c.args.optional.now)

pub loop-roots-preserved : goal.loop-roots-preserved
loop-roots-preserved c = record {
  left =
      c.loop-roots.invariant.left ∙ (rw c.in-Begins.is at (c.in_ok-go.ensures.goes (inside_at c.args.schema.now (view_format c.args.format) c.args.graph.now most)))
      ∙ ap (members_left put_counted (inside_at c.args.schema.now (view_format c.args.format) c.args.graph.now most) c.args.schema.now c.args.optional.now (remaining c.go.new.self)) (sym c.in_ok-put_instance-in-Begins.ensures.writes);
  fits = remains-fit (inside_at c.args.schema.now (view_format c.args.format) c.args.graph.now most c.in-Begins.name) (remaining c.go.new.self) c.go.new.port c.put_instance.new.pen c.go.new.out.items c.put_instance.new.out.items c.in_ok-put_instance-in-Begins.ensures.writes c.in_ok-go.ensures.fits;
  desk = c.in_ok-put_instance-in-Begins.ensures.desk ∙ c.loop-roots.invariant.desk;
}
