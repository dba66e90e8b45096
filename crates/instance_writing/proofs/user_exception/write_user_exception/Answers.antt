use Rattle.std.proofs.Common.{◌≡◌, List, ℕ, ◌++◌, sym, ap, subst, ◌∙◌}
use Rattle.ice_encoding.specs.Visiting.{most}
use Rattle.ice_encoding.specs.Exceptions.{of_exceptions}
use Rattle.graph_arena.specs.Seen.{view_slices}
use Rattle.value_writing.specs.Putting.{Written}
use Rattle.ice_encoding.specs.CanonicalGraph.{Pen}
use Rattle.value_parts.specs.declared.sliced_type.SlicedType.TheVariants.{Exception}
use Rattle.instance_writing.specs.declared.open_slice.OpenSlice.TheVariants as opens
use Rattle.instance_writing.specs.Formats.{view_format}
use Rattle.instance_writing.specs.Tabling.{Listed, no_names}
use Rattle.instance_writing.specs.Remains.{inside_at, instance_left, Fits}
use Rattle.instance_writing.proofs.Stacks.{user_exception-begun, user_exception-fits, user_exception-grown, user_exception-written}
use Rattle.instance_writing.proofs.user_exception.write_user_exception.Goals as goal

pub loop-user_exception-init : goal.loop-user_exception-init
loop-user_exception-init c =
    let fresh : (c.new-user_exception.result.current ≡ opens.Nothing) × (view_slices c.new-user_exception.result.slices.now ≡ view_slices c.args.slices.now) = (c.new-user_exception.ensures.current, ap view_slices c.new-user_exception.ensures.slices) in
    record {
      left = user_exception-begun c.args.schema.now c.args.graph.now (view_slices c.args.slices.now) c.new-user_exception.result fresh (view_format c.args.format) (inside_at c.args.schema.now (view_format c.args.format) c.args.graph.now most) c.new-pen.result c.args.out.now.items c.new-pen.ensures;
      fits = user_exception-fits c.args.schema.now c.args.graph.now (view_slices c.args.slices.now) c.new-user_exception.result fresh c.args.out.now.items c.requires;
      desk = c.in_ok-desk.ensures ∙ ap no_names c.len.ensures.len;
    }

pub go-requires-clause-fits : goal.go-requires-clause-fits
go-requires-clause-fits c =
    subst (λ (l : Listed). Fits (of_exceptions c.args.schema.now) l.count c.loop-user_exception.user_exception c.loop-user_exception.out.items) (sym c.loop-user_exception.invariant.desk) c.loop-user_exception.invariant.fits

pub returns-in-Done : goal.returns-in-Done
returns-in-Done c =
    sym (ap (λ (w : Written Pen). w.1) (c.loop-user_exception.invariant.left ∙ (rw c.in-Done.is at (c.in_ok-go.ensures.goes (inside_at c.args.schema.now (view_format c.args.format) c.args.graph.now most)))))
    ∙ ap (λ (l : List ℕ). c.args.out.now.items ++ l) (user_exception-written c.args.schema.now (view_format c.args.format) c.args.graph.now (view_slices c.args.slices.now))

pub loop-user_exception-preserved : goal.loop-user_exception-preserved
loop-user_exception-preserved c =
    let desk = c.in_ok-go.ensures.desk ∙ c.loop-user_exception.invariant.desk in
    record {
      left =
          c.loop-user_exception.invariant.left ∙ (rw c.in-Begins.is at (c.in_ok-go.ensures.goes (inside_at c.args.schema.now (view_format c.args.format) c.args.graph.now most)))
          ∙ ap (instance_left Exception c.args.schema.now (view_format c.args.format) (inside_at c.args.schema.now (view_format c.args.format) c.args.graph.now most) c.go.new.self) (sym c.in_ok-put_instance-in-Begins.ensures.writes);
      fits = subst (λ (l : Listed). Fits (of_exceptions c.args.schema.now) l.count c.go.new.self c.put_instance.new.out.items) c.loop-user_exception.invariant.desk
          (user_exception-grown (of_exceptions c.args.schema.now) c.loop-user_exception.desk.table.count (inside_at c.args.schema.now (view_format c.args.format) c.args.graph.now most c.in-Begins.name) c.go.new.self c.go.new.pen c.put_instance.new.pen c.go.new.out.items c.put_instance.new.out.items
          c.in_ok-put_instance-in-Begins.ensures.writes c.in_ok-go.ensures.fits);
      desk = c.in_ok-put_instance-in-Begins.ensures.desk ∙ desk;
    }
