use Rattle.std.proofs.Common.{◌-◌, List, length, ap, sym, subst, ◌∙◌, arith}
use Rattle.ice_encoding.specs.Visiting.{most}
use Rattle.graph_arena.specs.Seen.{view_slices}
use Rattle.instance_writing.specs.declared.unfinished.Unfinished.{Unfinished}
use Rattle.instance_writing.specs.Formats.{view_format}
use Rattle.instance_writing.specs.Tabling.{Listed}
use Rattle.instance_writing.specs.Remains.{Fits, AllFit}
use Rattle.instance_writing.proofs.Stacks.{fits-pop, fits-push, all-grown, fresh-fits, instance-ends, instance-begins}
use Rattle.instance_writing.proofs.encode.put_more.Goals as goal

pub go-requires-clause-fits : goal.go-requires-clause-fits
go-requires-clause-fits c =
    subst (λ (l : Listed). Fits c.args.by.now.schema.now l.count c.args.top c.args.out.now.items) (sym c.requires.desk) (fits-pop c.args.by.now.schema.now (length c.args.graph.now.instances) c.args.stack.now c.args.top c.args.out.now.items c.requires.fits).1

pub returns-in-Done-clause-writes : goal.returns-in-Done-clause-writes
returns-in-Done-clause-writes c =
    instance-ends c.args.by.now.schema.now (view_format c.args.by.now.format) c.args.graph.now (most - 1) c.args.stack.now c.args.top (c.args.pen.now, c.args.out.now.items) (c.go.new.pen, c.go.new.out.items) (λ inside. rw c.in-Done.is at (c.in_ok-go.ensures.goes inside))

pub returns-in-Done-clause-fits : goal.returns-in-Done-clause-fits
returns-in-Done-clause-fits c =
    all-grown c.args.by.now.schema.now (length c.args.graph.now.instances) c.args.stack.now c.args.out.now.items c.go.new.out.items
    (fits-pop c.args.by.now.schema.now (length c.args.graph.now.instances) c.args.stack.now c.args.top c.args.out.now.items c.requires.fits).0 c.in_ok-go.ensures.longer

pub returns-in_ok-push-in-Begins-2-clause-writes : goal.returns-in_ok-push-in-Begins-2-clause-writes
returns-in_ok-push-in-Begins-2-clause-writes c =
    let narrows = rw c.in-Begins.is at c.in_ok-go.ensures.room in
    instance-begins c.args.by.now.schema.now (view_format c.args.by.now.format) c.args.graph.now (most - 1) c.args.stack.now c.push.new.self c.push-in-Begins.new.self c.args.top c.go.new.self c.new.result c.in-Begins.name (c.args.pen.now, c.args.out.now.items) (c.go.new.pen, c.go.new.out.items)
    (omega (arith, c.requires.deep, narrows))
    c.in_ok-push-in-Begins.ensures.ok c.in_ok-push-in-Begins-2.ensures.ok (c.new.ensures.current, ap view_slices c.new.ensures.slices ∙ c.slices_of.ensures.slices)
    (λ inside. rw c.in-Begins.is at (c.in_ok-go.ensures.goes inside))

pub returns-in_ok-push-in-Begins-2-clause-fits : goal.returns-in_ok-push-in-Begins-2-clause-fits
returns-in_ok-push-in-Begins-2-clause-fits c =
    let count = length c.args.graph.now.instances in
    let out = c.go.new.out.items in
    let now_fits = subst (λ (l : Listed). Fits c.args.by.now.schema.now l.count c.go.new.self out) c.requires.desk c.in_ok-go.ensures.fits in
    let below = all-grown c.args.by.now.schema.now count c.args.stack.now c.args.out.now.items out (fits-pop c.args.by.now.schema.now count c.args.stack.now c.args.top c.args.out.now.items c.requires.fits).0 c.in_ok-go.ensures.longer in
    let mid = fits-push c.args.by.now.schema.now count c.args.stack.now c.go.new.self out below now_fits in
    subst (λ (us : List Unfinished). AllFit c.args.by.now.schema.now count us out) (sym c.in_ok-push-in-Begins-2.ensures.ok)
    (fits-push c.args.by.now.schema.now count c.push.new.self c.new.result out (subst (λ (us : List Unfinished). AllFit c.args.by.now.schema.now count us out) (sym c.in_ok-push-in-Begins.ensures.ok) mid)
    (fresh-fits c.args.by.now.schema.now c.args.graph.now c.new.result c.in-Begins.name out (c.new.ensures.current, ap view_slices c.new.ensures.slices ∙ c.slices_of.ensures.slices) c.slices_of.ensures.names c.requires.can))
