use Rattle.std.proofs.Common.{ℕ, ◌-◌, ap, subst, ◌∙◌, arith}
use Rattle.ice_encoding.specs.Visiting.{most}
use Rattle.value_parts.specs.SlicedType.{rows_of}
use Rattle.instance_writing.specs.Formats.{view_format}
use Rattle.instance_writing.specs.Tabling.{Listed}
use Rattle.instance_writing.specs.Remains.{Fits}
use Rattle.instance_writing.proofs.Steps.{open-most, slice-done, next-ended, next-begun}
use Rattle.instance_writing.proofs.unfinished.Unfinished.go.Goals as goal

pub go-requires : goal.go-requires
go-requires c = open-most c.args.desk.now.table.count c.loop-name.self.current c.loop-name.out.items c.requires.few c.loop-name.invariant.fits.current

pub returns-then-not-branch-clause-goes : goal.returns-then-not-branch-clause-goes
returns-then-not-branch-clause-goes c inside =
    c.loop-name.invariant.goes inside
    ∙ slice-done c.args.sort c.args.by.now.schema.now (view_format c.args.by.now.format) inside c.loop-name.self c.go.new.self (c.loop-name.pen, c.loop-name.out.items) (c.go.new.pen, c.go.new.out.items) (rw c.in-Done.is at (c.in_ok-go.ensures.goes inside)) c.in_ok-go.ensures.first
    ∙ next-ended c.args.sort c.args.by.now.schema.now (view_format c.args.by.now.format) inside (record { current = c.go.new.self; slices = c.loop-name.self.slices }) c.begin_next.new.self (c.go.new.pen, c.go.new.out.items) (c.begin_next.new.pen, c.begin_next.new.out.items)
    c.in_ok-begin_next.field-0 c.if-not-branch.true (c.in_ok-begin_next.ensures.writes inside)

pub loop-name-preserved : goal.loop-name-preserved
loop-name-preserved c = record {
  goes = λ inside.
      c.loop-name.invariant.goes inside
      ∙ slice-done c.args.sort c.args.by.now.schema.now (view_format c.args.by.now.format) inside c.loop-name.self c.go.new.self (c.loop-name.pen, c.loop-name.out.items) (c.go.new.pen, c.go.new.out.items) (rw c.in-Done.is at (c.in_ok-go.ensures.goes inside)) c.in_ok-go.ensures.first
      ∙ next-begun c.args.sort c.args.by.now.schema.now (view_format c.args.by.now.format) inside (record { current = c.go.new.self; slices = c.loop-name.self.slices }) c.begin_next.new.self (c.go.new.pen, c.go.new.out.items) (c.begin_next.new.pen, c.begin_next.new.out.items)
      c.in_ok-begin_next.field-0 c.if-not-branch.false (c.in_ok-begin_next.ensures.writes inside);
  fits = subst (λ (l : Listed). Fits (rows_of c.args.sort c.args.by.now.schema.now) l.count c.begin_next.new.self c.begin_next.new.out.items) c.loop-name.invariant.desk c.in_ok-begin_next.ensures.fits;
  room = omega (arith, c.loop-name.invariant.room, (rw c.in-Done.is at c.in_ok-go.ensures.room), ap (λ (b : ℕ). most - b) c.in_ok-begin_next.ensures.begun);
  longer = omega (arith, c.loop-name.invariant.longer, c.in_ok-go.ensures.longer, c.in_ok-begin_next.ensures.longer);
  desk = c.in_ok-begin_next.ensures.desk ∙ c.loop-name.invariant.desk;
}
