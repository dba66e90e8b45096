use Rattle.std.proofs.Common.{sym, subst, ◌∙◌, arith}
use Rattle.ice_encoding.specs.Visiting.{most}
use Rattle.graph_arena.specs.Arena.{AreBelow}
use Rattle.value_writing.proofs.WritingSteps.{grows-longer}
use Rattle.instance_writing.specs.declared.open_slice.OpenSlice.{OpenSlice}
use Rattle.instance_writing.specs.Opened.{entries_in}
use Rattle.instance_writing.proofs.Steps.{most-few, entries-below, below-fits, entry-put, entry-goes, entries-end}
use Rattle.instance_writing.proofs.open_slice.OpenSlice.put_entries.Goals as goal

pub put_ref-requires : goal.put_ref-requires
put_ref-requires c = most-few c.in-Some.name (subst (AreBelow most) c.in-Some.ensures.entries (c.loop-name.invariant.below most (entries-below most c.args.self.now c.args.out.now.items c.requires.fits))).0

pub returns-in-Some-2-clause-goes : goal.returns-in-Some-2-clause-goes
returns-in-Some-2-clause-goes c t inside =
    c.loop-name.invariant.goes t inside
    ∙ entry-goes t inside c.loop-name.self c.take_entry.new.self c.in-Some.name c.loop-name.pen c.put_ref.new.self c.loop-name.out.items c.put_ref.new.out.items c.loop-name.invariant.tabled c.in-Some.ensures.tabled c.in-Some.ensures.entries
    (c.in_ok-begun.ensures.puts.0, c.in_ok-begun.ensures.puts.2) c.in-Some-2.begun (c.in_ok-begun.ensures.puts.1 ∙ c.in-Some-2.is)

pub returns-in-Some-2-clause-fits : goal.returns-in-Some-2-clause-fits
returns-in-Some-2-clause-fits c count h =
    below-fits count c.take_entry.new.self c.put_ref.new.out.items c.in-Some.ensures.tabled
    (subst (AreBelow count) c.in-Some.ensures.entries (c.loop-name.invariant.below count (entries-below count c.args.self.now c.args.out.now.items h))).1

pub loop-name-preserved : goal.loop-name-preserved
loop-name-preserved c = record {
  goes = λ t inside.
      c.loop-name.invariant.goes t inside
      ∙ entry-put t inside c.loop-name.self c.take_entry.new.self c.in-Some.name c.loop-name.pen c.put_ref.new.self c.loop-name.out.items c.put_ref.new.out.items c.loop-name.invariant.tabled c.in-Some.ensures.tabled c.in-Some.ensures.entries
      (c.in_ok-begun.ensures.puts.0, c.in_ok-begun.ensures.puts.2) (c.in_ok-begun.ensures.puts.1 ∙ c.in_default-2.is);
  tabled = c.in-Some.ensures.tabled;
  below = λ count below. (subst (AreBelow count) c.in-Some.ensures.entries (c.loop-name.invariant.below count below)).1;
  first = c.in-Some.ensures.first ∙ c.loop-name.invariant.first;
  room = omega (arith, c.loop-name.invariant.room, (rw c.in_default-2.is at c.in_ok-begun.ensures.room));
  longer = omega (arith, c.loop-name.invariant.longer, grows-longer c.loop-name.out.items c.put_ref.new.out.items c.put_ref.ensures.grows);
}

pub returns-clause-goes : goal.returns-clause-goes
returns-clause-goes c t inside = c.loop-name.invariant.goes t inside ∙ entries-end t inside c.loop-name.self (c.loop-name.pen, c.loop-name.out.items) c.loop-name.invariant.tabled c.in_default.ensures.entries.0

pub returns-clause-fits : goal.returns-clause-fits
returns-clause-fits c count h =
    below-fits count c.take_entry.new.self c.loop-name.out.items c.in_default.ensures.tabled
    (subst (λ (o : OpenSlice). AreBelow count (entries_in o)) (sym c.in_default.ensures.entries.1) (c.loop-name.invariant.below count (entries-below count c.args.self.now c.args.out.now.items h)))
