use Rattle.std.proofs.Common.{◌≡◌, ◌++◌, ◌∷◌, ℕ, List, sym, ap, ◌∙◌, subst, arith}
use Rattle.ice_prims.specs.Bytes.{Grows}
use Rattle.ice_encoding.specs.Optionals.{kind_tagged}
use Rattle.graph_arena.specs.View.{view}
use Rattle.graph_arena.specs.Seen.{view_present}
use Rattle.value_writing.specs.Putting.{lists}
use Rattle.value_writing.proofs.Levels.{Grows-then}
use Rattle.value_writing.specs.WritingMembers.{remaining, marker, tag_bytes}
use Rattle.value_writing.proofs.WritingSteps.{next-begun, put-grows, put-longer, grows-longer, begun-stands, begun-behind, values-fit, first-fits}
use Rattle.value_writing.proofs.members_writer.MembersWriter.go.Goals as goal

-- ---- an instance begins, or memory runs out before

pub returns-in_err-go-clause-grows : goal.returns-in_err-go-clause-grows
returns-in_err-go-clause-grows g c base h = Grows-then base c.loop-name.out.items c.go.new.out.items (c.loop-name.invariant.keeps base h).0 c.go.ensures.grows

pub returns-in-Begins-clause-grows : goal.returns-in-Begins-clause-grows
returns-in-Begins-clause-grows g c base h = Grows-then base c.loop-name.out.items c.go.new.out.items (c.loop-name.invariant.keeps base h).0 c.go.ensures.grows

pub returns-in-Begins-clause-behind : goal.returns-in-Begins-clause-behind
returns-in-Begins-clause-behind g c base h = (c.loop-name.invariant.keeps base h).1

-- ---- the length

pub returns-in_err-put-clause-grows : goal.returns-in_err-put-clause-grows
returns-in_err-put-clause-grows g c base h =
    subst (λ (l : List ℕ). Grows base l) (sym c.in_err-put.ensures.err) (Grows-then base c.loop-name.out.items c.go.new.out.items (c.loop-name.invariant.keeps base h).0 c.go.ensures.grows)

-- ---- the end

pub returns-in_err-put_end-in-None-clause-grows : goal.returns-in_err-put_end-in-None-clause-grows
returns-in_err-put_end-in-None-clause-grows g c base h =
    subst (λ (l : List ℕ). Grows base l) (sym c.in_err-put_end-in-None.ensures.err)
    (put-grows base c.loop-name.self.place c.loop-name.out.items c.go.new.out.items c.put.new.out.items (c.loop-name.invariant.keeps base h) c.go.ensures.grows c.in_ok-put.ensures.ok)

pub returns-in-None-clause-grows : goal.returns-in-None-clause-grows
returns-in-None-clause-grows g c base h =
    Grows-then base c.put.new.out.items c.put_end.new.out.items
    (put-grows base c.loop-name.self.place c.loop-name.out.items c.go.new.out.items c.put.new.out.items (c.loop-name.invariant.keeps base h) c.go.ensures.grows c.in_ok-put.ensures.ok)
    (marker c.loop-name.self.marked, c.in_ok-put_end-in-None.ensures.ok)

pub returns-in-None-clause-behind : goal.returns-in-None-clause-behind
returns-in-None-clause-behind g c base h = (c.loop-name.invariant.keeps base h).1

-- ---- the next optional member

pub returns-in_err-begin-in-Some-clause-grows : goal.returns-in_err-begin-in-Some-clause-grows
returns-in_err-begin-in-Some-clause-grows g c base h =
    Grows-then base c.put.new.out.items c.begin.new.out.items
    (put-grows base c.loop-name.self.place c.loop-name.out.items c.go.new.out.items c.put.new.out.items (c.loop-name.invariant.keeps base h) c.go.ensures.grows c.in_ok-put.ensures.ok)
    c.begin.ensures.grows

pub loop-name-preserved : goal.loop-name-preserved
loop-name-preserved g c =
    let number = c.in-Some.option.now.0 in
    let v = view c.in-Some.option.now.1 in
    let kind = kind_tagged number c.args.optional.now in
    let others = view_present c.in-Some.others.now in
    let first : view_present c.loop-name.self.optional.now ≡ (number, v) ∷ others = ap view_present c.in-Some.ensures.cases.0 in
    let fits = first-fits number v (view_present c.loop-name.self.optional.now) others first c.loop-name.invariant.fits.1 in
    let rest : view_present c.begin.new.self.optional.now ≡ others = ap (λ s. view_present s.now) c.begin.ensures.others.0 in
    record {
      left = λ inside.
          c.loop-name.invariant.left inside
          ∙ next-begun g.P.PutPort.put inside c.args.schema.now c.args.optional.now (remaining c.loop-name.self) (remaining c.begin.new.self) (c.loop-name.port, c.loop-name.out.items) number v others
          c.go.new.port c.go.new.out.items c.put.new.out.items c.begin.new.out.items
          (rw c.in-Done.is at (c.in_ok-go.ensures.goes inside)) c.in_ok-put.ensures.ok first
          c.in_ok-begin-in-Some.ensures.values c.in_ok-begin-in-Some.ensures.place rest c.begin.ensures.others.1 c.in_ok-begin-in-Some.ensures.ok;
      fits = (
        values-fit kind v (lists c.begin.new.self.values) c.in_ok-begin-in-Some.ensures.values fits.0,
        rw rest fits.1,
        begun-stands c.args.schema.now kind (c.put.new.out.items ++ tag_bytes c.args.schema.now number kind) c.begin.new.out.items c.begin.new.self.place c.in_ok-begin-in-Some.ensures.place c.in_ok-begin-in-Some.ensures.ok,
      );
      room = let narrow = rw c.in-Done.is at c.in_ok-go.ensures.room in omega (arith, narrow, c.loop-name.invariant.room);
      longer =
          let put = put-longer c.loop-name.self.place c.loop-name.out.items c.go.new.out.items c.put.new.out.items c.loop-name.invariant.fits.2 c.go.ensures.grows c.in_ok-put.ensures.ok in
          let begun = grows-longer c.put.new.out.items c.begin.new.out.items c.begin.ensures.grows in
          omega (arith, put, begun, c.loop-name.invariant.longer);
      keeps = λ base h.
          let put = put-grows base c.loop-name.self.place c.loop-name.out.items c.go.new.out.items c.put.new.out.items (c.loop-name.invariant.keeps base h) c.go.ensures.grows c.in_ok-put.ensures.ok in (
            Grows-then base c.put.new.out.items c.begin.new.out.items put c.begin.ensures.grows,
            begun-behind c.args.schema.now kind base c.put.new.out.items (tag_bytes c.args.schema.now number kind) c.begin.new.self.place put c.in_ok-begin-in-Some.ensures.place,
          );
    }
