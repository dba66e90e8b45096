use Rattle.std.proofs.Common.{[], ◌∷◌, reverse, arith, subst, sym, ◌∙◌, Option}
use Rattle.slice_meaning.specs.Loading.{Shelf}
use Rattle.slice_check.specs.Standing.{HasCome, IsFirst, Stands, stack}
use Rattle.slice_check.proofs.Coming.{begins, is_over, first_fault, fault_passed, one_pushed, one_popped, none_popped, work_before}
use Rattle.slice_check.proofs.walk.walk_from.Goals as goal

pub returns-in_err-first-clause-answer : goal.returns-in_err-first-clause-answer
returns-in_err-first-clause-answer g c =
    let files = g.H.Shelf.files c.args.shelf.now in
    let fault = c.in_err-first.field-0.0 in
    fault_passed files c.args.name.now fault c.from_residual.result c.from_residual.ensures.1
    (first_fault files c.args.name.now fault (c.in_err-first.ensures.answer [] c.new-names.ensures (λ h. omega (arith, h.1))))

pub loop-user-init : goal.loop-user-init
loop-user-init g c =
    let files = g.H.Shelf.files c.args.shelf.now in
    let is = c.in_ok-first.ensures.answer [] c.new-names.ensures (λ h. omega (arith, h.1)) in
    record {
      stands = subst (HasCome files c.args.name.now c.opened.new.names.held c.new.result) (sym (one_pushed c.new-2.result.items c.push.new.self.items _ c.new-2.ensures.items c.in_ok-push.ensures.items))
          (begins files c.args.name.now c.opened.new.names.held c.new.result c.in_ok-first.first c.new.ensures.names c.new.ensures.trees is);
      files = c.in_ok-first.ensures.kept;
      count = c.in_ok-first.ensures.count;
    }

pub loop-user-smaller : goal.loop-user-smaller
loop-user-smaller g c =
    let i = c.loop-user.invariant in
    let walk = c.loop-user.walk in
    let left = c.pop.new.self.items in
    let come = HasCome (g.H.Shelf.files c.args.shelf.now) c.args.name.now walk.names.held walk.files in
    let there = subst (λ (f : Option Shelf). HasCome f c.args.name.now walk.names.held walk.files (c.in-Some.user ∷ reverse left)) (sym i.files) (subst come (one_popped left walk.open.items c.in-Some.user c.in-Some.ensures.items) i.stands) in
    work_before left walk.open.items c.in-Some.user _ _ c.in-Some.ensures.items (c.in_ok-step.ensures.falls c.args.name.now there)

pub loop-user-preserved : goal.loop-user-preserved
loop-user-preserved g c =
    let i = c.loop-user.invariant in
    let walk = c.loop-user.walk in
    let left = c.pop.new.self.items in
    let come = HasCome (g.H.Shelf.files c.args.shelf.now) c.args.name.now walk.names.held walk.files in
    let there = subst (λ (f : Option Shelf). HasCome f c.args.name.now walk.names.held walk.files (c.in-Some.user ∷ reverse left)) (sym i.files) (subst come (one_popped left walk.open.items c.in-Some.user c.in-Some.ensures.items) i.stands) in
    record {
      stands = subst (λ (f : Option Shelf). Stands f c.args.name.now c.step.new.self (stack c.step.new.self)) i.files (c.in_ok-step.ensures.answer c.args.name.now there);
      files = c.in_ok-step.ensures.kept ∙ i.files;
      count = ◌∙◌ {b = g.H.Shelf.failures c.loop-user.shelf} c.in_ok-step.ensures.count i.count;
    }

pub returns-in_err-step-clause-answer : goal.returns-in_err-step-clause-answer
returns-in_err-step-clause-answer g c =
    let i = c.loop-user.invariant in
    let walk = c.loop-user.walk in
    let left = c.pop.new.self.items in
    let fault = c.in_err-step.field-0.0 in
    let files = g.H.Shelf.files c.args.shelf.now in
    let come = HasCome files c.args.name.now walk.names.held walk.files in
    let there = subst (λ (f : Option Shelf). HasCome f c.args.name.now walk.names.held walk.files (c.in-Some.user ∷ reverse left)) (sym i.files) (subst come (one_popped left walk.open.items c.in-Some.user c.in-Some.ensures.items) i.stands) in
    fault_passed files c.args.name.now fault c.from_residual-in_err-step.result c.from_residual-in_err-step.ensures.1
    (subst (λ (f : Option Shelf). IsFirst f c.args.name.now fault) i.files (c.in_err-step.ensures.answer c.args.name.now there))

pub returns-clause-answer : goal.returns-clause-answer
returns-clause-answer g c =
    let walk = c.loop-user.walk in
    is_over (g.H.Shelf.files c.args.shelf.now) c.args.name.now walk.names.held walk.files (reverse walk.open.items)
    (none_popped walk.open.items c.pop.new.self.items _ c.in_default.ensures.items c.in_default.ensures.rest c.in_default.ensures.cases.0) c.loop-user.invariant.stands
