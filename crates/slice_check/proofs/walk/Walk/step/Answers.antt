use Rattle.std.proofs.Common.{Contains, subst, sym}
use Rattle.slice_meaning.specs.Names.{Name}
use Rattle.slice_check.specs.Answers.{IfText}
use Rattle.slice_check.specs.Opening.{IsNew, BreaksThere}
use Rattle.slice_check.specs.Standing.{HasCome}
use Rattle.slice_check.proofs.Coming.{comes_out, goes_in, stops, not_loaded, included_at, included_past, next_is, two_pushed, first_passed, work_falls}
use Rattle.slice_check.proofs.walk.Walk.step.Goals as goal

pub returns-in_default-clause-answer : goal.returns-in_default-clause-answer
returns-in_default-clause-answer g c = λ file s.
    let seen = c.as_slice-included.result.now in
    let included = c.args.user.tree.included in
    let next = c.next_new-next.result in
    comes_out (g.H.Shelf.files c.args.shelf.now) file c.args.self.now.names.held c.args.self.now.files c.push.new.self c.args.user _ next
    (next_is c.args.self.now.names.held seen included c.args.user.next next c.as_slice-included.ensures c.next_new-next.ensures)
    (included_past seen included next c.as_slice-included.ensures c.in_default.ensures.lookup.3) c.in_ok-push.ensures.names c.in_ok-push.ensures.trees s

pub returns-clause-answer : goal.returns-clause-answer
returns-clause-answer g c = λ file s.
    let files = g.H.Shelf.files c.args.shelf.now in
    let held = c.args.self.now.names.held in
    let seen = c.as_slice-included.result.now in
    let included = c.args.user.tree.included in
    let next = c.next_new-next.result in
    let i = c.in-Some.field-0.now in
    let left = next_is held seen included c.args.user.next next c.as_slice-included.ensures c.next_new-next.ensures in
    let some = included_at seen included next i c.as_slice-included.ensures c.in-Some.ensures.lookup.3.0 c.in-Some.ensures.lookup.1 in
    let fresh = λ (h : Contains s.loaded c.as_str-2.result.now). not_loaded held s.loaded included c.args.user.next next i.0 i.1 left some s.held (subst (Contains s.loaded) c.as_str-2.ensures h) in
    let is : IsNew files s.loaded i.0 c.opened.new.names.held c.in_ok-inner.inner = subst (λ (n : Name). IsNew files s.loaded n c.opened.new.names.held c.in_ok-inner.inner) c.as_str-2.ensures (c.in_ok-inner.ensures.answer s.loaded s.held fresh) in
    subst (HasCome files file c.opened.new.names.held c.args.self.now.files) (sym (two_pushed c.args.self.now.open.items _ _ _ _ c.in_ok-push-2.ensures.items c.in_ok-push-3.ensures.items))
    (goes_in files file held c.opened.new.names.held c.args.self.now.files c.args.user c.in_ok-inner.inner _ next i.0 i.1 left some s is)

pub returns-in_err-inner-clause-answer : goal.returns-in_err-inner-clause-answer
returns-in_err-inner-clause-answer g c = λ file s.
    let files = g.H.Shelf.files c.args.shelf.now in
    let held = c.args.self.now.names.held in
    let seen = c.as_slice-included.result.now in
    let included = c.args.user.tree.included in
    let next = c.next_new-next.result in
    let i = c.in-Some.field-0.now in
    let fault = c.in_err-inner.field-0.0 in
    let left = next_is held seen included c.args.user.next next c.as_slice-included.ensures c.next_new-next.ensures in
    let some = included_at seen included next i c.as_slice-included.ensures c.in-Some.ensures.lookup.3.0 c.in-Some.ensures.lookup.1 in
    let fresh = λ (h : Contains s.loaded c.as_str-2.result.now). not_loaded held s.loaded included c.args.user.next next i.0 i.1 left some s.held (subst (Contains s.loaded) c.as_str-2.ensures h) in
    let breaks : IfText (BreaksThere files s.loaded c.args.user.name i.0 i.1) fault = subst (λ (n : Name). IfText (BreaksThere files s.loaded c.args.user.name n i.1) fault) c.as_str-2.ensures
    (subst (λ (u : Name). IfText (BreaksThere files s.loaded u c.as_str-2.result.now i.1) fault) c.as_str.ensures (c.in_err-inner.ensures.answer s.loaded s.held fresh)) in
    first_passed files file (record { names = c.opened.new.names; files = c.args.self.now.files; «open» = c.args.self.now.open }) fault c.from_residual-in_err-inner.result c.from_residual-in_err-inner.ensures.1 (stops files file held c.args.self.now.files c.args.user _ next i.0 i.1 fault left some s breaks)

pub returns-clause-falls : goal.returns-clause-falls
returns-clause-falls g c = λ file s.
    let held = c.args.self.now.names.held in
    let seen = c.as_slice-included.result.now in
    let included = c.args.user.tree.included in
    let next = c.next_new-next.result in
    let i = c.in-Some.field-0.now in
    let left = next_is held seen included c.args.user.next next c.as_slice-included.ensures c.next_new-next.ensures in
    let some = included_at seen included next i c.as_slice-included.ensures c.in-Some.ensures.lookup.3.0 c.in-Some.ensures.lookup.1 in
    let fresh = λ (h : Contains s.loaded c.as_str-2.result.now). not_loaded held s.loaded included c.args.user.next next i.0 i.1 left some s.held (subst (Contains s.loaded) c.as_str-2.ensures h) in
    let is = c.in_ok-inner.ensures.answer s.loaded s.held fresh in
    work_falls c.args.self.now.open.items _ _ _ _ s.loaded c.as_str-2.result.now _ _ c.in_ok-push-2.ensures.items c.in_ok-push-3.ensures.items s.held.count is.held.count is.few
