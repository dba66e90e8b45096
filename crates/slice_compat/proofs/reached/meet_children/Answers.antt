use Rattle.std.proofs.Common.{ℕ, ◌<◌, Option, List, sym, ap, ◌∙◌, subst}
use Rattle.slice_compat.specs.Children.{link_at}
use Rattle.slice_compat.specs.Marks.{Spreads}
use Rattle.slice_compat.proofs.Linked.{nearer, still}
use Rattle.slice_compat.proofs.Meeting.{IsRest, VisitedOf, whole_rest, none_visited, rest_next, visited_more, all_visited}
use Rattle.slice_compat.proofs.Reaching.{class_within}
use Rattle.slice_compat.proofs.reached.meet_children.Goals as goal

pub loop-link-init : goal.loop-link-init
loop-link-init c =
    let next = c.args.children.now.next.items in
    let start = link_at c.args.children.now.first.items c.args.base in
    let is = c.link_of-link.ensures ∙ ap (λ (links : List (Option ℕ)). link_at links c.args.base) c.as_slice.ensures.value in
    record {
      rest = subst (λ (link : Option ℕ). IsRest next start link) (sym is) (whole_rest next c.requires.falls start);
      met = subst (λ (link : Option ℕ). Spreads (VisitedOf next start link) c.args.marks.now c.args.marks.now) (sym is) (none_visited next c.requires.falls start c.args.marks.now);
    }

pub loop-link-smaller : goal.loop-link-smaller
loop-link-smaller c =
    let next = c.args.children.now.next.items in
    let is = c.link_of-link-in-Some.ensures ∙ ap (λ (links : List (Option ℕ)). link_at links c.in-Some.class) c.as_slice-in-Some.ensures.value in
    subst (λ (link : Option ℕ). still c.link_of-link-in-Some.result < still link) (sym c.in-Some.is) (nearer next c.requires.falls c.in-Some.class c.link_of-link-in-Some.result is)

pub loop-link-preserved : goal.loop-link-preserved
loop-link-preserved c =
    let next = c.args.children.now.next.items in
    let start = link_at c.args.children.now.first.items c.args.base in
    let is = c.link_of-link-in-Some.ensures ∙ ap (λ (links : List (Option ℕ)). link_at links c.in-Some.class) c.as_slice-in-Some.ensures.value in
    let here = subst (λ (link : Option ℕ). IsRest next start link) c.in-Some.is c.loop-link.invariant.rest in
    let before = subst (λ (link : Option ℕ). Spreads (VisitedOf next start link) c.args.marks.now c.loop-link.marks) c.in-Some.is c.loop-link.invariant.met in
    record {
      rest = subst (λ (link : Option ℕ). IsRest next start link) (sym is) (rest_next next c.requires.falls start c.in-Some.class here);
      met = subst (λ (link : Option ℕ). Spreads (VisitedOf next start link) c.args.marks.now c.meet.new.self) (sym is)
          (visited_more next c.requires.falls start c.in-Some.class here c.args.marks.now c.loop-link.marks c.meet.new.self before c.in_ok-meet.ensures);
    }

pub returns : goal.returns
returns c =
    let next = c.args.children.now.next.items in
    let start = link_at c.args.children.now.first.items c.args.base in
    all_visited c.args.schema.now c.args.children.now.first.items next c.requires c.args.base (λ class e. class_within c.args.schema.now class c.args.base e) c.args.marks.now c.loop-link.marks
    (subst (λ (link : Option ℕ). Spreads (VisitedOf next start link) c.args.marks.now c.loop-link.marks) c.in_default.is c.loop-link.invariant.met)
