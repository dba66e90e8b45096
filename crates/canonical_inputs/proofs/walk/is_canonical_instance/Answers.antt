use Rattle.std.proofs.Common.{rules, arith, ◌≡◌, ℕ, List, ◌++◌, ◌∷◌, [], length, take, Option, refl, ap, ◌∙◌, subst, Vec, Global}
use Rattle.std.specs.Prelude.{slice_get}
use Rattle.std.proofs.lemmas.List.{take_all}
use Rattle.canonical_inputs.specs.declared.frame.Frame.{Frame}
use Rattle.canonical_inputs.specs.Fitting.{deepest, Whole}
use Rattle.canonical_inputs.specs.Frames.{pen_of}
use Rattle.canonical_inputs.proofs.Assembled.{assembled}
use Rattle.canonical_inputs.proofs.Tables.{nat_eq_is}
use Rattle.canonical_inputs.proofs.Walked.{Kept, kept_at_first, same_place, kept_on, kept_in, kept_out, kept_at_last}
use Rattle.canonical_inputs.proofs.walk.is_canonical_instance.Goals as goal
use Rattle.canonical_inputs.proofs.walk.is_canonical_instance.Goals.{in-On, in-Into+else-is_err-2, in-Done+in-Some}

abbrev items_of : Vec Frame Global → List Frame
items_of v = v.items

pub loop-init : goal.loop-init
unfolding deepest
loop-init c =
    let grown : c.push.new.self.items ≡ c.new-needs.result.items ++ c.args.declared ∷ [] = search rules in
    let needs : c.push.new.self.items ≡ c.args.declared ∷ [] = grown ∙ ap (λ (l : List (Option ℕ)). l ++ c.args.declared ∷ []) c.new-needs.ensures.items in
    kept_at_first c.args.schema.now c.args.declared c.args.content.now c.new-below.result.items _ _ c.new-below.ensures.items c.new.ensures.items c.new-2.ensures.items refl needs refl refl refl

pub loop-preserved : goal.loop-preserved
loop-preserved c =
    let t = c.args.schema.now in
    let declared = c.args.declared in
    let content = c.args.content.now in
    let before = c.loop.met in
    let behind = c.pass_next.new.met in
    let old = c.loop.top in
    let new = c.pass_next.new.frame in
    let fs = c.loop.below.items in
    let here = c.match-pass_next in
    elim c.match-pass_next.branch [
      | in-On w ↦ same_place t declared content here.below.items fs here.top new behind here.at w.in-On.next (ap items_of w.below-is) w.top-is w.at-is
          (kept_on t declared content fs old new before behind c.loop.at w.in-On.next c.pass_next.result w.in-On.is c.pass_next.ensures c.loop.invariant)
      | in-Into+else-is_err-2 w ↦ same_place t declared content here.below.items w.push-in-Into.new.self.items here.top w.in-Into.inside behind here.at w.in-Into.next (ap items_of w.below-is) w.top-is w.at-is
          (kept_in t declared content fs w.push-in-Into.new.self.items old new w.in-Into.inside before behind c.loop.at w.in-Into.next c.pass_next.result w.in-Into.is (search rules) c.pass_next.ensures c.loop.invariant)
      | in-Done+in-Some w ↦ same_place t declared content here.below.items w.pop.new.self.items here.top w.in-Some.frame behind here.at c.loop.at (ap items_of w.below-is) w.top-is w.at-is
          (kept_out t declared content fs w.pop.new.self.items old new w.in-Some.frame before behind c.loop.at c.pass_next.result w.in-Done.is w.in-Some.ensures.items c.pass_next.ensures c.loop.invariant)
    ]

pub returns-in-None : goal.returns-in-None
returns-in-None c = λ yes name.
    let t = c.args.schema.now in
    let declared = c.args.declared in
    let content = c.args.content.now in
    let met = c.loop.met in
    let kept : Kept t declared content c.loop.below.items c.loop.top met c.loop.at = c.loop.invariant in
    let whole = kept_at_last t declared content c.loop.below.items c.loop.top c.pass_next.new.frame met c.pass_next.new.met c.loop.at c.pass_next.result (search rules) (search rules) c.pass_next.ensures kept (slice_get met.classes.items) (λ n lt. refl) in
    let all : take c.loop.at content ≡ content = take_all c.loop.at content (omega (arith, nat_eq_is c.loop.at (length content) yes)) in
    assembled t name declared content met.classes.items (pen_of t met) kept.few refl (subst (λ (l : List ℕ). Whole t declared (slice_get met.classes.items) l (pen_of t met)) all whole)
