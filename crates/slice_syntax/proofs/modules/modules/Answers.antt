use Rattle.std.proofs.Common.{◌≡◌, ℕ, ◌-◌, List, [], ◌∷◌, ◌++◌, length, reverse, take, sym, ap, ◌∙◌}
use Rattle.slice_syntax.specs.Grammar.{◌▸◌}
use Rattle.slice_syntax.specs.Reading.{read}
use Rattle.slice_syntax.specs.Rules.{metadata}
use Rattle.slice_syntax.specs.Files.{head}
use Rattle.slice_syntax.specs.Moving.{Open, enter, outer_move, inner_move, modules_at, resume}
use Rattle.slice_syntax.proofs.Exits.{err_takes}
use Rattle.slice_syntax.proofs.Starts.{begun, not_begun}
use Rattle.slice_syntax.proofs.Nesting.{append_none}
use Rattle.slice_syntax.proofs.Moves.{starts_outer, inner_begun, moves_less, resume_more, resume_err, resume_stop, resume_end, outer_read, outer_stop, reverse_pushed}
use Rattle.slice_syntax.proofs.modules.modules.Goals as goal

none_left : (all left : List ℕ) (size : ℕ) → all ≡ left ++ [] → left ≡ take (size - 1) all → size ≡ 0 → all ≡ []
none_left all left size is cut none = is ∙ append_none left ∙ cut ∙ ap (λ (n : ℕ). take (n - 1) all) none

none_popped : (all left : List ℕ) (size : ℕ) → left ≡ take (size - 1) all → size ≡ 0 → left ≡ []
none_popped all left size cut none = cut ∙ ap (λ (n : ℕ). take (n - 1) all) none

pub loop-names-smaller-in_ok-inner_move-in-Some : goal.loop-names-smaller-in_ok-inner_move-in-Some
loop-names-smaller-in_ok-inner_move-in-Some c =
    let held = c.in_ok-inner_move-in-Some.ensures in
    moves_less (c.in-Some.names ∷ reverse c.pop.new.self.items) c.loop-names.cursor c.inner_move.new.cursor held.0 (inner_begun c.loop-names.cursor c.inner_move.new.cursor held.0 held.1) held.1

pub loop-names-preserved-in_ok-inner_move-in-Some : goal.loop-names-preserved-in_ok-inner_move-in-Some
loop-names-preserved-in_ok-inner_move-in-Some c =
    let held = c.in_ok-inner_move-in-Some.ensures in
    let stack = reverse_pushed c.pop.new.self.items c.loop-names.open_modules.items c.in-Some.names c.in-Some.ensures.items in
    resume_more c.loop-names.items c.inner_move.new.items (c.in-Some.names ∷ reverse c.pop.new.self.items) (reverse c.inner_move.new.around.items) c.loop-names.cursor c.inner_move.new.cursor held.0 (modules_at c.args.cursor.now)
    (inner_begun c.loop-names.cursor c.inner_move.new.cursor held.0 held.1) held.1 held.2.1 held.2.0 (ap (λ (o : Open). resume c.loop-names.items o c.loop-names.cursor) (sym stack) ∙ c.loop-names.invariant)

pub returns-in_err-inner_move-in-Some : goal.returns-in_err-inner_move-in-Some
returns-in_err-inner_move-in-Some c =
    let stack = reverse_pushed c.pop.new.self.items c.loop-names.open_modules.items c.in-Some.names c.in-Some.ensures.items in
    err_takes (λ x. x) c.in_err-inner_move-in-Some.field-0.0 c.from_residual.result c.inner_move.new.cursor (read inner_move c.loop-names.cursor) (modules_at c.args.cursor.now) c.from_residual.ensures.1 c.in_err-inner_move-in-Some.ensures
    (λ left e. sym (ap (λ (o : Open). resume c.loop-names.items o c.loop-names.cursor) (sym stack) ∙ c.loop-names.invariant) ∙ resume_stop c.loop-names.items c.in-Some.names (reverse c.pop.new.self.items) c.loop-names.cursor left e)

pub returns-then-not-begins : goal.returns-then-not-begins
returns-then-not-begins c =
    let stack = ap reverse (none_left c.loop-names.open_modules.items c.pop.new.self.items _ c.in-None.ensures.items c.in-None.ensures.rest c.in-None.ensures.cases.0) in
    sym (ap (λ (o : Open). resume c.loop-names.items o c.loop-names.cursor) (sym stack) ∙ c.loop-names.invariant)
    ∙ resume_end c.loop-names.items c.loop-names.cursor (not_begun outer_move _ c.loop-names.cursor starts_outer (sym c.begins.ensures ∙ c.if-not-begins.true))

pub returns-in_err-outer_move-in-None : goal.returns-in_err-outer_move-in-None
returns-in_err-outer_move-in-None c =
    let stack = ap reverse (none_left c.loop-names.open_modules.items c.pop.new.self.items _ c.in-None.ensures.items c.in-None.ensures.rest c.in-None.ensures.cases.0) in
    err_takes (λ x. x) c.in_err-outer_move-in-None.field-0.0 c.from_residual-in_err-outer_move-in-None.result c.outer_move.new.cursor (read (metadata ▸ head) c.loop-names.cursor) (modules_at c.args.cursor.now)
    c.from_residual-in_err-outer_move-in-None.ensures.1 c.in_err-outer_move-in-None.ensures
    (λ left e. sym (ap (λ (o : Open). resume c.loop-names.items o c.loop-names.cursor) (sym stack) ∙ c.loop-names.invariant)
    ∙ resume_err c.loop-names.items [] c.loop-names.cursor left (begun outer_move _ c.loop-names.cursor starts_outer (sym c.begins.ensures ∙ c.if-not-begins.false)) (outer_stop c.loop-names.cursor left e))

pub loop-names-smaller : goal.loop-names-smaller
loop-names-smaller c =
    let held = c.in_ok-outer_move-in-None.ensures in
    moves_less [] c.loop-names.cursor c.outer_move.new.cursor (enter held.0) (begun outer_move _ c.loop-names.cursor starts_outer (sym c.begins.ensures ∙ c.if-not-begins.false)) (outer_read c.loop-names.cursor c.outer_move.new.cursor held.0 held.1)

pub loop-names-preserved : goal.loop-names-preserved
loop-names-preserved c =
    let held = c.in_ok-outer_move-in-None.ensures in
    let stack = ap reverse (none_left c.loop-names.open_modules.items c.pop.new.self.items _ c.in-None.ensures.items c.in-None.ensures.rest c.in-None.ensures.cases.0) in
    resume_more c.loop-names.items c.outer_move.new.items [] (reverse c.push.new.self.items) c.loop-names.cursor c.outer_move.new.cursor (enter held.0) (modules_at c.args.cursor.now)
    (begun outer_move _ c.loop-names.cursor starts_outer (sym c.begins.ensures ∙ c.if-not-begins.false)) (outer_read c.loop-names.cursor c.outer_move.new.cursor held.0 held.1) held.2.1
    (reverse_pushed c.pop.new.self.items c.push.new.self.items c.in_ok-outer_move-in-None.field-0 c.in_ok-push-in-None.ensures.items
    ∙ ap (λ (n : ℕ). n ∷ reverse c.pop.new.self.items) held.2.0 ∙ ap (λ (ns : List ℕ). length held.0 ∷ reverse ns) (none_popped c.loop-names.open_modules.items c.pop.new.self.items _ c.in-None.ensures.rest c.in-None.ensures.cases.0))
    (ap (λ (o : Open). resume c.loop-names.items o c.loop-names.cursor) (sym stack) ∙ c.loop-names.invariant)
