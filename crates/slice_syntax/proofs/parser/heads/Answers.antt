use Rattle.std.proofs.Common.{ℕ, true, List, [], ◌∷◌, ◌++◌, refl, sym, ap, ◌∙◌}
use Rattle.slice_syntax.specs.Reading.{read}
use Rattle.slice_syntax.specs.Files.{Head, directive, directives, is_guarded, includes_in}
use Rattle.slice_syntax.proofs.Exits.{err_with, gathered, gathered_err}
use Rattle.slice_syntax.proofs.Starts.{begun, not_begun}
use Rattle.slice_syntax.proofs.Series.{gather_more, gather_err, gather_end, rows_less}
use Rattle.slice_syntax.proofs.Guards.{Told, told, told_more, told_none, still, now_so, fits_heads, starts_directive}
use Rattle.slice_syntax.proofs.parser.heads.Goals as goal

abbrev all : List (List ℕ × ℕ) → List Head → Told
all included hs = (is_guarded hs, included ++ includes_in hs)

pub loop-alloc-init : goal.loop-alloc-init
unfolding directives
loop-alloc-init c = refl

pub loop-alloc-smaller-then-guarded : goal.loop-alloc-smaller-then-guarded
loop-alloc-smaller-then-guarded c =
    let held = c.in_ok-guards.ensures in
    rows_less (λ x. true) directive fits_heads c.loop-alloc.cursor c.head.new.cursor held.0 (begun directive _ c.loop-alloc.cursor starts_directive (sym c.begins.ensures ∙ c.loop-alloc-test.true)) held.1

pub loop-alloc-preserved-then-guarded : goal.loop-alloc-preserved-then-guarded
loop-alloc-preserved-then-guarded c =
    let held = c.in_ok-guards.ensures in
    gather_more (λ x. true) directive fits_heads (told c.loop-alloc.guarded c.loop-alloc.included) (told c.loop-alloc.guarded c.head.new.included) c.loop-alloc.cursor c.head.new.cursor held.0
    (λ hs. told_more c.loop-alloc.guarded c.loop-alloc.guarded c.loop-alloc.included c.head.new.included held.0 hs (still c.loop-alloc.guarded (is_guarded (held.0 ∷ [])) c.if-guarded.true) held.2.1)
    (begun directive _ c.loop-alloc.cursor starts_directive (sym c.begins.ensures ∙ c.loop-alloc-test.true)) held.1 ∙ c.loop-alloc.invariant

pub loop-alloc-smaller : goal.loop-alloc-smaller
loop-alloc-smaller c =
    let held = c.in_ok-guards.ensures in
    rows_less (λ x. true) directive fits_heads c.loop-alloc.cursor c.head.new.cursor held.0 (begun directive _ c.loop-alloc.cursor starts_directive (sym c.begins.ensures ∙ c.loop-alloc-test.true)) held.1

pub loop-alloc-preserved : goal.loop-alloc-preserved
loop-alloc-preserved c =
    let held = c.in_ok-guards.ensures in
    gather_more (λ x. true) directive fits_heads (told c.loop-alloc.guarded c.loop-alloc.included) (told c.in_ok-guards.guards c.head.new.included) c.loop-alloc.cursor c.head.new.cursor held.0
    (λ hs. told_more c.loop-alloc.guarded c.in_ok-guards.guards c.loop-alloc.included c.head.new.included held.0 hs (now_so c.loop-alloc.guarded (is_guarded (held.0 ∷ [])) c.in_ok-guards.guards c.if-guarded.false held.2.0) held.2.1)
    (begun directive _ c.loop-alloc.cursor starts_directive (sym c.begins.ensures ∙ c.loop-alloc-test.true)) held.1 ∙ c.loop-alloc.invariant

pub returns-in_err-guards : goal.returns-in_err-guards
returns-in_err-guards c =
    err_with _ c.in_err-guards.field-0.0 c.from_residual.result c.head.new.cursor (read directive c.loop-alloc.cursor) (read directives c.args.cursor.now) c.from_residual.ensures.1 c.in_err-guards.ensures
    (λ left e. gathered_err (all c.args.included.now) (read directives c.args.cursor.now) left
    (sym c.loop-alloc.invariant ∙ gather_err (λ x. true) directive fits_heads (told c.loop-alloc.guarded c.loop-alloc.included) c.loop-alloc.cursor left
    (begun directive _ c.loop-alloc.cursor starts_directive (sym c.begins.ensures ∙ c.loop-alloc-test.true)) e))

pub returns : goal.returns
returns c =
    let held = gathered (all c.args.included.now) (read directives c.args.cursor.now) (c.loop-alloc.guarded, c.loop-alloc.included) c.loop-alloc.cursor
    (sym c.loop-alloc.invariant ∙ gather_end (λ x. true) directive fits_heads (told c.loop-alloc.guarded c.loop-alloc.included) (c.loop-alloc.guarded, c.loop-alloc.included) c.loop-alloc.cursor (told_none c.loop-alloc.guarded c.loop-alloc.included)
    (not_begun directive _ c.loop-alloc.cursor starts_directive (sym c.begins.ensures ∙ c.loop-alloc-test.false))) in
    (held.0, held.1, (sym (ap (λ (t : Told). t.0) held.2), sym (ap (λ (t : Told). t.1) held.2)))
