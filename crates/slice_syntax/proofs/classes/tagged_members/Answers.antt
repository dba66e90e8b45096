use Rattle.std.proofs.Common.{true, sym, ap, ◌∙◌, [], ◌∷◌, ◌++◌, append_assoc}
use Rattle.slice_syntax.specs.Reading.{read}
use Rattle.slice_syntax.specs.Rules.{tagged_member, tagged_members}
use Rattle.slice_syntax.proofs.Exits.{err_takes}
use Rattle.slice_syntax.proofs.Fits.{fits_tagged_members}
use Rattle.slice_syntax.proofs.Starts.{starts_tagged_member, begun, not_begun}
use Rattle.slice_syntax.proofs.Nesting.{append_none}
use Rattle.slice_syntax.proofs.Series.{gather_more, gather_err, gather_end, rows_less}
use Rattle.slice_syntax.proofs.classes.tagged_members.Goals as goal

pub loop-alloc-smaller : goal.loop-alloc-smaller
loop-alloc-smaller c =
    rows_less (λ x. true) tagged_member fits_tagged_members c.loop-alloc.cursor c.tagged_member.new.cursor c.in_ok-tagged_member.field-0 (begun tagged_member _ c.loop-alloc.cursor starts_tagged_member (sym c.begins.ensures ∙ c.loop-alloc-test.true)) c.in_ok-tagged_member.ensures

pub loop-alloc-preserved : goal.loop-alloc-preserved
loop-alloc-preserved c =
    gather_more (λ x. true) tagged_member fits_tagged_members (λ ys. c.loop-alloc.fields ++ ys) (λ ys. c.push.new.self ++ ys) c.loop-alloc.cursor c.tagged_member.new.cursor c.in_ok-tagged_member.field-0
    (λ ys. ap (λ z. z ++ ys) c.in_ok-push.ensures.ok ∙ append_assoc c.loop-alloc.fields (c.in_ok-tagged_member.field-0 ∷ []) ys)
    (begun tagged_member _ c.loop-alloc.cursor starts_tagged_member (sym c.begins.ensures ∙ c.loop-alloc-test.true)) c.in_ok-tagged_member.ensures ∙ c.loop-alloc.invariant

pub returns-in_err-tagged_member : goal.returns-in_err-tagged_member
returns-in_err-tagged_member c =
    err_takes (λ x. x) c.in_err-tagged_member.field-0.0 c.from_residual.result c.tagged_member.new.cursor (read tagged_member c.loop-alloc.cursor) (read tagged_members c.args.cursor.now) c.from_residual.ensures.1 c.in_err-tagged_member.ensures
    (λ left e. sym c.loop-alloc.invariant ∙ gather_err (λ x. true) tagged_member fits_tagged_members (λ ys. c.loop-alloc.fields ++ ys) c.loop-alloc.cursor left
    (begun tagged_member _ c.loop-alloc.cursor starts_tagged_member (sym c.begins.ensures ∙ c.loop-alloc-test.true)) e)

pub returns : goal.returns
returns c =
    sym c.loop-alloc.invariant ∙ gather_end (λ x. true) tagged_member fits_tagged_members (λ ys. c.loop-alloc.fields ++ ys) c.loop-alloc.fields c.loop-alloc.cursor (append_none c.loop-alloc.fields)
    (not_begun tagged_member _ c.loop-alloc.cursor starts_tagged_member (sym c.begins.ensures ∙ c.loop-alloc-test.false))
