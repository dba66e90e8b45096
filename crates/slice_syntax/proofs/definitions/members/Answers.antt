use Rattle.std.proofs.Common.{true, sym, ap, ◌∙◌, [], ◌∷◌, ◌++◌, append_assoc}
use Rattle.slice_syntax.specs.Reading.{read}
use Rattle.slice_syntax.specs.Rules.{member, members}
use Rattle.slice_syntax.proofs.Exits.{err_takes}
use Rattle.slice_syntax.proofs.Fits.{fits_members}
use Rattle.slice_syntax.proofs.Starts.{starts_member, begun, not_begun}
use Rattle.slice_syntax.proofs.Nesting.{append_none}
use Rattle.slice_syntax.proofs.Series.{gather_more, gather_err, gather_end, rows_less}
use Rattle.slice_syntax.proofs.definitions.members.Goals as goal

pub loop-alloc-smaller : goal.loop-alloc-smaller
loop-alloc-smaller c =
    rows_less (λ x. true) member fits_members c.loop-alloc.cursor c.member.new.cursor c.in_ok-member.field-0 (begun member _ c.loop-alloc.cursor starts_member (sym c.begins.ensures ∙ c.loop-alloc-test.true)) c.in_ok-member.ensures

pub loop-alloc-preserved : goal.loop-alloc-preserved
loop-alloc-preserved c =
    gather_more (λ x. true) member fits_members (λ ys. c.loop-alloc.fields ++ ys) (λ ys. c.push.new.self ++ ys) c.loop-alloc.cursor c.member.new.cursor c.in_ok-member.field-0
    (λ ys. ap (λ z. z ++ ys) c.in_ok-push.ensures.ok ∙ append_assoc c.loop-alloc.fields (c.in_ok-member.field-0 ∷ []) ys)
    (begun member _ c.loop-alloc.cursor starts_member (sym c.begins.ensures ∙ c.loop-alloc-test.true)) c.in_ok-member.ensures ∙ c.loop-alloc.invariant

pub returns-in_err-member : goal.returns-in_err-member
returns-in_err-member c =
    err_takes (λ x. x) c.in_err-member.field-0.0 c.from_residual.result c.member.new.cursor (read member c.loop-alloc.cursor) (read members c.args.cursor.now) c.from_residual.ensures.1 c.in_err-member.ensures
    (λ left e. sym c.loop-alloc.invariant ∙ gather_err (λ x. true) member fits_members (λ ys. c.loop-alloc.fields ++ ys) c.loop-alloc.cursor left
    (begun member _ c.loop-alloc.cursor starts_member (sym c.begins.ensures ∙ c.loop-alloc-test.true)) e)

pub returns : goal.returns
returns c =
    sym c.loop-alloc.invariant ∙ gather_end (λ x. true) member fits_members (λ ys. c.loop-alloc.fields ++ ys) c.loop-alloc.fields c.loop-alloc.cursor (append_none c.loop-alloc.fields)
    (not_begun member _ c.loop-alloc.cursor starts_member (sym c.begins.ensures ∙ c.loop-alloc-test.false))
