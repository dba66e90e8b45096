use Rattle.std.proofs.Common.{ℕ, ◌≡◌, true, false, List, Option, length, sym, subst, ◌∙◌}
use Rattle.std.proofs.lemmas.Option.{MatchOption-at_some, MatchOption-at_none}
use Rattle.ice_types.specs.declared.declarations.Member.{Member}
use Rattle.slice_compat.specs.Tagged.{HaveOwnTags}
use Rattle.slice_compat.specs.Tests.{FirstUnread, IsLeastUnread, ReadsEach}
use Rattle.slice_compat.proofs.Failing.{members_fail, required_fails, optional_fails, members_read}
use Rattle.slice_compat.proofs.classes.members_fault.Goals as goal

pub returns-then-not-are_as_many-clause-why : goal.returns-then-not-are_as_many-clause-why
returns-then-not-are_as_many-clause-why c =
    members_fail c.args.old.now c.args.new.now c.args.own.now c.args.decl.now c.requires.base c.requires.compact c.as_slice-members.result.now c.as_slice-others.result.now
    c.as_slice-members.ensures c.as_slice-others.ensures c.as_slice-kinds.result.now c.as_slice-other_kinds.result.now
    (c.as_slice-kinds.ensures.value ∙ c.in_ok-required.ensures) (c.as_slice-other_kinds.ensures.value ∙ c.in_ok-wanted.ensures)
    (λ same. let both : true ≡ false = sym (c.are_as_many.ensures.1 same) ∙ c.if-not-are_as_many.true in cc)

pub returns-in-Some-clause-why : goal.returns-in-Some-clause-why
returns-in-Some-clause-why c =
    required_fails c.args.old.now c.args.new.now c.args.own.now c.args.decl.now c.requires.base c.requires.compact c.as_slice-members.result.now c.as_slice-others.result.now
    c.as_slice-members.ensures c.as_slice-others.ensures c.as_slice-kinds.result.now c.as_slice-other_kinds.result.now
    (c.as_slice-kinds.ensures.value ∙ c.in_ok-required.ensures) (c.as_slice-other_kinds.ensures.value ∙ c.in_ok-wanted.ensures)
    (c.are_as_many.ensures.0 c.if-not-are_as_many.false) c.in-Some.place
    (MatchOption-at_some (ReadsEach c.args.old.now c.args.new.now c.as_slice-kinds.result.now c.as_slice-other_kinds.result.now)
    (FirstUnread c.args.old.now c.args.new.now c.as_slice-kinds.result.now c.as_slice-other_kinds.result.now) c.in-Some.place c.in-Some.is c.in_ok-unread.ensures.place)

pub returns-in-Some-least-clause-why : goal.returns-in-Some-least-clause-why
returns-in-Some-least-clause-why c =
    optional_fails c.args.old.now c.args.new.now c.args.own.now c.args.decl.now c.requires.base c.requires.compact c.as_slice-members.result.now c.as_slice-others.result.now
    c.as_slice-members.ensures c.as_slice-others.ensures c.as_slice-kinds.result.now c.as_slice-other_kinds.result.now
    (c.as_slice-kinds.ensures.value ∙ c.in_ok-required.ensures) (c.as_slice-other_kinds.ensures.value ∙ c.in_ok-wanted.ensures)
    (c.are_as_many.ensures.0 c.if-not-are_as_many.false)
    (MatchOption-at_none (ReadsEach c.args.old.now c.args.new.now c.as_slice-kinds.result.now c.as_slice-other_kinds.result.now)
    (FirstUnread c.args.old.now c.args.new.now c.as_slice-kinds.result.now c.as_slice-other_kinds.result.now) c.in_default.is c.in_ok-unread.ensures.place)
    c.in-Some-least.tag
    (subst (λ (least : Option ℕ). IsLeastUnread c.args.old.now c.args.new.now (length c.as_slice-members.result.now) c.as_slice-members.result.now c.as_slice-others.result.now least)
    c.in-Some-least.is c.in_ok-least.ensures.least)

pub returns-clause-why : goal.returns-clause-why
returns-clause-why c =
    members_read c.args.old.now c.args.new.now c.args.own.now c.args.decl.now c.requires.base c.requires.compact c.as_slice-members.result.now c.as_slice-others.result.now
    c.as_slice-members.ensures c.as_slice-others.ensures c.as_slice-kinds.result.now c.as_slice-other_kinds.result.now
    (c.as_slice-kinds.ensures.value ∙ c.in_ok-required.ensures) (c.as_slice-other_kinds.ensures.value ∙ c.in_ok-wanted.ensures)
    (c.are_as_many.ensures.0 c.if-not-are_as_many.false)
    (MatchOption-at_none (ReadsEach c.args.old.now c.args.new.now c.as_slice-kinds.result.now c.as_slice-other_kinds.result.now)
    (FirstUnread c.args.old.now c.args.new.now c.as_slice-kinds.result.now c.as_slice-other_kinds.result.now) c.in_default.is c.in_ok-unread.ensures.place)
    (subst (λ (least : Option ℕ). IsLeastUnread c.args.old.now c.args.new.now (length c.as_slice-members.result.now) c.as_slice-members.result.now c.as_slice-others.result.now least)
    c.in-None.is c.in_ok-least.ensures.least)

pub least_unread-requires-clause-tags : goal.least_unread-requires-clause-tags
least_unread-requires-clause-tags c = subst (λ (ms : List Member). HaveOwnTags ms) (sym c.as_slice-others.ensures) c.requires.tags
