use Rattle.std.proofs.Common.{add-one, ap, sym, option_copied, ◌∙◌}
use Rattle.ice_values.proofs.Frames.{drop-found}
use Rattle.ice_values.proofs.left.Left.split.Goals as goal

pub returns-in_ok-member-in-Members : goal.returns-in_ok-member-in-Members
returns-in_ok-member-in-Members c =
    rw (c.in-Members.is, add-one, sym c.structs.ensures) (rw (sym c.get.ensures, c.in_ok-decl-in-Members.was) (drop-found c.in_ok-decl-in-Members.decl.now.members c.in-Members.next c.in_ok-member-in-Members.member.now (sym c.get-in-Members.ensures ∙ ap (λ x. option_copied x) c.in_ok-member-in-Members.was)))
