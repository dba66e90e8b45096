use Rattle.std.proofs.Common.{List, sym, ap, subst, ◌∙◌}
use Rattle.std.specs.Prelude.{slice_get}
use Rattle.std.specs.Option.{option_copied}
use Rattle.std.proofs.lemmas.Result.{on_ok_weaker}
use Rattle.ice_types.specs.declared.declarations.ClassDecl.{ClassDecl}
use Rattle.ice_types.specs.declared.declarations.Member.{Member}
use Rattle.slice_compat.specs.Marks.{Spreads}
use Rattle.slice_compat.specs.Nodes.{AmongMembers}
use Rattle.slice_compat.proofs.Stepping.{class_met, no_class_row}
use Rattle.slice_compat.proofs.reached.spread_class.Goals as goal

pub returns-in_default : goal.returns-in_default
returns-in_default c = no_class_row c.args.schema.now c.args.at c.args.marks.now
    (ap (λ (rows : List ClassDecl). slice_get rows c.args.at) (sym c.classes.ensures) ∙ (sym c.get.ensures ∙ ap option_copied c.in_default.is))

pub returns : goal.returns
returns c = on_ok_weaker c.meet_members.result
    (λ met. class_met c.args.schema.now c.args.at c.in-Some.decl.now c.args.marks.now c.meet_base.new.marks c.meet_members.new.self
    (ap (λ (rows : List ClassDecl). slice_get rows c.args.at) (sym c.classes.ensures) ∙ (sym c.get.ensures ∙ ap option_copied c.in-Some.is)) c.in_ok-meet_base.ensures
    (subst (λ (members : List Member). Spreads (AmongMembers members) c.meet_base.new.marks c.meet_members.new.self) c.as_slice.ensures met))
    c.meet_members.ensures
