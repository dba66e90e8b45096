use Rattle.std.proofs.Common.{ℕ, List, Option, MatchOption, sym, ap, subst, ◌∙◌}
use Rattle.std.specs.Prelude.{slice_get}
use Rattle.std.specs.Option.{option_copied}
use Rattle.std.proofs.lemmas.Result.{IfOk-weaker}
use Rattle.ice_types.specs.declared.declarations.ClassDecl.{ClassDecl}
use Rattle.ice_types.specs.Tables.{HasId, class_ids}
use Rattle.slice_compat.specs.declared.verdict.Why.{Why}
use Rattle.slice_compat.specs.Tests.{ClassFails, ClassPasses, ClassReads, Fails}
use Rattle.slice_compat.proofs.Failing.{no_class, no_other, has_row, told}
use Rattle.slice_compat.proofs.Tagged.{own_tags}
use Rattle.slice_compat.proofs.classes.class_fault.Goals as goal

pub returns-in_default-clause-why : goal.returns-in_default-clause-why
returns-in_default-clause-why c = no_class c.args.old.now c.args.new.now c.args.at
    (ap (λ (rows : List ClassDecl). slice_get rows c.args.at) (sym c.classes.ensures) ∙ (sym c.get.ensures ∙ ap option_copied c.in_default.is))

pub returns-in_default-class-clause-why : goal.returns-in_default-class-clause-why
returns-in_default-class-clause-why c = no_other c.args.old.now c.args.new.now c.args.at c.in-Some.own.now
    (ap (λ (rows : List ClassDecl). slice_get rows c.args.at) (sym c.classes.ensures) ∙ (sym c.get.ensures ∙ ap option_copied c.in-Some.is))
    (subst (λ (id : List ℕ). (b : ℕ) → HasId (class_ids c.args.new.now) id b → ⊥) c.as_str.ensures c.in_default-class.ensures)

pub returns-in_default-get-clause-why : goal.returns-in_default-get-clause-why
returns-in_default-get-clause-why c = absurd (has_row c.args.old.now c.args.new.now c.args.at c.in-Some.own.now
    (ap (λ (rows : List ClassDecl). slice_get rows c.args.at) (sym c.classes.ensures) ∙ (sym c.get.ensures ∙ ap option_copied c.in-Some.is))
    c.in-Some-class.place (subst (λ (id : List ℕ). HasId (class_ids c.args.new.now) id c.in-Some-class.place) c.as_str.ensures c.in-Some-class.ensures)
    (ap (λ (rows : List ClassDecl). slice_get rows c.in-Some-class.place) (sym c.classes-2.ensures) ∙ (sym c.get-2.ensures ∙ ap option_copied c.in_default-get.is)))

pub returns-clause-why : goal.returns-clause-why
returns-clause-why c =
    let old = c.args.old.now in
    let new = c.args.new.now in
    let own = c.in-Some.own.now in
    let decl = c.in-Some-get.decl.now in
    IfOk-weaker c.fault_of.result (λ (why : Option Why). MatchOption why (ClassReads old new own decl) (Fails old new own decl))
    (λ (why : Option Why). MatchOption why (ClassPasses old new c.args.at) (ClassFails old new c.args.at))
    (told old new c.args.at own (ap (λ (rows : List ClassDecl). slice_get rows c.args.at) (sym c.classes.ensures) ∙ (sym c.get.ensures ∙ ap option_copied c.in-Some.is))
    c.in-Some-class.place (subst (λ (id : List ℕ). HasId (class_ids new) id c.in-Some-class.place) c.as_str.ensures c.in-Some-class.ensures)
    decl (ap (λ (rows : List ClassDecl). slice_get rows c.in-Some-class.place) (sym c.classes-2.ensures) ∙ (sym c.get-2.ensures ∙ ap option_copied c.in-Some-get.is)))
    c.fault_of.ensures.why

pub fault_of-requires-clause-tags : goal.fault_of-requires-clause-tags
fault_of-requires-clause-tags c =
    let decl = c.in-Some-get.decl.now in
    own_tags c.args.new.now decl.base decl.members (c.rules.ensures.classes c.in-Some-class.place decl
    (ap (λ (rows : List ClassDecl). slice_get rows c.in-Some-class.place) (sym c.classes-2.ensures) ∙ (sym c.get-2.ensures ∙ ap option_copied c.in-Some-get.is)))
