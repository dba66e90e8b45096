use Rattle.std.proofs.Common.{List, sym, ap, ◌∙◌}
use Rattle.std.specs.Prelude.{slice_get}
use Rattle.std.specs.Option.{option_copied}
use Rattle.std.proofs.lemmas.Result.{on_ok_weaker}
use Rattle.ice_types.specs.declared.declarations.DictDecl.{DictDecl}
use Rattle.slice_compat.proofs.Stepping.{dict_met, no_dict}
use Rattle.slice_compat.proofs.reached.spread_dict.Goals as goal

pub returns-in_default : goal.returns-in_default
returns-in_default c = no_dict c.args.schema.now c.args.at c.args.marks.now
    (ap (λ (rows : List DictDecl). slice_get rows c.args.at) (sym c.dicts.ensures) ∙ (sym c.get.ensures ∙ ap option_copied c.in_default.is))

pub returns : goal.returns
returns c = on_ok_weaker c.meet_kind.result
    (λ met. dict_met c.args.schema.now c.args.at c.in-Some.decl.now c.args.marks.now c.meet_kind.new.self
    (ap (λ (rows : List DictDecl). slice_get rows c.args.at) (sym c.dicts.ensures) ∙ (sym c.get.ensures ∙ ap option_copied c.in-Some.is)) met)
    c.meet_kind.ensures
