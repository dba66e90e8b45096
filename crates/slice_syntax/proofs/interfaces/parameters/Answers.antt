use Rattle.std.proofs.Common.{Ok, [], sym, ap, subst, ◌∙◌, List}
use Rattle.slice_syntax.specs.Grammar.{nothing}
use Rattle.slice_syntax.specs.Reading.{Reading}
use Rattle.slice_syntax.specs.Taking.{Takes}
use Rattle.slice_syntax.specs.Rules.{parameter_list, parameters}
use Rattle.slice_syntax.specs.declared.tree.Param.{Param}
use Rattle.slice_syntax.proofs.Starts.{starts_parameter_list, or_first, or_second}
use Rattle.slice_syntax.proofs.interfaces.parameters.Goals as goal

pub returns-then-begins : goal.returns-then-begins
unfolding parameters
returns-then-begins c =
    subst (λ (r : Reading (List Param)). Takes (λ x. x) c.parameter_list.result c.parameter_list.new.cursor r)
    (sym (or_first parameter_list (nothing []) _ c.args.cursor.now starts_parameter_list (sym c.begins.ensures ∙ c.if-begins.true))) c.parameter_list.ensures

pub returns-else-begins : goal.returns-else-begins
unfolding parameters
returns-else-begins c = or_second parameter_list (nothing []) _ c.args.cursor.now starts_parameter_list (sym c.begins.ensures ∙ c.if-begins.false) ∙ ap (λ (ps : List Param). held c ps) (sym c.new.ensures) where
  held : goal.After-new → List Param → Reading (List Param)
  held d ps = Ok (ps, d.args.cursor.now)
