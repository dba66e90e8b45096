use Rattle.std.proofs.Common.{◌++◌, map, sym, ap, ◌∙◌}
use Rattle.std.proofs.lemmas.List.{append-nil}
use Rattle.slice_meaning.specs.Numbers.{scope_at}
use Rattle.slice_faults.proofs.Entering.{zero_scope}
use Rattle.slice_faults.proofs.ids.scope_names.Goals as goal

pub returns : goal.returns
returns c =
    let ds = c.args.known.now.names in
    let names = map (λ name. name.now) c.loop-scope.names.items in
    sym (ap (λ s. names ++ s) (ap (scope_at ds) c.loop-scope-test.false ∙ zero_scope ds) ∙ append-nil names) ∙ c.loop-scope.invariant.1
