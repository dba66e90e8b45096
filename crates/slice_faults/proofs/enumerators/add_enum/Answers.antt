use Rattle.std.proofs.Common.{List, ◌++◌, [], ◌∷◌, sym, ap, ◌∙◌, subst}
use Rattle.ice_types.specs.Tables.{Tables}
use Rattle.ice_types.specs.declared.declarations.Entry.{Entry}
use Rattle.slice_faults.specs.Enumerators.{HoldsEntries, AreHeld}
use Rattle.slice_faults.proofs.Beside.{held_more}
use Rattle.slice_faults.proofs.enumerators.add_enum.Goals as goal

pub returns-clause-held : goal.returns-clause-held
returns-clause-held c =
    let sets = c.args.enumerators.now.items in
    let rows = c.args.rows.now in
    let names = c.in_ok-names.names in
    let holds = subst (λ (entries : List Entry). HoldsEntries names entries) c.as_slice.ensures c.in_ok-names.ensures in
    let is = c.put_last.ensures ∙ ap (λ l. l ++ names ∷ []) c.reserve.ensures.items in
    let grown = held_more sets rows names c.args.decl c.requires.held holds in
    subst (λ ss. AreHeld ss c.add_enum.new.self) (sym is)
    (subst (λ (t : Tables). AreHeld (sets ++ names ∷ []) t) (sym c.in_ok-at.ensures.ok.1) grown)
