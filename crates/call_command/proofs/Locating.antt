-- The results of a locator's operation.
use Rattle.std.proofs.Common.{◌≡◌, ℕ, None, Some, Result, Vec, refl, sym, ap, subst, ◌∙◌, codes}
use Rattle.std.specs.declared.alloc.Global.{Global}
use Rattle.std.proofs.lemmas.Option.{same_Some}
use Rattle.ice_types.specs.declared.declarations.OpDecl.{OpDecl}
use Rattle.ice_types.specs.declared.declarations.Shape.{Shape}
use Rattle.ice_types.specs.Tables.{Tables}
use Rattle.ice_types.specs.Fits.{ShapeFits}
use Rattle.ice_types.specs.Inherited.{first_named, operations}
use Rattle.ice_types.specs.Rules.{IsSchema}
use Rattle.ice_client.specs.declared.outcome.Outcome.{Outcome}
use Rattle.locator_types.specs.Locator.{find_object, locator_tables}
use Rattle.call_command.specs.declared.stop.Stop.{Stop}
use Rattle.call_command.specs.Planning.{of_locator}
use Rattle.call_command.specs.Steps.{TellsOutcome}
use Rattle.call_command.proofs.Declared.{op_fits}

there : first_named (codes "findObjectById") (operations locator_tables.interfaces 0) ≡ Some find_object
there = refl

module _ (t : Tables) (is : t ≡ locator_tables) where
  found_there : first_named (codes "findObjectById") (operations t.interfaces 0) ≡ Some find_object
  found_there = ap (λ (x : Tables). first_named (codes "findObjectById") (operations x.interfaces 0)) is ∙ there

  pub never_missing : None ≡ first_named (codes "findObjectById") (operations t.interfaces 0) → ⊥
  never_missing e = let none : None ≡ Some find_object = e ∙ found_there in absurd cc

  module _ (op : OpDecl) (found : Some op ≡ first_named (codes "findObjectById") (operations t.interfaces 0)) where
    pub results_fit : IsSchema t → ShapeFits t op.results
    results_fit rules = (op_fits t rules 0 (codes "findObjectById") op (sym found)).1

    pub told_so : (outcome : Outcome) (result : Result (Vec ℕ Global) Stop) → TellsOutcome (record { tables = t; results = op.results; calls = 1 }) outcome result → TellsOutcome of_locator outcome result
    told_so outcome result tells =
        let same : op ≡ find_object = same_Some op find_object (found ∙ found_there) in
        subst (λ (s : Shape). TellsOutcome (record { tables = locator_tables; results = s; calls = 1 }) outcome result) (ap (λ (o : OpDecl). o.results) same)
        (subst (λ (x : Tables). TellsOutcome (record { tables = x; results = op.results; calls = 1 }) outcome result) is tells)
