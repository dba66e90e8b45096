use Rattle.std.proofs.Common.{◌≡◌, drop}
use Rattle.std.specs.List.{flat_map}
use Rattle.ice_types.specs.Inherited.{bases_by_path, ops_in, operations, first_named}
use Rattle.ice_types.proofs.inheritance.operation_of.Given as goal

-- what the bases that are left have of this name is what is to be found
abbrev pub invariant-loop-place : goal.invariant-loop-place
invariant-loop-place l = first_named l.name (flat_map (ops_in l.interfaces) (drop l.place (bases_by_path l.interfaces l.interface))) ≡ first_named l.name (operations l.interfaces l.interface)
