-- No two interfaces of a schema have one type id.
use Rattle.std.proofs.Common.{◌≡◌, ℕ, List, Option, Some, None}
use Rattle.ice_types.specs.declared.kind.RowRef.TheVariants as rows
use Rattle.ice_types.specs.Rules.{IsSchema}
use Rattle.ice_types.specs.Tables.{Tables, HasId, Finds, interface_ids}
use Rattle.node_commands.specs.Interfaces.{FindsInterface}

pub found_interface : (t : Tables) (id : List ℕ) (found : Option ℕ) → IsSchema t → Finds (HasId (interface_ids t) id) found → FindsInterface t id found
found_interface t id (Some at) rules has = (has, λ other is. same_place other at (rules.apart id (rows.Interface other) (rows.Interface at) is has))
  where
    same_place : (a b : ℕ) → rows.Interface a ≡ rows.Interface b → a ≡ b
    same_place a b e = cc e
found_interface t id None rules none = none
