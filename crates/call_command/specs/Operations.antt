-- The operation that is called. (Ice manual, "The Object Base Interface" and "Operations".)
use Rattle.std.specs.Prelude.{ℕ, ◌≤◌, ◌⊎◌, ◌≢◌, [], Option, Some, None, option_map, if◌then◌else◌}
use Rattle.ice_types.specs.declared.declarations.OpDecl.{OpDecl}
use Rattle.ice_types.specs.Tables.{Tables}
use Rattle.ice_types.specs.Fits.{ShapeFits}
use Rattle.ice_types.specs.Inherited.{first_named, operations}
use Rattle.ice_types.specs.Object.{object_tables}
use Rattle.graph_json.specs.Contents.{HasOwnNames}
use Rattle.node_commands.specs.Words.{Word}
use Rattle.call_command.specs.declared.known.Known.{Known}

-- an operation, the tables in which its types are, and the mode of a call of it
pub record Operation : Type 0 where
  pub tables : Tables
  pub declared : OpDecl
  pub mode : ℕ

-- one that every object has: nonmutating
abbrev pub own : OpDecl → Operation
own op = record { tables = object_tables; declared = op; mode = 1 }

-- one that the interface has: idempotent, or normal
abbrev pub of_interface : Tables → OpDecl → Operation
of_interface t op = record { tables = t; declared = op; mode = if op.idempotent then 2 else 0 }

-- the operation of this name: one that every object has comes first
abbrev pub operation_of : Tables → (interface : ℕ) → Word → Option Operation
operation_of t interface name = elim (first_named name (operations object_tables.interfaces 0)) [
  | Some op ↦ Some (own op)
  | None ↦ option_map (of_interface t) (first_named name (operations t.interfaces interface))
]

-- it has results, or throws
abbrev pub WantsReply : OpDecl → Type 0
WantsReply op = (op.results.required ≢ []) ⊎ ((op.results.optional ≢ []) ⊎ (op.throws ≢ []))

-- what a schema keeps of it, and that its mode is one that can be written
pub record IsDeclared (o : Operation) : Type 0 where
  pub arguments : ShapeFits o.tables o.declared.arguments
  pub results : ShapeFits o.tables o.declared.results
  pub names : HasOwnNames o.declared.arguments
  pub mode : o.mode ≤ 2

-- wherever its rows lie in memory
abbrev pub seen : Known → Operation
seen k = record { tables = k.schema.now; declared = k.operation.now; mode = k.mode }

-- one that was found, or none
abbrev pub found_seen : Option Known → Option Operation
found_seen = option_map seen
