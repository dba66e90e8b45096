-- What a gateway forwards by, and the operations that it knows. (Ice manual, "The Object Base Interface".)
use Rattle.std.specs.Prelude.{ℕ, List, Option, Some, None, option_map}
use Rattle.ice_types.specs.declared.declarations.OpDecl.{OpDecl}
use Rattle.ice_types.specs.declared.proxy.Endpoint.{Endpoint}
use Rattle.ice_types.specs.Tables.{Tables}
use Rattle.ice_types.specs.Inherited.{first_named, operations}
use Rattle.ice_types.specs.Object.{object_tables}
use Rattle.ice_gateway.specs.declared.gateway.Gateway.{Gateway}
use Rattle.ice_gateway.specs.declared.gateway.Known.{Known}

-- the tables of its file, the place of its interface, where the servers are, and how often an attempt may be followed
pub record Gate : Type 0 where
  pub tables : Tables
  pub interface : ℕ
  pub endpoints : List Endpoint
  pub retries : ℕ

-- wherever its parts lie in memory
abbrev pub seen : Gateway → Gate
seen g = record { tables = g.schema.now; interface = g.interface; endpoints = g.upstream.now.endpoints; retries = g.retries }

-- an operation, and the tables in which its types are
pub record Operation : Type 0 where
  pub tables : Tables
  pub declared : OpDecl

abbrev pub operation_seen : Known → Operation
operation_seen k = record { tables = k.schema.now; declared = k.operation.now }

abbrev pub in_tables : Tables → OpDecl → Operation
in_tables t op = record { tables = t; declared = op }

-- the operation of this name: one that every object has comes first
abbrev pub operation_of : Gate → List ℕ → Option Operation
operation_of gate name = elim (first_named name (operations object_tables.interfaces 0)) [
  | Some op ↦ Some (in_tables object_tables op)
  | None ↦ option_map (in_tables gate.tables) (first_named name (operations gate.tables.interfaces gate.interface))
]
