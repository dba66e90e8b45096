-- The tables as a schema keeps them.
use Rattle.std.specs.Prelude.{ℕ, List, Option, None, map, slice_get, unwrap_or}
use Rattle.std.specs.Option.{is_some}
use Rattle.ice_types.specs.declared.rows.Above.{Above}
use Rattle.ice_types.specs.declared.rows.TableRows.{TableRows}
use Rattle.ice_types.specs.Tables.{Tables}
use Rattle.ice_types.specs.Rules.{Beside}

-- the rows; those that are only declared have nothing beside them
abbrev pub tables_of : TableRows → Tables
tables_of r = record {
  seqs = r.seqs.decls;
  dicts = r.dicts.decls;
  structs = r.structs.decls;
  enums = r.enums.decls;
  classes = r.classes.decls;
  exceptions = r.exceptions.decls;
  interfaces = r.interfaces.decls;
  defined_classes = map is_some r.classes.beside;
  defined_interfaces = map is_some r.interfaces.beside;
}

-- what stands beside the rows
abbrev pub beside_of : TableRows → Beside
beside_of r = record {
  seqs = r.seqs.beside;
  dicts = r.dicts.beside;
  structs = r.structs.beside;
  enums = r.enums.beside;
  classes = r.classes.beside;
  exceptions = r.exceptions.beside;
  interfaces = r.interfaces.beside;
}

-- what stands beside the class at this place; one that is only declared has no base, and is its own far base
abbrev pub above_of : List (Option Above) → ℕ → Above
above_of beside at = unwrap_or (unwrap_or (slice_get beside at) None) (record { bases = 0; far = at })

-- the number beside the row at this place; 0 where the row is only declared
abbrev pub counted : List (Option ℕ) → ℕ → ℕ
counted beside at = unwrap_or (unwrap_or (slice_get beside at) None) 0
