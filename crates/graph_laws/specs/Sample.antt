-- A schema with a class and one derived from it, which stands first, and a schema without that one.
use Rattle.std.specs.Prelude.{◌∷◌, [], None, Some, true, codes}
use Rattle.ice_types.specs.declared.declarations.ClassDecl.{ClassDecl}
use Rattle.ice_types.specs.Tables.{Tables, no_types}

abbrev pub base : ClassDecl
base = record { id = codes "::A"; base = None; compact = None; members = [] }

abbrev pub derived : ClassDecl
derived = record { id = codes "::B"; base = Some 1; compact = None; members = [] }

abbrev pub whole : Tables
whole = record no_types { classes = derived ∷ base ∷ []; defined_classes = true ∷ true ∷ [] }

abbrev pub less : Tables
less = record no_types { classes = base ∷ []; defined_classes = true ∷ [] }
