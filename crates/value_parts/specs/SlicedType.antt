-- What has slices, and the rows of a schema that its slices are of. (Ice manual, "Data Encoding for Class and Exception Types".)
use Rattle.std.specs.Prelude.{ℕ, List, Option, option_and_then, slice_get}
use Rattle.ice_types.specs.declared.declarations.ClassDecl.{ClassDecl}
use Rattle.ice_types.specs.declared.declarations.Shape.{Shape}
use Rattle.ice_types.specs.Tables.{Tables}
use Rattle.ice_encoding.specs.Classes.{class_named, class_by_id, members_in}
use Rattle.ice_encoding.specs.Exceptions.{of_exceptions}
use Rattle.value_parts.specs.declared.sliced_type.SlicedType.{SlicedType}
use Rattle.value_parts.specs.declared.sliced_type.SlicedType.TheVariants.{Class, Exception}

-- the tables in which the rows that slices are of are the classes
abbrev pub rows_of : SlicedType → Tables → Tables
rows_of Class t = t
rows_of Exception t = of_exceptions t

-- the row that slices of this id are of: of a class by its type id, or for `#n` by its compact id; of an exception by its type id
abbrev pub row_of : SlicedType → Tables → List ℕ → Option ℕ
row_of Class t id = class_by_id t id
row_of Exception t id = class_named t id

-- the compact id of a class
abbrev pub compact_in : Option ClassDecl → Option ℕ
compact_in row = option_and_then (λ c. c.compact) row

-- the members that a class declares itself, as they are handed over: both lists are all of them
abbrev pub own_fields : Tables → ℕ → Shape
own_fields t class = record { required = members_in (slice_get t.classes class); optional = members_in (slice_get t.classes class) }
