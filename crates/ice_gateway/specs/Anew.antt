-- Bodies that are written anew: read, and written in their canonical bytes in sliced format. (Ice manual, "Data Encoding
-- for Class and Exception Types" and "User Exceptions".)
use Rattle.std.specs.Prelude.{ℕ, List, length, Result, Ok, Err, nat_le, if◌then◌else◌}
use Rattle.ice_types.specs.declared.declarations.Shape.{Shape}
use Rattle.ice_types.specs.Tables.{Tables}
use Rattle.ice_prims.specs.declared.fault.Fault.{Fault}
use Rattle.ice_prims.specs.Rest.{whole}
use Rattle.ice_encoding.specs.Graph.{Graph}
use Rattle.ice_encoding.specs.Flags.{all_slices}
use Rattle.ice_encoding.specs.Instances.{numbered_at}
use Rattle.ice_encoding.specs.CanonicalGraph.{sliced, graph_bytes}
use Rattle.ice_encoding.specs.Exceptions.{UserException, exception_at}
use Rattle.ice_encoding.specs.UserExceptionWritten.{exception_bytes}
use Rattle.value_parts.specs.Shapes.{told_apart}
use Rattle.object_adapter.specs.declared.refusal.TheConstants.{LONGEST}
use Rattle.ice_gateway.specs.declared.renewing.Renewed.{Renewed}
use Rattle.ice_gateway.specs.declared.renewing.Renewed.TheVariants.{Written, TooLong, Broken}

-- bytes, where a body may be so long
abbrev pub within : List ℕ → Renewed
within bytes = if nat_le (length bytes) LONGEST then Written bytes else TooLong

-- of a graph that was read, or of the first fault
abbrev pub graph_anew : Tables → Shape → Result Graph Fault → Renewed
graph_anew t shape (Ok g) = within (graph_bytes t shape sliced g)
graph_anew t shape (Err fault) = Broken fault

-- the body of values of this shape; places of faults count from its first byte
abbrev pub body_anew : Tables → Shape → List ℕ → Renewed
body_anew t shape body = graph_anew t (told_apart shape) (numbered_at t all_slices (told_apart shape) (whole body))

-- of a user exception that was read, or of the first fault
abbrev pub raised_anew : Tables → Result UserException Fault → Renewed
raised_anew t (Ok x) = within (exception_bytes t sliced x)
raised_anew t (Err fault) = Broken fault

-- the body of a user exception
abbrev pub exception_anew : Tables → List ℕ → Renewed
exception_anew t body = raised_anew t (exception_at t all_slices (whole body))
