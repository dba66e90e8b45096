-- Members that are handed over, seen as a shape.
use Rattle.std.specs.Prelude.{Bool, true, false, List, filter}
use Rattle.std.specs.Option.{is_none, is_some}
use Rattle.ice_types.specs.declared.declarations.Member.{Member}
use Rattle.ice_types.specs.declared.declarations.Shape.{Shape}
use Rattle.value_parts.specs.declared.fields.DeclaredMembers.{DeclaredMembers}
use Rattle.value_parts.specs.declared.fields.Optionals.{Optionals}
use Rattle.value_parts.specs.declared.fields.Optionals.TheVariants.{Absent, Marked, ToEnd}

-- both lists as they are handed over
abbrev pub handed : DeclaredMembers → Shape
handed f = record { required = f.required.now; optional = f.optional.now }

abbrev pub without_tag : List Member → List Member
without_tag members = filter (λ m. is_none m.tag) members

abbrev pub with_tag : List Member → List Member
with_tag members = filter (λ m. is_some m.tag) members

-- those without a tag of the one list, and those with a tag of the other
abbrev pub told_apart : Shape → Shape
told_apart s = record { required = without_tag s.required; optional = with_tag s.optional }

-- the shape of the members that are handed over
abbrev pub shape_seen : DeclaredMembers → Shape
shape_seen f = told_apart (handed f)

-- whether a marker ends the optional members
abbrev pub is_marked : Optionals → Bool
is_marked Absent = false
is_marked Marked = true
is_marked ToEnd = false
