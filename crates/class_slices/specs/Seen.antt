-- Exceptions without where they lie in memory.
use Rattle.std.specs.Prelude.{◌≡◌, []}
use Rattle.ice_encoding.specs.Tree.{none}
use Rattle.ice_encoding.specs.OptionalMembers.{Members, with_optional}
use Rattle.ice_encoding.specs.Exceptions as exceptions
use Rattle.ice_encoding.specs.UserExceptionWritten.{graph_of}
use Rattle.graph_arena.specs.Seen.{view_slices}
use Rattle.class_slices.specs.declared.user_exception.UserException.{UserException}

-- its slices, and the instances of its graph
abbrev pub view_user_exception : UserException → exceptions.UserException
view_user_exception x = record { slices = view_slices x.slices; instances = x.graph.instances }

-- the roots of its graph are a reference to each instance that its slices name
abbrev pub IsRooted : UserException → Type 0
IsRooted x = x.graph ≡ graph_of (view_user_exception x)

abbrev pub no_members : Members
no_members = with_optional none []
