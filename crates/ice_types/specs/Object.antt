-- What every object has: the interface of `Object`. (Ice manual, "The Object Base Interface".)
use Rattle.std.specs.Prelude.{ℕ, true, List, [], ◌∷◌, None, codes}
use Rattle.ice_types.specs.declared.kind.TypeRef.{TypeRef}
use Rattle.ice_types.specs.declared.kind.TypeRef.TheVariants as kinds
use Rattle.ice_types.specs.declared.declarations.Member.{Member}
use Rattle.ice_types.specs.declared.declarations.OpDecl.{OpDecl}
use Rattle.ice_types.specs.Tables.{Tables, no_types, with_seq, with_interface, define_interface}

-- a parameter or a result that is always there
abbrev pub required : List ℕ → TypeRef → Member
required name kind = record { name = name; kind = kind; tag = None }

-- an operation that may be called again, and throws nothing
abbrev pub idempotent : List ℕ → List Member → List Member → OpDecl
idempotent name arguments results = record { name = name; idempotent = true; arguments = record { required = arguments; optional = [] }; results = record { required = results; optional = [] }; throws = [] }

-- void ice_ping();
abbrev pub ping : OpDecl
ping = idempotent (codes "ice_ping") [] []

-- bool ice_isA(string id);
abbrev pub is_a : OpDecl
is_a = idempotent (codes "ice_isA") (required (codes "id") kinds.Text ∷ []) (required (codes "$return") kinds.Bool ∷ [])

-- string ice_id();
abbrev pub its_id : OpDecl
its_id = idempotent (codes "ice_id") [] (required (codes "$return") kinds.Text ∷ [])

-- StringSeq ice_ids();
abbrev pub its_ids : OpDecl
its_ids = idempotent (codes "ice_ids") [] (required (codes "$return") (kinds.Seq 0) ∷ [])

abbrev pub object_operations : List OpDecl
object_operations = ping ∷ is_a ∷ its_id ∷ its_ids ∷ []

-- sequence<string> StringSeq; and the interface, in the module Ice
abbrev pub strings_declared : Tables
strings_declared = with_seq no_types (record { id = codes "::Ice::StringSeq"; element = kinds.Text })

abbrev pub object_declared : Tables
object_declared = with_interface strings_declared (codes "::Ice::Object")

-- the sequence of strings and the interface that every object has
abbrev pub object_tables : Tables
object_tables = define_interface object_declared 0 [] object_operations
