-- What the definitions of exceptions answer at inputs that are written out.
use Rattle.std.proofs.Common.{◌≡◌, ℕ, List, [], ◌∷◌, ◌++◌, false, Ok, Some, None, Result, refl, codes}
use Rattle.std.specs.Prelude.{pos}
use Rattle.std.specs.Str.{is_utf8, chars}
use lib.Utf8.{encode}
use Rattle.ice_types.specs.Measures.{measure}
use Rattle.ice_types.specs.declared.kind.TypeRef.TheVariants as kinds
use Rattle.ice_types.specs.declared.declarations.ExceptionDecl.{ExceptionDecl}
use Rattle.ice_types.specs.Tables.{Tables, no_types}
use Rattle.ice_prims.specs.declared.fault.Fault.{Fault}
use Rattle.ice_prims.specs.declared.fault.Kind.{Kind}
use Rattle.ice_prims.specs.declared.fault.Kind.TheVariants as faults
use Rattle.ice_prims.specs.Rest.{fault, whole}
use Rattle.ice_encoding.specs.Opening.{encapsulated_bytes}
use Rattle.ice_encoding.specs.Tree.{int, text, none, tree}
use Rattle.ice_encoding.specs.OptionalMembers.{with_optional}
use Rattle.ice_encoding.specs.Graph.{Slice, known, unknown}
use Rattle.ice_encoding.specs.Flags.{Reach, all_slices, known_classes}
use Rattle.ice_encoding.specs.Instances.{most_instances}
use Rattle.ice_encoding.specs.Exceptions.{UserException, user_exception_at, exception_at}
use Rattle.ice_encoding.proofs.SampleClasses.{always, tagged, classes, node_id, point_id, values, to, node}

-- exception E {} exception F { int code; } exception G extends F { string why; } exception H { N held; } exception I { optional(1) int more; }
abbrev exceptions : List ExceptionDecl
exceptions = record { id = codes "::M::E"; base = None; members = [] }
    ∷ record { id = codes "::M::F"; base = None; members = always kinds.Int ∷ [] }
    ∷ record { id = codes "::M::G"; base = Some 1; members = always kinds.Text ∷ [] }
    ∷ record { id = codes "::M::H"; base = None; members = always (kinds.Class (Some 0)) ∷ [] }
    ∷ record { id = codes "::M::I"; base = None; members = tagged 1 kinds.Int ∷ [] } ∷ []

abbrev tables : Tables
tables = record no_types { classes = classes; exceptions = exceptions }

-- without G
abbrev fewer : Tables
fewer = record no_types {
  exceptions = record { id = codes "::M::E"; base = None; members = [] } ∷ record { id = codes "::M::F"; base = None; members = always kinds.Int ∷ [] } ∷ [];
}

-- type ids as texts

abbrev e_id : List ℕ
e_id = 6 ∷ codes "::M::E"

abbrev f_id : List ℕ
f_id = 6 ∷ codes "::M::F"

abbrev g_id : List ℕ
g_id = 6 ∷ codes "::M::G"

abbrev h_id : List ℕ
h_id = 6 ∷ codes "::M::H"

abbrev i_id : List ℕ
i_id = 6 ∷ codes "::M::I"

-- A content in its encapsulation: its first byte is at place 6.
abbrev read_to : Reach → Tables → List ℕ → Result UserException Fault
read_to reach t content = exception_at t reach (whole (encapsulated_bytes content))

-- slices without instances
abbrev reads : Tables → List ℕ → List Slice → Type 0
reads t content slices = read_to all_slices t content ≡ Ok (record { slices = slices; instances = [] })

-- the first fault
abbrev breaks : Tables → List ℕ → ℕ → Kind → Type 0
breaks t content place what = read_to all_slices t content ≡ fault place what

-- ---- slices

-- an exception without members
user_exception : reads tables (48 ∷ e_id ++ 4 ∷ 0 ∷ 0 ∷ 0 ∷ []) (known 0 (values none) ∷ [])
unfolding user_exception_at most_instances measure is_utf8 chars encode
user_exception = refl

-- one and its base
with_base : reads tables (16 ∷ g_id ++ 6 ∷ 0 ∷ 0 ∷ 0 ∷ 1 ∷ 120 ∷ 48 ∷ f_id ++ 8 ∷ 0 ∷ 0 ∷ 0 ∷ 5 ∷ 0 ∷ 0 ∷ 0 ∷ []) (known 2 (values (tree (text (codes "x")) none)) ∷ known 1 (values (tree (int (pos 5)) none)) ∷ [])
unfolding user_exception_at most_instances measure is_utf8 chars encode
with_base = refl

-- in compact format: each slice has its type id
compact : reads tables (0 ∷ g_id ++ 1 ∷ 120 ∷ 32 ∷ f_id ++ 5 ∷ 0 ∷ 0 ∷ 0 ∷ []) (known 2 (values (tree (text (codes "x")) none)) ∷ known 1 (values (tree (int (pos 5)) none)) ∷ [])
unfolding user_exception_at most_instances measure is_utf8 chars encode
compact = refl

-- the first slice is kept where G is not known
unknown_first : reads fewer (16 ∷ g_id ++ 6 ∷ 0 ∷ 0 ∷ 0 ∷ 1 ∷ 120 ∷ 48 ∷ f_id ++ 8 ∷ 0 ∷ 0 ∷ 0 ∷ 5 ∷ 0 ∷ 0 ∷ 0 ∷ []) (unknown (codes "::M::G") (1 ∷ 120 ∷ []) false [] ∷ known 1 (values (tree (int (pos 5)) none)) ∷ [])
unfolding user_exception_at most_instances measure is_utf8 chars encode
unknown_first = refl

-- an optional member
with_optional_member : reads tables (52 ∷ i_id ++ 10 ∷ 0 ∷ 0 ∷ 0 ∷ 10 ∷ 5 ∷ 0 ∷ 0 ∷ 0 ∷ 255 ∷ []) (known 4 (with_optional none ((1, int (pos 5)) ∷ [])) ∷ [])
unfolding user_exception_at most_instances measure is_utf8 chars encode
with_optional_member = refl

-- an instance: type ids of instances are counted, those of exceptions are not
with_instance : read_to all_slices tables (56 ∷ h_id ++ 5 ∷ 0 ∷ 0 ∷ 0 ∷ 1 ∷ 1 ∷ 1 ∷ 57 ∷ node_id ++ 9 ∷ 0 ∷ 0 ∷ 0 ∷ 1 ∷ 0 ∷ 0 ∷ 0 ∷ 1 ∷ 1 ∷ 1 ∷ 58 ∷ 1 ∷ 9 ∷ 0 ∷ 0 ∷ 0 ∷ 2 ∷ 0 ∷ 0 ∷ 0 ∷ 1 ∷ 1 ∷ 2 ∷ []) ≡ Ok (record { slices = known 3 (values (to 0)) ∷ []; instances = node 1 1 ∷ node 2 0 ∷ [] })
unfolding user_exception_at most_instances measure is_utf8 chars encode
with_instance = refl

-- ---- the last slice

-- a known exception without a base is the last, though the flag is missing
known_no_flag : reads tables (16 ∷ e_id ++ 4 ∷ 0 ∷ 0 ∷ 0 ∷ []) (known 0 (values none) ∷ [])
unfolding user_exception_at most_instances measure is_utf8 chars encode
known_no_flag = refl

-- so nothing may follow it
known_no_flag_left : breaks tables (16 ∷ e_id ++ 4 ∷ 0 ∷ 0 ∷ 0 ∷ 48 ∷ []) 18 faults.LeftOver
unfolding user_exception_at most_instances measure is_utf8 chars encode
known_no_flag_left = refl

-- nor with the flag
known_flag_left : breaks tables (48 ∷ e_id ++ 4 ∷ 0 ∷ 0 ∷ 0 ∷ 48 ∷ []) 18 faults.LeftOver
unfolding user_exception_at most_instances measure is_utf8 chars encode
known_flag_left = refl

-- the flag on a known exception that has a base
flag_with_base : breaks tables (48 ∷ g_id ++ 6 ∷ 0 ∷ 0 ∷ 0 ∷ 1 ∷ 120 ∷ []) 6 faults.BadLast
unfolding user_exception_at most_instances measure is_utf8 chars encode
flag_with_base = refl

-- behind one that has a base the content may not end
ends_with_base : breaks tables (16 ∷ g_id ++ 6 ∷ 0 ∷ 0 ∷ 0 ∷ 1 ∷ 120 ∷ []) 20 faults.Short
unfolding user_exception_at most_instances measure is_utf8 chars encode
ends_with_base = refl

-- a unknown one with the flag is the last
unknown_flag : reads fewer (48 ∷ g_id ++ 6 ∷ 0 ∷ 0 ∷ 0 ∷ 1 ∷ 120 ∷ []) (unknown (codes "::M::G") (1 ∷ 120 ∷ []) false [] ∷ [])
unfolding user_exception_at most_instances measure is_utf8 chars encode
unknown_flag = refl

-- so nothing may follow it
unknown_flag_left : breaks fewer (48 ∷ g_id ++ 6 ∷ 0 ∷ 0 ∷ 0 ∷ 1 ∷ 120 ∷ 48 ∷ f_id ++ 8 ∷ 0 ∷ 0 ∷ 0 ∷ 5 ∷ 0 ∷ 0 ∷ 0 ∷ []) 20 faults.LeftOver
unfolding user_exception_at most_instances measure is_utf8 chars encode
unknown_flag_left = refl

-- a unknown one without the flag is the last where the content ends behind it
unknown_no_flag : reads fewer (16 ∷ g_id ++ 6 ∷ 0 ∷ 0 ∷ 0 ∷ 1 ∷ 120 ∷ []) (unknown (codes "::M::G") (1 ∷ 120 ∷ []) false [] ∷ [])
unfolding user_exception_at most_instances measure is_utf8 chars encode
unknown_no_flag = refl

-- else another slice follows, and that may be the last without the flag, too
unknown_no_flags : reads fewer (16 ∷ g_id ++ 6 ∷ 0 ∷ 0 ∷ 0 ∷ 1 ∷ 120 ∷ 16 ∷ i_id ++ 4 ∷ 0 ∷ 0 ∷ 0 ∷ []) (unknown (codes "::M::G") (1 ∷ 120 ∷ []) false [] ∷ unknown (codes "::M::I") [] false [] ∷ [])
unfolding user_exception_at most_instances measure is_utf8 chars encode
unknown_no_flags = refl

-- which has to be one
unknown_no_slice : breaks fewer (16 ∷ g_id ++ 6 ∷ 0 ∷ 0 ∷ 0 ∷ 1 ∷ 120 ∷ 9 ∷ []) 20 faults.BadFlags
unfolding user_exception_at most_instances measure is_utf8 chars encode
unknown_no_slice = refl

-- ---- which fault is first

-- a bit of a type id
id_bits : breaks tables (49 ∷ e_id ++ 4 ∷ 0 ∷ 0 ∷ 0 ∷ []) 6 faults.BadFlags
unfolding user_exception_at most_instances measure is_utf8 chars encode
id_bits = refl

-- a table without a size
table_without_size : breaks tables (40 ∷ e_id ++ 0 ∷ []) 6 faults.BadFlags
unfolding user_exception_at most_instances measure is_utf8 chars encode
table_without_size = refl

-- no size behind a slice with one
no_size_later : breaks tables (16 ∷ g_id ++ 6 ∷ 0 ∷ 0 ∷ 0 ∷ 1 ∷ 120 ∷ 32 ∷ f_id ++ 5 ∷ 0 ∷ 0 ∷ 0 ∷ []) 20 faults.BadFlags
unfolding user_exception_at most_instances measure is_utf8 chars encode
no_size_later = refl

-- a size behind a slice without one
size_later : breaks tables (0 ∷ g_id ++ 1 ∷ 120 ∷ 48 ∷ f_id ++ 8 ∷ 0 ∷ 0 ∷ 0 ∷ 5 ∷ 0 ∷ 0 ∷ 0 ∷ []) 16 faults.BadFlags
unfolding user_exception_at most_instances measure is_utf8 chars encode
size_later = refl

-- another exception than the base
wrong_base : breaks tables (16 ∷ g_id ++ 6 ∷ 0 ∷ 0 ∷ 0 ∷ 1 ∷ 120 ∷ 48 ∷ e_id ++ 4 ∷ 0 ∷ 0 ∷ 0 ∷ []) 21 faults.WrongBase
unfolding user_exception_at most_instances measure is_utf8 chars encode
wrong_base = refl

-- an exception that is not known, without a size
unknown_compact : breaks fewer (0 ∷ g_id ++ 1 ∷ 120 ∷ []) 7 faults.UnknownClass
unfolding user_exception_at most_instances measure is_utf8 chars encode
unknown_compact = refl

-- a P where an N is declared
wrong_class : breaks tables (56 ∷ h_id ++ 5 ∷ 0 ∷ 0 ∷ 0 ∷ 1 ∷ 1 ∷ 1 ∷ 49 ∷ point_id ++ 8 ∷ 0 ∷ 0 ∷ 0 ∷ 5 ∷ 0 ∷ 0 ∷ 0 ∷ []) 18 faults.WrongClass
unfolding user_exception_at most_instances measure is_utf8 chars encode
wrong_class = refl

-- what is left behind the exception comes before a class that does not fit
left_first : breaks tables (56 ∷ h_id ++ 5 ∷ 0 ∷ 0 ∷ 0 ∷ 1 ∷ 1 ∷ 1 ∷ 49 ∷ point_id ++ 8 ∷ 0 ∷ 0 ∷ 0 ∷ 5 ∷ 0 ∷ 0 ∷ 0 ∷ 9 ∷ []) 37 faults.LeftOver
unfolding user_exception_at most_instances measure is_utf8 chars encode
left_first = refl

-- no exception at all
empty : breaks tables [] 6 faults.Short
unfolding user_exception_at most_instances measure is_utf8 chars encode
empty = refl

-- ---- of known exceptions alone

-- without a size
unsized : read_to known_classes tables (32 ∷ e_id ++ []) ≡ Ok (record { slices = known 0 (values none) ∷ []; instances = [] })
unfolding user_exception_at most_instances measure is_utf8 chars encode
unsized = refl

-- an exception that is not known
not_unknown : read_to known_classes fewer (48 ∷ g_id ++ 6 ∷ 0 ∷ 0 ∷ 0 ∷ 1 ∷ 120 ∷ []) ≡ fault 7 faults.UnknownClass
unfolding user_exception_at most_instances measure is_utf8 chars encode
not_unknown = refl
