-- What is written for exceptions that are written out.
use Rattle.std.proofs.Common.{◌≡◌, ℕ, List, [], ◌∷◌, ◌++◌, false, Some, None, refl, codes}
use Rattle.std.specs.Prelude.{pos}
use Rattle.ice_types.specs.Measures.{measure}
use Rattle.ice_types.specs.declared.kind.TypeRef.TheVariants as kinds
use Rattle.ice_types.specs.declared.declarations.ExceptionDecl.{ExceptionDecl}
use Rattle.ice_types.specs.Tables.{Tables, no_types}
use Rattle.ice_encoding.specs.Tree.{int, text, none, tree}
use Rattle.ice_encoding.specs.OptionalMembers.{with_optional}
use Rattle.ice_encoding.specs.CanonicalGraph.{sliced, compact}
use Rattle.ice_encoding.specs.Exceptions.{UserException}
use Rattle.ice_encoding.specs.Graph.{Slice, known, unknown}
use Rattle.ice_encoding.specs.Visiting.{order, most}
use Rattle.ice_encoding.proofs.SampleClasses.{always, tagged, classes, node_id, values, to, node}
use Rattle.ice_encoding.specs.UserExceptionWritten.{form_of, canonical_user_exception, exception_bytes}

-- exception Bad {} exception F { int code; } exception G extends F { string why; } exception H { N held; } exception I { optional(1) int more; }
abbrev exceptions : List ExceptionDecl
exceptions = record { id = codes "::T::Bad"; base = None; members = [] }
    ∷ record { id = codes "::M::F"; base = None; members = always kinds.Int ∷ [] }
    ∷ record { id = codes "::M::G"; base = Some 1; members = always kinds.Text ∷ [] }
    ∷ record { id = codes "::M::H"; base = None; members = always (kinds.Class (Some 0)) ∷ [] }
    ∷ record { id = codes "::M::I"; base = None; members = tagged 1 kinds.Int ∷ [] } ∷ []

abbrev tables : Tables
tables = record no_types { classes = classes; exceptions = exceptions }

-- slices without instances
abbrev alone : List Slice → UserException
alone slices = record { slices = slices; instances = [] }

-- what an exception without members and base is written as
abbrev bad : List ℕ
bad = 20 ∷ 0 ∷ 0 ∷ 0 ∷ 1 ∷ 1 ∷ 48 ∷ 8 ∷ 58 ∷ 58 ∷ 84 ∷ 58 ∷ 58 ∷ 66 ∷ 97 ∷ 100 ∷ 4 ∷ 0 ∷ 0 ∷ 0 ∷ []

known_bad : exception_bytes tables sliced (alone (known 0 (values none) ∷ [])) ≡ bad
unfolding canonical_user_exception form_of order most measure
known_bad = refl

-- where the tables lack it, it is one unknown slice, and the same bytes
unknown_bad : exception_bytes no_types sliced (alone (unknown (codes "::T::Bad") [] false [] ∷ [])) ≡ bad
unfolding canonical_user_exception form_of order most measure
unknown_bad = refl

-- one and its base
with_base : canonical_user_exception tables sliced (alone (known 2 (values (tree (text (codes "x")) none)) ∷ known 1 (values (tree (int (pos 5)) none)) ∷ []))
    ≡ 16 ∷ 6 ∷ codes "::M::G" ++ 6 ∷ 0 ∷ 0 ∷ 0 ∷ 1 ∷ 120 ∷ 48 ∷ 6 ∷ codes "::M::F" ++ 8 ∷ 0 ∷ 0 ∷ 0 ∷ 5 ∷ 0 ∷ 0 ∷ 0 ∷ []
unfolding canonical_user_exception form_of order most measure
with_base = refl

-- in compact format: each slice has its type id
in_compact : canonical_user_exception tables compact (alone (known 2 (values (tree (text (codes "x")) none)) ∷ known 1 (values (tree (int (pos 5)) none)) ∷ []))
    ≡ 0 ∷ 6 ∷ codes "::M::G" ++ 1 ∷ 120 ∷ 32 ∷ 6 ∷ codes "::M::F" ++ 5 ∷ 0 ∷ 0 ∷ 0 ∷ []
unfolding canonical_user_exception form_of order most measure
in_compact = refl

-- an optional member, and the marker behind it
with_option : canonical_user_exception tables sliced (alone (known 4 (with_optional none ((1, int (pos 5)) ∷ [])) ∷ [])) ≡ 52 ∷ 6 ∷ codes "::M::I" ++ 10 ∷ 0 ∷ 0 ∷ 0 ∷ 10 ∷ 5 ∷ 0 ∷ 0 ∷ 0 ∷ 255 ∷ []
unfolding canonical_user_exception form_of order most measure
with_option = refl

-- Instances: their type ids are counted, those of the exception are not. The reached one alone is written, under another name.
with_instance : canonical_user_exception tables sliced (record { slices = known 3 (values (to 1)) ∷ []; instances = node 2 1 ∷ node 1 0 ∷ [] })
    ≡ 56 ∷ 6 ∷ codes "::M::H" ++ 5 ∷ 0 ∷ 0 ∷ 0 ∷ 1 ∷ 1 ∷ 1 ∷ 57 ∷ node_id ++ 9 ∷ 0 ∷ 0 ∷ 0 ∷ 1 ∷ 0 ∷ 0 ∷ 0 ∷ 1 ∷ 1 ∷ 1 ∷ 58 ∷ 1 ∷ 9 ∷ 0 ∷ 0 ∷ 0 ∷ 2 ∷ 0 ∷ 0 ∷ 0 ∷ 1 ∷ 1 ∷ 2 ∷ []
unfolding canonical_user_exception form_of order most measure
with_instance = refl
