-- The rows of the object's schema may be added.
use Rattle.std.proofs.Common.{ℕ, zero, suc, ◌≡◌, ◌≢◌, ◌<◌, true, false, List, [], ◌∷◌, map, All, None, codes, refl, arith}
use Rattle.std.specs.Prelude.{IsTrue}
use Rattle.std.specs.Str.{bytes_eq, str_to_ascii_lowercase}
use Rattle.std.proofs.lemmas.Slice.Eq.{bytes_eq-Decides}
use Rattle.std.proofs.lemmas.List.Elements.{All-nil, All-cons}
use Rattle.ice_types.specs.declared.kind.TypeRef.{TypeRef}
use Rattle.ice_types.specs.declared.kind.TypeRef.TheVariants as kinds
use Rattle.ice_types.specs.declared.kind.RowRef.TheVariants as rows
use Rattle.ice_types.specs.Names.{IsFree, AreNew}
use Rattle.ice_types.specs.Tables.{IsNewId, is_defined, no_types}
use Rattle.ice_types.specs.Measures.{measure, built_in, container}
use Rattle.ice_types.specs.Fits.{SeqFits, IsOf, AreOf, AreRequired, ShapeFits, OpFits, InterfaceFits}
use Rattle.ice_types.specs.Object.{required, idempotent, ping, is_a, its_id, its_ids, object_operations, strings_declared, object_declared}

pub strings_new : IsNewId no_types (codes "::Ice::StringSeq")
strings_new (rows.Seq at) h = cc
strings_new (rows.Dict at) h = cc
strings_new (rows.Struct at) h = cc
strings_new (rows.Enum at) h = cc
strings_new (rows.Class at) h = cc
strings_new (rows.Exception at) h = cc
strings_new (rows.Interface at) h = cc

pub strings_fit : SeqFits no_types kinds.Text
unfolding measure
strings_fit = (built_in 1 false, refl)

pub object_new : IsNewId strings_declared (codes "::Ice::Object")
object_new (rows.Seq zero) h = cc
object_new (rows.Seq (suc at)) h = cc
object_new (rows.Dict at) h = cc
object_new (rows.Struct at) h = cc
object_new (rows.Enum at) h = cc
object_new (rows.Class at) h = cc
object_new (rows.Exception at) h = cc
object_new (rows.Interface at) h = cc

text_of : IsOf object_declared kinds.Text
unfolding measure
text_of = (built_in 1 false, refl)

bool_of : IsOf object_declared kinds.Bool
unfolding measure
bool_of = (built_in 1 true, refl)

strings_of : IsOf object_declared (kinds.Seq 0)
unfolding measure
strings_of = (container 2 true, refl)

none_of : AreOf object_declared []
none_of = All-nil (λ m. IsOf object_declared m.kind)

one_of : (name : List ℕ) (kind : TypeRef) → IsOf object_declared kind → AreOf object_declared (required name kind ∷ [])
one_of name kind is = All-cons (λ m. IsOf object_declared m.kind) (required name kind) [] is none_of

no_tags : AreRequired []
no_tags = All-nil (λ m. m.tag ≡ None)

pub no_tag : (name : List ℕ) (kind : TypeRef) → AreRequired (required name kind ∷ [])
no_tag name kind = All-cons (λ m. m.tag ≡ None) (required name kind) [] refl no_tags

pub free : (name : List ℕ) → IsFree [] name
free name = All-nil (λ other. str_to_ascii_lowercase other ≢ str_to_ascii_lowercase name)

-- one name more, which is another one
pub beside : (other name : List ℕ) (names : List (List ℕ)) → bytes_eq (str_to_ascii_lowercase other) (str_to_ascii_lowercase name) ≡ false → IsFree names name → IsFree (other ∷ names) name
beside other name names differ rest = All-cons (λ o. str_to_ascii_lowercase o ≢ str_to_ascii_lowercase name) other names apart rest
  where
    apart : str_to_ascii_lowercase other ≢ str_to_ascii_lowercase name
    apart e = let same : bytes_eq (str_to_ascii_lowercase other) (str_to_ascii_lowercase name) ≡ true = (bytes_eq-Decides (str_to_ascii_lowercase other) (str_to_ascii_lowercase name)).1 e in cc

nothing_fits : ShapeFits object_declared (record { required = []; optional = [] })
nothing_fits = (none_of, no_tags, none_of, tt)

one_fits : (name : List ℕ) (kind : TypeRef) → IsOf object_declared kind → ShapeFits object_declared (record { required = required name kind ∷ []; optional = [] })
one_fits name kind is = (one_of name kind is, no_tag name kind, none_of, tt)

no_throws : All (λ at. at < 0) []
no_throws = All-nil (λ at. at < 0)

ping_fits : OpFits object_declared ping
ping_fits = (nothing_fits, nothing_fits, tt, no_throws)

returns_fits : (name : List ℕ) (kind : TypeRef) → IsOf object_declared kind → OpFits object_declared (idempotent name [] (required (codes "$return") kind ∷ []))
returns_fits name kind is = (nothing_fits, one_fits (codes "$return") kind is, (free (codes "$return"), tt), no_throws)

is_a_fits : OpFits object_declared is_a
is_a_fits = (
  one_fits (codes "id") kinds.Text text_of,
  one_fits (codes "$return") kinds.Bool bool_of,
  (free (codes "id"), (beside (codes "id") (codes "$return") [] refl (free (codes "$return")), tt)),
  no_throws,
)

names_new : AreNew [] (map (λ op. op.name) object_operations)
names_new =
    let second : IsFree (codes "ice_ping" ∷ []) (codes "ice_isA") = beside (codes "ice_ping") (codes "ice_isA") [] refl (free (codes "ice_isA")) in
    let third : IsFree (codes "ice_isA" ∷ codes "ice_ping" ∷ []) (codes "ice_id") =
    beside (codes "ice_isA") (codes "ice_id") (codes "ice_ping" ∷ []) refl (beside (codes "ice_ping") (codes "ice_id") [] refl (free (codes "ice_id"))) in
    let fourth : IsFree (codes "ice_id" ∷ codes "ice_isA" ∷ codes "ice_ping" ∷ []) (codes "ice_ids") =
    beside (codes "ice_id") (codes "ice_ids") (codes "ice_isA" ∷ codes "ice_ping" ∷ []) refl
    (beside (codes "ice_isA") (codes "ice_ids") (codes "ice_ping" ∷ []) refl (beside (codes "ice_ping") (codes "ice_ids") [] refl (free (codes "ice_ids")))) in
    (free (codes "ice_ping"), (second, (third, (fourth, tt))))

pub object_fits : InterfaceFits object_declared [] object_operations
object_fits =
    let ids : All (OpFits object_declared) (its_ids ∷ []) = All-cons (OpFits object_declared) its_ids [] (returns_fits (codes "ice_ids") (kinds.Seq 0) strings_of) (All-nil (OpFits object_declared)) in
    let id : All (OpFits object_declared) (its_id ∷ its_ids ∷ []) = All-cons (OpFits object_declared) its_id (its_ids ∷ []) (returns_fits (codes "ice_id") kinds.Text text_of) ids in
    let isA : All (OpFits object_declared) (is_a ∷ its_id ∷ its_ids ∷ []) = All-cons (OpFits object_declared) is_a (its_id ∷ its_ids ∷ []) is_a_fits id in
    let all : All (OpFits object_declared) object_operations = All-cons (OpFits object_declared) ping (is_a ∷ its_id ∷ its_ids ∷ []) ping_fits isA in
    ((All-nil (λ base. IsTrue (is_defined object_declared.defined_interfaces base)), tt, omega arith), all, names_new)
