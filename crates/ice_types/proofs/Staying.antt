-- What fits a schema's tables fits them when they have grown.
use Rattle.std.proofs.Common.{◌≡◌, ℕ, suc, ◌≤◌, List, length, Option, Some, None, ap, subst, arith}
use Rattle.std.specs.Prelude.{IsTrue, All, slice_index_or}
use Rattle.ice_types.specs.declared.declarations.Member.{Member}
use Rattle.ice_types.specs.declared.declarations.Shape.{Shape}
use Rattle.ice_types.specs.declared.declarations.OpDecl.{OpDecl}
use Rattle.ice_types.specs.declared.kind.TypeRef.{TypeRef}
use Rattle.ice_types.specs.Tables.{Tables, is_defined}
use Rattle.ice_types.specs.Measures.{paths_of}
use Rattle.ice_types.specs.Fits.{SeqFits, DictFits, StructFits, AreOf, MembersFit, ClassFits, ExceptionFits, ShapeFits, OpFits, InterfaceFits, paths_over}
use Rattle.ice_types.proofs.Sums.{same_sums}
use Rattle.ice_types.proofs.Levels.{Keeps, measure_kept, members_kept}

-- the tables keep each type, each definition, each exception, and the bases of what is defined
pub record Grows (t u : Tables) : Type 0 where
  pub types : Keeps t u
  pub classes : (at : ℕ) → IsTrue (is_defined t.defined_classes at) → IsTrue (is_defined u.defined_classes at)
  pub interfaces : (at : ℕ) → IsTrue (is_defined t.defined_interfaces at) → IsTrue (is_defined u.defined_interfaces at)
  pub exceptions : length t.exceptions ≤ length u.exceptions
  pub paths : (at : ℕ) → IsTrue (is_defined t.defined_interfaces at) → paths_of t 1001 at ≡ paths_of u 1001 at

module _ (t u : Tables) (grows : Grows t u) where
  pub seq_stays : (element : TypeRef) → SeqFits t element → SeqFits u element
  seq_stays element fits = (fits.0, measure_kept t u grows.types 99 element fits.0 fits.1)

  pub dict_stays : (key value : TypeRef) → DictFits t key value → DictFits u key value
  dict_stays key value fits = (fits.0, fits.1, measure_kept t u grows.types 98 key fits.0 fits.2, fits.3, measure_kept t u grows.types 98 value fits.1 fits.4)

  pub struct_stays : (members : List Member) → StructFits t members → StructFits u members
  struct_stays members fits = (fits.0, members_kept t u grows.types 99 members fits.0 fits.1, fits.2, fits.3, fits.4, fits.5)

  are_of : (members : List Member) → AreOf t members → AreOf u members
  are_of members are = λ k d lt. let m = are k d lt in (m.0, measure_kept t u grows.types 100 _ m.0 m.1)

  members_stay : (members : List Member) → MembersFit t members → MembersFit u members
  members_stay members fits = (are_of members fits.0, fits.1, fits.2)

  pub class_stays : (base : Option ℕ) (members : List Member) → ClassFits t base members → ClassFits u base members
  class_stays None members fits = (tt, members_stay members fits.1)
  class_stays (Some base) members fits = (grows.classes base fits.0, members_stay members fits.1)

  pub exception_stays : (base : Option ℕ) (members : List Member) → ExceptionFits t base members → ExceptionFits u base members
  exception_stays None members fits = (tt, members_stay members fits.1)
  exception_stays (Some base) members fits = (omega (arith, fits.0, grows.exceptions), members_stay members fits.1)

  shape_stays : (s : Shape) → ShapeFits t s → ShapeFits u s
  shape_stays s fits = (are_of s.required fits.0, fits.1, are_of s.optional fits.2, fits.3)

  op_stays : (op : OpDecl) → OpFits t op → OpFits u op
  op_stays op fits = (shape_stays op.arguments fits.0, shape_stays op.results fits.1, fits.2, λ k d lt. omega (arith, fits.3 k d lt, grows.exceptions))

  paths_stay : (bases : List ℕ) → All (λ base. IsTrue (is_defined t.defined_interfaces base)) bases → paths_over t bases ≡ paths_over u bases
  paths_stay bases there = same_sums (λ base. suc (paths_of t 1001 base)) (λ base. suc (paths_of u 1001 base)) bases (λ k d lt. ap suc (grows.paths _ (there k d lt)))

  pub interface_stays : (bases : List ℕ) (ops : List OpDecl) → InterfaceFits t bases ops → InterfaceFits u bases ops
  interface_stays bases ops fits = (
    (λ k d lt. grows.interfaces _ (fits.0.0 k d lt), fits.0.1, subst (λ (n : ℕ). n ≤ 1000) (paths_stay bases fits.0.0) fits.0.2),
    λ k d lt. op_stays (slice_index_or ops k d) (fits.1 k d lt),
    fits.2,
  )
