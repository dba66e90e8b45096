-- Values of the members of a row of a schema, whose classes are its classes or its exceptions.
use Rattle.std.proofs.Common.{◌≡◌, ℕ, zero, suc, ◌<◌, ◌↔◌, IsTrue, Bool, false, List, [], ◌∷◌, length, Some, refl, subst, arith}
use Rattle.std.specs.Prelude.{slice_get}
use Rattle.ice_types.specs.declared.declarations.ClassDecl.{ClassDecl}
use Rattle.ice_types.specs.declared.declarations.Shape.{Shape}
use Rattle.ice_types.specs.Tables.{Tables}
use Rattle.ice_encoding.specs.Typed.{Refers}
use Rattle.ice_encoding.specs.OptionalMembers.{Members}
use Rattle.ice_encoding.specs.Classes.{own_members}
use Rattle.ice_encoding.specs.Exceptions.{of_exceptions}
use Rattle.ice_encoding.specs.TypedGraph.{AreMembers, IsKnown}
use Rattle.ice_encoding.proofs.Agreeing.{members_to, members_from}
use Rattle.value_parts.specs.SlicedType.{rows_of}
use Rattle.value_parts.specs.declared.sliced_type.SlicedType.{SlicedType}
use Rattle.value_parts.specs.declared.sliced_type.SlicedType.TheVariants.{Class, Exception}

there : (ds : List ClassDecl) (at : ℕ) → at < length ds → (d : ClassDecl) × (slice_get ds at ≡ Some d)
there [] at lt = absurd (omega (arith, lt))
there (d ∷ ds) zero lt = (d, refl)
there (d ∷ ds) (suc at) lt = there ds at (omega (arith, lt))

within : (ds : List ClassDecl) (at : ℕ) (d : ClassDecl) → slice_get ds at ≡ Some d → at < length ds
within [] at d is = absurd cc
within (e ∷ ds) zero d is = omega arith
within (e ∷ ds) (suc at) d is = let rest = within ds at d is in omega (arith, rest)

pub known_told : (sort : SlicedType) (t : Tables) (Refer : Refers) (class : ℕ) (shape : Shape) (content : Members) (tells : Bool) → class < length (rows_of sort t).classes
    → shape ≡ own_members (rows_of sort t) class → (IsTrue tells ↔ AreMembers t Refer shape content) → IsTrue tells ↔ IsKnown (rows_of sort t) Refer class content
known_told Class t Refer class shape content tells lt is told =
    let row = there t.classes class lt in
    let h = subst (λ (s : Shape). IsTrue tells ↔ AreMembers t Refer s content) is told in
    (λ b. (row.0, row.1, h.0 b), λ k. h.1 k.2)
known_told Exception t Refer class shape content tells lt is told =
    let u = of_exceptions t in
    let row = there u.classes class lt in
    let h = subst (λ (s : Shape). IsTrue tells ↔ AreMembers t Refer s content) is told in
    (λ b. (row.0, row.1, members_to t Refer (own_members u class) content (h.0 b)), λ k. h.1 (members_from t Refer (own_members u class) content k.2))

pub unknown_row : (u : Tables) (Refer : Refers) (class : ℕ) (content : Members) (has : Bool) → has ≡ false → (IsTrue has ↔ (class < length u.classes)) → IsTrue has ↔ IsKnown u Refer class content
unknown_row u Refer class content has is told = (λ b. none (subst IsTrue is b), λ k. told.1 (within u.classes class k.0 k.1))
  where
    none : IsTrue false → IsKnown u Refer class content
    none b = absurd cc
