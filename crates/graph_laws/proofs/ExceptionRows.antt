-- Rows of the tables in which the classes are the exceptions.
use Rattle.std.proofs.Common.{ℕ, zero, suc, ◌≡◌, List, [], ◌∷◌, map, refl, ap, Option, Some, None}
use Rattle.std.specs.Prelude.{slice_get}
use Rattle.ice_types.specs.declared.declarations.ClassDecl.{ClassDecl}
use Rattle.ice_types.specs.declared.declarations.ExceptionDecl.{ExceptionDecl}
use Rattle.ice_encoding.specs.Exceptions.{as_class}

pub ids_are : (es : List ExceptionDecl) → map (λ c. c.id) (map as_class es) ≡ map (λ e. e.id) es
ids_are [] = refl
ids_are (e ∷ es) = ap (λ (l : List (List ℕ)). e.id ∷ l) (ids_are es)

abbrev pub as_row : Option ExceptionDecl → Option ClassDecl
as_row None = None
as_row (Some e) = Some (as_class e)

pub row_is : (es : List ExceptionDecl) (at : ℕ) → slice_get (map as_class es) at ≡ as_row (slice_get es at)
row_is [] at = refl
row_is (e ∷ es) zero = refl
row_is (e ∷ es) (suc at) = row_is es at
