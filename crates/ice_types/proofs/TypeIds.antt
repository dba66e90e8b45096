-- The type of a row, where it is one.
use Rattle.std.proofs.Common.{◌≡◌, ℕ, List, Option, Some, None, refl, sym, ap, ◌∙◌}
use Rattle.ice_types.specs.declared.kind.TypeRef.{TypeRef}
use Rattle.ice_types.specs.declared.kind.TypeRef.TheVariants as kinds
use Rattle.ice_types.specs.declared.kind.RowRef.{RowRef}
use Rattle.ice_types.specs.declared.kind.RowRef.TheVariants as rows
use Rattle.ice_types.specs.Tables.{Tables, HasTypeId, HasRowId, IsTypeId}
use Rattle.ice_types.specs.Rules.{IsSchema}

-- exceptions and interfaces are no types
abbrev pub type_of : RowRef → Option TypeRef
type_of (rows.Seq at) = Some (kinds.Seq at)
type_of (rows.Dict at) = Some (kinds.Dict at)
type_of (rows.Struct at) = Some (kinds.Struct at)
type_of (rows.Enum at) = Some (kinds.Enum at)
type_of (rows.Class at) = Some (kinds.Class (Some at))
type_of (rows.Exception at) = None
type_of (rows.Interface at) = None

RowOf : Tables → List ℕ → TypeRef → Type 0
RowOf t id kind = (row : RowRef) × HasRowId t id row × (type_of row ≡ Some kind)

row_of : (t : Tables) (id : List ℕ) (kind : TypeRef) → HasTypeId t id kind → RowOf t id kind
unfolding RowOf
row_of t id (kinds.Seq at) h = (rows.Seq at, h, refl)
row_of t id (kinds.Dict at) h = (rows.Dict at, h, refl)
row_of t id (kinds.Struct at) h = (rows.Struct at, h, refl)
row_of t id (kinds.Enum at) h = (rows.Enum at, h, refl)
row_of t id (kinds.Class (Some at)) h = (rows.Class at, h, refl)
row_of t id (kinds.Class None) h = absurd h
row_of t id (kinds.Proxy at) h = absurd h
row_of t id kinds.Bool h = absurd h
row_of t id kinds.Byte h = absurd h
row_of t id kinds.Short h = absurd h
row_of t id kinds.Int h = absurd h
row_of t id kinds.Long h = absurd h
row_of t id kinds.Text h = absurd h

module _ (t : Tables) (kept : IsSchema t) (id : List ℕ) where
  pub is_type_id : (kind : TypeRef) → HasTypeId t id kind → IsTypeId id
  unfolding RowOf
  is_type_id kind h = let row = row_of t id kind h in kept.type_ids id row.0 row.1

  pub types_apart : (a b : TypeRef) → HasTypeId t id a → HasTypeId t id b → a ≡ b
  unfolding RowOf
  types_apart a b p q =
      let first = row_of t id a p in
      let other = row_of t id b q in
      let same : Some a ≡ Some b = sym first.2 ∙ ap type_of (kept.apart id first.0 other.0 first.1 other.1) ∙ other.2 in
      cc

  -- a row that is no type has the id of no type
  pub no_type : (row : RowRef) → HasRowId t id row → type_of row ≡ None → (kind : TypeRef) → HasTypeId t id kind → ⊥
  unfolding RowOf
  no_type row h none kind has =
      let other = row_of t id kind has in
      let same : None ≡ Some kind = sym none ∙ ap type_of (kept.apart id row other.0 h other.1) ∙ other.2 in
      absurd cc

-- no row has the id
pub no_row : (t : Tables) (id : List ℕ) → ((row : RowRef) → HasRowId t id row → ⊥) → (kind : TypeRef) → HasTypeId t id kind → ⊥
unfolding RowOf
no_row t id none kind has = let row = row_of t id kind has in none row.0 row.1
