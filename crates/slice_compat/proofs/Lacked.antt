-- A schema without some classes, table by table.
use Rattle.std.proofs.Common.{ℕ, List, refl, inl, inr}
use Rattle.ice_types.specs.declared.kind.RowRef.{RowRef}
use Rattle.ice_types.specs.declared.kind.RowRef.TheVariants as rows
use Rattle.ice_types.specs.Tables.{Tables, HasRowId}
use Rattle.ice_types.specs.Lacking.{HasRow, HasRows, AreTaken, IsClass, IsTaken, KeepsIds, KeepsRows, Lacks}
use Rattle.std.specs.Prelude.{◌⊎◌}

module _ (t s : Tables) where
  kept_by_table : KeepsRows t s → (id : List ℕ) (row : RowRef) → HasRowId s id row → HasRow t s id row
  unfolding HasRows
  kept_by_table keeps id (rows.Seq at) h = keeps.0.0 at id h
  kept_by_table keeps id (rows.Dict at) h = keeps.0.1 at id h
  kept_by_table keeps id (rows.Struct at) h = keeps.0.2 at id h
  kept_by_table keeps id (rows.Enum at) h = keeps.0.3 at id h
  kept_by_table keeps id (rows.Class at) h = keeps.1 at id h
  kept_by_table keeps id (rows.Exception at) h = keeps.2 at id h
  kept_by_table keeps id (rows.Interface at) h = keeps.3 at id h

  lost_by_table : KeepsIds t s → (id : List ℕ) (row : RowRef) → HasRowId t id row → IsClass row ⊎ IsTaken s id
  unfolding AreTaken
  lost_by_table keeps id (rows.Seq at) h = inr (keeps.0.0 at id h)
  lost_by_table keeps id (rows.Dict at) h = inr (keeps.0.1 at id h)
  lost_by_table keeps id (rows.Struct at) h = inr (keeps.0.2 at id h)
  lost_by_table keeps id (rows.Enum at) h = inr (keeps.0.3 at id h)
  lost_by_table keeps id (rows.Class at) h = inl (at, refl)
  lost_by_table keeps id (rows.Exception at) h = inr (keeps.1 at id h)
  lost_by_table keeps id (rows.Interface at) h = inr (keeps.2 at id h)

  pub lacks : KeepsRows t s → KeepsIds t s → Lacks t s
  lacks keeps ids = record { kept = kept_by_table keeps; lost = lost_by_table ids }

  pub keeps_rows : Lacks t s → KeepsRows t s
  unfolding HasRows
  keeps_rows l = (
    (λ at id h. l.kept id (rows.Seq at) h, λ at id h. l.kept id (rows.Dict at) h, λ at id h. l.kept id (rows.Struct at) h, λ at id h. l.kept id (rows.Enum at) h),
    λ at id h. l.kept id (rows.Class at) h,
    λ at id h. l.kept id (rows.Exception at) h,
    λ at id h. l.kept id (rows.Interface at) h,
  )

  -- a row that is no class
  taken : (id : List ℕ) (row : RowRef) → (IsClass row → ⊥) → IsClass row ⊎ IsTaken s id → IsTaken s id
  taken id row other (inl class) = absurd (other class)
  taken id row other (inr is) = is

  pub keeps_ids : Lacks t s → KeepsIds t s
  unfolding AreTaken
  keeps_ids l = (
    (
      λ at id h. taken id (rows.Seq at) (λ c. absurd (cc (c.1))) (l.lost id (rows.Seq at) h),
      λ at id h. taken id (rows.Dict at) (λ c. absurd (cc (c.1))) (l.lost id (rows.Dict at) h),
      λ at id h. taken id (rows.Struct at) (λ c. absurd (cc (c.1))) (l.lost id (rows.Struct at) h),
      λ at id h. taken id (rows.Enum at) (λ c. absurd (cc (c.1))) (l.lost id (rows.Enum at) h),
    ),
    λ at id h. taken id (rows.Exception at) (λ c. absurd (cc (c.1))) (l.lost id (rows.Exception at) h),
    λ at id h. taken id (rows.Interface at) (λ c. absurd (cc (c.1))) (l.lost id (rows.Interface at) h),
  )
