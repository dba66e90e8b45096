-- The ids of a schema with one row more.
use Rattle.std.proofs.Common.{◌≡◌, ℕ, Bool, true, false, cond, List, [], ◌∷◌, ◌++◌, length, map, Option, Some, None, refl, sym, ap, subst, ◌∙◌, inl, inr, ◌⊎◌, bytes_eq}
use Rattle.std.proofs.lemmas.List.{map-append}
use Rattle.std.proofs.lemmas.Slice.Eq.{bytes_eq-Decides}
use Rattle.ice_types.specs.declared.kind.RowRef.{RowRef}
use Rattle.ice_types.specs.Tables.{Tables, IsTypeId, IsNewId, HasId, HasRowId, row_ids, row_at, Finds}
use Rattle.ice_types.specs.Rules.{IsSchema}
use Rattle.ice_types.specs.Ids.{AreFound}
use Rattle.ice_types.proofs.Items.{slice_get-front, slice_get-push, slice_get-last}

-- type ids, none of two rows
pub record AreIds (t : Tables) : Type 0 where
  pub type_ids : (id : List ℕ) (row : RowRef) → HasRowId t id row → IsTypeId id
  pub apart : (id : List ℕ) (a b : RowRef) → HasRowId t id a → HasRowId t id b → a ≡ b

pub ids_of : (t : Tables) → IsSchema t → AreIds t
ids_of t kept = record { type_ids = kept.type_ids; apart = kept.apart }

-- the last row of one table is the only new one
pub record IsLast (t u : Tables) (new : List ℕ) (last : RowRef) : Type 0 where
  pub ids : row_ids u last ≡ row_ids t last ++ new ∷ []
  pub at : row_at last ≡ length (row_ids t last)
  pub others : (row : RowRef) → (row_ids u row ≡ row_ids t row) ⊎ ((row_ids u row ≡ row_ids t row ++ new ∷ []) × (row_at row ≡ length (row_ids t row) → row ≡ last))

module _ (t u : Tables) (new : List ℕ) (last : RowRef) (added : IsLast t u new last) where
  -- ids stand in the new row, or where they stood
  split : (id : List ℕ) (row : RowRef) → HasRowId u id row → HasRowId t id row ⊎ ((row ≡ last) × (new ≡ id))
  split id row h = elim (added.others row) [
    | inl same ↦ inl (subst (λ (ids : List (List ℕ)). HasId ids id (row_at row)) same h)
    | inr more ↦ elim (slice_get-push (row_ids t row) new (row_at row) id (subst (λ (ids : List (List ℕ)). HasId ids id (row_at row)) more.0 h)) [
      | inl there ↦ inl there
      | inr end ↦ inr (more.1 end.0, end.1)
    ]
  ]

  stays : (id : List ℕ) (row : RowRef) → HasRowId t id row → HasRowId u id row
  stays id row h = elim (added.others row) [
    | inl same ↦ subst (λ (ids : List (List ℕ)). HasId ids id (row_at row)) (sym same) h
    | inr more ↦ subst (λ (ids : List (List ℕ)). HasId ids id (row_at row)) (sym more.0) (slice_get-front (row_ids t row) (new ∷ []) (row_at row) id h)
  ]

  has_new : HasRowId u new last
  has_new = subst (λ (ids : List (List ℕ)). HasId ids new (row_at last)) (sym added.ids) (subst (λ (at : ℕ). HasId (row_ids t last ++ new ∷ []) new at) (sym added.at) (slice_get-last (row_ids t last) new))

  module _ (kept : AreIds t) (type_id : IsTypeId new) (lacks : IsNewId t new) where
    type_ids : (id : List ℕ) (row : RowRef) → HasRowId u id row → IsTypeId id
    type_ids id row h = elim (split id row h) [
      | inl there ↦ kept.type_ids id row there
      | inr last ↦ subst IsTypeId last.1 type_id
    ]

    apart : (id : List ℕ) (a b : RowRef) → HasRowId u id a → HasRowId u id b → a ≡ b
    apart id a b p q = elim (split id a p) [
      | inl old ↦ elim (split id b q) [
        | inl older ↦ kept.apart id a b old older
        | inr last ↦ absurd (lacks a (subst (λ (x : List ℕ). HasRowId t x a) (sym last.1) old))
      ]
      | inr first ↦ elim (split id b q) [
        | inl older ↦ absurd (lacks b (subst (λ (x : List ℕ). HasRowId t x b) (sym first.1) older))
        | inr other ↦ first.0 ∙ sym other.0
      ]
    ]

    pub ids_more : AreIds u
    ids_more = record { type_ids = type_ids; apart = apart }

  -- the ids that are held, with the new one
  pub found_more : (old now : List ℕ → Option RowRef) → AreFound t old → ((id : List ℕ) → now id ≡ cond (bytes_eq new id) (Some last) (old id)) → AreFound u now
  found_more old now found put id = by_test (bytes_eq new id) refl
    where
      Found : Option RowRef → Type 0
      Found = Finds (HasRowId u id)

      of_old : (row : Option RowRef) → Finds (HasRowId t id) row → (new ≡ id → ⊥) → Found row
      of_old None none other = λ row h. elim (split id row h) [ inl there ↦ none row there | inr end ↦ other end.1 ]
      of_old (Some row) there other = stays id row there

      by_test : (b : Bool) → bytes_eq new id ≡ b → Found (now id)
      by_test true is = subst Found (sym (put id ∙ ap (λ (b : Bool). cond b (Some last) (old id)) is)) (subst (λ (x : List ℕ). HasRowId u x last) ((bytes_eq-Decides new id).0 is) has_new)
      by_test false is = subst Found (sym (put id ∙ ap (λ (b : Bool). cond b (Some last) (old id)) is))
          (of_old (old id) (found id) (λ same. clash ((bytes_eq-Decides new id).1 same) is))
        where
          clash : {b : Bool} → b ≡ true → b ≡ false → ⊥
          clash p q = cc

-- where each row has the id that it had
module _ (t u : Tables) (same : (row : RowRef) → row_ids u row ≡ row_ids t row) where
  pub same_ids : AreIds t → AreIds u
  same_ids kept = record {
    type_ids = λ id row h. kept.type_ids id row (subst (λ (ids : List (List ℕ)). HasId ids id (row_at row)) (same row) h);
    apart = λ id a b h i. kept.apart id a b (subst (λ (ids : List (List ℕ)). HasId ids id (row_at a)) (same a) h) (subst (λ (ids : List (List ℕ)). HasId ids id (row_at b)) (same b) i);
  }

  pub same_found : (found : List ℕ → Option RowRef) → AreFound t found → AreFound u found
  same_found found were id = by_row (found id) (were id)
    where
      by_row : (row : Option RowRef) → Finds (HasRowId t id) row → Finds (HasRowId u id) row
      by_row None none = λ row h. none row (subst (λ (ids : List (List ℕ)). HasId ids id (row_at row)) (same row) h)
      by_row (Some row) there = subst (λ (ids : List (List ℕ)). HasId ids id (row_at row)) (sym (same row)) there

-- ids that are held as they were
pub as_before : (t : Tables) (old now : List ℕ → Option RowRef) → AreFound t old → ((id : List ℕ) → now id ≡ old id) → AreFound t now
as_before t old now found same id = subst (Finds (HasRowId t id)) (sym (same id)) (found id)

-- one id more
pub id_last : {A : Type 0} (id_of : A → List ℕ) (rows : List A) (new : A) → map id_of (rows ++ new ∷ []) ≡ map id_of rows ++ id_of new ∷ []
id_last id_of rows new = map-append id_of rows (new ∷ [])
