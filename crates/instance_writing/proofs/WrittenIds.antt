-- The id under which a slice is written: a compact id is told apart from a type id.
use Rattle.std.proofs.Common.{◌≡◌, ℕ, ◌≤◌, List, [], ◌∷◌, ◌++◌, map, Option, None, Some, Result, Ok, Err, refl, sym, ap, ◌∙◌, subst, zero, suc}
use Rattle.std.specs.Prelude.{OnOk, slice_get}
use Rattle.std.specs.Borrow.{Bor}
use Rattle.std.specs.declared.alloc.AllocError.{AllocError}
use Rattle.ice_types.specs.declared.declarations.ClassDecl.{ClassDecl}
use Rattle.ice_types.specs.declared.kind.RowRef.TheVariants as rows
use Rattle.ice_types.specs.Tables.{Tables}
use Rattle.ice_types.specs.CompactIds.{number_in, numbered_id}
use Rattle.ice_types.specs.Rules.{IsSchema}
use Rattle.ice_types.proofs.SliceIds.{number_found, number_there, not_numbered, type_id_plain}
use Rattle.ice_prims.specs.Bytes.{size_bytes, text_bytes}
use Rattle.ice_encoding.specs.Flags.{IdForm, no_id, as_number}
use Rattle.ice_encoding.specs.CanonicalGraph as spec
use Rattle.ice_encoding.specs.CanonicalGraph.{Pen, id_in, row_id, head_under}
use Rattle.ice_encoding.specs.Exceptions.{of_exceptions}
use Rattle.ice_encoding.specs.Graph.{Slice, known, unknown}
use Rattle.value_writing.specs.WritingMembers.{WritesPiece}
use Rattle.value_parts.specs.SlicedType.{compact_in, rows_of}
use Rattle.value_parts.specs.declared.sliced_type.SlicedType.{SlicedType}
use Rattle.value_parts.specs.declared.sliced_type.SlicedType.TheVariants.{Class, Exception}
use Rattle.value_parts.proofs.RowsNamed.{exception_compact}
use Rattle.value_parts.specs.SliceIds.{id_of}
use Rattle.instance_writing.specs.Ids.{IsTold}
use Rattle.instance_writing.specs.Sorts.{head_of, text_head}
use Rattle.value_parts.specs.declared.slice_id.SliceId.{SliceId}
use Rattle.value_parts.specs.declared.slice_id.SliceId.TheVariants as ids

-- ---- of a known class

pub number_of_row : (row : Option ClassDecl) (n : ℕ) → Some n ≡ compact_in row → numbered_id n ≡ row_id row
number_of_row None n e = absurd cc
number_of_row (Some d) n e = ap (λ (o : Option ℕ). elim o [ None ↦ d.id | Some number ↦ numbered_id number ]) e

pub text_of_row : (row : Option ClassDecl) → None ≡ compact_in row → id_in row ≡ row_id row
text_of_row None e = refl
text_of_row (Some d) e = ap (λ (o : Option ℕ). elim o [ None ↦ d.id | Some number ↦ numbered_id number ]) e

-- an exception has its type id alone
pub exception_id : (t : Tables) (s : Slice) → spec.id_of (of_exceptions t) s ≡ spec.written_id (of_exceptions t) s
exception_id t (known class content) = text_of_row (slice_get (of_exceptions t).classes class) (exception_compact Exception t class refl)
exception_id t (unknown id bytes optionals table) = refl

compact_there : (ds : List ClassDecl) (class n : ℕ) → Some n ≡ compact_in (slice_get ds class) → slice_get (map (λ c. c.compact) ds) class ≡ Some (Some n)
compact_there [] class n e = absurd cc
compact_there (d ∷ ds) zero n e = ap Some (sym e)
compact_there (d ∷ ds) (suc class) n e = compact_there ds class n e

id_there : (ds : List ClassDecl) (class : ℕ) (d : ClassDecl) → slice_get ds class ≡ Some d → slice_get (map (λ c. c.id) ds) class ≡ Some d.id
id_there [] class d e = absurd cc
id_there (c ∷ ds) zero d e = ap (λ (o : Option ClassDecl). elim o [ None ↦ None | Some x ↦ Some x.id ]) e
id_there (c ∷ ds) (suc class) d e = id_there ds class d e

-- a compact id of a schema is one
pub number_told : (sort : SlicedType) (t : Tables) → IsSchema t → (class n : ℕ) → Some n ≡ compact_in (slice_get (rows_of sort t).classes class) → IsTold sort (ids.Number n)
number_told Class t rules class n e = rules.compact_ids n class (compact_there t.classes class n e)
number_told Exception t rules class n e = absurd (none_some (exception_compact Exception t class refl ∙ sym e))
  where
    none_some : None ≡ Some n → ⊥
    none_some e = cc

-- a type id of a schema tells no number
plain_row : (t : Tables) → IsSchema t → (class : ℕ) (row : Option ClassDecl) → slice_get t.classes class ≡ row → number_in (id_in row) ≡ None
plain_row t rules class None is = not_numbered [] refl
plain_row t rules class (Some d) is = not_numbered d.id (type_id_plain d.id (rules.type_ids d.id (rows.Class class) (id_there t.classes class d is)))

pub type_id_told : (sort : SlicedType) (t : Tables) → IsSchema t → (class : ℕ) (text : Bor (List ℕ)) → text.now ≡ id_in (slice_get (rows_of sort t).classes class) → IsTold sort (ids.Text text)
type_id_told Class t rules class text is = ap number_in is ∙ plain_row t rules class (slice_get t.classes class) refl
type_id_told Exception t rules class text is = tt

-- ---- of an id that was kept

pub kept_number : (sort : SlicedType) (id : List ℕ) (n : ℕ) → sort ≡ Class → number_in id ≡ Some n → (numbered_id n ≡ id) × IsTold sort (ids.Number n)
kept_number Class id n is e = let found = number_found id n e in (sym found.1, found.0)
kept_number Exception id n is e = absurd cc

pub kept_text : (sort : SlicedType) (text : Bor (List ℕ)) → sort ≡ Class → number_in text.now ≡ None → IsTold sort (ids.Text text)
kept_text Class text is e = e
kept_text Exception text is e = absurd cc

pub kept_of_exception : (sort : SlicedType) (text : Bor (List ℕ)) → sort ≡ Exception → IsTold sort (ids.Text text)
kept_of_exception Class text is = absurd cc
kept_of_exception Exception text is = tt

-- ---- what is put

pub told_small : (sort : SlicedType) (id : SliceId) (n : ℕ) → IsTold sort id → id ≡ ids.Number n → n ≤ 2147483647
told_small sort id n told is = by_sort sort (subst (IsTold sort) is told)
  where
    by_sort : (sort : SlicedType) → IsTold sort (ids.Number n) → n ≤ 2147483647
    by_sort Class le = le
    by_sort Exception le = absurd le

module _ (flags : IdForm → ℕ) (result : Result (Unit {0}) AllocError) (pen : Pen) (out after : List ℕ) where
  -- a compact id
  pub number_put : (sort : SlicedType) (id : SliceId) (n : ℕ) → IsTold sort id → id ≡ ids.Number n → OnOk result (after ≡ out ++ (flags as_number ∷ size_bytes n)) → WritesPiece (head_of sort flags (id_of id)) result pen out pen after
  number_put sort id n told is h = subst (λ (x : SliceId). WritesPiece (head_of sort flags (id_of x)) result pen out pen after) (sym is) (by_sort sort (subst (IsTold sort) is told))
    where
      by_result : (r : Result (Unit {0}) AllocError) → n ≤ 2147483647 → OnOk r (after ≡ out ++ (flags as_number ∷ size_bytes n)) → WritesPiece (head_of Class flags (numbered_id n)) r pen out pen after
      by_result (Ok x) le h = subst (λ (o : Option ℕ). (after ≡ out ++ (head_under o flags (numbered_id n) pen).0) × (pen ≡ (head_under o flags (numbered_id n) pen).1)) (sym (number_there n le)) (h, refl)
      by_result (Err e) le h = tt

      by_sort : (sort : SlicedType) → IsTold sort (ids.Number n) → WritesPiece (head_of sort flags (numbered_id n)) result pen out pen after
      by_sort Class le = by_result result le h
      by_sort Exception le = absurd le

  -- a type id of a class
  pub text_put : (sort : SlicedType) (id : SliceId) (text : Bor (List ℕ)) (pen' : Pen) → IsTold sort id → id ≡ ids.Text text → sort ≡ Class → WritesPiece (text_head flags text.now) result pen out pen' after
      → WritesPiece (head_of sort flags (id_of id)) result pen out pen' after
  text_put sort id text pen' told is of_class h =
      subst (λ (x : SliceId). WritesPiece (head_of sort flags (id_of x)) result pen out pen' after) (sym is) (by_sort sort of_class (subst (IsTold sort) is told))
    where
      by_result : (r : Result (Unit {0}) AllocError) → number_in text.now ≡ None → WritesPiece (text_head flags text.now) r pen out pen' after → WritesPiece (head_of Class flags text.now) r pen out pen' after
      by_result (Ok x) none h = subst (λ (o : Option ℕ). (after ≡ out ++ (head_under o flags text.now pen).0) × (pen' ≡ (head_under o flags text.now pen).1)) (sym none) h
      by_result (Err e) none h = tt

      by_sort : (sort : SlicedType) → sort ≡ Class → IsTold sort (ids.Text text) → WritesPiece (head_of sort flags text.now) result pen out pen' after
      by_sort Class of_class none = by_result result none h
      by_sort Exception of_class none = absurd cc

  -- and of an exception
  pub exception_put : (sort : SlicedType) (id : SliceId) (text : Bor (List ℕ)) → id ≡ ids.Text text → sort ≡ Exception → OnOk result (after ≡ out ++ (flags no_id ∷ text_bytes text.now)) → WritesPiece (head_of sort flags (id_of id)) result pen out pen after
  exception_put sort id text is of_exception h = subst (λ (x : SliceId). WritesPiece (head_of sort flags (id_of x)) result pen out pen after) (sym is) (by_sort sort of_exception)
    where
      by_result : (r : Result (Unit {0}) AllocError) → OnOk r (after ≡ out ++ (flags no_id ∷ text_bytes text.now)) → WritesPiece (head_of Exception flags text.now) r pen out pen after
      by_result (Ok x) h = (h, refl)
      by_result (Err e) h = tt

      by_sort : (sort : SlicedType) → sort ≡ Exception → WritesPiece (head_of sort flags text.now) result pen out pen after
      by_sort Class of_exception = absurd cc
      by_sort Exception of_exception = by_result result h
