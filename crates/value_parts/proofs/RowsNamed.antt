-- The row that a schema finds by a type id is the first of that id, since no two rows have one id.
use Rattle.std.proofs.Common.{ℕ, zero, suc, ◌^◌, ◌<◌, ◌≡◌, Bool, true, false, if◌then◌else◌, List, [], ◌∷◌, map, Option, None, Some, refl, sym, ap, subst, ◌∙◌, arith, bytes_eq}
use Rattle.std.specs.Prelude.{slice_get}
use Rattle.std.specs.Fmt.{decimal}
use Rattle.std.proofs.lemmas.Fmt.{decimal_injective}
use Rattle.std.proofs.lemmas.Slice.Eq.{bytes_eq-Decides}
use Rattle.ice_types.specs.declared.declarations.ExceptionDecl.{ExceptionDecl}
use Rattle.ice_types.specs.declared.kind.RowRef.TheVariants as rows
use Rattle.ice_types.specs.Tables.{Tables, Finds, HasId, HasCompactId, class_ids, compact_ids, exception_ids}
use Rattle.ice_types.specs.CompactIds.{numbered_id, is_numbered, number_in, compact_text, ids_like}
use Rattle.ice_types.specs.Rules.{IsSchema}
use Rattle.ice_types.proofs.SliceIds.{number_found, number_there, number_text, number_of_class, one_class, type_id_plain}
use Rattle.ice_encoding.specs.Classes.{place_of, class_named, class_by_id, one_further}
use Rattle.ice_encoding.specs.Exceptions.{as_class, of_exceptions}
use Rattle.value_parts.specs.SlicedType.{compact_in, row_of, rows_of}
use Rattle.value_parts.specs.declared.sliced_type.SlicedType.{SlicedType}
use Rattle.value_parts.specs.declared.sliced_type.SlicedType.TheVariants as sorts

-- what stands at a place of texts, or nothing does
abbrev IsPlace : List (List ℕ) → List ℕ → Option ℕ → Type 0
IsPlace ids id (Some at) = HasId ids id at
IsPlace ids id None = (at : ℕ) → HasId ids id at → ⊥

further : (first : List ℕ) (ids : List (List ℕ)) (id : List ℕ) (found : Option ℕ) → (first ≡ id → ⊥) → IsPlace ids id found → IsPlace (first ∷ ids) id (one_further found)
further first ids id (Some at) other is = is
further first ids id None other none = λ at is. absent at is
  where
    absent : (at : ℕ) → HasId (first ∷ ids) id at → ⊥
    absent zero is = other (some is)
      where
        some : Some first ≡ Some id → first ≡ id
        some e = cc
    absent (suc at) is = none at is

place_by : (first : List ℕ) (ids : List (List ℕ)) (id : List ℕ) (b : Bool) → bytes_eq first id ≡ b → IsPlace ids id (place_of ids id) → IsPlace (first ∷ ids) id (if b then Some 0 else one_further (place_of ids id))
place_by first ids id true is others = ap Some ((bytes_eq-Decides first id).0 is)
place_by first ids id false is others = further first ids id (place_of ids id) (λ e. differ (sym is ∙ (bytes_eq-Decides first id).1 e)) others
  where
    differ : false ≡ true → ⊥
    differ e = absurd cc

pub place_is : (ids : List (List ℕ)) (id : List ℕ) → IsPlace ids id (place_of ids id)
place_is [] id = λ at is. absurd cc
place_is (first ∷ ids) id = place_by first ids id (bytes_eq first id) refl (place_is ids id)

pub found_is : (ids : List (List ℕ)) (id : List ℕ) (found : Option ℕ) → ((a b : ℕ) → HasId ids id a → HasId ids id b → a ≡ b) → Finds (HasId ids id) found → found ≡ place_of ids id
found_is ids id found apart finds = both found (place_of ids id) finds (place_is ids id)
  where
    both : (a b : Option ℕ) → Finds (HasId ids id) a → IsPlace ids id b → a ≡ b
    both (Some a) (Some b) is at = ap Some (apart a b is at)
    both (Some a) None is none = absurd (none a is)
    both None (Some b) none at = absurd (none b at)
    both None None none other = refl

-- ---- exceptions as classes

pub same_ids : (es : List ExceptionDecl) → map (λ c. c.id) (map as_class es) ≡ map (λ e. e.id) es
same_ids [] = refl
same_ids (e ∷ es) = ap (λ (ids : List (List ℕ)). e.id ∷ ids) (same_ids es)

pub class_is : (sort : SlicedType) (t : Tables) (id : List ℕ) (found : Option ℕ) → sort ≡ sorts.Class → found ≡ place_of (class_ids t) id → found ≡ class_named (rows_of sort t) id
class_is sort t id found is h = h ∙ (λ i. class_named (rows_of (sym is i) t) id)

pub exception_is : (sort : SlicedType) (t : Tables) (id : List ℕ) (found : Option ℕ) → sort ≡ sorts.Exception → found ≡ place_of (exception_ids t) id → found ≡ class_named (rows_of sort t) id
exception_is sort t id found is h = h ∙ ap (λ (ids : List (List ℕ)). place_of ids id) (sym (same_ids t.exceptions)) ∙ (λ i. class_named (rows_of (sym is i) t) id)

-- ---- by the id of a slice

clash : {C : Type 0} (b : Bool) → b ≡ true → b ≡ false → C
clash b p q = cc

-- what stands nowhere is not found
pub none_at : (ids : List (List ℕ)) (id : List ℕ) → ((at : ℕ) → HasId ids id at → ⊥) → place_of ids id ≡ None
none_at ids id none = by_place (place_of ids id) (place_is ids id)
  where
    by_place : (found : Option ℕ) → IsPlace ids id found → found ≡ None
    by_place None nowhere = refl
    by_place (Some at) is = absurd (none at is)

-- and what is not found stands nowhere
pub at_none : (ids : List (List ℕ)) (id : List ℕ) → place_of ids id ≡ None → (at : ℕ) → HasId ids id at → ⊥
at_none ids id none = by_place (place_of ids id) none (place_is ids id)
  where
    by_place : (found : Option ℕ) → found ≡ None → IsPlace ids id found → (at : ℕ) → HasId ids id at → ⊥
    by_place None e nowhere = nowhere
    by_place (Some at) e is = absurd cc

-- an id that tells no number is a type id, or no class has it
pub no_number_row : (t : Tables) → IsSchema t → (id : List ℕ) → number_in id ≡ None → class_named t id ≡ class_by_id t id
no_number_row t rules id none = by_test (is_numbered id) refl
  where
    none_some : (n : ℕ) → None ≡ Some n → ⊥
    none_some n e = cc

    by_test : (hash : Bool) → is_numbered id ≡ hash → class_named t id ≡ class_by_id t id
    by_test false plain = ap (λ (b : Bool). place_of (if b then map compact_text (compact_ids t) else class_ids t) id) (sym plain)
    by_test true is =
        none_at (class_ids t) id (λ at has. clash (is_numbered id) is (type_id_plain id (rules.type_ids id (rows.Class at) has)))
        ∙ sym (none_at (ids_like t id) id (λ at has. let n = number_of_class t rules id at is has in none_some n.0 (sym none ∙ ap number_in n.2 ∙ number_there n.0 n.1)))

-- a compact id is of the class that has it
pub numbered_row : (t : Tables) → IsSchema t → (n : ℕ) → n < 2 ^ 64 → (found : Option ℕ) → Finds (HasCompactId t n) found → found ≡ class_by_id t (numbered_id n)
numbered_row t rules n fits found finds = found_is (ids_like t (numbered_id n)) (numbered_id n) found (one_class t rules (numbered_id n)) (by_found found finds)
  where
    digits : (m k : ℕ) → numbered_id m ≡ numbered_id k → decimal m ≡ decimal k
    digits m k e = cc

    unused : ((at : ℕ) → HasCompactId t n at → ⊥) → (at : ℕ) → HasId (ids_like t (numbered_id n)) (numbered_id n) at → ⊥
    unused nowhere at h =
        let m = number_of_class t rules (numbered_id n) at refl h in
        nowhere at (subst (λ (k : ℕ). HasCompactId t k at) (sym (decimal_injective n m.0 fits (omega (arith, m.1)) (digits n m.0 m.2))) m.3)

    by_found : (found : Option ℕ) → Finds (HasCompactId t n) found → Finds (HasId (ids_like t (numbered_id n)) (numbered_id n)) found
    by_found None nowhere = unused nowhere
    by_found (Some at) there = number_text t n at there

-- no exception has one
pub no_exception : (t : Tables) → IsSchema t → (n : ℕ) → None ≡ class_named (of_exceptions t) (numbered_id n)
no_exception t rules n = sym (ap (λ (ids : List (List ℕ)). place_of ids (numbered_id n)) (same_ids t.exceptions)
    ∙ none_at (exception_ids t) (numbered_id n) (λ at has. clash (is_numbered (numbered_id n)) refl (type_id_plain (numbered_id n) (rules.type_ids (numbered_id n) (rows.Exception at) has))))

-- ---- the row of a slice, by what has slices

-- a type id, of a class
pub class_row : (sort : SlicedType) (t : Tables) (id : List ℕ) (found : Option ℕ) → sort ≡ sorts.Class → IsSchema t → number_in id ≡ None → found ≡ class_named (rows_of sort t) id → found ≡ row_of sort (rows_of sort t) id
class_row sorts.Class t id found is rules none h = h ∙ no_number_row t rules id none
class_row sorts.Exception t id found is rules none h = absurd cc

-- and of an exception
pub exception_row : (sort : SlicedType) (t : Tables) (id : List ℕ) (found : Option ℕ) → sort ≡ sorts.Exception → found ≡ class_named (rows_of sort t) id → found ≡ row_of sort (rows_of sort t) id
exception_row sorts.Class t id found is h = absurd cc
exception_row sorts.Exception t id found is h = h

-- a compact id
pub number_row : (sort : SlicedType) (t : Tables) (id : List ℕ) (n : ℕ) (found : Option ℕ) → number_in id ≡ Some n → found ≡ row_of sort (rows_of sort t) (numbered_id n) → found ≡ row_of sort (rows_of sort t) id
number_row sort t id n found is h = h ∙ ap (row_of sort (rows_of sort t)) (sym (number_found id n is).1)

pub numbered_class : (sort : SlicedType) (t : Tables) (n : ℕ) (found : Option ℕ) → sort ≡ sorts.Class → IsSchema t → n < 2 ^ 64 → Finds (HasCompactId t n) found → found ≡ row_of sort (rows_of sort t) (numbered_id n)
numbered_class sorts.Class t n found is rules fits finds = numbered_row t rules n fits found finds
numbered_class sorts.Exception t n found is rules fits finds = absurd cc

pub numbered_exception : (sort : SlicedType) (t : Tables) (n : ℕ) → sort ≡ sorts.Exception → IsSchema t → None ≡ row_of sort (rows_of sort t) (numbered_id n)
numbered_exception sorts.Class t n is rules = absurd cc
numbered_exception sorts.Exception t n is rules = no_exception t rules n

-- an exception has no compact id
no_compact : (es : List ExceptionDecl) (row : ℕ) → None ≡ compact_in (slice_get (map as_class es) row)
no_compact [] row = refl
no_compact (e ∷ es) zero = refl
no_compact (e ∷ es) (suc row) = no_compact es row

pub exception_compact : (sort : SlicedType) (t : Tables) (row : ℕ) → sort ≡ sorts.Exception → None ≡ compact_in (slice_get (rows_of sort t).classes row)
exception_compact sorts.Class t row is = absurd cc
exception_compact sorts.Exception t row is = no_compact t.exceptions row
