-- An id `#n` tells its number, and no other text tells one; and a class is told by its type id, and by its compact id.
use Rattle.std.proofs.Common.{◌≡◌, ℕ, zero, suc, ◌≤◌, Bool, true, false, not, ◌&&◌, List, [], ◌∷◌, map, Option, Some, None, refl, sym, ap, subst, ◌∙◌, arith, inl, inr, ◌↔◌, bytes_eq}
use Rattle.std.specs.Prelude.{slice_get, nat_le, if◌then◌else◌, IsTrue, is_some}
use Rattle.std.specs.Fmt.{decimal}
use Rattle.std.specs.Str.{IsUtf8, IsAscii}
use Rattle.std.proofs.lemmas.Bool.{leb-true, le-leb}
use Rattle.std.proofs.lemmas.Fmt.{decimal_is_IsNumeral, IsAscii-decimal}
use Rattle.std.proofs.lemmas.Slice.Eq.{bytes_eq-Decides}
use Rattle.std.proofs.lemmas.Str.{IsUtf8-from_ascii}
use Rattle.ice_types.specs.declared.kind.RowRef.TheVariants as rows
use Rattle.ice_types.specs.Tables.{Tables, Finds, HasId, HasCompactId, IsTypeId, class_ids, compact_ids}
use Rattle.ice_types.specs.CompactIds.{numbered_id, is_numbered, number_behind, number_in, compact_text, HasSliceId, IsKeptId}
use Rattle.ice_types.specs.Rules.{IsSchema}

some_is : {A : Type 0} (x y : A) → Some x ≡ Some y → x ≡ y
some_is x y e = cc

clash : {C : Type 0} (b : Bool) → b ≡ true → b ≡ false → C
clash b p q = cc

-- ---- the number of an id

pub number_there : (n : ℕ) → n ≤ 2147483647 → number_in (numbered_id n) ≡ Some n
number_there n le = by_value (number_behind (numbered_id n)) ((decimal_is_IsNumeral n (omega (arith, le))).1)
  where
    by_value : (m : ℕ) → m ≡ n → (if nat_le m 2147483647 && bytes_eq (numbered_id m) (numbered_id n) then Some m else None) ≡ Some n
    by_value m same =
        let below : nat_le n 2147483647 ≡ true = le-leb n 2147483647 le in
        let equal : bytes_eq (numbered_id n) (numbered_id n) ≡ true = (bytes_eq-Decides (numbered_id n) (numbered_id n)).1 refl in
        subst (λ (k : ℕ). (if nat_le k 2147483647 && bytes_eq (numbered_id k) (numbered_id n) then Some k else None) ≡ Some n) (sym same) (rw (below, equal) refl)

pub number_found : (id : List ℕ) (n : ℕ) → number_in id ≡ Some n → (n ≤ 2147483647) × (id ≡ numbered_id n)
number_found id n e = by_test (number_behind id) (nat_le (number_behind id) 2147483647) (bytes_eq (numbered_id (number_behind id)) id) refl refl e
  where
    by_test : (m : ℕ) (a b : Bool) → nat_le m 2147483647 ≡ a → bytes_eq (numbered_id m) id ≡ b → (if a && b then Some m else None) ≡ Some n → (n ≤ 2147483647) × (id ≡ numbered_id n)
    by_test m true true below equal is =
        let same : m ≡ n = some_is m n is in
        (subst (λ (k : ℕ). k ≤ 2147483647) same (leb-true m 2147483647 below), sym ((bytes_eq-Decides (numbered_id m) id).0 equal) ∙ ap numbered_id same)
    by_test m true false below equal is = absurd cc
    by_test m false true below equal is = absurd cc
    by_test m false false below equal is = absurd cc

pub number_nowhere : (id : List ℕ) → ((n : ℕ) → n ≤ 2147483647 → id ≡ numbered_id n → ⊥) → number_in id ≡ None
number_nowhere id none = by_number (number_in id) refl
  where
    by_number : (o : Option ℕ) → number_in id ≡ o → number_in id ≡ None
    by_number None e = e
    by_number (Some n) e = let found = number_found id n e in absurd (none n found.0 found.1)

-- ---- which texts begin with `#`

pub hashed : (n : ℕ) → is_numbered (numbered_id n) ≡ true
hashed n = refl

pub not_numbered : (id : List ℕ) → is_numbered id ≡ false → number_in id ≡ None
not_numbered id plain = number_nowhere id (λ n le is. clash (is_numbered id) (ap is_numbered is ∙ hashed n) plain)

-- the one number of an id
pub one_number : (m n : ℕ) → m ≤ 2147483647 → n ≤ 2147483647 → numbered_id m ≡ numbered_id n → m ≡ n
one_number m n le me e = some_is m n (sym (number_there m le) ∙ ap number_in e ∙ number_there n me)

pub numbered_utf8 : (n : ℕ) → n ≤ 2147483647 → IsUtf8 (numbered_id n)
numbered_utf8 n le = IsUtf8-from_ascii (numbered_id n) ascii
  where
    ascii : IsAscii (35 ∷ decimal n)
    ascii zero = omega arith
    ascii (suc i) = IsAscii-decimal n (omega (arith, le)) i

-- a type id is no such text
pub type_id_plain : (id : List ℕ) → IsTypeId id → is_numbered id ≡ false
type_id_plain [] h = refl
type_id_plain (c ∷ []) h = let one : c ∷ [] ≡ 58 ∷ 58 ∷ [] = h.0 in absurd cc
type_id_plain (c ∷ d ∷ cs) h =
    let two : c ∷ d ∷ [] ≡ 58 ∷ 58 ∷ [] = h.0 in
    let colon : c ≡ 58 = cc in
    ap (λ (b : ℕ). is_numbered (b ∷ d ∷ cs)) colon

-- ---- the class of an id

-- a compact id as a text is one
pub text_number : (t : Tables) → IsSchema t → (n at : ℕ) → n ≤ 2147483647 → HasSliceId t (numbered_id n) at → HasCompactId t n at
text_number t rules n at le h = by_row (slice_get (compact_ids t) at) refl
  where
    mapped : (os : List (Option ℕ)) (at : ℕ) (o : Option (Option ℕ)) → slice_get os at ≡ o → slice_get (map compact_text os) at ≡ elim o [ None ↦ None | Some c ↦ Some (compact_text c) ]
    mapped [] at None e = refl
    mapped [] at (Some c) e = absurd cc
    mapped (d ∷ ds) zero None e = absurd cc
    mapped (d ∷ ds) zero (Some c) e = ap (λ (x : Option ℕ). Some (compact_text x)) (some_is d c e)
    mapped (d ∷ ds) (suc at) o e = mapped ds at o e

    by_row : (o : Option (Option ℕ)) → slice_get (compact_ids t) at ≡ o → HasCompactId t n at
    by_row None e = let none : None ≡ Some (numbered_id n) = sym (mapped (compact_ids t) at None e) ∙ h in absurd cc
    by_row (Some None) e = let none : Some [] ≡ Some (numbered_id n) = sym (mapped (compact_ids t) at (Some None) e) ∙ h in absurd cc
    by_row (Some (Some m)) e =
        let texts : numbered_id m ≡ numbered_id n = some_is (numbered_id m) (numbered_id n) (sym (mapped (compact_ids t) at (Some (Some m)) e) ∙ h) in
        e ∙ ap (λ (k : ℕ). Some (Some k)) (one_number m n (rules.compact_ids m at e) le texts)

pub number_text : (t : Tables) (n at : ℕ) → HasCompactId t n at → HasSliceId t (numbered_id n) at
number_text t n at h = mapped (compact_ids t) at h
  where
    mapped : (os : List (Option ℕ)) (at : ℕ) → slice_get os at ≡ Some (Some n) → slice_get (map compact_text os) at ≡ Some (numbered_id n)
    mapped [] at e = absurd cc
    mapped (d ∷ ds) zero e = ap (λ (x : Option ℕ). Some (compact_text x)) (some_is d (Some n) e)
    mapped (d ∷ ds) (suc at) e = mapped ds at e

-- what a text that begins with `#` is, where a class has it
pub number_of_class : (t : Tables) → IsSchema t → (id : List ℕ) (at : ℕ) → is_numbered id ≡ true → HasSliceId t id at → (n : ℕ) × (n ≤ 2147483647) × (id ≡ numbered_id n) × HasCompactId t n at
number_of_class t rules id at hash h = by_row (compact_ids t) at (λ n is. rules.compact_ids n at is) (λ n is. is) (subst (λ (b : Bool). HasId (if b then map compact_text (compact_ids t) else class_ids t) id at) hash h)
  where
    by_row : (os : List (Option ℕ)) (place : ℕ) → ((n : ℕ) → slice_get os place ≡ Some (Some n) → n ≤ 2147483647) → ((n : ℕ) → slice_get os place ≡ Some (Some n) → HasCompactId t n at)
        → slice_get (map compact_text os) place ≡ Some id → (n : ℕ) × (n ≤ 2147483647) × (id ≡ numbered_id n) × HasCompactId t n at
    by_row [] place most has e = absurd cc
    by_row (None ∷ os) zero most has e = absurd (clash (is_numbered id) hash (ap is_numbered (sym (some_is [] id e))))
    by_row (Some n ∷ os) zero most has e = (n, most n refl, sym (some_is (numbered_id n) id e), has n refl)
    by_row (o ∷ os) (suc place) most has e = by_row os place most has e

-- no two classes have one id
pub one_class : (t : Tables) → IsSchema t → (id : List ℕ) (a b : ℕ) → HasSliceId t id a → HasSliceId t id b → a ≡ b
one_class t rules id a b h i = by_test (is_numbered id) refl
  where
    class_is : rows.Class a ≡ rows.Class b → a ≡ b
    class_is e = cc

    by_test : (k : Bool) → is_numbered id ≡ k → a ≡ b
    by_test true is =
        let one = number_of_class t rules id a is h in
        let two = number_of_class t rules id b is i in
        let same : two.0 ≡ one.0 = one_number two.0 one.0 two.1 one.1 (sym two.2 ∙ one.2) in
        rules.compact_apart one.0 a b one.3 (subst (λ (n : ℕ). HasCompactId t n b) same two.3)
    by_test false is = class_is (rules.apart id (rows.Class a) (rows.Class b)
        (subst (λ (k : Bool). HasId (if k then map compact_text (compact_ids t) else class_ids t) id a) is h)
        (subst (λ (k : Bool). HasId (if k then map compact_text (compact_ids t) else class_ids t) id b) is i))

-- ---- for `number_in`

pub no_number : (id : List ℕ) → ((rest : List ℕ) → id ≡ 35 ∷ rest → ⊥) → number_in id ≡ None
no_number id none = number_nowhere id (λ n le is. none (decimal n) is)

-- the digits behind `#`
pub other_digits : (id digits : List ℕ) → id ≡ 35 ∷ digits → ((n : ℕ) → n ≤ 2147483647 → digits ≡ decimal n → ⊥) → number_in id ≡ None
other_digits id digits whole none = number_nowhere id (λ n le is. none n le (behind digits (decimal n) (sym whole ∙ is)))
  where
    behind : (a b : List ℕ) → 35 ∷ a ≡ 35 ∷ b → a ≡ b
    behind a b e = cc

pub its_digits : (id digits : List ℕ) (n : ℕ) → id ≡ 35 ∷ digits → n ≤ 2147483647 → digits ≡ decimal n → number_in id ≡ Some n
its_digits id digits n whole le is = ap number_in (whole ∙ ap (λ (ds : List ℕ). 35 ∷ ds) is) ∙ number_there n le

-- ---- for `kept_id`

-- an id that tells a number may be kept where no class has it
pub kept_number : (t : Tables) → IsSchema t → (id : List ℕ) (n : ℕ) → IsUtf8 id → number_in id ≡ Some n → (class : Option ℕ) → Finds (HasCompactId t n) class → (none : Bool) → is_some class ≡ not none → IsTrue none ↔ IsKeptId t id
kept_number t rules id n utf8 is class finds none answer = by_class class finds none answer
  where
    found : (n ≤ 2147483647) × (id ≡ numbered_id n)
    found = number_found id n is

    by_class : (class : Option ℕ) → Finds (HasCompactId t n) class → (none : Bool) → is_some class ≡ not none → IsTrue none ↔ IsKeptId t id
    by_class None nowhere true answer = (
      λ h. ((utf8, inr (n, found.0, found.1)), λ at h. nowhere at (text_number t rules n at found.0 (subst (λ (id : List ℕ). HasSliceId t id at) found.1 h))),
      λ h. refl,
    )
    by_class None nowhere false answer = absurd cc
    by_class (Some at) there false answer = (
      λ h. absurd cc,
      λ h. absurd (h.1 at (subst (λ (id : List ℕ). HasSliceId t id at) (sym found.1) (number_text t n at there))),
    )
    by_class (Some at) there true answer = absurd cc

-- one that begins with `#` and tells none may not
pub no_kept : (t : Tables) (id : List ℕ) → is_numbered id ≡ true → number_in id ≡ None → IsTrue false ↔ IsKeptId t id
no_kept t id numbered none = (
  λ h. absurd cc,
  λ h. absurd (elim h.0.1 [
    | inl plain ↦ clash (is_numbered id) numbered plain
    | inr number ↦ none_some number.0 (sym none ∙ ap number_in number.2 ∙ number_there number.0 number.1)
  ]),
)
  where
    none_some : (n : ℕ) → None ≡ Some n → ⊥
    none_some n e = cc
