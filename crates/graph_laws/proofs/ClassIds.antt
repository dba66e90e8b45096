-- In a schema each class is found by each of its ids: its type id, and `#n` where n is its compact id.
use Rattle.std.proofs.Common.{ℕ, zero, suc, ◌<◌, ◌≤◌, ◌≡◌, Bool, true, false, List, [], ◌∷◌, map, length, refl, sym, ap, ◌∙◌, subst, arith, Option, Some, None, inl, inr}
use Rattle.std.specs.Prelude.{slice_get, if◌then◌else◌}
use Rattle.std.specs.Str.{IsUtf8, bytes_eq}
use Rattle.std.proofs.lemmas.Option.{slice_get-map}
use Rattle.std.proofs.lemmas.Slice.Eq.{bytes_eq-Decides}
use Rattle.std.specs.Option.{option_map}
use Rattle.ice_types.specs.declared.declarations.ClassDecl.{ClassDecl}
use Rattle.ice_types.specs.declared.kind.RowRef.TheVariants as rows
use Rattle.ice_types.specs.Tables.{Tables, HasId, HasCompactId, class_ids, compact_ids}
use Rattle.ice_types.specs.CompactIds.{numbered_id, is_numbered, compact_text, ids_like, HasSliceId, IsSliceId}
use Rattle.ice_types.specs.Rules.{IsSchema}
use Rattle.ice_types.proofs.SliceIds.{type_id_plain, number_text, number_of_class, numbered_utf8, one_class}
use Rattle.ice_types.proofs.BaseChains.{row_of_base}
use Rattle.ice_prims.specs.Number.{SpellsSize}
use Rattle.ice_encoding.specs.Classes.{one_further, place_of, class_named, class_by_id}
use Rattle.ice_encoding.specs.CanonicalGraph.{spelled_by}
use Rattle.graph_laws.proofs.Bases.{IsRow}
use Rattle.graph_laws.proofs.Named.{id_of_row}
use Rattle.graph_laws.proofs.Rows.{row_there}

-- ---- where a text stands among others

further_is : {C : Type 0} (o : Option ℕ) (i : ℕ) → one_further o ≡ Some i → ((j : ℕ) → o ≡ Some j → suc j ≡ i → C) → C
further_is None i e go = absurd cc
further_is (Some j) i e go = go j refl cc

pub place_is : (ids : List (List ℕ)) (id : List ℕ) (i : ℕ) → place_of ids id ≡ Some i → (slice_get ids i ≡ Some id) × (i < length ids)
place_is [] id i e = absurd cc
place_is (first ∷ others) id i e = by_test (place_is others id) (bytes_eq first id) refl e
  where
    by_test : ((j : ℕ) → place_of others id ≡ Some j → (slice_get others j ≡ Some id) × (j < length others)) → (b : Bool) → bytes_eq first id ≡ b → (if b then Some 0 else one_further (place_of others id)) ≡ Some i
        → (slice_get (first ∷ others) i ≡ Some id) × (i < suc (length others))
    by_test later true same e =
        let zero_is : 0 ≡ i = cc in
        subst (λ (k : ℕ). (slice_get (first ∷ others) k ≡ Some id) × (k < suc (length others))) zero_is (ap Some ((bytes_eq-Decides first id).0 same), omega arith)
    by_test later false same e =
        further_is (place_of others id) i e λ j at next.
        let rest = later j at in
        subst (λ (k : ℕ). (slice_get (first ∷ others) k ≡ Some id) × (k < suc (length others))) next (rest.0, omega (arith, rest.1))

-- what stands somewhere in a list is found there
abbrev Behind : List (List ℕ) → List ℕ → Type 0
Behind ids id = (place : ℕ) → slice_get ids place ≡ Some id → (i : ℕ) × (place_of ids id ≡ Some i)

-- one that stands somewhere is found
place_there : (ids : List (List ℕ)) (id : List ℕ) (at : ℕ) → slice_get ids at ≡ Some id → (i : ℕ) × (place_of ids id ≡ Some i)
place_there [] id at e = absurd cc
place_there (first ∷ others) id at e = by_test (λ place h. place_there others id place h) (bytes_eq first id) refl at e
  where
    later : Behind others id → (place : ℕ) → bytes_eq first id ≡ false → slice_get others place ≡ Some id → (i : ℕ) × (place_of (first ∷ others) id ≡ Some i)
    later behind place differ e =
        let rest = behind place e in
        (suc rest.0, ap (λ (b : Bool). if b then Some 0 else one_further (place_of others id)) differ ∙ ap one_further rest.1)

    by_test : Behind others id → (b : Bool) → bytes_eq first id ≡ b → (at : ℕ) → slice_get (first ∷ others) at ≡ Some id → (i : ℕ) × (place_of (first ∷ others) id ≡ Some i)
    by_test behind true same at e = (0, ap (λ (b : Bool). if b then Some 0 else one_further (place_of others id)) same)
    by_test behind false differ zero e = let same : first ≡ id = cc in absurd (clash (bytes_eq first id) ((bytes_eq-Decides first id).1 same) differ)
      where
        clash : (b : Bool) → b ≡ true → b ≡ false → ⊥
        clash b p q = cc
    by_test behind false differ (suc place) e = later behind place differ e

-- ---- the class of an id

-- the class that is found has the id
pub id_named : (t : Tables) (id : List ℕ) (a : ℕ) → class_by_id t id ≡ Some a → HasSliceId t id a
id_named t id a e = (place_is (ids_like t id) id a e).0

-- and the class that has it is found
pub named_id : (t : Tables) → IsSchema t → (id : List ℕ) (a : ℕ) → HasSliceId t id a → class_by_id t id ≡ Some a
named_id t rules id a h =
    let found = place_there (ids_like t id) id a h in
    found.1 ∙ ap Some (one_class t rules id found.0 a (id_named t id found.0 found.1) h)

-- an id that does not begin with `#` is a type id
pub plain_named : (t : Tables) (id : List ℕ) → is_numbered id ≡ false → class_by_id t id ≡ class_named t id
plain_named t id plain = ap (λ (b : Bool). place_of (if b then map compact_text (compact_ids t) else class_ids t) id) plain

pub plain_id : (t : Tables) (id : List ℕ) (at : ℕ) → is_numbered id ≡ false → HasSliceId t id at → HasId (class_ids t) id at
plain_id t id at plain h = subst (λ (b : Bool). HasId (if b then map compact_text (compact_ids t) else class_ids t) id at) plain h

pub id_plain : (t : Tables) (id : List ℕ) (at : ℕ) → is_numbered id ≡ false → HasId (class_ids t) id at → HasSliceId t id at
id_plain t id at plain h = subst (λ (b : Bool). HasId (if b then map compact_text (compact_ids t) else class_ids t) id at) (sym plain) h

-- ---- the row of a class

pub compact_row : (t : Tables) (at : ℕ) (d : ClassDecl) → slice_get t.classes at ≡ Some d → slice_get (compact_ids t) at ≡ Some d.compact
compact_row t at d is = slice_get-map (λ (c : ClassDecl). c.compact) t.classes at ∙ ap (option_map (λ (c : ClassDecl). c.compact)) is

pub row_compact : (t : Tables) (at n : ℕ) (d : ClassDecl) → slice_get t.classes at ≡ Some d → HasCompactId t n at → d.compact ≡ Some n
row_compact t at n d is has = some_is (sym (compact_row t at d is) ∙ has)
  where
    some_is : Some d.compact ≡ Some (Some n) → d.compact ≡ Some n
    some_is e = cc

-- a class that has an id is a row
pub slice_row : (t : Tables) (id : List ℕ) (at : ℕ) → HasSliceId t id at → IsRow t.classes at
slice_row t id at h = by_test (is_numbered id) refl
  where
    by_test : (b : Bool) → is_numbered id ≡ b → IsRow t.classes at
    by_test true hash =
        let o = row_there compact_text (compact_ids t) at id (subst (λ (b : Bool). HasId (if b then map compact_text (compact_ids t) else class_ids t) id at) hash h) in
        let r = row_of_base (λ (c : ClassDecl). c.compact) (slice_get t.classes at) o.0 (sym (slice_get-map (λ (c : ClassDecl). c.compact) t.classes at) ∙ o.1) in
        (r.0, r.1)
    by_test false plain = let r = row_there (λ (c : ClassDecl). c.id) t.classes at id (plain_id t id at plain h) in (r.0, r.1)

pub row_by_id : (t : Tables) (id : List ℕ) (at : ℕ) → class_by_id t id ≡ Some at → IsRow t.classes at
row_by_id t id at e = slice_row t id at (id_named t id at e)

-- ---- ids that are spelled

-- a type id as a text
abbrev pub IsText : List ℕ → Type 0
IsText id = IsUtf8 id × (is_numbered id ≡ false)

pub text_id : (id : List ℕ) → IsText id → IsSliceId id
text_id id h = (h.0, inl h.1)

pub number_id : (n : ℕ) (id : List ℕ) → n ≤ 2147483647 → id ≡ numbered_id n → IsSliceId id
number_id n id le is = (subst IsUtf8 (sym is) (numbered_utf8 n le), inr (n, le, is))

-- a size can be a compact id
pub size_small : (bytes : List ℕ) (n : ℕ) → SpellsSize bytes n → n ≤ 2147483647
size_small bytes n (inl h) = omega (arith, h.0)
size_small bytes n (inr h) = omega (arith, h.1)

-- the type id of a class of a schema is one
pub type_text : (t : Tables) → IsSchema t → (at : ℕ) (d : ClassDecl) → slice_get t.classes at ≡ Some d → IsText d.id
type_text t rules at d is = let id = rules.type_ids d.id (rows.Class at) (id_of_row t.classes at d is) in (id.1, type_id_plain d.id id)

-- what a class has is an id
pub is_slice_id : (t : Tables) → IsSchema t → (id : List ℕ) (at : ℕ) → HasSliceId t id at → IsSliceId id
is_slice_id t rules id at h = by_test (is_numbered id) refl
  where
    by_test : (b : Bool) → is_numbered id ≡ b → IsSliceId id
    by_test true hash = let n = number_of_class t rules id at hash h in number_id n.0 id n.1 n.2
    by_test false plain = ((rules.type_ids id (rows.Class at) (plain_id t id at plain h)).1, inl plain)

-- ---- the id under which a class is written

pub spelled_there : (t : Tables) → IsSchema t → (at : ℕ) (d : ClassDecl) → slice_get t.classes at ≡ Some d → HasSliceId t (spelled_by d) at
spelled_there t rules at d is = by_compact d.compact (compact_row t at d is)
  where
    by_compact : (o : Option ℕ) → slice_get (compact_ids t) at ≡ Some o → HasSliceId t (elim o [ None ↦ d.id | Some number ↦ numbered_id number ]) at
    by_compact None has = id_plain t d.id at (type_text t rules at d is).1 (id_of_row t.classes at d is)
    by_compact (Some n) has = number_text t n at has

-- each class is found by it
abbrev pub AreSpelled : Tables → Type 0
AreSpelled t = (class : ℕ) (d : ClassDecl) → slice_get t.classes class ≡ Some d → class_by_id t (spelled_by d) ≡ Some class

pub are_spelled : (t : Tables) → IsSchema t → AreSpelled t
are_spelled t rules class d is = named_id t rules (spelled_by d) class (spelled_there t rules class d is)

pub spelled_id : (t : Tables) → IsSchema t → (at : ℕ) (d : ClassDecl) → slice_get t.classes at ≡ Some d → IsSliceId (spelled_by d)
spelled_id t rules at d is = is_slice_id t rules (spelled_by d) at (spelled_there t rules at d is)
